-- Pieces: the longer lines, put together from their pieces.
use Rattle.std.proofs.Common.{◌≡◌, [], ◌∷◌, ◌++◌, append_assoc}
use Rattle.std.specs.Prelude.{codes}
use Rattle.scenario_text.specs.Words.{Word}
use Rattle.scenario_text.specs.Text.{spaced, line}

pub drill_text : (seed steps entries : Word) →
    (((((codes "drill " ++ seed) ++ codes " steps ") ++ steps) ++ codes " entries ") ++ entries) ++ codes "\n"
    ≡ line (codes "drill" ∷ seed ∷ codes "steps" ∷ steps ∷ codes "entries" ∷ entries ∷ [])
drill_text seed steps entries = simp append_assoc

pub picks_text : (selected adopted plain : Word) →
    ((((spaced (codes "picks" ∷ selected ∷ []) ++ codes " ") ++ adopted) ++ codes " ") ++ plain) ++ codes "\n"
    ≡ line (codes "picks" ∷ selected ∷ adopted ∷ plain ∷ [])
picks_text selected adopted plain = simp append_assoc
