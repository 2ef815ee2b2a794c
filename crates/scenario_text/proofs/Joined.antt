-- Joined: the longer lines of a scenario, put together from their pieces.
use Rattle.std.proofs.Common.{◌≡◌, ℕ, List, [], ◌∷◌, ◌++◌, ap, ◌∙◌, append_assoc}
use Rattle.scenario_text.specs.Words.{Word}
use Rattle.scenario_text.specs.Text.{spaced}

-- a piece is put after what is there
pub put : (old new piece all : List ℕ) → old ≡ all → new ≡ old ++ piece → new ≡ all ++ piece
put old new piece all so_far then = then ∙ ap (λ (bytes : List ℕ). bytes ++ piece) so_far

-- two words
pub two_words : (before first second : Word) → ((before ++ first) ++ 32 ∷ []) ++ second ≡ before ++ spaced (first ∷ second ∷ [])
two_words before first second = simp append_assoc
