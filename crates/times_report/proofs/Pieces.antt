-- Pieces: the longer lines, put together from their pieces.
use Rattle.std.proofs.Common.{◌≡◌, ◌∙◌, ℕ, List, [], ◌∷◌, ◌++◌, refl, ap, append_assoc}
use Rattle.std.specs.Prelude.{codes}
use Rattle.scenario_text.specs.Words.{Word}
use Rattle.scenario_text.specs.Text.{line, spaced}

-- words are put after others
spaced_both : (first : Word) (words : List Word) (next : Word) (more : List Word) →
    spaced (first ∷ words) ++ 32 ∷ spaced (next ∷ more) ≡ spaced (first ∷ words ++ next ∷ more)
spaced_both first [] next more = refl
spaced_both first (word ∷ words) next more =
    append_assoc first (32 ∷ spaced (word ∷ words)) (32 ∷ spaced (next ∷ more))
    ∙ ap (λ (bytes : List ℕ). first ++ 32 ∷ bytes) (spaced_both word words next more)

pub put_words : (old new : List ℕ) (first : Word) (words : List Word) (next : Word) (more : List Word) → old ≡ spaced (first ∷ words) →
    new ≡ old ++ 32 ∷ spaced (next ∷ more) → new ≡ spaced (first ∷ words ++ next ∷ more)
put_words old new first words next more so_far then =
    then ∙ ap (λ (bytes : List ℕ). bytes ++ 32 ∷ spaced (next ∷ more)) so_far ∙ spaced_both first words next more

pub times_text : (before ran waited slept : Word) →
    ((before ++ spaced (codes " ran" ∷ ran ∷ [])) ++ spaced (codes " waited" ∷ waited ∷ [])) ++ spaced (codes " slept" ∷ slept ∷ [])
    ≡ before ++ 32 ∷ spaced (codes "ran" ∷ ran ∷ codes "waited" ∷ waited ∷ codes "slept" ∷ slept ∷ [])
times_text before ran waited slept = simp append_assoc

pub cpu_text : (cpu ran idle offline pending : Word) →
    ((((((((((codes "cpu " ++ cpu) ++ codes " ran ") ++ ran) ++ codes " idle ") ++ idle) ++ codes " offline ") ++ offline)
    ++ codes " pending ") ++ pending) ++ codes "\n")
    ≡ line (codes "cpu" ∷ cpu ∷ codes "ran" ∷ ran ∷ codes "idle" ∷ idle ∷ codes "offline" ∷ offline ∷ codes "pending" ∷ pending ∷ [])
cpu_text cpu ran idle offline pending = simp append_assoc

pub forced_text : (cpu cookie none : Word) →
    ((((((codes "forced " ++ cpu) ++ codes " cookie ") ++ cookie) ++ codes " none ") ++ none) ++ codes "\n")
    ≡ line (codes "forced" ∷ cpu ∷ codes "cookie" ∷ cookie ∷ codes "none" ∷ none ∷ [])
forced_text cpu cookie none = simp append_assoc

pub pair_text : (low high exposed : Word) →
    ((((((codes "pair " ++ low) ++ codes " ") ++ high) ++ codes " exposed ") ++ exposed) ++ codes "\n")
    ≡ line (codes "pair" ∷ low ∷ high ∷ codes "exposed" ∷ exposed ∷ [])
pair_text low high exposed = simp append_assoc

pub groups_text : (low high mixed : Word) →
    ((((((codes "groups " ++ low) ++ codes " ") ++ high) ++ codes " mixed ") ++ mixed) ++ codes "\n")
    ≡ line (codes "groups" ∷ low ∷ high ∷ codes "mixed" ∷ mixed ∷ [])
groups_text low high mixed = simp append_assoc

pub waits_text : (pid count longest sum : Word) →
    ((((((((codes "waits " ++ pid) ++ codes " count ") ++ count) ++ codes " longest ") ++ longest) ++ codes " sum ") ++ sum) ++ codes "\n")
    ≡ line (codes "waits" ∷ pid ∷ codes "count" ∷ count ∷ codes "longest" ∷ longest ∷ codes "sum" ∷ sum ∷ [])
waits_text pid count longest sum = simp append_assoc

pub replies_text : (no_task awake idle no_caller offline errors : Word) →
    ((((((((((((codes "replies NoTask " ++ no_task) ++ codes " Awake ") ++ awake) ++ codes " Idle ") ++ idle) ++ codes " NoCaller ") ++ no_caller)
    ++ codes " Offline ") ++ offline) ++ codes " errors ") ++ errors) ++ codes "\n")
    ≡ line (codes "replies" ∷ codes "NoTask" ∷ no_task ∷ codes "Awake" ∷ awake ∷ codes "Idle" ∷ idle ∷ codes "NoCaller" ∷ no_caller
    ∷ codes "Offline" ∷ offline ∷ codes "errors" ∷ errors ∷ [])
replies_text no_task awake idle no_caller offline errors = simp append_assoc
