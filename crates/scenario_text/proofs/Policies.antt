-- Policies: the word of a policy, as the code reads it.
use Rattle.std.proofs.Common.{◌≡◌, Bool, true, false, Ok, Err, ap, ◌∙◌}
use Rattle.std.specs.Prelude.{MatchResult}
use Rattle.std.specs.Result.{IsOkAnd}
use Rattle.scenario_text.specs.declared.fault.BadKind.TheVariants.{Number}
use Rattle.scenario_text.specs.Reading.{Read}

-- a reading of a word
abbrev pub ReadsWord : {A : Type 0} → Read A → Bool → A → Type 0
ReadsWord read right value = MatchResult read (λ said. (right ≡ true) × (said ≡ value)) (λ kind. (right ≡ false) × (kind ≡ Number))

-- what is made of what a word says
pub made : {A B : Type 0} (read : Read A) (said : Read B) (right : Bool) (value : A) (make : A → B) → ReadsWord read right value →
    MatchResult read (λ x. IsOkAnd said (λ y. y ≡ make x)) (λ kind. said ≡ Err kind) → ReadsWord said right (make value)
made (Ok x) (Ok y) right value make reads maps = (reads.0, maps ∙ ap make reads.1)
made (Ok x) (Err kind) right value make reads maps = absurd maps
made (Err kind) said right value make reads maps = rw maps reads
