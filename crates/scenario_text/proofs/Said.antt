-- What is said: a line that is read in one form.
use Rattle.std.proofs.Common.{◌≡◌, Bool, true, false, cond, eqb, List, [], ◌∷◌, length, map, Ok, Err, refl}
use Rattle.std.specs.List.{range_with_len}
use Rattle.std.proofs.lemmas.Bool.{and_parts, eqb-true}
use Rattle.scenario_text.specs.declared.fault.BadKind.TheVariants.{Shape, Number}
use Rattle.scenario_text.specs.Words.{Word}
use Rattle.scenario_text.specs.Grammar.{Form}
use Rattle.scenario_text.specs.Reading.{Parts, parts, shaped, righted, has, Read, Readings, read_in}
use Rattle.scenario_text.proofs.Fields.{words_are}

-- the line is read in this form, as this
pub record IsLineOf {A : Type 0} (form : Form) (says : Parts → A) (words : List Word) (x : A) : Type 0 where
  pub words_are : words ≡ map (parts words).at (range_with_len 0 (length form))
  pub shape : shaped 0 form (parts words) ≡ true
  pub right : righted 0 form (parts words) ≡ true
  pub says_it : says (parts words) ≡ x

abbrev taken : {A : Type 0} → A → Read A
taken x = Ok x

by_tests : {A : Type 0} (form : Form) (says : Parts → A) (words : List Word) (x : A) (has_it right : Bool) → has form (parts words) ≡ has_it → righted 0 form (parts words) ≡ right →
    cond has_it (cond right (taken (says (parts words))) (Err Number)) (Err Shape) ≡ Ok x → IsLineOf form says words x
by_tests form says words x true true h k e =
    let tests = and_parts (eqb (length words) (length form)) (shaped 0 form (parts words)) h in
    record { words_are = words_are words (length form) (eqb-true _ _ tests.0); shape = tests.1; right = k; says_it = cc }
by_tests form says words x true false h k e = absurd cc
by_tests form says words x false right h k e = absurd cc

pub line_is : {A : Type 0} (form : Form) (says : Parts → A) (words : List Word) (x : A) → read_in ((form, says) ∷ []) (parts words) ≡ Ok x → IsLineOf form says words x
line_is form says words x e = by_tests form says words x (has form (parts words)) (righted 0 form (parts words)) refl refl e

-- the same word and the same words after it
pub then : {word other : Word} {words others : List Word} → word ≡ other → words ≡ others → word ∷ words ≡ other ∷ others
then e es = λ i. e i ∷ es i

-- what is read in each of the forms has the property
abbrev pub EachReading : {A : Type 0} → (A → Type 0) → List Word → Readings A → Type 0
EachReading P words [] = Unit {0}
EachReading P words (reading ∷ readings) = ((x : _) → IsLineOf reading.0 reading.1 words x → P x) × EachReading P words readings

read_by : {A : Type 0} (P : A → Type 0) (words : List Word) (form : Form) (says : Parts → A) (others : Read A) (x : A) → ((y : A) → IsLineOf form says words y → P y) → (others ≡ Ok x → P x) →
    (has_it : Bool) → has form (parts words) ≡ has_it → cond has_it (cond (righted 0 form (parts words)) (taken (says (parts words))) (Err Number)) others ≡ Ok x → P x
read_by P words form says others x here there true h e = here x (by_tests form says words x true (righted 0 form (parts words)) h refl e)
read_by P words form says others x here there false h e = there e

pub each_reading : {A : Type 0} (P : A → Type 0) (words : List Word) (readings : Readings A) → EachReading P words readings → (x : A) → read_in readings (parts words) ≡ Ok x → P x
each_reading P words [] each x e = absurd cc
each_reading P words (reading ∷ readings) each x e =
    read_by P words reading.0 reading.1 (read_in readings (parts words)) x each.0 (each_reading P words readings each.1 x) (has reading.0 (parts words)) refl e
