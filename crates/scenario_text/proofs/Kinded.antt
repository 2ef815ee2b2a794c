-- Which kind a line has behind others: what is told of it beforehand, and what its forms say.
use Rattle.std.proofs.Common.{◌≡◌, suc, ◌≤◌, ◌<◌, Bool, true, false, eqb, ltb, List, [], ◌∷◌, length, Option, Some, None, Ok, Err, refl, ap, arith, inl, inr, ◌⊎◌}
use Rattle.std.specs.Prelude.{◌&&◌, not}
use Rattle.std.specs.List.{list_any}
use Rattle.std.proofs.lemmas.Bool.{cases_lt, ne_eqb, le-leb, ltb-false, or_parts, and_right, false_from_ne_true}
use Rattle.scenario_text.specs.declared.fault.BadKind.{BadKind}
use Rattle.scenario_text.specs.declared.fault.BadKind.TheVariants.{After, Cut, Shape, Number, Twice, Leader, Full, User}
use Rattle.scenario_text.specs.Words.{Word}
use Rattle.scenario_text.specs.Grammar.{Form, has_shape}
use Rattle.scenario_text.specs.Faults.{forms_after, has_form, is_twice, is_unled, is_full, is_wrong_user, has_end, first_held, is_nothing, kind_of}
use Rattle.scenario_text.specs.Reading.{usable}
use Rattle.scenario_text.proofs.Judging.{any_shape, Judged}

-- ---- lines of too many words

-- a line has as many words as a form whose shape it has
shape_length : (form : Form) (words : List Word) → has_shape form words ≡ true → length words ≡ length form
unfolding has_shape
shape_length [] [] h = refl
shape_length [] (word ∷ words) h = absurd cc
shape_length (field ∷ form) [] h = absurd cc
shape_length (field ∷ form) (word ∷ words) h = ap suc (shape_length form words (rest (field.has_shape word) (has_shape form words) h)) where
  rest : (a b : Bool) → (a && b) ≡ true → b ≡ true
  rest true b e = e
  rest false b e = absurd cc

-- no form has more words than a task line
abbrev pub AreShort : List Form → Type 0
AreShort forms = list_any (λ form. ltb 15 (length form)) forms ≡ false

too_long : (forms : List Form) (words : List Word) → AreShort forms → 15 < length words → any_shape forms words ≡ false
too_long [] words short long = refl
too_long (form ∷ forms) words short long =
    let both = or_parts (ltb 15 (length form)) (list_any (λ form. ltb 15 (length form)) forms) short in
    let few = ltb-false 15 (length form) both.0 in
    let differs = false_from_ne_true (has_shape form words) (λ h. let same = shape_length form words h in omega arith) in
    rw differs (too_long forms words both.1 long)

-- ---- the kinds of a line

abbrev is_empty : Word → Bool
is_empty word = eqb (length word) 0

-- what is told of a line that is right in its form
abbrev pub goes_wrong : List (List Word) → List Word → Option BadKind
goes_wrong before words = first_held ((is_twice before words, Twice) ∷ (is_unled before words, Leader) ∷ (is_full before words, Full) ∷ (is_wrong_user before words, User) ∷ [])

module _ (before : List (List Word)) (no_end : has_end before ≡ false) where
  -- the last line is not ended
  pub cut_kind : (words : List Word) → kind_of before (words ∷ []) ≡ Some Cut
  cut_kind words = rw no_end refl

  module _ (words next : List Word) (more : List (List Word)) where
    some_left : eqb (length (next ∷ more)) 0 ≡ false
    some_left = ne_eqb (suc (length more)) 0 (λ e. omega arith)

    no_form : has_form (forms_after before) words ≡ false → kind_of before (words ∷ next ∷ more) ≡ Some Shape
    no_form none = rw (no_end, some_left, none) refl

    -- too many words, or an empty one
    pub unusable_kind : AreShort (forms_after before) → usable words ≡ false → kind_of before (words ∷ next ∷ more) ≡ Some Shape
    unusable_kind short h = no_form (by_cause (cases_lt 15 (length words))) where
      by_cause : (15 < length words) ⊎ (length words ≤ 15) → has_form (forms_after before) words ≡ false
      by_cause (inl long) = rw (too_long (forms_after before) words short long) (and_right (not (list_any is_empty words)) false refl)
      by_cause (inr few) =
          let none : not (list_any is_empty words) ≡ false = rw (le-leb (length words) 15 few) at h in
          ap (λ (b : Bool). b && any_shape (forms_after before) words) none

    module _ (whole : list_any is_empty words ≡ false) where
      pub judged_kind : (A : Type 0) (kind : BadKind) → Judged {A = A} (Err kind) (forms_after before) words → kind_of before (words ∷ next ∷ more) ≡ Some kind
      judged_kind A Shape h = no_form (rw (whole, h) refl)
      judged_kind A Number h = rw (no_end, some_left, whole, h.0, h.1) refl
      judged_kind A After h = absurd h
      judged_kind A Cut h = absurd h
      judged_kind A Twice h = absurd h
      judged_kind A Leader h = absurd h
      judged_kind A Full h = absurd h
      judged_kind A User h = absurd h

      pub right_kind : {A : Type 0} (x : A) → Judged (Ok x) (forms_after before) words → kind_of before (words ∷ next ∷ more) ≡ goes_wrong before words
      right_kind x h = rw (no_end, some_left, whole, h.0, h.1) refl

-- behind the line `end` nothing may stand
pub after_kind : (before : List (List Word)) (words : List Word) (more : List (List Word)) → has_end before ≡ true → is_nothing (words ∷ more) ≡ false → kind_of before (words ∷ more) ≡ Some After
after_kind before words more ended some = rw (ended, some) refl

pub done_kind : (before : List (List Word)) (words : List Word) (more : List (List Word)) → has_end before ≡ true → is_nothing (words ∷ more) ≡ true → kind_of before (words ∷ more) ≡ None
done_kind before words more ended none = rw (ended, none) refl
