-- Judging: what is read from a line, beside the kinds of fault that the grammar tells of it.
use Rattle.std.proofs.Common.{◌≡◌, ℕ, suc, Bool, true, false, cond, eqb, List, [], ◌∷◌, ◌++◌, length, get_or, map, Ok, Err, refl, sym, ap, ◌∙◌, arith, inl, inr}
use Rattle.std.specs.Prelude.{◌&&◌}
use Rattle.std.specs.List.{list_any}
use Rattle.std.proofs.lemmas.Bool.{cases_Bool, cases_eq, or_parts, eq-eqb, ne_eqb}
use Rattle.scenario_text.specs.declared.fault.BadKind.TheVariants.{After, Cut, Shape, Number, Twice, Leader, Full, User}
use Rattle.scenario_text.specs.Words.{Word}
use Rattle.scenario_text.specs.Grammar.{Form, has_shape, is_right}
use Rattle.scenario_text.specs.Faults.{is_right_in}
use Rattle.scenario_text.specs.Reading.{parts, shaped, righted, has, Read, Readings, read_in}

-- ---- parts of lines

shaped_more : (k : ℕ) (form : Form) (word : Word) (words : List Word) → shaped (suc k) form (parts (word ∷ words)) ≡ shaped k form (parts words)
shaped_more k [] word words = refl
shaped_more k (field ∷ form) word words = ap (λ (b : Bool). field.has_shape (get_or words k []) && b) (shaped_more (suc k) form word words)

righted_more : (k : ℕ) (form : Form) (word : Word) (words : List Word) → righted (suc k) form (parts (word ∷ words)) ≡ righted k form (parts words)
righted_more k [] word words = refl
righted_more k (field ∷ form) word words = ap (λ (b : Bool). field.is_right (get_or words k []) && b) (righted_more (suc k) form word words)

and_swap : (a b c : Bool) → (a && (b && c)) ≡ (b && (a && c))
and_swap true b c = refl
and_swap false true c = refl
and_swap false false c = refl

suc_eqb : (a b : ℕ) → eqb (suc a) (suc b) ≡ eqb a b
suc_eqb a b =
    elim (cases_eq a b) [
      | inl same ↦ eq-eqb (suc a) (suc b) (ap suc same) ∙ sym (eq-eqb a b same)
      | inr differs ↦ ne_eqb (suc a) (suc b) (λ e. differs (omega arith)) ∙ sym (ne_eqb a b differs)
    ]

-- a line has a form's shape as its parts have
pub has_is : (form : Form) (words : List Word) → has form (parts words) ≡ has_shape form words
unfolding has_shape
has_is [] [] = refl
has_is [] (word ∷ words) = rw (ne_eqb (suc (length words)) 0 (λ e. omega arith)) refl
has_is (field ∷ form) [] = rw (ne_eqb 0 (suc (length form)) (λ e. omega arith)) refl
has_is (field ∷ form) (word ∷ words) =
    ap (λ (b : Bool). b && (field.has_shape word && shaped 1 form (parts (word ∷ words)))) (suc_eqb (length words) (length form))
    ∙ ap (λ (b : Bool). eqb (length words) (length form) && (field.has_shape word && b)) (shaped_more 0 form word words)
    ∙ and_swap (eqb (length words) (length form)) (field.has_shape word) (shaped 0 form (parts words))
    ∙ ap (λ (b : Bool). field.has_shape word && b) (has_is form words)

-- a line that has it is right as its parts are
pub righted_is : (form : Form) (words : List Word) → has_shape form words ≡ true → righted 0 form (parts words) ≡ is_right form words
unfolding has_shape is_right
righted_is [] words h = refl
righted_is (field ∷ form) [] h = absurd cc
righted_is (field ∷ form) (word ∷ words) h =
    ap (λ (b : Bool). field.is_right word && b) (righted_more 0 form word words ∙ righted_is form words (rest (field.has_shape word) (has_shape form words) h)) where
      rest : (a b : Bool) → (a && b) ≡ true → b ≡ true
      rest true b e = e
      rest false b e = absurd cc

-- ---- what is read, beside the kinds

abbrev pub any_shape : List Form → List Word → Bool
any_shape forms words = list_any (λ form. has_shape form words) forms

-- what is read of a line that may have one of these forms
abbrev pub Judged : {A : Type 0} → Read A → List Form → List Word → Type 0
Judged (Ok x) forms words = (any_shape forms words ≡ true) × (is_right_in forms words ≡ true)
Judged (Err Shape) forms words = any_shape forms words ≡ false
Judged (Err Number) forms words = (any_shape forms words ≡ true) × (is_right_in forms words ≡ false)
Judged (Err kind) forms words = ⊥

-- forms none of which has the line's shape, before others
pub skipped : (forms more : List Form) (words : List Word) → any_shape forms words ≡ false → (any_shape (forms ++ more) words ≡ any_shape more words) × (is_right_in (forms ++ more) words ≡ is_right_in more words)
unfolding is_right_in
skipped [] more words none = (refl, refl)
skipped (form ∷ forms) more words none =
    let parts = or_parts (has_shape form words) (any_shape forms words) none in
    let rest = skipped forms more words parts.1 in
    (rw parts.0 rest.0, rw parts.0 rest.1)

-- a form that has the line's shape, before others
settled : (forms more : List Form) (words : List Word) → any_shape forms words ≡ true → (any_shape (forms ++ more) words ≡ true) × (is_right_in (forms ++ more) words ≡ is_right_in forms words)
unfolding is_right_in
settled [] more words some = absurd cc
settled (form ∷ forms) more words some =
    elim (cases_Bool (has_shape form words)) [
      | inl is ↦ (rw is refl, rw is refl)
      | inr differs ↦
          let some' : any_shape forms words ≡ true = rw differs at some in
          let rest = settled forms more words some' in
          (rw differs rest.0, rw differs rest.1)
    ]

module _ {A : Type 0} (words : List Word) (forms more : List Form) where
  -- none of the forms before has the line's shape
  pub judged_after : (r : Read A) → any_shape forms words ≡ false → Judged r more words → Judged r (forms ++ more) words
  judged_after (Ok x) none h = let same = skipped forms more words none in (same.0 ∙ h.0, same.1 ∙ h.1)
  judged_after (Err Shape) none h = (skipped forms more words none).0 ∙ h
  judged_after (Err Number) none h = let same = skipped forms more words none in (same.0 ∙ h.0, same.1 ∙ h.1)
  judged_after (Err After) none h = absurd h
  judged_after (Err Cut) none h = absurd h
  judged_after (Err Twice) none h = absurd h
  judged_after (Err Leader) none h = absurd h
  judged_after (Err Full) none h = absurd h
  judged_after (Err User) none h = absurd h

  -- none of the forms behind has the line's shape
  pub judged_before : (r : Read A) → any_shape more words ≡ false → Judged r forms words → Judged r (forms ++ more) words
  judged_before (Ok x) none h = let same = settled forms more words h.0 in (same.0, same.1 ∙ h.1)
  judged_before (Err Shape) none h = (skipped forms more words h).0 ∙ none
  judged_before (Err Number) none h = let same = settled forms more words h.0 in (same.0, same.1 ∙ h.1)
  judged_before (Err After) none h = absurd h
  judged_before (Err Cut) none h = absurd h
  judged_before (Err Twice) none h = absurd h
  judged_before (Err Leader) none h = absurd h
  judged_before (Err Full) none h = absurd h
  judged_before (Err User) none h = absurd h

-- the forms of readings
abbrev pub forms_of : {A : Type 0} → Readings A → List Form
forms_of readings = map (λ reading. reading.0) readings

module _ {A : Type 0} (words : List Word) where
  one_judged : (form : Form) (x : A) (right : Bool) → has_shape form words ≡ true → is_right form words ≡ right → (forms : List Form) → Judged (cond right (Ok x) (Err Number)) (form ∷ forms) words
  unfolding is_right_in
  one_judged form x true shape is forms = (rw shape refl, rw shape is)
  one_judged form x false shape is forms = (rw shape refl, rw shape is)

  pub judged : (readings : Readings A) → Judged (read_in readings (parts words)) (forms_of readings) words
  judged [] = refl
  judged (reading ∷ readings) =
      elim (cases_Bool (has_shape reading.0 words)) [
        | inl is ↦
            rw (has_is reading.0 words, is, righted_is reading.0 words is)
            (one_judged reading.0 (reading.1 (parts words)) (is_right reading.0 words) is refl (forms_of readings))
        | inr differs ↦
            rw (has_is reading.0 words, differs)
            (judged_after words (reading.0 ∷ []) (forms_of readings) (read_in readings (parts words)) (rw differs refl) (judged readings))
      ]
