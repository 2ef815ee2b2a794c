-- Fields: a word that is right in a field spells what the field says, and what a value spells is right and says it.
use Rattle.std.proofs.Common.{◌≡◌, ℕ, suc, ◌^◌, ◌<◌, ◌↔◌, Bool, true, false, cond, eqb, List, [], ◌∷◌, ◌++◌, length, get_or, take, map, refl, sym, ap, subst, ◌∙◌, ◌+◌, zero, arith, zero-le, inl, inr, take-append-drop, drop}
use Rattle.std.specs.Prelude.{decimal, codes, ℤ, pos, negsuc, ◌-◌}
use Rattle.std.specs.Fmt.{signed_decimal}
use Rattle.std.specs.List.{range_with_len}
use Rattle.std.proofs.lemmas.Bool.{cases_Bool, and_parts, eqb-true, eqb-false}
use Rattle.std.proofs.lemmas.Fmt.{decimal_digit}
use Rattle.std.proofs.lemmas.Slice.Eq.{bytes_eq-Decides}
use Rattle.std.proofs.lemmas.List.{ext_get_or}
use Rattle.std.proofs.lemmas.List.FromFn.{length-map-range_with_len, get_or-map-range_with_len}
use Rattle.cs_types.specs.declared.task.Policy.{Policy}
use Rattle.cs_types.specs.declared.task.Policy.TheVariants.{Stop, Deadline, Fifo, Rr, Fair}
use Rattle.cs_types.specs.Scenario.{IsNice, IsPolicy}
use Rattle.scenario_text.specs.Words.{Word, flag_word, policy_word, child_word}
use Rattle.scenario_text.specs.Grammar.{is_word, begins, behind, value, is_number, is_signed, Field, child, policy, Form}
use Rattle.scenario_text.specs.Reading.{Parts, parts, righted, signed_value, flag_value, policy_value}
use Rattle.scenario_text.proofs.Numbers.{IsSignedWithin, number_is, number_again, decimal_unsigned}

-- ---- keywords and marks

pub word_is : (word name : Word) → is_word word name ≡ true → word ≡ name
word_is word name h = (bytes_eq-Decides word name).0 h

pub mark_is : (word mark : Word) → begins word mark ≡ true → word ≡ mark ++ behind mark word
mark_is word mark h =
    sym (take-append-drop (length mark) word) ∙ ap (λ (w : Word). w ++ behind mark word) ((bytes_eq-Decides (take (length mark) word) mark).0 h)

-- ---- numbers with a sign

module _ (below above : ℕ) (small : (below < 2 ^ 64) × (above < 2 ^ 64)) where
  abbrev pub IsSaid : Word → Type 0
  IsSaid word = (word ≡ signed_decimal (signed_value word)) × IsSignedWithin below above (signed_value word)

  said_of : (first : ℕ) (digits : Word) (minus : Bool) → eqb first 45 ≡ minus → cond minus (is_number 1 below digits) (is_number 0 above (first ∷ digits)) ≡ true → IsSaid (first ∷ digits)
  said_of first digits true is h =
      let n = number_is 1 below digits small.0 h in
      let whole : suc (value digits - 1) ≡ value digits = omega (arith, n.1) in
      rw is (rw whole (ap (λ (b : ℕ). b ∷ digits) (eqb-true first 45 is) ∙ ap (λ (w : Word). 45 ∷ w) n.0), omega (arith, n.1))
  said_of first digits false is h =
      let n = number_is 0 above (first ∷ digits) small.1 h in rw is (n.0, n.1.1)

  pub signed_is : (word : Word) → is_signed below above word ≡ true → IsSaid word
  unfolding is_signed
  signed_is [] h = let n = number_is 0 above [] small.1 h in (n.0, n.1.1)
  signed_is (first ∷ digits) h = said_of first digits (eqb first 45) refl h

  pub record SpellsSigned (z : ℤ) : Type 0 where
    pub right : is_signed below above (signed_decimal z) ≡ true
    pub same : signed_value (signed_decimal z) ≡ z

  pub signed_again : (z : ℤ) → IsSignedWithin below above z → SpellsSigned z
  unfolding is_signed
  signed_again (pos n) is =
      let again = number_again 0 above n small.1 (zero-le, is) in
      let plain = decimal_unsigned n (omega (arith, small.1)) in
      record { right = rw plain again.right; same = rw plain (ap pos again.same) }
  signed_again (negsuc n) is =
      let again = number_again 1 below (suc n) small.0 (omega arith, omega arith) in
      let whole : suc n - 1 ≡ n = omega arith in
      record { right = again.right; same = rw (again.same, whole) refl }

-- what stands behind the first bytes, as a pattern lends it
abbrev pub behind_first : ℕ → List ℕ → List ℕ
behind_first n bytes = take (length bytes - n) (drop n bytes)

-- ---- flags and children

pub flag_is : (word : Word) → is_number 0 1 word ≡ true → word ≡ flag_word (flag_value word)
flag_is word h =
    let n = number_is 0 1 word (omega arith) h in
    elim (cases_Bool (eqb (value word) 1)) [
      | inl one ↦ rw one (n.0 ∙ ap decimal (eqb-true _ _ one) ∙ decimal_digit 1 (omega arith))
      | inr not_one ↦
          let differs = eqb-false _ _ not_one in
          let none : value word ≡ 0 = omega (arith, n.1) in
          rw not_one (n.0 ∙ ap decimal none ∙ decimal_digit 0 (omega arith))
    ]

pub record SpellsFlag (flag : Bool) : Type 0 where
  pub right : is_number 0 1 (flag_word flag) ≡ true
  pub same : flag_value (flag_word flag) ≡ flag

pub flag_again : (flag : Bool) → SpellsFlag flag
flag_again true =
    let again = number_again 0 1 1 (omega arith) (omega arith, omega arith) in
    record { right = ap (is_number 0 1) (sym (decimal_digit 1 (omega arith))) ∙ again.right; same = refl }
flag_again false =
    let again = number_again 0 1 0 (omega arith) (omega arith, omega arith) in
    record { right = ap (is_number 0 1) (sym (decimal_digit 0 (omega arith))) ∙ again.right; same = refl }

pub child_is : (word : Word) → child.is_right word ≡ true → word ≡ child_word (is_word word (codes "thread"))
child_is word h =
    elim (cases_Bool (is_word word (codes "thread"))) [
      | inl is ↦ rw is (word_is word (codes "thread") is)
      | inr other ↦
          elim (cases_Bool (is_word word (codes "process"))) [
            | inl is ↦ rw other (word_is word (codes "process") is)
            | inr neither ↦ let wrong = rw (other, neither) at h in absurd cc
          ]
    ]

-- ---- policies

pub nice_is : (z : ℤ) → IsSignedWithin 20 19 z ↔ IsNice z
nice_is (pos n) = (λ is. is, λ is. is)
nice_is (negsuc n) = (λ is. omega arith, λ is. omega arith)

abbrev IsSaidPolicy : Word → Policy → Type 0
IsSaidPolicy word said = (word ≡ policy_word said) × IsPolicy said

pub policy_is : (word : Word) → policy.is_right word ≡ true → IsSaidPolicy word (policy_value word)
policy_is word h =
    elim (cases_Bool (is_word word (codes "stop"))) [
      | inl is ↦ rw is (word_is word (codes "stop") is, tt)
      | inr no0 ↦
          elim (cases_Bool (begins word (codes "dl:"))) [
            | inl is ↦
                let right = rw (no0, is) at h in
                let n = number_is 1 1000000000 (behind (codes "dl:") word) (omega arith) right in
                rw (no0, is) (mark_is word (codes "dl:") is ∙ ap (λ (w : Word). codes "dl:" ++ w) n.0, n.1)
            | inr no1 ↦
                elim (cases_Bool (begins word (codes "fifo:"))) [
                  | inl is ↦
                      let right = rw (no0, no1, is) at h in
                      let n = number_is 1 99 (behind (codes "fifo:") word) (omega arith) right in
                      rw (no0, no1, is) (mark_is word (codes "fifo:") is ∙ ap (λ (w : Word). codes "fifo:" ++ w) n.0, n.1)
                  | inr no2 ↦
                      elim (cases_Bool (begins word (codes "rr:"))) [
                        | inl is ↦
                            let right = rw (no0, no1, no2, is) at h in
                            let n = number_is 1 99 (behind (codes "rr:") word) (omega arith) right in
                            rw (no0, no1, no2, is) (mark_is word (codes "rr:") is ∙ ap (λ (w : Word). codes "rr:" ++ w) n.0, n.1)
                        | inr no3 ↦
                            elim (cases_Bool (begins word (codes "fair:"))) [
                              | inl is ↦
                                  let right = rw (no0, no1, no2, no3, is) at h in
                                  let z = signed_is 20 19 (omega arith, omega arith) (behind (codes "fair:") word) right in
                                  rw (no0, no1, no2, no3) (mark_is word (codes "fair:") is ∙ ap (λ (w : Word). codes "fair:" ++ w) z.0, (nice_is _).0 z.1)
                              | inr no4 ↦ let wrong = rw (no0, no1, no2, no3, no4) at h in absurd cc
                            ]
                      ]
                ]
          ]
    ]

pub record SpellsPolicy (said : Policy) : Type 0 where
  pub shape : policy.has_shape (policy_word said) ≡ true
  pub right : policy.is_right (policy_word said) ≡ true
  pub same : policy_value (policy_word said) ≡ said

pub policy_again : (said : Policy) → IsPolicy said → SpellsPolicy said
policy_again Stop is = record { shape = refl; right = refl; same = refl }
policy_again (Deadline relative) is =
    let again = number_again 1 1000000000 relative (omega arith) is in
    record { shape = refl; right = again.right; same = ap Deadline again.same }
policy_again (Fifo priority) is =
    let again = number_again 1 99 priority (omega arith) is in
    record { shape = refl; right = again.right; same = ap Fifo again.same }
policy_again (Rr priority) is =
    let again = number_again 1 99 priority (omega arith) is in
    record { shape = refl; right = again.right; same = ap Rr again.same }
policy_again (Fair nice) is =
    let again = signed_again 20 19 (omega arith, omega arith) nice ((nice_is nice).1 is) in
    record { shape = refl; right = again.right; same = ap Fair again.same }

-- ---- lines

-- a word at each place
pub words_are : (words : List Word) (n : ℕ) → length words ≡ n → words ≡ map (parts words).at (range_with_len 0 n)
words_are words n is =
    ext_get_or [] words (map (parts words).at (range_with_len 0 n)) (is ∙ sym (length-map-range_with_len (parts words).at 0 n))
    (λ i lt. sym (get_or-map-range_with_len (parts words).at 0 n i i [] (omega arith) (omega arith)))

abbrev pub any_word : Field
any_word = record { has_shape = λ word. true; is_right = λ word. true }

righted_from : (k : ℕ) (form : Form) (words : Parts) → righted k form words ≡ true → (i : ℕ) → i < length form → (get_or form i any_word).is_right (words.at (k + i)) ≡ true
righted_from k [] words h i lt = absurd (omega arith)
righted_from k (field ∷ form) words h zero lt =
    let parts = and_parts (field.is_right (words.at k)) (righted (suc k) form words) h in
    let place : k ≡ k + 0 = omega arith in
    subst (λ (p : ℕ). field.is_right (words.at p) ≡ true) place parts.0
righted_from k (field ∷ form) words h (suc i) lt =
    let parts = and_parts (field.is_right (words.at k)) (righted (suc k) form words) h in
    let place : suc k + i ≡ k + suc i = omega arith in
    subst (λ (p : ℕ). (get_or form i any_word).is_right (words.at p) ≡ true) place (righted_from (suc k) form words parts.1 i (omega arith))

-- each word of a right line is right
pub righted_at : (form : Form) (words : Parts) → righted 0 form words ≡ true → (i : ℕ) → i < length form → (get_or form i any_word).is_right (words.at i) ≡ true
righted_at form words h i lt =
    let place : 0 + i ≡ i = omega arith in
    subst (λ (p : ℕ). (get_or form i any_word).is_right (words.at p) ≡ true) place (righted_from 0 form words h i lt)
