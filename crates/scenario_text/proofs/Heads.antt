-- Heads: what the first three lines say is spelled by their words, and what is spelled so is read.
use Rattle.std.proofs.Common.{◌≡◌, ℕ, ◌<◌, ◌^◌, eqb, List, Ok, refl, sym, ◌∙◌, arith, inl, inr}
use Rattle.std.specs.Prelude.{codes, decimal}
use Rattle.std.proofs.lemmas.Bool.{cond_both, cases_eq}
use Rattle.std.proofs.lemmas.Fmt.{decimal_digit}
use Rattle.cs_types.specs.Scenario.{IsWithin, most_siblings}
use Rattle.scenario_text.specs.declared.head.Head.{Head}
use Rattle.scenario_text.specs.Words.{Word}
use Rattle.scenario_text.specs.Text.{version_words}
use Rattle.scenario_text.specs.Grammar.{value, version_form, siblings_form, limits_form}
use Rattle.scenario_text.specs.Reading.{Parts, parts, read_in, head_value, version_reading, siblings_reading, limits_reading, IsHead, count_words, head_words}
use Rattle.scenario_text.proofs.Numbers.{number_is, number_again}
use Rattle.scenario_text.proofs.Fields.{word_is, righted_at}
use Rattle.scenario_text.proofs.Said.{IsLineOf, line_is, then, each_reading}

-- ---- what is read is spelled so

-- a version that is read is 1 or 2, and is spelled so
pub version_is : (words : List Word) (version : ℕ) → read_in version_reading (parts words) ≡ Ok version → (words ≡ version_words version) × IsWithin 1 2 version
version_is words version e =
    each_reading (λ version. (words ≡ version_words version) × IsWithin 1 2 version) words version_reading (
      by (codes "1") 1 (omega arith, omega arith) (decimal_digit 1 (omega arith)),
      (by (codes "2") 2 (omega arith, omega arith) (decimal_digit 2 (omega arith)), tt),
    ) version e where
      by : (digit : Word) (n : ℕ) → IsWithin 1 2 n → decimal n ≡ digit → (version : ℕ) → IsLineOf (version_form digit) (λ (words : Parts). n) words version →
          (words ≡ version_words version) × IsWithin 1 2 version
      by digit n within spelled version line =
          let right = righted_at (version_form digit) (parts words) line.right in
          let w0 = word_is _ (codes "coresched") (right 0 (omega arith)) in
          let w1 = word_is _ digit (right 1 (omega arith)) in
          rw (← line.says_it) (line.words_are ∙ then w0 (then (w1 ∙ sym spelled) (refl)), within)

module _ (version : ℕ) where
  most_small : most_siblings version < 2 ^ 64
  most_small = cond_both (eqb version 2) 16 8 (λ n. n < 2 ^ 64) (λ _. omega arith) (λ _. omega arith)

  pub count_is : (words : List Word) (siblings : ℕ) → read_in (siblings_reading version) (parts words) ≡ Ok siblings → (words ≡ count_words siblings) × IsWithin 1 (most_siblings version) siblings
  count_is words siblings e =
      let line = line_is (siblings_form version) (λ words. value (words.at 1)) words siblings e in
      let right = righted_at (siblings_form version) (parts words) line.right in
      let w0 = word_is _ (codes "siblings") (right 0 (omega arith)) in
      let w1 = number_is 1 (most_siblings version) _ most_small (right 1 (omega arith)) in
      rw (← line.says_it) (line.words_are ∙ then w0 (then w1.0 (refl)), w1.1)

  pub limits_are : (siblings : ℕ) (words : List Word) (head : Head) → IsWithin 1 2 version → IsWithin 1 (most_siblings version) siblings → read_in (limits_reading version siblings) (parts words) ≡ Ok head →
      (words ≡ head_words head) × IsHead head × (head.version ≡ version) × (head.siblings ≡ siblings)
  limits_are siblings words head known few e =
      let line = line_is limits_form (head_value version siblings) words head e in
      let right = righted_at limits_form (parts words) line.right in
      let w0 = word_is _ (codes "limits") (right 0 (omega arith)) in
      let w1 = number_is 1 256 _ (omega arith) (right 1 (omega arith)) in
      let w2 = number_is 1 256 _ (omega arith) (right 2 (omega arith)) in
      let w3 = number_is 8192 9223372036854775807 _ (omega arith) (right 3 (omega arith)) in
      rw (← line.says_it) (line.words_are ∙ then w0 (then w1.0 (then w2.0 (then w3.0 (refl)))), record { version = known; siblings = few; task_limit = w1.1; cookie_limit = w2.1; user_top = w3.1 }, refl, refl)

  -- ---- what is spelled so is read

  pub count_again : (siblings : ℕ) → IsWithin 1 (most_siblings version) siblings → read_in (siblings_reading version) (parts (count_words siblings)) ≡ Ok siblings
  count_again siblings is =
      let again = number_again 1 (most_siblings version) siblings most_small is in rw (again.right, again.same) refl

pub version_again : (version : ℕ) → IsWithin 1 2 version → read_in version_reading (parts (version_words version)) ≡ Ok version
version_again version is =
    elim (cases_eq version 1) [
      | inl one ↦ rw (one, decimal_digit 1 (omega arith)) refl
      | inr other ↦ let two : version ≡ 2 = omega (arith, other) in rw (two, decimal_digit 2 (omega arith)) refl
    ]

pub limits_again : (head : Head) → IsHead head → read_in (limits_reading head.version head.siblings) (parts (head_words head)) ≡ Ok head
limits_again head is =
    let tasks = number_again 1 256 head.task_limit (omega arith) is.task_limit in
    let cookies = number_again 1 256 head.cookie_limit (omega arith) is.cookie_limit in
    let top = number_again 8192 9223372036854775807 head.user_top (omega arith) is.user_top in
    rw (tasks.right, tasks.same, cookies.right, cookies.same, top.right, top.same) refl
