-- Numbers: a word that is a number is the decimal of its value, and the decimal of a number has that value.
use Rattle.std.proofs.Common.{◌≡◌, ◌∙◌, ℕ, Bool, zero, suc, ◌+◌, ◌*◌, ◌^◌, ◌<◌, ◌≤◌, true, false, eqb, leb, List, [], ◌∷◌, length, get_or, take, refl, sym, ap, arith, ◌⊎◌, inl, inr}
use Rattle.std.specs.Prelude.{decimal, ◌&&◌, ◌||◌, not, ℤ, pos, negsuc}
use Rattle.std.specs.List.{list_all}
use Rattle.std.specs.Char.{is_ascii_digit, digit_value}
use Rattle.std.specs.Str.{all_ascii_digits}
use Rattle.std.specs.Str.Parse.{digits_value}
use Rattle.std.proofs.lemmas.Bool.{cases_eq, ne_eqb, and_parts, leb-true, le-leb, false_from_ne_true, false≢true, both_ways}
use Rattle.std.proofs.lemmas.Bool.Decides.{nat_tests}
use Rattle.std.proofs.lemmas.List.Folds.{list_all_more}
use Rattle.std.proofs.lemmas.Int.Digits.{digits_value_more}
use Rattle.std.proofs.Math.Bool.{and-false}
use Rattle.std.proofs.lemmas.Str.Parse.{IsNumeralModel, numerals_by_value, tells_all_ascii_digits, digit_at, digits_value-take-le}
use Rattle.std.proofs.lemmas.Fmt.{decimal_digit, decimal_is_IsNumeral, first_decimal, decimal-digits_value}
use Rattle.cs_types.specs.Scenario.{IsWithin}
use Rattle.scenario_text.specs.Words.{Word}
use Rattle.scenario_text.specs.Grammar.{is_canonical, value, is_number}

-- the words that `parse` reads
digits_model : IsNumeralModel (λ ds. all_ascii_digits ds ≡ true) (digits_value 10)
digits_model = numerals_by_value (λ ds. all_ascii_digits ds ≡ true) tells_all_ascii_digits

-- from -below to above; `negsuc n` is -1 - n
abbrev pub IsSignedWithin : ℕ → ℕ → ℤ → Type 0
IsSignedWithin below above (pos n) = n ≤ above
IsSignedWithin below above (negsuc n) = n < below

-- ---- canonical words

record IsCanonical (word : Word) : Type 0 where
  some : 0 < length word
  digit : 48 ≤ get_or word 0 0
  zero_alone : get_or word 0 0 ≡ 48 → length word ≡ 1

first_byte : (byte len : ℕ) → (is_ascii_digit byte && (eqb len 1 || not (eqb byte 48))) ≡ true → (48 ≤ byte) × (byte ≡ 48 → len ≡ 1)
first_byte byte len h = grind (arith, nat_tests)

canonical : (word : Word) → is_canonical word ≡ true → IsCanonical word
canonical [] h = absurd (false≢true h)
canonical (byte ∷ rest) h =
    let parts = first_byte byte (suc (length rest)) h in
    record { some = omega arith; digit = parts.0; zero_alone = parts.1 }

first_digit : (byte len : ℕ) → 48 ≤ byte → byte ≤ 57 → (byte ≡ 48 → len ≡ 1) → (is_ascii_digit byte && (eqb len 1 || not (eqb byte 48))) ≡ true
first_digit byte len low high alone = grind (arith, nat_tests)

decimal_canonical : (n : ℕ) → n < 2 ^ 64 → is_canonical (decimal n) ≡ true
decimal_canonical n fits =
    elim (cases_eq n 0) [
      | inl is ↦ rw (is, decimal_digit 0 (omega arith)) refl
      | inr not_zero ↦
          let numeral = decimal_is_IsNumeral n fits in
          let range = digit_at (decimal n) 0 numeral.0.1 numeral.0.0 in
          let above = first_decimal n (omega arith) fits in
          first_digit (get_or (decimal n) 0 0) (length (decimal n)) (omega arith) range.1 (λ is. omega arith)
    ]

-- a number from 0 begins with no sign
pub decimal_unsigned : (n : ℕ) → n < 2 ^ 64 → eqb (get_or (decimal n) 0 0) 45 ≡ false
decimal_unsigned n fits =
    let digit = (canonical (decimal n) (decimal_canonical n fits)).digit in
    ne_eqb (get_or (decimal n) 0 0) 45 (λ minus. omega arith)

-- ---- numbers from low to high

record IsNumber (low high : ℕ) (word : Word) : Type 0 where
  canonical : is_canonical word ≡ true
  digits : all_ascii_digits word ≡ true
  from : low ≤ value word
  to : value word ≤ high

number_parts : (low high : ℕ) (word : Word) → is_number low high word ≡ true → IsNumber low high word
unfolding is_number
number_parts low high word h =
    let a = and_parts (is_canonical word && all_ascii_digits word && leb low (value word)) (leb (value word) high) h in
    let b = and_parts (is_canonical word && all_ascii_digits word) (leb low (value word)) a.0 in
    let c = and_parts (is_canonical word) (all_ascii_digits word) b.0 in
    record { canonical = c.0; digits = c.1; from = leb-true _ _ b.1; to = leb-true _ _ a.1 }

number_whole : (low high : ℕ) (word : Word) → IsNumber low high word → is_number low high word ≡ true
unfolding is_number
number_whole low high word h =
    rw (h.canonical, h.digits, le-leb _ _ h.from, le-leb _ _ h.to) refl

-- a word that is a number is spelled as its value is
pub number_is : (low high : ℕ) (word : Word) → high < 2 ^ 64 → is_number low high word ≡ true → (word ≡ decimal (value word)) × IsWithin low high (value word)
number_is low high word small h =
    let parts = number_parts low high word h in
    let first = canonical word parts.canonical in
    let spelled = decimal-digits_value digits_model word parts.digits first.some first.zero_alone (omega arith) in
    (sym spelled, (parts.from, parts.to))

-- and so is one whose digits were read
pub digits_are : (low high : ℕ) (word : Word) → high < 2 ^ 64 → is_canonical word ≡ true → all_ascii_digits word ≡ true → IsWithin low high (value word) → word ≡ decimal (value word)
digits_are low high word small first digits within =
    (number_is low high word small (number_whole low high word (record { canonical = first; digits = digits; from = within.0; to = within.1 }))).0

-- what a number spells is right
pub record Spells (low high n : ℕ) : Type 0 where
  pub right : is_number low high (decimal n) ≡ true
  pub same : value (decimal n) ≡ n

pub number_again : (low high n : ℕ) → high < 2 ^ 64 → IsWithin low high n → Spells low high n
number_again low high n small within =
    let numeral = decimal_is_IsNumeral n (omega arith) in
    let same = numeral.1 in
    record {
      right = number_whole low high (decimal n) (record {
        canonical = decimal_canonical n (omega arith);
        digits = digits_model.from (decimal n) numeral.0.1;
        from = omega arith;
        to = omega arith;
      });
      same = same;
    }

-- ---- what the code finds

no_number : (low high : ℕ) (word : Word) → (IsNumber low high word → ⊥) → is_number low high word ≡ false
no_number low high word fails =
    false_from_ne_true (is_number low high word) (λ h. fails (number_parts low high word h))

pub not_canonical : (low high : ℕ) (word : Word) → is_canonical word ≡ false → is_number low high word ≡ false
not_canonical low high word fails = no_number low high word (λ h. both_ways (is_canonical word) fails h.canonical)

-- each byte so far is a digit, and the next one is
all_digits : (ds : List ℕ) → all_ascii_digits ds ≡ list_all is_ascii_digit ds
all_digits [] = refl
all_digits (d ∷ ds) = ap (λ (b : Bool). is_ascii_digit d && b) (all_digits ds)

pub digits_more : (ds : List ℕ) (i : ℕ) → i < length ds → all_ascii_digits (take i ds) ≡ true → is_ascii_digit (get_or ds i 0) ≡ true → all_ascii_digits (take (i + 1) ds) ≡ true
digits_more ds i inside before here =
    all_digits (take (i + 1) ds) ∙ list_all_more is_ascii_digit ds i 0 inside ∙ rw (sym (all_digits (take i ds)) ∙ before, here) refl

-- or is none
pub digits_fail : (ds : List ℕ) (i : ℕ) → i < length ds → is_ascii_digit (get_or ds i 0) ≡ false → all_ascii_digits ds ≡ false
digits_fail [] i inside fails = absurd (omega arith)
digits_fail (d ∷ ds) zero inside fails = ap (λ (b : Bool). b && all_ascii_digits ds) fails
digits_fail (d ∷ ds) (suc i) inside fails = ap (λ (b : Bool). is_ascii_digit d && b) (digits_fail ds i (omega arith) fails) ∙ and-false (is_ascii_digit d)

-- where the first digits are too many, all are
pub too_large : (ds : List ℕ) (i : ℕ) → i < length ds → 2 ^ 64 ≤ value (take i ds) * 10 + digit_value (get_or ds i 0) → 2 ^ 64 ≤ value ds
too_large ds i inside large =
    omega (arith, digits_value_more 10 ds i inside, digits_value-take-le 10 ds (i + 1) (omega arith))

-- a word that is no digits, or of a number of more than 64 bits
abbrev pub IsNoNumber : List ℕ → Type 0
IsNoNumber word = (all_ascii_digits word ≡ false) ⊎ (2 ^ 64 ≤ value word)

pub not_digits : (low high : ℕ) (word : Word) → high < 2 ^ 64 → IsNoNumber word → is_number low high word ≡ false
not_digits low high word small (inl fails) = no_number low high word (λ parts. both_ways (all_ascii_digits word) fails parts.digits)
not_digits low high word small (inr large) = no_number low high word (λ parts. omega (arith, parts.to))

pub right_digits : (low high : ℕ) (word : Word) → is_canonical word ≡ true → all_ascii_digits word ≡ true → is_number low high word ≡ (leb low (value word) && leb (value word) high)
unfolding is_number
right_digits low high word first digits = rw (first, digits) refl
