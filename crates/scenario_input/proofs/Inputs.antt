-- How many bytes are read of an input, and which.
use Rattle.std.proofs.Common.{◌≡◌, ℕ, ◌+◌, ◌-◌, ◌<◌, ◌≤◌, ◌↔◌, List, ◌++◌, length, sym, ap, subst, ◌∙◌, arith, append_assoc, length-append, length-take, min, take}
use Rattle.std.specs.Prelude.{Option, Some, None, IfSome, Result, Ok, Err}
use Rattle.std.proofs.lemmas.List.{append-nil, take-append-le}
use Rattle.cs_outside.specs.Device.{prepended}
use Rattle.scenario_input.specs.declared.stop.Stop.{Stop}
use Rattle.scenario_input.specs.declared.stop.Stop.TheVariants.{ReadFault, TooLong, OutOfMemory}
use Rattle.scenario_input.specs.Input.{IsReadAs, count_read}

-- no more than there were
pub count_read-le : (text : List ℕ) (now : Option (List ℕ)) → count_read (Some text) now ≤ length text
count_read-le text now = omega arith

-- what was read to its end are the bytes that the source had
pub read_bytes : (before now : Option (List ℕ)) (bytes items : List ℕ) → before ≡ Some bytes → IsReadAs before items now → items ≡ bytes
read_bytes before None bytes items told whole = let wrong : Some bytes ≡ None = sym told ∙ whole.0 in absurd cc
read_bytes before (Some left) bytes items told whole =
    let is : Some bytes ≡ Some (items ++ left) = sym told ∙ whole.0 in
    let same : bytes ≡ items ++ left = cc in
    sym (same ∙ ap (λ (rest : List ℕ). items ++ rest) whole.1 ∙ append-nil items)

-- what is read next stands behind what was read before
pub read_more : (before left now : Option (List ℕ)) (items more : List ℕ) → before ≡ prepended items left → left ≡ prepended more now → before ≡ prepended (items ++ more) now
read_more before left None items more is next = is ∙ ap (prepended items) next
read_more before left (Some rest) items more is next = is ∙ ap (prepended items) next ∙ ap Some (sym (append_assoc items more rest))

-- and is nothing at the end
pub read_none : (left now : Option (List ℕ)) (bytes : List ℕ) (n : ℕ) → n ≡ 0 → left ≡ prepended (take n bytes) now → left ≡ now
read_none left None bytes n none next = next
read_none left (Some rest) bytes n none next = next ∙ ap (λ k. prepended (take k bytes) (Some rest)) none

-- what holds of how many bytes were read, where these were
read_so_far : (before now : Option (List ℕ)) (items : List ℕ) (P : ℕ → Type 0) → before ≡ prepended items now → P (length items) → IfSome before (λ _. P (count_read before now))
read_so_far None now items P is holds = tt
read_so_far (Some text) None items P is holds = absurd cc
read_so_far (Some text) (Some left) items P is holds =
    let same : text ≡ items ++ left = cc in
    let count : length items ≡ length text - length left = omega (arith, ap length same, length-append items left) in
    subst P count holds

-- they are no more than the limit
module _ (limit : ℕ) (before now : Option (List ℕ)) (items : List ℕ) (is : before ≡ prepended items now) (few : length items ≤ limit) where
  pub few_most : IfSome before (λ _. count_read before now ≤ limit + 1)
  few_most = read_so_far before now items (λ n. n ≤ limit + 1) is (omega arith)

  pub few_told : (P : Type 0) → (P → ⊥) → IfSome before (λ _. P ↔ (limit < count_read before now))
  few_told P none = read_so_far before now items (λ n. P ↔ (limit < n)) is (λ p. absurd (none p), λ many. absurd (omega arith))

-- or one more
module _ (limit : ℕ) (before now : Option (List ℕ)) (items : List ℕ) (is : before ≡ prepended items now) (many : length items ≡ limit + 1) where
  pub many_most : IfSome before (λ _. count_read before now ≤ limit + 1)
  many_most = read_so_far before now items (λ n. n ≤ limit + 1) is (omega arith)

  pub many_told : (P : Type 0) → P → IfSome before (λ _. P ↔ (limit < count_read before now))
  many_told P p = read_so_far before now items (λ n. P ↔ (limit < n)) is (λ q. omega arith, λ more. p)

-- how long they are with so many of the bytes that were asked for
pub few_more : (limit : ℕ) (items bytes : List ℕ) (n len : ℕ) → len ≡ length items → length items ≤ limit → n ≤ limit - len → length (items ++ take n bytes) ≤ limit
few_more limit items bytes n len is few fits = omega (arith, length-append items (take n bytes), length-take n bytes)

pub one_more : (limit : ℕ) (items bytes buffer : List ℕ) (n len most : ℕ) → len ≡ length items → length items ≤ limit → most ≡ min 8192 (limit - len + 1) → length bytes ≡ length (take most buffer) → n ≤ length (take most buffer) → limit - len < n → length (items ++ take n bytes) ≡ limit + 1
one_more limit items bytes buffer n len most is few cut kept within past = omega (arith, length-append items (take n bytes), length-take n bytes, length-take most buffer)

-- the bytes so far, with as many as were put in front of the buffer
module _ (items next bytes rest asked : List ℕ) (n : ℕ) (is : next ≡ items ++ take n (bytes ++ rest)) (kept : length bytes ≡ length asked) (within : n ≤ length asked) where
  pub next_is : next ≡ items ++ take n bytes
  next_is = is ∙ ap (λ more. items ++ more) (take-append-le n bytes rest (omega arith))

  pub shorter : (limit : ℕ) → (n ≡ 0 → ⊥) → length items ≤ limit → limit + 1 - length next < limit + 1 - length items
  shorter limit some few = omega (arith, ap length next_is, length-append items (take n bytes), length-take n bytes)

-- what reading ends with where the bytes are not too many
abbrev IsRead : {X : Type 0} → Result X Stop → Type 0
IsRead (Ok bytes) = Unit {0}
IsRead (Err ReadFault) = Unit {0}
IsRead (Err OutOfMemory) = Unit {0}
IsRead (Err stop) = ⊥

pub not_long : {X : Type 0} (r : Result X Stop) → IsRead r → r ≡ Err TooLong → ⊥
not_long r is e = subst IsRead e is
