-- Pending: who schedules next at the end of a run, as the code finds it.
use Rattle.std.proofs.Common.{◌≡◌, ℕ, suc, ◌+◌, ◌-◌, ◌<◌, ◌≤◌, Bool, true, false, List, [], ◌∷◌, ◌++◌, length, refl, sym, ap, ◌∙◌, arith, Some, None}
use Rattle.std.specs.Prelude.{◌&&◌, ◌||◌, not, is_some, filter}
use Rattle.std.specs.List.{range_with_len}
use Rattle.std.specs.Option.{option_or}
use Rattle.std.proofs.lemmas.Bool.{cond-true, cond-false}
use Rattle.cs_types.specs.Room.{RoomState, sibling_of, is_online}
use Rattle.cs_types.specs.Drain.{pending, lowest}
use Rattle.core_tasks.specs.Drain.{is_due, next_by}
use Rattle.core_lanes.proofs.Lists.{filter-filter}

-- whether the sibling of a number is due
abbrev pub due : RoomState → Bool → ℕ → Bool
due room has_waiting cpu = is_due has_waiting (sibling_of room cpu)

-- whether something waits for it, where the test asks for it
abbrev pub waits : RoomState → Bool → ℕ → Bool
waits room has_waiting cpu = not has_waiting || is_some (sibling_of room cpu).waiting

pub lowest_due : (room : RoomState) (has_waiting : Bool) →
    lowest (filter (waits room has_waiting) (pending room)) ≡ lowest (filter (due room has_waiting) (range_with_len 0 (length room.siblings)))
lowest_due room has_waiting =
    let cpus = range_with_len 0 (length room.siblings) in
    ap lowest (filter-filter (λ cpu. (sibling_of room cpu).pending) (waits room has_waiting) (filter (is_online room) cpus)
    ∙ filter-filter (is_online room) (λ cpu. (sibling_of room cpu).pending && waits room has_waiting cpu) cpus)

-- ---- from a place of a range on

from_here : (p : ℕ → Bool) (k m n : ℕ) → m ≡ suc n → p k ≡ true → lowest (filter p (range_with_len k m)) ≡ Some k
from_here p k m n more passes =
    ap (λ count. lowest (filter p (range_with_len k count))) more ∙ ap lowest (cond-true (p k) (k ∷ filter p (range_with_len (k + 1) n)) (filter p (range_with_len (k + 1) n)) passes)

pub lowest_here : (p : ℕ → Bool) (k n : ℕ) → k < n → p k ≡ true → lowest (filter p (range_with_len k (n - k))) ≡ Some k
lowest_here p k n below passes = from_here p k (n - k) (n - (k + 1)) (omega (arith, below)) passes

from_later : (p : ℕ → Bool) (k m n : ℕ) → m ≡ suc n → p k ≡ false → lowest (filter p (range_with_len k m)) ≡ lowest (filter p (range_with_len (k + 1) n))
from_later p k m n more fails =
    ap (λ count. lowest (filter p (range_with_len k count))) more ∙ ap lowest (cond-false (p k) (k ∷ filter p (range_with_len (k + 1) n)) (filter p (range_with_len (k + 1) n)) fails)

pub lowest_later : (p : ℕ → Bool) (k n : ℕ) → k < n → p k ≡ false →
    lowest (filter p (range_with_len k (n - k))) ≡ lowest (filter p (range_with_len (k + 1) (n - (k + 1))))
lowest_later p k n below fails = from_later p k (n - k) (n - (k + 1)) (omega (arith, below)) fails

none_left : (p : ℕ → Bool) (k m : ℕ) → m ≡ 0 → lowest (filter p (range_with_len k m)) ≡ None
none_left p k m none = ap (λ count. lowest (filter p (range_with_len k count))) none

pub lowest_none : (p : ℕ → Bool) (k n : ℕ) → n ≤ k → lowest (filter p (range_with_len k (n - k))) ≡ None
lowest_none p k n past = none_left p k (n - k) (omega (arith, past))

-- ---- who schedules next

-- no element is left out, and each is
filter_all : {X : Type 0} (xs : List X) → filter (λ x. true) xs ≡ xs
filter_all [] = refl
filter_all (x ∷ xs) = ap (λ (rest : List _). x ∷ rest) (filter_all xs)

filter_none : {X : Type 0} (xs : List X) → filter (λ x. false) xs ≡ []
filter_none [] = refl
filter_none (x ∷ xs) = filter_none xs

-- the lowest of two lists is that of the first, or else that of the second
lowest_append : (xs ys : List ℕ) → lowest (xs ++ ys) ≡ option_or (lowest xs) (lowest ys)
lowest_append [] ys = refl
lowest_append (x ∷ xs) ys = refl

pub next_any : (room : RoomState) → lowest (filter (waits room false) (pending room)) ≡ next_by room false
next_any room =
    ap lowest (filter_all (pending room)) ∙ sym (ap (λ (cpus : List ℕ). lowest (cpus ++ pending room)) (filter_none (pending room)))

pub next_fresh : (room : RoomState) →
    option_or (lowest (filter (waits room true) (pending room))) (lowest (filter (waits room false) (pending room))) ≡ next_by room true
next_fresh room =
    ap (option_or (lowest (filter (waits room true) (pending room)))) (ap lowest (filter_all (pending room)))
    ∙ sym (lowest_append (filter (waits room true) (pending room)) (pending room))
