-- Lists: the waits in what entries are for a task, as these go on.
use Rattle.std.proofs.Common.{◌≡◌, ℕ, ◌+◌, ◌-◌, ◌≤◌, Bool, true, false, cond, List, [], ◌∷◌, ◌++◌, length, refl, sym, ap, ◌∙◌, arith, append_assoc, Option, Some, None}
use Rattle.std.specs.Prelude.{◌||◌, not, sum, sum_by, IfSome}
use Rattle.std.specs.List.{AllByRecursion, take_while}
use Rattle.std.proofs.lemmas.List.Sums.{take_while-cons, sum_by-cons}
use Rattle.wait_times.specs.Waits.{Look, ends_wait, wait_before, waits_in}
use Rattle.wait_times.specs.Rows.{going_on}

-- the time of all these entries
abbrev pub all_time : List Look → ℕ
all_time looks = sum_by (λ (look : Look). look.time) looks

-- a wait is over at what ends it, and else takes the time of the entry too
pub wait_before-cons : (look : Look) (later : List Look) → wait_before (look ∷ later) ≡ cond (ends_wait look) 0 (look.time + wait_before later)
wait_before-cons look later =
    ap all_time (take_while-cons (λ (l : Look). not (ends_wait l)) look later) ∙ by_test (ends_wait look) where
      by_test : (test : Bool) →
          all_time (cond (not test) (look ∷ take_while (λ (l : Look). not (ends_wait l)) later) []) ≡ cond test 0 (look.time + wait_before later)
      by_test true = refl
      by_test false = sum_by-cons (λ (l : Look). l.time) look (take_while (λ (l : Look). not (ends_wait l)) later)

-- ---- one entry more

-- the wait that goes on after an entry, by the one before and whether the entry wakes the task
abbrev pub since_next : Bool → ℕ → Option ℕ → Option ℕ
since_next wakes clock since = cond wakes (Some clock) since

-- the waits that are over after it: if it wakes the task, it ends the one that goes on
abbrev pub over_next : Bool → ℕ → Option ℕ → List ℕ → List ℕ
over_next wakes clock since over = cond wakes (over ++ going_on clock since []) over

pub going_on-next : (clock time : ℕ) (since : Option ℕ) (over : List ℕ) (runs wakes : Bool) (later : List Look) →
    (wakes ≡ true → time ≡ 0) → (runs ≡ true → since ≡ None) → IfSome since (λ began. began ≤ clock) →
    let look : Look = record { runs = runs; wakes = wakes; time = time } in
    over ++ (going_on clock since (look ∷ later) ++ waits_in (look ∷ later))
    ≡ over_next wakes (clock + time) since over ++ (going_on (clock + time) (since_next wakes (clock + time) since) later ++ waits_in later)
going_on-next clock time None over runs true later still quiet began =
    let now = clock + time in
    let none : wait_before later ≡ now - now + wait_before later = omega arith in
    ap (λ n. over ++ n ∷ waits_in later) none ∙ sym (append_assoc over [] ((now - now + wait_before later) ∷ waits_in later))
going_on-next clock time None over runs false later still quiet began = refl
going_on-next clock time (Some since) over true wakes later still quiet began = absurd (let wrong = quiet refl in cc)
going_on-next clock time (Some since) over false true later still quiet began =
    let now = clock + time in
    let look : Look = record { runs = false; wakes = true; time = time } in
    let none : wait_before later ≡ now - now + wait_before later = omega arith in
    let over_now : clock - since + wait_before (look ∷ later) ≡ now - since + 0 = (let here = wait_before-cons look later in omega (arith, here, still refl)) in
    (λ i. over ++ over_now i ∷ none i ∷ waits_in later)
    ∙ sym (append_assoc over ((now - since + 0) ∷ []) ((now - now + wait_before later) ∷ waits_in later))
going_on-next clock time (Some since) over false false later still quiet began =
    let now = clock + time in
    let look : Look = record { runs = false; wakes = false; time = time } in
    let longer : clock - since + wait_before (look ∷ later) ≡ now - since + wait_before later = (let here = wait_before-cons look later in omega (arith, here, began)) in
    ap (λ n. over ++ n ∷ waits_in later) longer

-- ---- a wait that is over now

-- where the first of these entries ends it, it takes no time in them
pub going_on-over : (clock : ℕ) (since : Option ℕ) (over : List ℕ) (later : List Look) → wait_before later ≡ 0 →
    over ++ (going_on clock since later ++ waits_in later) ≡ (over ++ going_on clock since []) ++ (going_on clock None later ++ waits_in later)
going_on-over clock None over later none = sym (append_assoc over [] (waits_in later))
going_on-over clock (Some began) over later none =
    let same : clock - began + wait_before later ≡ clock - began + 0 = omega (arith, none) in
    ap (λ n. over ++ n ∷ waits_in later) same ∙ sym (append_assoc over ((clock - began + 0) ∷ []) (waits_in later))

-- ---- how long they are

-- waits do not overlap
pub sum-waits_in : (looks : List Look) → sum (waits_in looks) + wait_before looks ≤ all_time looks
sum-waits_in [] = omega arith
sum-waits_in (look ∷ later) =
    by_tests look.runs look.wakes (wait_before-cons look later) (sum_by-cons (λ (l : Look). l.time) look later) (sum-waits_in later) where
      by_tests : (runs wakes : Bool) → wait_before (look ∷ later) ≡ cond (runs || wakes) 0 (look.time + wait_before later) →
          all_time (look ∷ later) ≡ look.time + all_time later → sum (waits_in later) + wait_before later ≤ all_time later →
          sum (cond wakes (wait_before later ∷ []) [] ++ waits_in later) + wait_before (look ∷ later) ≤ all_time (look ∷ later)
      by_tests true true here all rest = omega (arith, here, all, rest, sum_by-cons (λ (n : ℕ). n) (wait_before later) (waits_in later))
      by_tests true false here all rest = omega (arith, here, all, rest)
      by_tests false true here all rest = omega (arith, here, all, rest, sum_by-cons (λ (n : ℕ). n) (wait_before later) (waits_in later))
      by_tests false false here all rest = omega (arith, here, all, rest)

-- and there are no more than entries
pub length-waits_in : (looks : List Look) → length (waits_in looks) ≤ length looks
length-waits_in [] = omega arith
length-waits_in (look ∷ later) = by_test look.wakes (length-waits_in later) where
  by_test : (wakes : Bool) → length (waits_in later) ≤ length later → length (cond wakes (wait_before later ∷ []) [] ++ waits_in later) ≤ length (look ∷ later)
  by_test true rest = omega (arith, rest)
  by_test false rest = omega (arith, rest)

-- ---- entries that take no time and wake nobody

abbrev pub AreStill : List Look → Type 0
AreStill looks = AllByRecursion (λ (look : Look). (look.wakes ≡ false) × (look.time ≡ 0)) looks

-- after them the waits are the same
wait_before-still : (looks : List Look) → AreStill looks → wait_before looks ≡ 0
wait_before-still [] still = refl
wait_before-still (look ∷ later) still =
    by_test (ends_wait look) (wait_before-cons look later) (wait_before-still later still.1) where
      by_test : (test : Bool) → wait_before (look ∷ later) ≡ cond test 0 (look.time + wait_before later) → wait_before later ≡ 0 → wait_before (look ∷ later) ≡ 0
      by_test true here rest = here
      by_test false here rest = omega (arith, here, rest, still.0.1)

waits_in-still : (looks : List Look) → AreStill looks → waits_in looks ≡ []
waits_in-still [] still = refl
waits_in-still (look ∷ later) still =
    ap (λ (b : Bool). cond b (wait_before later ∷ []) [] ++ waits_in later) still.0.0 ∙ waits_in-still later still.1

wait_before-append : (looks more : List Look) → AreStill more → wait_before (looks ++ more) ≡ wait_before looks
wait_before-append [] more still = wait_before-still more still
wait_before-append (look ∷ later) more still =
    wait_before-cons look (later ++ more)
    ∙ ap (λ n. cond (ends_wait look) 0 (look.time + n)) (wait_before-append later more still)
    ∙ sym (wait_before-cons look later)

pub waits_in-append : (looks more : List Look) → AreStill more → waits_in (looks ++ more) ≡ waits_in looks
waits_in-append [] more still = waits_in-still more still
waits_in-append (look ∷ later) more still =
    λ i. cond look.wakes (wait_before-append later more still i ∷ []) [] ++ waits_in-append later more still i
