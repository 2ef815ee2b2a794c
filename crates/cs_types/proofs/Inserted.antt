-- Inserted: what the tasks by rising pid are, and have, with one more in its place.
use Rattle.std.proofs.Common.{◌≡◌, ℕ, suc, ◌+◌, ◌<◌, ◌≤◌, All, Bool, true, false, cond, ltb, List, [], ◌∷◌, ◌++◌, length, Option, Some, None, refl, sym, ap, ◌∙◌, inl, inr, arith}
use Rattle.std.specs.Prelude.{find, filter, sum_by, ◌==◌}
use Rattle.std.specs.List.{AllByRecursion}
use Rattle.std.specs.Option.{option_or}
use Rattle.std.proofs.lemmas.Bool.{cases_Bool, cond-true, cond-false, eqb-true, eq-eqb, lt-ltb}
use Rattle.std.proofs.lemmas.Bool.Decides.{nat_tests}
use Rattle.std.proofs.lemmas.List.{length-append}
use Rattle.std.proofs.lemmas.List.Elements.{All-append, All-cons, All-filter, All-from_recursion, recursion_from_All}
use Rattle.std.proofs.lemmas.List.Folds.{find-append}
use Rattle.std.proofs.lemmas.List.Sums.{sum_by-append, sum_by-cons}
use Rattle.cs_types.specs.declared.task.Task.{Task}
use Rattle.cs_types.specs.Room.{has_pid, inserted}
use Rattle.cs_types.proofs.Foremost.{each_weaker}

-- whether a task's pid is below the number, and above it
abbrev pub is_below : ℕ → Task → Bool
is_below pid task = ltb task.spec.pid pid

abbrev pub is_above : ℕ → Task → Bool
is_above pid task = ltb pid task.spec.pid

-- ---- where it stands

-- a filter keeps all where each passes, and none where none does
filter_each : {X : Type 0} (p : X → Bool) (b : Bool) (xs : List X) → AllByRecursion (λ x. p x ≡ b) xs → filter p xs ≡ cond b xs []
filter_each p true [] each = refl
filter_each p false [] each = refl
filter_each p true (x ∷ xs) each = cond-true (p x) (x ∷ filter p xs) (filter p xs) each.0 ∙ ap (λ ys. x ∷ ys) (filter_each p true xs each.1)
filter_each p false (x ∷ xs) each = cond-false (p x) (x ∷ filter p xs) (filter p xs) each.0 ∙ filter_each p false xs each.1

-- It stands before the tasks, where the pid of each is greater.
pub inserted-first : (task : Task) (tasks : List Task) → AllByRecursion (λ other. task.spec.pid < other.spec.pid) tasks → inserted task tasks ≡ task ∷ tasks
inserted-first task tasks greater =
    let none = filter_each (is_below task.spec.pid) false tasks (each_weaker (λ other. task.spec.pid < other.spec.pid) (λ other. is_below task.spec.pid other ≡ false) tasks (λ other above. grind (arith, nat_tests)) greater) in
    let each = filter_each (is_above task.spec.pid) true tasks (each_weaker (λ other. task.spec.pid < other.spec.pid) (λ other. is_above task.spec.pid other ≡ true) tasks (λ other above. lt-ltb task.spec.pid other.spec.pid above) greater) in
    λ i. none i ++ task ∷ each i

-- It stands behind a first task with a smaller pid.
pub inserted-past : (task first : Task) (rest : List Task) → first.spec.pid < task.spec.pid → inserted task (first ∷ rest) ≡ first ∷ inserted task rest
inserted-past task first rest smaller =
    let below = cond-true (is_below task.spec.pid first) (first ∷ filter (is_below task.spec.pid) rest) (filter (is_below task.spec.pid) rest) (lt-ltb first.spec.pid task.spec.pid smaller) in
    let above = cond-false (is_above task.spec.pid first) (first ∷ filter (is_above task.spec.pid) rest) (filter (is_above task.spec.pid) rest) (grind (arith, nat_tests)) in
    λ i. below i ++ task ∷ above i

-- ---- what holds of each

-- What holds of each task and of one more holds of each with that one in its place.
pub All-inserted : (P : Task → Type 0) (task : Task) (tasks : List Task) → P task → All P tasks → All P (inserted task tasks)
All-inserted P task tasks is all =
    All-append P (filter (is_below task.spec.pid) tasks) (task ∷ filter (is_above task.spec.pid) tasks) (All-filter (is_below task.spec.pid) P tasks all)
    (All-cons P task (filter (is_above task.spec.pid) tasks) is (All-filter (is_above task.spec.pid) P tasks all))

pub each-inserted : (P : Task → Type 0) (task : Task) (tasks : List Task) → P task → AllByRecursion P tasks → AllByRecursion P (inserted task tasks)
each-inserted P task tasks is all = recursion_from_All P (inserted task tasks) (All-inserted P task tasks is (All-from_recursion P tasks all))

-- ---- the one with a pid

-- a search in what a filter keeps, where the filter keeps all that the search can find, or none of it
find-kept : {X : Type 0} (p q : X → Bool) (b : Bool) → ((x : X) → p x ≡ true → q x ≡ b) → (xs : List X) → find p (filter q xs) ≡ cond b (find p xs) None
find-kept p q true same [] = refl
find-kept p q false same [] = refl
find-kept p q b same (x ∷ xs) =
    elim (cases_Bool (p x)) [
      | inl pass ↦ by_kept b pass (same x pass) (find-kept p q b same xs)
      | inr fail ↦ elim (cases_Bool (q x)) [
        | inl keeps ↦ simp (keeps, fail, find-kept p q b same xs)
        | inr drops ↦ simp (drops, fail, find-kept p q b same xs)
      ]
    ] where
      by_kept : (b : Bool) → p x ≡ true → q x ≡ b → find p (filter q xs) ≡ cond b (find p xs) None → find p (filter q (x ∷ xs)) ≡ cond b (find p (x ∷ xs)) None
      by_kept true pass keeps more = simp (keeps, pass)
      by_kept false pass drops more = simp (drops, more)

-- It is found by its pid, and each other by its own.
pub find-inserted : (task : Task) (tasks : List Task) (pid : ℕ) →
    find (has_pid pid) (inserted task tasks) ≡ cond (pid == task.spec.pid) (Some task) (find (has_pid pid) tasks)
find-inserted task tasks pid =
    find-append (has_pid pid) (filter (is_below task.spec.pid) tasks) (task ∷ filter (is_above task.spec.pid) tasks)
    ∙ (λ i. option_or (below i) (cond (task.spec.pid == pid) (Some task) (above i)))
    ∙ by_side (ltb pid task.spec.pid) (ltb task.spec.pid pid) (task.spec.pid == pid) (pid == task.spec.pid) (find (has_pid pid) tasks) refl refl refl refl where
      below : find (has_pid pid) (filter (is_below task.spec.pid) tasks) ≡ cond (ltb pid task.spec.pid) (find (has_pid pid) tasks) None
      below =
          find-kept (has_pid pid) (is_below task.spec.pid) (ltb pid task.spec.pid)
          (λ other same. ap (λ n. ltb n task.spec.pid) (eqb-true other.spec.pid pid same)) tasks

      above : find (has_pid pid) (filter (is_above task.spec.pid) tasks) ≡ cond (ltb task.spec.pid pid) (find (has_pid pid) tasks) None
      above =
          find-kept (has_pid pid) (is_above task.spec.pid) (ltb task.spec.pid pid)
          (λ other same. ap (λ n. ltb task.spec.pid n) (eqb-true other.spec.pid pid same)) tasks

      by_side : (low high own same : Bool) (found : Option Task) → ltb pid task.spec.pid ≡ low → ltb task.spec.pid pid ≡ high →
          (task.spec.pid == pid) ≡ own → (pid == task.spec.pid) ≡ same →
          option_or (cond low found None) (cond own (Some task) (cond high found None)) ≡ cond same (Some task) found
      by_side false high true true found below above is back = refl
      by_side false true false false found below above is back = refl
      by_side true false false false None below above is back = refl
      by_side true false false false (Some other) below above is back = refl
      by_side low high own same found below above is back = absurd (grind (arith, nat_tests))

pub found-inserted : (task : Task) (tasks : List Task) → find (has_pid task.spec.pid) (inserted task tasks) ≡ Some task
found-inserted task tasks =
    find-inserted task tasks task.spec.pid
    ∙ cond-true (task.spec.pid == task.spec.pid) (Some task) (find (has_pid task.spec.pid) tasks) (eq-eqb task.spec.pid task.spec.pid refl)

-- ---- how many there are, and their sums

-- no more than one more
pub length-inserted : (task : Task) (tasks : List Task) → length (inserted task tasks) ≤ suc (length tasks)
length-inserted task tasks =
    omega (arith, length-append (filter (is_below task.spec.pid) tasks) (task ∷ filter (is_above task.spec.pid) tasks), sides tasks) where
      sides : (tasks : List Task) → length (filter (is_below task.spec.pid) tasks) + length (filter (is_above task.spec.pid) tasks) ≤ length tasks
      sides [] = omega arith
      sides (first ∷ rest) =
          elim (cases_Bool (is_below task.spec.pid first)) [
            | inl below ↦
                let above : is_above task.spec.pid first ≡ false = grind (arith, nat_tests) in
                rw (below, above) (omega (arith, sides rest))
            | inr past ↦ elim (cases_Bool (is_above task.spec.pid first)) [
              | inl above ↦ rw (past, above) (omega (arith, sides rest))
              | inr same ↦ rw (past, same) (omega (arith, sides rest))
            ]
          ]

-- Its term is added, where no other has its pid.
pub sum_by-inserted : (f : Task → ℕ) (task : Task) (tasks : List Task) → find (has_pid task.spec.pid) tasks ≡ None →
    sum_by f (inserted task tasks) ≡ sum_by f tasks + f task
sum_by-inserted f task tasks none =
    omega (
      arith,
      sum_by-append f (filter (is_below task.spec.pid) tasks) (task ∷ filter (is_above task.spec.pid) tasks),
      sum_by-cons f task (filter (is_above task.spec.pid) tasks),
      sides tasks none,
    ) where
      sides : (tasks : List Task) → find (has_pid task.spec.pid) tasks ≡ None →
          sum_by f (filter (is_below task.spec.pid) tasks) + sum_by f (filter (is_above task.spec.pid) tasks) ≡ sum_by f tasks
      sides [] none = omega arith
      sides (first ∷ rest) none =
          elim (cases_Bool (has_pid task.spec.pid first)) [
            | inl here ↦ let some = sym (cond-true (has_pid task.spec.pid first) (Some first) (find (has_pid task.spec.pid) rest) here) ∙ none in absurd cc
            | inr other ↦
                let more = sides rest (sym (cond-false (has_pid task.spec.pid first) (Some first) (find (has_pid task.spec.pid) rest) other) ∙ none) in
                elim (cases_Bool (is_below task.spec.pid first)) [
                  | inl below ↦
                      let above : is_above task.spec.pid first ≡ false = grind (arith, nat_tests) in
                      rw (below, above, sum_by-cons f first (filter (is_below task.spec.pid) rest), sum_by-cons f first rest) (omega (arith, more))
                  | inr past ↦
                      let above : is_above task.spec.pid first ≡ true = grind (arith, nat_tests) in
                      rw (past, above, sum_by-cons f first (filter (is_above task.spec.pid) rest), sum_by-cons f first rest) (omega (arith, more))
                ]
          ]
