-- Compared: how many comparisons the trees of a sibling take.
use Rattle.std.proofs.Common.{◌≡◌, ℕ, zero, suc, ◌+◌, ◌*◌, ◌≤◌, List, map, length, refl, sym, ap, ◌∙◌, arith}
use Rattle.std.specs.FinMap as fin
use Rattle.std.proofs.lemmas.List.{length-map}
use Rattle.cs_types.specs.declared.task.Task.{Task}
use Rattle.cs_types.specs.declared.queue.Queued.{Queued}
use Rattle.cs_types.specs.Comparisons.{digits, most_comparisons}
use Rattle.cs_types.specs.Queue.{RunQueued, Seats, queued_of}
use Rattle.cs_types.proofs.Comparisons.{most_comparisons-le}
use Rattle.run_queue.proofs.Tops.{no_digits}
use Rattle.tree_queue.specs.Held.{Holds}
use Rattle.tree_queue.proofs.Held.{len-seated}
use Rattle.tree_queue.proofs.Splits.{IsSplit, length-split}

-- the trees have as many keys as there are tasks
pub many_seats : {run : RunQueued} {most : ℕ} {tasks : List Queued} → Holds run most tasks → fin.len run.tasks ≡ length tasks
many_seats {tasks = tasks} held = ap (λ (seats : Seats). fin.len seats) held.seats ∙ len-seated tasks held.distinct

pub many_queued : {run : RunQueued} {most : ℕ} (tasks : List Task) → Holds run most (map queued_of tasks) → fin.len run.tasks ≡ length tasks
many_queued tasks held = many_seats held ∙ length-map tasks queued_of

-- so a tree of a sibling is searched by no more than the sibling's tasks allow
pub few_of_all : {run : RunQueued} {most : ℕ} (tasks : List Task) → Holds run most (map queued_of tasks) → most_comparisons (fin.len run.tasks) ≤ most_comparisons (length tasks)
few_of_all tasks held = most_comparisons-le _ _ (omega (arith, many_queued tasks held))

-- To take a task out and to find the first of those that are left takes no more than one call may.
one_digit : digits 1 ≡ 1
unfolding digits
one_digit = refl

two_digits : digits 2 ≡ 2
unfolding digits
two_digits = refl

few_again : (left : ℕ) → 2 * most_comparisons (left + 1) + (most_comparisons left + 6) ≤ 4 * most_comparisons (left + 1)
few_again zero = omega (arith, no_digits, one_digit)
few_again (suc left) =
    omega (arith, two_digits, most_comparisons-le 2 (suc left + 1) (omega arith), most_comparisons-le (suc left) (suc left + 1) (omega arith))

module _ (tasks : List Task) {task : Queued} {rest : List Queued} (split : IsSplit task (map queued_of tasks) rest) where
  one_more : length tasks ≡ length rest + 1
  one_more = sym (length-map tasks queued_of) ∙ length-split split

  -- and where a task of the sibling is not in them
  pub few_of_others : {old : RunQueued} {most : ℕ} → Holds old most rest → most_comparisons (fin.len old.tasks) ≤ most_comparisons (length tasks)
  few_of_others left = most_comparisons-le _ _ (omega (arith, many_seats left, one_more))

  pub few_taken : {old new : RunQueued} {most : ℕ} → Holds old most (map queued_of tasks) → Holds new most rest →
      2 * most_comparisons (fin.len old.tasks) + (most_comparisons (fin.len new.tasks) + 6) ≤ 4 * most_comparisons (length tasks)
  few_taken held left =
      let before = many_queued tasks held in
      let after = many_seats left in
      let many = one_more in
      rw (before, after, many) (few_again (length rest))

  -- To take one out and to put one in its place takes no more than two calls may.
  pub few_changed : {old mid new : RunQueued} {most : ℕ} {now : Queued} {then : List Queued} → IsSplit now then rest → Holds old most (map queued_of tasks) → Holds mid most rest → Holds new most then →
      2 * most_comparisons (fin.len old.tasks) + 2 * most_comparisons (fin.len mid.tasks) + (most_comparisons (fin.len new.tasks) + 6) ≤ 8 * most_comparisons (length tasks)
  few_changed split_now held left held_now =
      let before = many_queued tasks held in
      let between = many_seats left in
      let after = many_seats held_now ∙ length-split split_now in
      let many = one_more in
      let fewer = most_comparisons-le (length rest) (length rest + 1) (omega arith) in
      rw (before, between, after, many) (omega (arith, fewer))
