use Rattle.std.proofs.Common.{◌≡◌, ℕ, List, [], ◌∷◌, map, refl, sym, ap, ◌∙◌, subst, arith}
use Rattle.std.specs.FinMap.{entries}
use Rattle.std.specs.List.Sorted.{IsPermutation}
use Rattle.std.proofs.lemmas.List.Sorted.{IsPermutation-map}
use Rattle.cs_types.specs.declared.task.Task.{Task}
use Rattle.cs_types.specs.declared.queue.Queued.{Queued}
use Rattle.cs_types.specs.Queue.{Seats, queued_of, seat_of}
use Rattle.core_lanes.specs.Queued.{queued_among, mover_of}
use Rattle.core_lanes.proofs.Movers.{told_alike}
use Rattle.run_queue.specs.Classes.{stamped}
use Rattle.tree_queue.proofs.Compared.{many_queued}
use Rattle.tree_queue.proofs.Held.{entries-seated}
use Rattle.tree_queue.proofs.queue.TreeQueueSiblingQueue.tell_into.Goals as goal

-- tasks are told alike by their seats
told_is : (tasks : List Task) → map stamped (map (λ (t : Queued). (seat_of t, t.pid)) (map queued_of tasks)) ≡ map mover_of tasks
told_is [] = refl
told_is (task ∷ tasks) = ap (λ (rest : List (ℕ × ℕ)). mover_of task ∷ rest) (told_is tasks)

pub tell-requires : goal.tell-requires
tell-requires c =
    let tasks = queued_among c.args.table.now.tasks c.args.cpu in
    record {
      each = omega (arith, c.requires.each, c.count-count.ensures, many_queued tasks c.requires.holds.trees);
      count = c.count-count.ensures ∙ many_queued tasks c.requires.holds.trees;
    }

pub tell_by_trees-requires : goal.tell_by_trees-requires
tell_by_trees-requires c =
    let tasks = queued_among c.args.table.now.tasks c.args.cpu in
    record {
      each = omega (arith, c.tell.ensures.each, many_queued tasks c.requires.holds.trees, c.requires.each);
      few = omega (arith, many_queued tasks c.requires.holds.trees, c.requires.few);
    }

pub returns-then-tell : goal.returns-then-tell
returns-then-tell c = record { told = c.tell.ensures.told c.if-tell.true }

pub returns : goal.returns
returns c =
    let tasks = queued_among c.args.table.now.tasks c.args.cpu in
    let trees = c.requires.holds.trees in
    let seats = map (λ (t : Queued). (seat_of t, t.pid)) (map queued_of tasks) in
    let held = c.args.self.now.run.tasks in
    let same = subst (λ (m : Seats). IsPermutation seats (entries m)) (sym trees.seats) (entries-seated (map queued_of tasks) trees.distinct) in
    let told = subst (λ (movers : List (ℕ × ℕ)). IsPermutation movers (map stamped (entries held))) (told_is tasks) (IsPermutation-map stamped seats (entries held) same) in
    record { told = told_alike (map mover_of tasks) (map stamped (entries held)) c.tell_by_trees.new.movers told c.tell_by_trees.ensures.told }
