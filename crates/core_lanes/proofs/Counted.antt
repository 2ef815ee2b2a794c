-- Counted: how the comparisons of one call and of several are bounded.
use Rattle.std.proofs.Common.{◌≡◌, ◌∙◌, ℕ, ◌+◌, ◌≤◌, List, sym, ap, length, arith}
use Rattle.std.specs.Prelude.{◌==◌, ◌&&◌}
use Rattle.std.proofs.Math.Nat.{add-mul, mul-le-mul_left}
use Rattle.std.proofs.lemmas.List.{length-map}
use Rattle.std.proofs.lemmas.List.Sums.{length-filter, count_by-le-length}
use Rattle.cs_types.specs.declared.task.Task.{Task}
use Rattle.task_table.specs.Table.{Table}
use Rattle.core_lanes.specs.Queued.{queued_among}
use Rattle.core_lanes.specs.declared.queue.SiblingQueue.{Ghosts}
use Rattle.core_lanes.specs.declared.lanes.Core.{Core}
use Rattle.core_lanes.specs.Changes.{Kept, kept_of, identity_of, Stays}
use Rattle.core_lanes.specs.Comparisons.{ComparesFor}

-- no more tasks are queued on a sibling than live
pub few_queued : (tasks : List Task) (cpu : ℕ) → length (queued_among tasks cpu) ≤ length tasks
few_queued tasks cpu =
    let there = λ (task : Task). task.queued && (task.home == cpu) in
    omega (arith, length-filter there tasks, count_by-le-length there tasks)

-- so a call of a queue makes no more than one of a queue that has all
pub of_one : (most : ℕ → ℕ) → ((few many : ℕ) → few ≤ many → most few ≤ most many) → (tasks : List Task) (cpu : ℕ) →
    most (length (queued_among tasks cpu)) ≤ most (length tasks)
of_one most rises tasks cpu = rises _ _ (few_queued tasks cpu)

-- as many tasks live where their pids and cookies stay
pub as_many_live : {Q : Type 0} {g : Ghosts Q} (old new : Core Q g × Table) → kept_of new ≡ kept_of old → length new.1.tasks ≡ length old.1.tasks
as_many_live old new kept =
    sym (length-map new.1.tasks identity_of) ∙ ap (λ (k : Kept). length k.identities) kept ∙ length-map old.1.tasks identity_of

pub no_more_live : {Q : Type 0} {g : Ghosts Q} {old new : Core Q g × Table} → Stays old new → length new.1.tasks ≤ length old.1.tasks
no_more_live {old = old} {new = new} stays = omega (arith, as_many_live old new stays.kept)

-- what is made of a later core and table, where no more tasks live
pub later : {Q : Type 0} {g : Ghosts Q} → ((few many : ℕ) → few ≤ many → g.most_compared few ≤ g.most_compared many) → (calls : ℕ) (then both : Core Q g × Table) (old new : ℕ) →
    length then.1.tasks ≤ length both.1.tasks → ComparesFor calls then old new → ComparesFor calls both old new
later rises calls then both old new few made = omega (arith, made, mul-le-mul_left calls (rises _ _ few))

-- so many calls, and then so many
pub and_then : {Q : Type 0} {g : Ghosts Q} (first second all : ℕ) (both : Core Q g × Table) (old mid new : ℕ) → all ≡ first + second →
    ComparesFor first both old mid → ComparesFor second both mid new → ComparesFor all both old new
and_then {g = g} first second all both old mid new is before after = rw is (omega (arith, before, after, add-mul first second (g.most_compared (length both.1.tasks))))
