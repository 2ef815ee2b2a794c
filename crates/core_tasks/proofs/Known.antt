-- Known: the tasks of a table that a core knows.
use Rattle.std.proofs.Common.{◌≡◌, ℕ, subst, sym, length, Some}
use Rattle.std.specs.Prelude.{find}
use Rattle.cs_types.specs.declared.task.Task.{Task}
use Rattle.cs_types.specs.Room.{has_pid}
use Rattle.task_table.specs.Table.{Table}
use Rattle.core_lanes.specs.declared.queue.SiblingQueue.{Ghosts}
use Rattle.core_lanes.specs.declared.lanes.Core.{Core}
use Rattle.core_lanes.specs.Queued.{IsOf}
use Rattle.core_lanes.specs.Lanes.{Agree, IsFit, KnowsApart}
use Rattle.core_lanes.proofs.Stays.{found_in}

-- a task of the table fits the core
pub fits_found : {Q : Type 0} {g : Ghosts Q} (pair : Core Q g × Table) (pid : ℕ) (task : Task) → Agree pair → find (has_pid pid) pair.1.tasks ≡ Some task → IsFit (length pair.0.lanes.items) task
fits_found pair pid task agree found = found_in (IsFit (length pair.0.lanes.items)) pid pair.1.tasks task agree.tasks found

-- one that has the spec but for the policy, and the cookie, of one of the table is known, where it fits
pub knows_as : {Q : Type 0} {g : Ghosts Q} (pair : Core Q g × Table) (task old : Task) → Agree pair → task.spec.pid ≡ old.spec.pid → task.cookie ≡ old.cookie → IsOf pair.1.tasks old →
    IsFit (length pair.0.lanes.items) task → KnowsApart pair task
knows_as pair task old agree pid cookie there fits = record {
  apart = record { agree = agree; old = old; there = subst (λ n. find (has_pid n) pair.1.tasks ≡ Some old) (sym pid) there; fits = fits };
  cookie = cookie;
}
