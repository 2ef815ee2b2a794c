-- Wakes: that a task may be queued at its home which sleeps in the table.
use Rattle.std.proofs.Common.{◌≡◌, ◌+◌, ◌<◌, ◌^◌, ℕ, Some, false, ap, sym, subst, length}
use Rattle.std.specs.Prelude.{find}
use Rattle.cs_types.specs.declared.task.Task.{Task}
use Rattle.cs_types.specs.Room.{has_pid}
use Rattle.cs_types.specs.Scenario.{IsPolicy}
use Rattle.task_table.specs.Table.{Table}
use Rattle.core_lanes.specs.declared.queue.SiblingQueue.{Ghosts}
use Rattle.core_lanes.specs.declared.lanes.Core.{Core}
use Rattle.core_lanes.specs.Lanes.{Agree}
use Rattle.core_lanes.specs.Queued.{IsOf}
use Rattle.core_clock.specs.Moments.{MayWakeAtHome}

-- a task may be that has another home on a sibling, and another virtual time
pub may_wake : {Q : Type 0} {g : Ghosts Q} (now : ℕ) (pair : Core Q g × Table) (task old : Task) → Agree pair → IsOf pair.1.tasks old → old.queued ≡ false →
    task ≡ record old { home = task.home; queued = task.queued; vtime = task.vtime } → task.home < length pair.0.lanes.items → IsPolicy old.spec.policy →
    now + 1000000000 < 2 ^ 56 → pair.0.next_stamp + 1 < 2 ^ 64 → pair.0.task_number + 1 < 2 ^ 64 → MayWakeAtHome now pair task
may_wake now pair task old agree there asleep is home policy clock stamp touches = record {
  may = record {
    knows = record {
      apart = record {
        agree = agree;
        old = old;
        there = subst (λ (t : Task). find (has_pid t.spec.pid) pair.1.tasks ≡ Some old) (sym is) there;
        fits = record { home = home; policy = subst (λ (t : Task). IsPolicy t.spec.policy) (sym is) policy };
      };
      cookie = ap (λ (t : Task). t.cookie) is;
    };
    clock = clock;
    stamp = stamp;
    touches = touches;
  };
  asleep = asleep;
  is = is;
}
