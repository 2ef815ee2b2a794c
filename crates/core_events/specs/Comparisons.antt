-- Comparisons: how many keys the queues compare for an event (no rule of the kernel's: the bounds are this project's).
use Rattle.std.specs.Prelude.{ℕ, ◌+◌, ◌*◌, ◌≤◌, max, length}
use Rattle.cs_types.specs.declared.event.Event.{Event}
use Rattle.cs_types.specs.declared.event.Event.TheVariants.{Turn, Resched, Block, Exit, Tick, Wake, Advance, Fork, Prctl, SetSched, Offline, Online, Load, Unload}
use Rattle.core_lanes.specs.declared.queue.SiblingQueue.{Ghosts}
use Rattle.core_tasks.specs.declared.state.State.{State}

-- The most calls of a queue that an event takes, by the number of siblings and of living tasks. A schedule asks each
-- sibling twice, and a try to steal passes over the tasks with the core cookie on one sibling. A task that wakes enters
-- its queue, one that sleeps leaves it, and one that changes may leave it and enter it again.
abbrev pub most_calls : ℕ → ℕ → Event → ℕ
most_calls siblings tasks (Turn _) = max (2 * siblings) (tasks + 4)
most_calls siblings tasks (Resched _) = 2 * siblings
most_calls siblings tasks (Block _) = 1 + 2 * siblings
most_calls siblings tasks (Exit _) = 2 + 2 * siblings
most_calls siblings tasks (Tick _) = 3
most_calls siblings tasks (Wake _) = 1
most_calls siblings tasks (Advance _) = 3 * siblings
most_calls siblings tasks (Fork _ _) = 1
most_calls siblings tasks (Prctl _ _) = tasks
most_calls siblings tasks (SetSched _ _) = 3
most_calls siblings tasks (Offline _) = tasks + 1
most_calls siblings tasks (Online _) = 0
most_calls siblings tasks (Load _) = 0
most_calls siblings tasks (Unload _) = 0

-- The new count of comparisons is above the old one by no more than the calls of the event make on a queue with each
-- living task and one more, since a child is queued too.
abbrev pub ComparesForEvent : {Q G : Type 0} {g : Ghosts Q} → State Q G g → Event → ℕ → ℕ → Type 0
ComparesForEvent {g = g} state event old new =
    new ≤ old + most_calls (length state.core.lanes.items) (length state.tasks.tasks) event * g.most_compared (length state.tasks.tasks + 1)
