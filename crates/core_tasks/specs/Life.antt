-- Life: what an end asks, and what the making of a child leaves.
use Rattle.std.specs.Prelude.{◌≡◌, ℕ, ◌+◌, ◌^◌, ◌<◌, Bool, true, false, List, length, find, Some, None, Result, Ok, Err}
use Rattle.cs_types.specs.declared.task.Task.{Task}
use Rattle.cs_types.specs.Room.{Interval, has_pid}
use Rattle.cs_types.specs.Step.{child_of, with_child, may_not_fork, has_threads}
use Rattle.fork_inherit.specs.declared.forking.ForkFault.{ForkFault}
use Rattle.fork_inherit.specs.declared.forking.ForkFault.TheVariants.{NoCaller, Eagain}
use Rattle.core_lanes.specs.declared.queue.SiblingQueue.{Ghosts}
use Rattle.core_lanes.specs.Queued.{IsOf}
use Rattle.core_tasks.specs.declared.state.State.{State}
use Rattle.core_tasks.specs.State.{room_with, state_numbers, IsSound, Stays}
use Rattle.core_tasks.specs.Steps.{Becomes}

-- the task may end: it lives and leads no other, and a touch and a place among the ended are left
pub record MayEnd {Q G : Type 0} {g : Ghosts Q} (task : Task) (state : State Q G g) : Type 0 where
  pub there : IsOf state.tasks.tasks task
  pub sound : IsSound state
  pub alone : (intervals : List Interval) → has_threads (room_with intervals state) task ≡ false
  pub touches : state.core.task_number + 1 < 2 ^ 64
  pub spare : length state.ended.items < state.ended.room

-- a child may be made: its pid does not overflow
pub record MayMakeChild {Q G : Type 0} {g : Ghosts Q} (state : State Q G g) : Type 0 where
  pub sound : IsSound state
  pub pid : state.next_pid + 1 < 2 ^ 32

-- the new state is the old one with this child, of this caller
pub record IsBorn {Q G : Type 0} {g : Ghosts Q} (old new : State Q G g) (by : Task) (thread : Bool) (child : Task) : Type 0 where
  pub allowed : may_not_fork old.tasks.limit old.tasks.tasks by ≡ false
  pub is : child ≡ child_of by thread old.next_pid
  pub there : IsOf new.tasks.tasks child
  pub room : Becomes old new (λ room. with_child room child)
  pub numbers : state_numbers new ≡ state_numbers old
  pub stays : Stays old new

-- a child of the task with the pid was made, or none, and then nothing changed
abbrev pub MakesChild : {Q G : Type 0} {g : Ghosts Q} → State Q G g → State Q G g → ℕ → Bool → Result Task ForkFault → Type 0
MakesChild old new caller thread (Ok child) = (by : Task) × (find (has_pid caller) old.tasks.tasks ≡ Some by) × IsBorn old new by thread child
MakesChild old new caller thread (Err NoCaller) = (find (has_pid caller) old.tasks.tasks ≡ None) × (new ≡ old)
MakesChild old new caller thread (Err Eagain) =
    (by : Task) × (find (has_pid caller) old.tasks.tasks ≡ Some by) × (may_not_fork old.tasks.limit old.tasks.tasks by ≡ true) × (new ≡ old)
