-- State: the room that a state stands for, and what always holds of it.
use Rattle.std.specs.Prelude.{◌≡◌, ◌≢◌, ℕ, ◌<◌, List, length, All}
use Rattle.cs_types.specs.Scenario.{IsWithin}
use Rattle.cs_types.specs.declared.task.Task.{Task}
use Rattle.cs_types.specs.Room.{RoomState, Interval}
use Rattle.cookie_refs.specs.Refs.{AgreeBut}
use Rattle.task_table.specs.Table.{Table, total_among}
use Rattle.core_lanes.specs.declared.queue.SiblingQueue.{Ghosts}
use Rattle.core_lanes.specs.declared.lanes.Core.{Core}
use Rattle.core_lanes.specs.Lanes.{Beside, room_of, Agree}
use Rattle.core_lanes.specs.Numbers.{Numbers, numbers_of, with_ended}
use Rattle.core_tasks.specs.declared.state.State.{State}

-- ---- the room

-- the core and the table of a state
abbrev pub both : {Q G : Type 0} {g : Ghosts Q} → State Q G g → Core Q g × Table
both state = (state.core, state.tasks)

-- what is beside these, if these intervals were recorded
abbrev pub beside_of : {Q G : Type 0} {g : Ghosts Q} → List Interval → State Q G g → Beside
beside_of intervals state =
    record {
      cookie_limit = state.refs.limit;
      user_top = state.user_top;
      clock = state.clock;
      ended = state.ended.items;
      next_pid = state.next_pid;
      next_cookie = state.refs.next;
      intervals = intervals;
      guards = state.guards.guards;
    }

-- the room that the state stands for, if these intervals were recorded
abbrev pub room_with : {Q G : Type 0} {g : Ghosts Q} → List Interval → State Q G g → RoomState
room_with intervals state = room_of (beside_of intervals state) (both state)

-- its numbers, with what the tasks that ended were charged
abbrev pub state_numbers : {Q G : Type 0} {g : Ghosts Q} → State Q G g → Numbers
state_numbers state = with_ended state.ended.items (numbers_of (both state))

-- ---- what holds of it

-- the pid is one that was given
abbrev pub IsGiven : ℕ → ℕ → Type 0
IsGiven next pid = (0 < pid) × (pid < next)

-- a task that ended, beside what it was charged: its pid was given, no living task has it, and of those that ended no
-- other was charged by it
pub record IsGone (next : ℕ) (tasks : List Task) (ended : List (ℕ × ℕ)) (task : ℕ × ℕ) : Type 0 where
  pub given : task.0 < next
  pub absent : All (λ living. living.spec.pid ≢ task.0) tasks
  pub alone : total_among ended task.0 ≡ task.1

-- What always holds of a state: its core and its table agree; each task's pid was given; the tasks that ended are gone;
-- and the references are those of the tasks, and one more for a cookie that is held beside them.
pub record IsSoundBut {Q G : Type 0} {g : Ghosts Q} (state : State Q G g) (held : ℕ) : Type 0 where
  pub agree : Agree (both state)
  pub limit : state.tasks.limit ≡ state.task_limit
  pub user_top : IsWithin 8192 9223372036854775807 state.user_top
  pub pids : All (λ task. IsGiven state.next_pid task.spec.pid) state.tasks.tasks
  pub ended : All (IsGone state.next_pid state.tasks.tasks state.ended.items) state.ended.items
  pub refs : AgreeBut state.refs state.tasks.tasks held

-- the same with no cookie held beside them
abbrev pub IsSound : {Q G : Type 0} {g : Ghosts Q} → State Q G g → Type 0
IsSound state = IsSoundBut state 0

-- The state stays sound, and keeps the number of its siblings, and how many tasks may end.
pub record StaysBut {Q G : Type 0} {g : Ghosts Q} (held : ℕ) (old new : State Q G g) : Type 0 where
  pub sound : IsSoundBut old held → IsSoundBut new held
  pub siblings : length new.core.lanes.items ≡ length old.core.lanes.items
  pub ends : new.ended.room ≡ old.ended.room

abbrev pub Stays : {Q G : Type 0} {g : Ghosts Q} → State Q G g → State Q G g → Type 0
Stays old new = StaysBut 0 old new
