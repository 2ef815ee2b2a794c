-- Cookies: what a setting makes of the state.
use Rattle.std.specs.Prelude.{◌≡◌, ◌≢◌, ℕ, ◌+◌, ◌*◌, ◌^◌, ◌<◌, ◌||◌, Bool, nat_lt, List, length, All, Some, false, slice_index_or}
use Rattle.cs_types.specs.declared.task.Task.{Task}
use Rattle.cs_types.specs.Room.{SiblingState, Interval, absent, online as siblings_online}
use Rattle.cs_types.specs.Selection.{is_run}
use Rattle.cs_types.specs.Prctl.{Setting, set_cookies}
use Rattle.cs_types.specs.Touches.{setting_touches}
use Rattle.core_lanes.specs.declared.queue.SiblingQueue.{Ghosts}
use Rattle.core_lanes.specs.Queued.{IsOf}
use Rattle.core_lanes.specs.Lanes.{RunTheirOwn}
use Rattle.core_lanes.specs.Numbers.{touched}
use Rattle.core_tasks.specs.declared.state.State.{State}
use Rattle.core_tasks.specs.State.{both, room_with, state_numbers, IsSound, IsSoundBut, StaysBut}
use Rattle.core_tasks.specs.Steps.{Becomes}

-- these tasks get the cookie
abbrev pub setting : List Task → ℕ → Setting
setting tasks cookie = record { tasks = tasks; cookie = cookie }

-- a sibling that runs the task with the pid becomes pending
abbrev pub flagged_for : ℕ → SiblingState → SiblingState
flagged_for pid sibling = record sibling { pending = sibling.pending || is_run sibling.run (Some pid) }

-- no other of these siblings runs the task with the pid
abbrev pub RunsAtMostAt : ℕ → ℕ → List SiblingState → Type 0
RunsAtMostAt home pid siblings = (cpu : ℕ) → cpu ≢ home → is_run (slice_index_or siblings cpu absent).run (Some pid) ≡ false

-- tasks may get the cookie, with which the queues are touched this number of times at most
pub record MaySet {Q G : Type 0} {g : Ghosts Q} (cookie count : ℕ) (state : State Q G g) : Type 0 where
  pub sound : IsSoundBut state cookie
  pub own : RunTheirOwn (both state)
  pub touches : state.core.task_number + count < 2 ^ 64

-- this task, which lives, may get it, with two touches at most
pub record MaySetOne {Q G : Type 0} {g : Ghosts Q} (cookie : ℕ) (state : State Q G g) (task : Task) : Type 0 where
  pub may : MaySet cookie 2 state
  pub there : IsOf state.tasks.tasks task

-- a task may call `prctl`; the test says whether fewer than two siblings are online. Touches, a cookie's serial and
-- each guard's count are left
pub record MayCall {Q G : Type 0} {g : Ghosts Q} (smt_off : Bool) (state : State Q G g) : Type 0 where
  pub sound : IsSound state
  pub own : RunTheirOwn (both state)
  pub siblings : (intervals : List Interval) → nat_lt (length (siblings_online (room_with intervals state))) 2 ≡ smt_off
  pub touches : state.core.task_number + 2 * length state.tasks.tasks + 2 < 2 ^ 64
  pub serial : state.refs.next < 2 ^ 63
  pub asked : All (λ guard. guard.asked < 2 ^ 62) state.guards.guards.all

-- the new state is the old one once these tasks got the cookie
pub record SetsCookies {Q G : Type 0} {g : Ghosts Q} (old new : State Q G g) (tasks : List Task) (cookie : ℕ) : Type 0 where
  pub room : Becomes old new (λ room. set_cookies room (setting tasks cookie))
  pub numbers : state_numbers new ≡ touched (setting_touches (setting tasks cookie)) (state_numbers old)
  pub stays : StaysBut cookie old new
