-- Ready: what an event asks of a state.
use Rattle.std.specs.Prelude.{ℕ, ◌+◌, ◌*◌, ◌^◌, ◌<◌, List, [], length, All, IfSome}
use Rattle.cs_types.specs.Scenario.{IsEvent}
use Rattle.cs_types.specs.declared.event.Event.{Event}
use Rattle.cs_types.specs.Room.{Interval, sibling_of}
use Rattle.cs_laws.proofs.Timely.{IsTimely}
use Rattle.core_lanes.specs.declared.queue.SiblingQueue.{Ghosts}
use Rattle.core_lanes.specs.Charges.{IsPaid}
use Rattle.core_pick.specs.Schedules.{own_of}
use Rattle.core_lanes.specs.Lanes.{RunTheirOwn}
use Rattle.core_tasks.specs.declared.state.State.{State}
use Rattle.core_tasks.specs.State.{both, room_with, state_numbers, IsSound}

-- the times of the state keep their bounds, and its clock is so low that no time overflows, even after one more
-- advance, in a history of fewer than 2^17 entries
pub record IsOnTime {Q G : Type 0} {g : Ghosts Q} (state : State Q G g) : Type 0 where
  pub entries : ℕ
  pub few : entries < 2 ^ 17
  pub timely : (intervals : List Interval) → IsTimely entries (room_with intervals state)
  pub clock : state.clock + 1000000000 < 2 ^ 56

-- what an event may use up: touches, stamps, a cookie's serial, a pid, a place among the ended, a balance place, and of
-- each guard's count
pub record HasSpares {Q G : Type 0} {g : Ghosts Q} (state : State Q G g) : Type 0 where
  pub touches : state.core.task_number + 2 * length state.tasks.tasks + 2 < 2 ^ 64
  pub stamps : state.core.next_stamp + length state.tasks.tasks + 1 < 2 ^ 64
  pub serial : state.refs.next < 2 ^ 63
  pub pid : state.next_pid + 1 < 2 ^ 32
  pub ended : length state.ended.items < state.ended.room
  pub places : All (λ lane. lane.place + 1 < 2 ^ 32) state.core.lanes.items
  pub asked : All (λ guard. guard.asked < 2 ^ 62) state.guards.guards.all

-- a state may take an event; while something waits for a sibling, its own number is below the pick number
pub record IsReady {Q G : Type 0} {g : Ghosts Q} (state : State Q G g) : Type 0 where
  pub sound : IsSound state
  pub time : IsOnTime state
  pub paid : IsPaid state.clock (both state)
  pub own : RunTheirOwn (both state)
  pub behind : (cpu : ℕ) → cpu < length state.core.lanes.items →
      IfSome (sibling_of (room_with [] state) cpu).waiting (λ run. own_of cpu (state_numbers state) < (state_numbers state).pick)
  pub spares : HasSpares state

-- it may take an event of this sibling
pub record IsReadyAt {Q G : Type 0} {g : Ghosts Q} (here : ℕ) (state : State Q G g) : Type 0 where
  pub cpu : here < length state.core.lanes.items
  pub ready : IsReady state

-- it may take this event
pub record IsReadyFor {Q G : Type 0} {g : Ghosts Q} (made : Event) (state : State Q G g) : Type 0 where
  pub event : IsEvent (length state.core.lanes.items) made
  pub ready : IsReady state
