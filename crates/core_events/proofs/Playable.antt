-- Playable: what follows from the limits of a scenario that can be played, and that a machine's can be.
use Rattle.std.proofs.Common.{◌≡◌, ◌≤◌, subst, arith}
use Rattle.std.proofs.lemmas.Nat.{mul-le}
use Rattle.std.proofs.lemmas.List.Elements.{All-weaker}
use Rattle.cs_types.specs.declared.scenario.Scenario.{Scenario}
use Rattle.cs_types.specs.Scenario.{IsTask, IsPlayable}
use Rattle.cs_types.specs.Room.{first_pid}
use Rattle.cs_laws.proofs.Tasks.{first_pid-le}
use Rattle.cs_types.specs.History.{AreEvents, history_of}
use Rattle.core_lanes.specs.declared.queue.SiblingQueue.{Ghosts}
use Rattle.core_events.specs.Machine.{Machine}
use Rattle.core_events.specs.Inside.{opening_of, machine_of, most_entries, IsFold}
use Rattle.core_events.specs.declared.room.CoreRoom.TheInside.{Inside}

-- the entries that a machine may make are few
pub most_entries-le : (scenario : Scenario) → IsPlayable scenario → most_entries scenario ≤ 100256
most_entries-le scenario playable =
    omega (arith, playable.few_steps, mul-le scenario.siblings scenario.siblings 16 16 playable.siblings.1 playable.siblings.1)

-- and the first pid for a child is low
pub first_pid-low : (scenario : Scenario) → IsPlayable scenario → first_pid scenario.tasks ≤ 10000
first_pid-low scenario playable =
    first_pid-le 9999 scenario.tasks (All-weaker (IsTask scenario.siblings) (λ spec. spec.pid ≤ 9999) (λ spec task. task.pid.1) scenario.tasks playable.tasks)

-- ---- of a machine

-- its scenario can be played, and what the events of its history name keeps its limits
pub playable_of : {Q G : Type 0} {g : Ghosts Q} (a : Inside Q G g) (invariant : IsFold a) (m : Machine) → machine_of a ≡ m → IsPlayable m.opening.scenario
playable_of a invariant m view_is = subst (λ (other : Machine). IsPlayable other.opening.scenario) view_is invariant.playable

pub events_of : {Q G : Type 0} {g : Ghosts Q} (a : Inside Q G g) (invariant : IsFold a) (m : Machine) → machine_of a ≡ m → AreEvents m.opening (history_of m.opening m.steps)
events_of a invariant m view_is =
    subst (λ (other : Machine). AreEvents other.opening (history_of other.opening other.steps)) view_is
    (subst (AreEvents (opening_of a)) invariant.history invariant.events)
