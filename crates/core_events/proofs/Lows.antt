-- Lows: low times stay low where a task goes to sleep or ends, and its sibling runs idle.
use Rattle.std.proofs.Common.{ℕ, false, ◌^◌, ◌<◌, List, [], ◌∷◌, get_or, arith, zero, suc}
use Rattle.std.specs.Prelude.{All, None, not}
use Rattle.std.proofs.lemmas.List.Elements.{All-set, All-head, All-tail, All-filter}
use Rattle.cs_types.specs.declared.task.Task.{Task}
use Rattle.cs_types.specs.Room.{RoomState, SiblingState, absent, has_pid, sibling_of}
use Rattle.cs_types.specs.Queueing.{dequeue}
use Rattle.cs_types.specs.Step.{run_idle, without}
use Rattle.core_lanes.specs.Lanes.{AreLow}
use Rattle.core_lanes.proofs.Replaced.{All-replaced}

-- the times of a room
abbrev pub HasLow : RoomState → Type 0
HasLow room = AreLow room.siblings room.tasks

-- what holds of each sibling, and of none, holds of the one at a place
at_place : (P : SiblingState → Type 0) (siblings : List SiblingState) (cpu : ℕ) → P absent → All P siblings → P (get_or siblings cpu absent)
at_place P [] cpu none all = none
at_place P (s ∷ siblings) zero none all = All-head P s siblings all
at_place P (s ∷ siblings) (suc cpu) none all = at_place P siblings cpu none (All-tail P s siblings all)

pub low_idled : (room : RoomState) (cpu : ℕ) → HasLow room → HasLow (run_idle room cpu)
low_idled room cpu low =
    let none : 0 < 2 ^ 100 = omega arith in
    let idle : SiblingState = record (sibling_of room cpu) { run = None } in
    record {
      vtimes = low.vtimes;
      leasts = All-set (λ (s : SiblingState). s.least < 2 ^ 100) room.siblings cpu idle (at_place (λ (s : SiblingState). s.least < 2 ^ 100) room.siblings cpu none low.leasts) low.leasts;
      snapshots = All-set (λ (s : SiblingState). s.snapshot < 2 ^ 100) room.siblings cpu idle (at_place (λ (s : SiblingState). s.snapshot < 2 ^ 100) room.siblings cpu none low.snapshots) low.snapshots;
    }

pub low_dequeued : (room : RoomState) (task : Task) → task.vtime < 2 ^ 100 → HasLow room → HasLow (dequeue room task)
low_dequeued room task here low = record {
  vtimes = All-replaced (λ (t : Task). t.vtime < 2 ^ 100) (record task { queued = false }) room.tasks here low.vtimes;
  leasts = low.leasts;
  snapshots = low.snapshots;
}

pub low_without : (room : RoomState) (task : Task) → HasLow room → HasLow (without room task)
low_without room task low = record {
  vtimes = All-filter (λ (other : Task). not (has_pid task.spec.pid other)) (λ (t : Task). t.vtime < 2 ^ 100) room.tasks low.vtimes;
  leasts = low.leasts;
  snapshots = low.snapshots;
}
