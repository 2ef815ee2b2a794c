use Rattle.std.proofs.Common.{◌≡◌, ℕ, ◌++◌, map, take, drop}
use Rattle.std.specs.List.{enumerate_from}
use Rattle.cs_types.specs.Room.{RoomState}
use Rattle.cs_laws.proofs.Selections.{numbered_after_selection}
use Rattle.task_table.specs.Table.{IsSound as IsTable}
use Rattle.core_lanes.specs.Lanes.{lane_state}
use Rattle.core_pick.specs.Choice.{IsPlan, kept_in_selection}
use Rattle.core_pick.proofs.Remembered.{hits, remembering}
use Rattle.core_pick.proofs.choice.update.Given as goal

abbrev pub invariant-loop-cpu : goal.invariant-loop-cpu
invariant-loop-cpu g l =
    let before = map lane_state l.initial.lanes in
    record {
      states : (room : RoomState) (core : ℕ) → room.siblings ≡ before → IsPlan room core l.choices l.occupation l.renews →
          map lane_state l.lanes ≡ map (numbered_after_selection room core l.selector) (enumerate_from 0 (take l.cpu before)) ++ drop l.cpu before;
      own : map kept_in_selection l.lanes ≡ map kept_in_selection l.initial.lanes;
      sound : IsTable l.tasks;
      so_far : (room : RoomState) (core : ℕ) → room.siblings ≡ before → IsPlan room core l.choices l.occupation l.renews →
          l.tasks ≡ record l.initial.tasks { tasks = map (remembering (hits room core) l.occupation l.cpu) l.initial.tasks.tasks };
    }
