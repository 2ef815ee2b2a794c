use Rattle.std.proofs.Common.{◌≡◌, ◌+◌, ◌*◌, ◌≤◌, List, length}
use Rattle.cs_types.specs.Room.{Interval}
use Rattle.cs_types.specs.Prctl.{set_cookies}
use Rattle.cs_types.specs.Touches.{setting_touches}
use Rattle.task_table.specs.Group.{group_above}
use Rattle.core_lanes.specs.Numbers.{touched}
use Rattle.core_tasks.specs.State.{both, room_with, StaysBut, state_numbers}
use Rattle.core_tasks.specs.Cookies.{setting}
use Rattle.core_lanes.specs.Lanes.{RunTheirOwn}
use Rattle.core_tasks.proofs.state.State.set_group.Given as goal

abbrev pub invariant-loop : goal.invariant-loop
invariant-loop g l =
    let left = group_above l.group l.after l.self.tasks.tasks in
    let all = group_above l.group 0 l.initial.self.tasks.tasks in
    let most = g.Q.SiblingQueue.most_compared (length l.initial.self.tasks.tasks) in
    record {
      stays : StaysBut l.cookie l.initial.self l.self;
      own : RunTheirOwn (both l.self);
      room : (intervals : List Interval) → set_cookies (room_with intervals l.self) (setting left l.cookie) ≡ set_cookies (room_with intervals l.initial.self) (setting all l.cookie);
      numbers : touched (setting_touches (setting left l.cookie)) (state_numbers l.self) ≡ touched (setting_touches (setting all l.cookie)) (state_numbers l.initial.self);
      compared : l.comparisons + length left * most ≤ l.fn.comparisons + length all * most;
      left : length left + l.counter ≤ l.end;
    }
