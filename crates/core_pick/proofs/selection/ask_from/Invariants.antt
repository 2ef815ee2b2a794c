use Rattle.std.proofs.Common.{◌≡◌, ℕ, ◌+◌, ◌-◌, ◌*◌, ◌<◌, ◌≤◌, ◌++◌, List}
use Rattle.std.specs.List.{range_with_len}
use Rattle.core_lanes.specs.Lanes.{Beside, room_of, AreNoLonger}
use Rattle.core_pick.specs.Choice.{lead_in}
use Rattle.core_pick.specs.Questions.{IsNoted}
use Rattle.core_pick.proofs.selection.ask_from.Given as goal

abbrev pub invariant-loop-cpu : goal.invariant-loop-cpu
invariant-loop-cpu g l = record {
  noted : (beside : Beside) (cpu : ℕ) → l.from ≤ cpu → cpu < l.cpu → IsNoted (room_of beside (l.core, l.table)) l.firsts cpu;
  kept : (beside : Beside) (cpu : ℕ) → IsNoted (room_of beside (l.core, l.table)) l.fn.firsts cpu → IsNoted (room_of beside (l.core, l.table)) l.firsts cpu;
  leads : (beside : Beside) (order : List ℕ) → let room = room_of beside (l.core, l.table) in
      l.fn.before ≡ lead_in room order → l.lead ≡ lead_in room (order ++ range_with_len l.from (l.cpu - l.from));
  asked : (longest : ℕ) → AreNoLonger longest (l.core, l.table) → l.comparisons ≤ l.fn.comparisons + (l.cpu - l.from) * g.Q.SiblingQueue.most_compared longest;
}
