use Rattle.std.proofs.Common.{◌+◌, ◌*◌, ◌≤◌, length}
use Rattle.cs_types.specs.Order.{goes_before}
use Rattle.cs_types.specs.Steal.{may_steal}
use Rattle.core_lanes.specs.Lanes.{lane_state}
use Rattle.cookie_steal.proofs.Enumerated.{IsLeft, to_go}
use Rattle.cookie_steal.proofs.Candidates.{candidates}
use Rattle.cookie_steal.proofs.search.first_to_steal.Given as goal

abbrev pub invariant-loop-next : goal.invariant-loop-next
invariant-loop-next g l =
    let all = candidates l.core.cookie l.source l.table.tasks in
    let most = g.Q.SiblingQueue.most_compared (length l.table.tasks) in
    record {
      left : IsLeft goes_before all (may_steal (lane_state l.idle) (lane_state l.from)) l.next;
      compared : l.comparisons + to_go goes_before all l.next * most ≤ l.fn.comparisons + (length l.table.tasks + 1) * most;
    }

abbrev pub decreases-loop-next : goal.decreases-loop-next
decreases-loop-next g l = to_go goes_before (candidates l.core.cookie l.source l.table.tasks) l.next
