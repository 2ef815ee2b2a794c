use Rattle.std.proofs.Common.{◌≡◌, ◌≤◌, ℕ, take}
use Rattle.std.specs.Prelude.{◌==◌}
use Rattle.std.specs.List.{list_any, filter_map}
use Rattle.arrayvec.specs.ArrayVec.{array_vec_len}
use Rattle.core_lanes.specs.Lanes.{lane_state}
use Rattle.core_lanes.specs.Account.{charged_for, Owes}
use Rattle.core_lanes.proofs.account.charge_tasks.Given as goal

abbrev pub invariant-loop-lane : goal.invariant-loop-lane
invariant-loop-lane g l = record {
  few : array_vec_len l.charged ≤ l.lane-index;
  among : (pid : ℕ) → list_any (λ one. one == pid) l.charged.items
      ≡ list_any (λ one. one == pid) (filter_map (λ lane. charged_for (lane_state lane)) (take l.lane-index l.core.lanes.items));
  owes : Owes l.charged.items l.share l.initial.table l.table;
}
