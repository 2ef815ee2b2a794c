use Rattle.std.proofs.Common.{◌≡◌, ℕ, map, take}
use Rattle.core_lanes.proofs.told.tell_by_stamp.Given as goal

abbrev pub invariant-loop-place : goal.invariant-loop-place
invariant-loop-place l = record {
  told : take l.place l.movers ≡ map (λ (task : ℕ × ℕ). task.1) (take l.place l.tasks);
}
