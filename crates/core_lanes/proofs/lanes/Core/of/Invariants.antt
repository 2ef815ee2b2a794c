use Rattle.std.proofs.Common.{◌≡◌, ℕ, ◌≤◌, Some, []}
use Rattle.std.specs.Prelude.{slice_get, length, replicate, map}
use Rattle.cs_types.specs.Room.{idle}
use Rattle.core_lanes.specs.Lanes.{lane_state}
use Rattle.core_lanes.proofs.Stays.{number_of, queue_of}
use Rattle.core_lanes.proofs.lanes.Core.of.Given as goal

abbrev pub invariant-loop : goal.invariant-loop
invariant-loop g l = record {
  some : length l.lanes.items ≤ l.siblings;
  spare : l.siblings ≤ l.lanes.room;
  counted : length l.lanes.items ≡ l.counter;
  states : map lane_state l.lanes.items ≡ replicate (length l.lanes.items) idle;
  numbers : map number_of l.lanes.items ≡ replicate (length l.lanes.items) 0;
  held : (cpu : ℕ) (queue : _) → slice_get (map queue_of l.lanes.items) cpu ≡ Some queue → g.Q.SiblingQueue.holds queue l.tasks [];
}
