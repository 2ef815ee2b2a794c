use Rattle.std.proofs.Common.{◌≡◌, ◌≤◌}
use Rattle.scenario_writer.proofs.Counted.{counted}
use Rattle.scenario_writer.proofs.users.count_of.Given as goal

abbrev pub invariant-loop-place : goal.invariant-loop-place
invariant-loop-place l = record { numbered : l.count ≡ counted l.tasks l.place; small : l.count ≤ l.place }
