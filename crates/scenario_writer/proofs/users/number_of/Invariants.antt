use Rattle.std.proofs.Common.{◌≡◌, ◌≤◌, false, take}
use Rattle.std.specs.List.{list_any}
use Rattle.cs_types.specs.Scenario.{is_user}
use Rattle.scenario_writer.proofs.Counted.{creds_of, counted}
use Rattle.scenario_writer.proofs.users.number_of.Given as goal

abbrev pub invariant-loop-place : goal.invariant-loop-place
invariant-loop-place l = record {
  numbered : l.before ≡ counted l.tasks l.place;
  small : l.before ≤ l.place;
  new : list_any (is_user l.creds) (creds_of (take l.place l.tasks)) ≡ false;
}
