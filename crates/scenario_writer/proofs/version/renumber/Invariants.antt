use Rattle.std.proofs.Common.{◌≡◌, take, drop}
use Rattle.scenario_text.specs.Upgrade.{renumbered}
use Rattle.scenario_writer.proofs.version.renumber.Given as goal

abbrev pub invariant-loop-place : goal.invariant-loop-place
invariant-loop-place l = record {
  done : take l.place l.teaches ≡ renumbered l.first (take l.place l.fn.teaches);
  left : drop l.place l.teaches ≡ drop l.place l.fn.teaches;
}
