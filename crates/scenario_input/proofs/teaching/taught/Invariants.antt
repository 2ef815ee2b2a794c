use Rattle.std.proofs.Common.{◌≡◌, [], take, drop, map}
use Rattle.cs_types.specs.Guards.{guards_on_bench}
use Rattle.std.specs.Prelude.{length}
use Rattle.scenario_input.proofs.FirstBad.{first_bad_after}
use Rattle.scenario_input.proofs.teaching.taught.Given as goal

abbrev pub invariant-loop-line : goal.invariant-loop-line
invariant-loop-line g l =
    let each = map g.G.Guard.cap l.fn.list.items in
    record {
      caps : l.guards.caps ≡ each;
      guards : l.guards.guards ≡ guards_on_bench (take l.line-index l.teaches) (length each);
      rest : first_bad_after each [] l.teaches ≡ first_bad_after each (take l.line-index l.teaches) (drop l.line-index l.teaches);
    }
