use Rattle.std.proofs.Common.{arith, length-drop}
use Rattle.cs_outside.proofs.Written.{Appends_rest}
use Rattle.cs_outside.proofs.gathered.give.Goals as goal

pub loop-given-preserved : goal.loop-given-preserved
loop-given-preserved g c = record {
  within = omega (arith, c.in-Ok.ensures.within, length-drop c.loop-given.given c.args.bytes.now);
  given = Appends_rest _ _ _ c.args.bytes.now c.loop-given.given c.in-Ok.count c.loop-given.invariant.given c.in-Ok.ensures.appended;
}
