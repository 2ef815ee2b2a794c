use Rattle.std.proofs.Common.{arith}
use Rattle.std.proofs.Math.Nat.{one-le-pow}
use Rattle.run_picture.proofs.unit.power_of_ten.Goals as goal

pub returns : goal.returns
returns c = omega (arith, c.pow.ensures, one-le-pow c.min.result 10 (omega arith))
