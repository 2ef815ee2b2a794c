use Rattle.std.proofs.Common.{arith}
use Rattle.scenario_text.proofs.Users.{users_few}
use Rattle.scenario_writer.proofs.version.line_after.Goals as goal

pub overflow_add-result : goal.overflow_add-result
overflow_add-result c = omega (arith, c.count_of.ensures, users_few 2 c.args.tasks.now)

pub overflow_add-result-2 : goal.overflow_add-result-2
overflow_add-result-2 c = omega (arith, c.count_of.ensures, users_few 2 c.args.tasks.now)

pub overflow_add-result-3 : goal.overflow_add-result-3
overflow_add-result-3 c = omega (arith, c.count_of.ensures, users_few 2 c.args.tasks.now)

pub overflow_cast-result : goal.overflow_cast-result
overflow_cast-result c = omega (arith, c.count_of.ensures, users_few 2 c.args.tasks.now)

pub returns : goal.returns
returns c = omega (arith, c.count_of.ensures)
