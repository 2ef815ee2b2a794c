use Rattle.std.proofs.Common.{arith}
use Rattle.run_queue.proofs.Ties.{len-le}
use Rattle.run_queue.proofs.queue.RunQueue.reserve.Goals as goal

-- no more tasks have a cookie than there are
pub overflow_sub-limit : goal.overflow_sub-limit
overflow_sub-limit c =
    let few = len-le c.self.inside.classes.tasks c.self.inside.cookies.tasks c.self.invariant.tied in
    omega (arith, c.in-Some.ensures)
