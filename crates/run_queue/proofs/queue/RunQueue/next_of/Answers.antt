use Rattle.std.proofs.Common.{arith}
use Rattle.run_queue.proofs.Ties.{most_comparisons-cookies}
use Rattle.run_queue.proofs.queue.RunQueue.next_of.Goals as goal

pub returns-clause-model : goal.returns-clause-model
returns-clause-model g c =
    rw (← c.self.view_is) c.next_of.ensures.model

pub returns-clause-counted : goal.returns-clause-counted
returns-clause-counted g c =
    let most = most_comparisons-cookies c.self.inside.classes.tasks c.self.inside.cookies.tasks c.self.invariant.tied in
    rw (← c.self.view_is) (omega (arith, c.next_of.ensures.counted))
