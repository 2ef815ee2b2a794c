use Rattle.std.proofs.Common.{sym, ◌∙◌, arith}
use Rattle.run_queue.proofs.Runs.{most_comparisons-ranked_in}
use Rattle.run_queue.proofs.Fair.{first_in-joined}
use Rattle.run_queue.proofs.classes.Classes.first_fair.Goals as goal

pub returns-clause-first : goal.returns-clause-first
returns-clause-first g c =
    let queue = c.self.inside in
    rw (← c.self.view_is) (c.top.ensures.top ∙ sym (first_in-joined queue.stop.members queue.deadline.members queue.real_time.members queue.fair.members))

pub returns-clause-counted : goal.returns-clause-counted
returns-clause-counted g c =
    let most = most_comparisons-ranked_in c.self.inside 3 in
    rw (← c.self.view_is) (omega (arith, c.top.ensures.counted))
