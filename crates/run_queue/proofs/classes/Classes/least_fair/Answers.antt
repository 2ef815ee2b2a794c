use Rattle.std.proofs.Common.{sym, ◌∙◌}
use Rattle.run_queue.proofs.Fair.{least_rank_in-joined}
use Rattle.run_queue.proofs.classes.Classes.least_fair.Goals as goal

pub returns-clause-least : goal.returns-clause-least
returns-clause-least g c =
    let queue = c.self.inside in
    rw (← c.self.view_is) (c.least_rank.ensures.least ∙ sym (least_rank_in-joined queue.stop.members queue.deadline.members queue.real_time.members queue.fair.members))
