use Rattle.std.proofs.Common.{sym, ◌∙◌}
use Rattle.cs_types.specs.Order.{first_of}
use Rattle.cs_types.specs.Queue.{queued_of}
use Rattle.core_lanes.proofs.Queues.{none_of, found_queued}
use Rattle.cookie_steal.proofs.Candidates.{candidates, first_there}
use Rattle.cookie_steal.proofs.search.first_with.Goals as goal

pub returns-in_err-first-clause-answer : goal.returns-in_err-first-clause-answer
returns-in_err-first-clause-answer g c =
    c.from_residual.ensures
    ∙ none_of queued_of (first_of (candidates c.args.cookie c.args.cpu c.args.table.now.tasks)) (sym c.in_err-first.was ∙ c.first_with.ensures.answer)

pub returns-clause-answer : goal.returns-clause-answer
returns-clause-answer g c =
    let tasks = c.args.table.now.tasks in
    c.task_of.ensures.task
    ∙ found_queued tasks c.in_ok-first.first (first_of (candidates c.args.cookie c.args.cpu tasks))
    (first_there c.args.cookie c.args.cpu tasks c.task_of.ensures.sound.rising)
    (sym c.in_ok-first.was ∙ c.first_with.ensures.answer)
