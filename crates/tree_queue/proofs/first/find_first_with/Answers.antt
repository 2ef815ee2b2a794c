use Rattle.std.proofs.Common.{List, Some, ap, sym, ◌∙◌}
use Rattle.std.specs.Prelude.{All, IfSome, option_copied}
use Rattle.std.specs.Option.{option_map}
use Rattle.cs_types.specs.declared.queue.Queued.{Queued}
use Rattle.cs_types.specs.declared.task.Task.{Task}
use Rattle.cs_types.specs.Queue.{queued_of}
use Rattle.core_lanes.proofs.Lists.{All-find}
use Rattle.tree_queue.specs.Held.{first_among, IsInBut}
use Rattle.core_lanes.proofs.Queues.{none_of}
use Rattle.tree_queue.proofs.Firsts.{told_first, found_first_by, first_known, first_in}
use Rattle.tree_queue.proofs.first.find_first_with.Goals as goal

-- the first is known where each is
known : (tasks : List Task) (task : Queued) (queued : List Queued) → All (IsInBut tasks task) queued → IfSome (first_among queued) (IsInBut tasks task)
known tasks task queued each = All-find (IsInBut tasks task) _ queued each

pub returns-in_err-pid-clause-first : goal.returns-in_err-pid-clause-first
returns-in_err-pid-clause-first g c tasks same each =
    c.from_residual.ensures ∙ none_of (λ (task : Queued). task.pid) (first_among tasks) (sym c.in_err-pid.was ∙ told_first _ _ tasks c.first.ensures.first same)

pub returns-then-pid-task-clause-first : goal.returns-then-pid-task-clause-first
returns-then-pid-task-clause-first g c tasks same each =
    first_known c.args.table.now.tasks c.args.task c.in_ok-pid.pid (first_among tasks) (known c.args.table.now.tasks c.args.task tasks each)
    (sym c.in_ok-pid.was ∙ told_first _ _ tasks c.first.ensures.first same) c.if-pid-task.true

pub returns-in_err-other-clause-first : goal.returns-in_err-other-clause-first
returns-in_err-other-clause-first g c tasks same each =
    let told = sym c.in_ok-pid.was ∙ told_first _ _ tasks c.first.ensures.first same in
    c.from_residual-in_err-other.ensures
    ∙ ap (option_map queued_of) (ap option_copied (sym c.in_err-other.was) ∙ c.find.ensures.task)
    ∙ found_first_by c.args.table.now.tasks c.in_ok-pid.pid (first_among tasks)
    (first_in c.args.table.now.tasks c.args.task c.in_ok-pid.pid (first_among tasks) (known c.args.table.now.tasks c.args.task tasks each) told c.if-pid-task.false) told

pub returns-clause-first : goal.returns-clause-first
returns-clause-first g c tasks same each =
    let told = sym c.in_ok-pid.was ∙ told_first _ _ tasks c.first.ensures.first same in
    ap Some c.queued_of.ensures
    ∙ ap (option_map queued_of) (ap option_copied (sym c.in_ok-other.was) ∙ c.find.ensures.task)
    ∙ found_first_by c.args.table.now.tasks c.in_ok-pid.pid (first_among tasks)
    (first_in c.args.table.now.tasks c.args.task c.in_ok-pid.pid (first_among tasks) (known c.args.table.now.tasks c.args.task tasks each) told c.if-pid-task.false) told
