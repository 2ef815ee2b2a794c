use Rattle.std.proofs.Common.{Some, ap, sym, ◌∙◌}
use Rattle.std.specs.Prelude.{option_copied}
use Rattle.std.specs.Option.{option_map}
use Rattle.cs_types.specs.declared.queue.Queued.{Queued}
use Rattle.cs_types.specs.Queue.{queued_of}
use Rattle.core_lanes.proofs.Lists.{All-find}
use Rattle.tree_queue.specs.Held.{first_among, IsIn}
use Rattle.core_lanes.proofs.Queues.{none_of}
use Rattle.tree_queue.proofs.Firsts.{told_first, found_first_by}
use Rattle.tree_queue.proofs.first.find_first.Goals as goal

pub returns-in_err-first-clause-first : goal.returns-in_err-first-clause-first
returns-in_err-first-clause-first g c tasks same each =
    c.from_residual.ensures ∙ none_of (λ (task : Queued). task.pid) (first_among tasks) (sym c.in_err-first.was ∙ told_first _ _ tasks c.first.ensures.first same)

pub returns-in_err-task-clause-first : goal.returns-in_err-task-clause-first
returns-in_err-task-clause-first g c tasks same each =
    c.from_residual-in_err-task.ensures
    ∙ ap (option_map queued_of) (ap option_copied (sym c.in_err-task.was) ∙ c.find.ensures.task)
    ∙ found_first_by c.args.table.now.tasks c.in_ok-first.field-0 (first_among tasks) (All-find (IsIn c.args.table.now.tasks) _ tasks each)
    (sym c.in_ok-first.was ∙ told_first _ _ tasks c.first.ensures.first same)

pub returns-clause-first : goal.returns-clause-first
returns-clause-first g c tasks same each =
    ap Some c.queued_of.ensures
    ∙ ap (option_map queued_of) (ap option_copied (sym c.in_ok-task.was) ∙ c.find.ensures.task)
    ∙ found_first_by c.args.table.now.tasks c.in_ok-first.field-0 (first_among tasks) (All-find (IsIn c.args.table.now.tasks) _ tasks each)
    (sym c.in_ok-first.was ∙ told_first _ _ tasks c.first.ensures.first same)
