use Rattle.std.proofs.Common.{◌≡◌, ◌∙◌, sym}
use Rattle.std.specs.Prelude.{find, Option, Some, None, IfSome}
use Rattle.cs_types.specs.declared.task.Task.{Task}
use Rattle.cs_types.specs.Room.{has_pid}
use Rattle.cs_laws.proofs.Tasks.{found_again}
use Rattle.core_lanes.specs.Queued.{IsOf}
use Rattle.core_lanes.proofs.lanes.task_of.Goals as goal

pub returns-clause-there : goal.returns-clause-there
returns-clause-there c = go c.copied.result (c.copied.ensures ∙ c.find.ensures.task) where
  go : (found : Option Task) → found ≡ find (has_pid c.args.pid) c.args.table.now.tasks → IfSome found (IsOf c.args.table.now.tasks)
  go None is = tt
  go (Some task) is = found_again c.args.pid c.args.table.now.tasks task (sym is)
