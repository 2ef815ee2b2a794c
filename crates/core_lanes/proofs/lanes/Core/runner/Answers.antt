use Rattle.std.proofs.Common.{◌≡◌, ◌∙◌, Bor, ap, sym}
use Rattle.std.specs.Prelude.{find, Option, Some, None, IfSome, option_and_then, option_copied}
use Rattle.cs_types.specs.declared.task.Task.{Task}
use Rattle.cs_types.specs.Room.{SiblingState, has_pid, task_of}
use Rattle.cs_laws.proofs.Tasks.{found_again}
use Rattle.core_lanes.specs.Lanes.{room_of}
use Rattle.core_lanes.specs.Queued.{IsOf}
use Rattle.core_lanes.proofs.Stays.{lane_at}
use Rattle.core_lanes.proofs.lanes.Core.runner.Goals as goal

pub returns-clause-there : goal.returns-clause-there
returns-clause-there g c = go c.find.result c.find.ensures.task where
  go : (found : Option (Bor Task)) → option_copied found ≡ find (has_pid c.in_ok-index.field-0) c.args.table.now.tasks → IfSome found (λ task. IsOf c.args.table.now.tasks task.now)
  go None is = tt
  go (Some task) is = found_again c.in_ok-index.field-0 c.args.table.now.tasks task.now (sym is)

pub returns-clause-task : goal.returns-clause-task
returns-clause-task g c beside =
    let at = lane_at c.args.self.now.lanes.items c.args.cpu c.index.result.now c.requires c.index.ensures in
    c.find.ensures.task ∙ ap (option_and_then (task_of (room_of beside (c.args.self.now, c.args.table.now)))) (sym (ap (λ (s : SiblingState). s.run) at ∙ c.in_ok-index.was))
