use Rattle.std.proofs.Common.{Bor, ◌≡◌, Some, None, sym}
use Rattle.std.specs.Prelude.{find, Option, IfSome, option_copied}
use Rattle.cs_types.specs.declared.task.Task.{Task}
use Rattle.cs_types.specs.Room.{has_pid}
use Rattle.cs_laws.proofs.Tasks.{found_again}
use Rattle.prctl_core.proofs.admitted.named_by.Goals as goal

pub returns-in-Ok-clause-there : goal.returns-in-Ok-clause-there
returns-in-Ok-clause-there c = go c.find.result c.find.ensures.task where
  go : (found : Option (Bor Task)) → option_copied found ≡ find (has_pid c.in-Ok.pid) c.args.table.now.tasks →
      IfSome found (λ task. find (has_pid task.now.spec.pid) c.args.table.now.tasks ≡ Some task.now)
  go None is = tt
  go (Some task) is = found_again c.in-Ok.pid c.args.table.now.tasks task.now (sym is)
