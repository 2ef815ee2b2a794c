use Rattle.std.proofs.Common.{◌≡◌, ◌∙◌, Some, ap, sym, subst}
use Rattle.std.specs.Prelude.{find, option_copied}
use Rattle.std.proofs.lemmas.Bool.{eqb-true}
use Rattle.cs_types.specs.Room.{has_pid}
use Rattle.cs_types.proofs.Foremost.{find_passes}
use Rattle.fork_inherit.proofs.ending.end.Goals as goal

-- what was found by the pid has it
pub has_threads-requires : goal.has_threads-requires
has_threads-requires c =
    let pid = c.args.pid in
    let tasks = c.args.table.now.tasks in
    let task = c.unwrap-task.result.now in
    let found : find (has_pid pid) tasks ≡ Some task = sym c.find.ensures.task ∙ ap option_copied c.unwrap-task.ensures in
    subst (λ n. find (has_pid n) tasks ≡ Some task) (sym (eqb-true task.spec.pid pid (find_passes (has_pid pid) tasks task found))) found
