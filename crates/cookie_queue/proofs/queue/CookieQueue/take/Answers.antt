use Rattle.std.proofs.Common.{ap, sym, ◌∙◌}
use Rattle.std.specs.Prelude.{is_some}
use Rattle.std.specs.FinMap as fin
use Rattle.cs_types.specs.Queue.{spot_of}
use Rattle.cookie_queue.proofs.Cookies.{get-tasks_of, tasks_of-remove, len-tasks_of}
use Rattle.cookie_queue.proofs.queue.CookieQueue.take.Goals as goal

pub returns-clause-found : goal.returns-clause-found
returns-clause-found g c =
    rw (← c.self.view_is)
    (c.remove.ensures.found ∙ ap (λ key. fin.contains_key c.self.inside.tree.members key) c.key_of.ensures
    ∙ ap is_some (sym (get-tasks_of c.self.inside.tree.members (spot_of c.args.task.now))))

pub returns-clause-tasks : goal.returns-clause-tasks
returns-clause-tasks g c =
    rw (← c.self.view_is)
    (tasks_of-remove c.self.inside.tree.members c.remove.new.self.members (spot_of c.args.task.now)
    (c.remove.ensures.members ∙ ap (λ key. fin.remove c.self.inside.tree.members key) c.key_of.ensures))

pub returns-clause-counted : goal.returns-clause-counted
returns-clause-counted g c = rw (← c.self.view_is, len-tasks_of c.self.inside.tree.members) c.remove.ensures.counted
