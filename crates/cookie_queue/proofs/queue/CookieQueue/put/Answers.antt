use Rattle.std.proofs.Common.{ap, sym, ◌∙◌}
use Rattle.std.specs.FinMap as fin
use Rattle.cs_types.specs.Queue.{spot_of}
use Rattle.cookie_queue.proofs.Cookies.{get-tasks_of, tasks_of-insert, len-tasks_of}
use Rattle.cookie_queue.proofs.queue.CookieQueue.put.Goals as goal

pub insert-requires-clause-free : goal.insert-requires-clause-free
insert-requires-clause-free g c =
    ap (fin.get c.self.inside.tree.members) c.key_of.ensures
    ∙ sym (get-tasks_of c.self.inside.tree.members (spot_of c.args.task)) ∙ (rw (← c.self.view_is) at c.requires.free)

pub returns-clause-tasks : goal.returns-clause-tasks
returns-clause-tasks g c =
    rw (← c.self.view_is)
    (tasks_of-insert c.self.inside.tree.members c.insert.new.self.members (spot_of c.args.task) c.args.task.pid
    (c.insert.ensures.members ∙ ap (λ key. fin.insert c.self.inside.tree.members key c.args.task.pid) c.key_of.ensures))

pub returns-clause-counted : goal.returns-clause-counted
returns-clause-counted g c = rw (← c.self.view_is, len-tasks_of c.self.inside.tree.members) c.insert.ensures.counted
