use Rattle.std.proofs.Common.{◌+◌, sym, ap, ◌∙◌}
use Rattle.cookie_queue.proofs.Cookies.{no_tasks, len-tasks_of}
use Rattle.cookie_queue.proofs.queue.CookieQueue.clear.Goals as goal

pub returns-clause-tasks : goal.returns-clause-tasks
returns-clause-tasks g c = no_tasks c.clear.new.self.members c.clear.ensures.members

pub returns-clause-spare : goal.returns-clause-spare
returns-clause-spare g c =
    rw (← c.self.view_is) (c.clear.ensures.spare ∙ ap (λ n. c.self.inside.tree.spare + n) (sym (len-tasks_of c.self.inside.tree.members)))
