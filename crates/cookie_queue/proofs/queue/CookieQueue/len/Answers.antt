use Rattle.std.proofs.Common.{sym, ◌∙◌}
use Rattle.cookie_queue.proofs.Cookies.{len-tasks_of}
use Rattle.cookie_queue.proofs.queue.CookieQueue.len.Goals as goal

pub returns : goal.returns
returns g c = rw (← c.self.view_is) (c.len.ensures ∙ sym (len-tasks_of c.self.inside.tree.members))
