use Rattle.std.proofs.Common.{ap, ◌∙◌}
use Rattle.cookie_queue.specs.Inside.{with_cookie}
use Rattle.cookie_queue.proofs.Cookies.{first_with-map_renamed, len-tasks_of}
use Rattle.cookie_queue.proofs.Asked.{first_with-spotted}
use Rattle.cookie_queue.proofs.queue.CookieQueue.first_of.Goals as goal

pub returns-clause-first : goal.returns-clause-first
returns-clause-first g c =
    rw (← c.self.view_is)
    (c.queued_with.ensures ∙ ap (with_cookie c.args.cookie) c.first_in.ensures.first ∙ first_with-map_renamed c.self.inside.tree.members c.args.cookie)

pub returns-clause-model : goal.returns-clause-model
returns-clause-model g c tasks same low some =
    returns-clause-first g c ∙ first_with-spotted tasks (c.args.self.now.tasks) same low c.args.cookie some

pub returns-clause-counted : goal.returns-clause-counted
returns-clause-counted g c = rw (← c.self.view_is, len-tasks_of c.self.inside.tree.members) c.first_in.ensures.counted
