use Rattle.std.proofs.Common.{ap, ◌∙◌}
use Rattle.order_tree.specs.Order.{next_of}
use Rattle.cookie_queue.specs.Inside.{with_cookie}
use Rattle.cookie_queue.proofs.Cookies.{next_with-map_renamed, len-tasks_of}
use Rattle.cookie_queue.proofs.Asked.{next_with-spotted}
use Rattle.cookie_queue.proofs.queue.CookieQueue.next_of.Goals as goal

pub returns-clause-next : goal.returns-clause-next
returns-clause-next g c =
    rw (← c.self.view_is)
    (c.queued_with.ensures ∙ ap (with_cookie c.args.task.now.cookie) c.next.ensures.next
    ∙ ap (λ key. with_cookie c.args.task.now.cookie (next_of c.self.inside.tree.members key)) c.key_of.ensures
    ∙ next_with-map_renamed c.self.inside.tree.members c.args.task.now)

pub returns-clause-model : goal.returns-clause-model
returns-clause-model g c tasks above same low is low_above some =
    returns-clause-next g c ∙ next_with-spotted tasks (c.args.self.now.tasks) same low c.args.task.now above is low_above some

pub returns-clause-counted : goal.returns-clause-counted
returns-clause-counted g c = rw (← c.self.view_is, len-tasks_of c.self.inside.tree.members) c.next.ensures.counted
