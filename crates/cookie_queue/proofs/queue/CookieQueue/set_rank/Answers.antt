use Rattle.std.proofs.Common.{refl, ap, sym, ◌∙◌}
use Rattle.std.specs.Prelude.{is_some}
use Rattle.std.specs.FinMap as fin
use Rattle.cs_types.specs.Queue.{Spots, spot_of}
use Rattle.order_tree.specs.Order.{Members}
use Rattle.order_tree.specs.declared.key.Key.{Key}
use Rattle.cookie_queue.specs.Inside.{key_at}
use Rattle.cookie_queue.proofs.Cookies.{get-tasks_of, tasks_of-insert, tasks_of-remove, len-tasks_of}
use Rattle.cookie_queue.proofs.queue.CookieQueue.set_rank.Goals as goal

pub set_rank-requires-clause-there : goal.set_rank-requires-clause-there
set_rank-requires-clause-there g c =
    ap (λ key. fin.contains_key c.self.inside.tree.members key) c.key_of.ensures
    ∙ ap is_some (sym (get-tasks_of c.self.inside.tree.members (spot_of c.args.task.now)))
    ∙ (rw (← c.self.view_is) at c.requires.there)

pub set_rank-requires-clause-free : goal.set_rank-requires-clause-free
set_rank-requires-clause-free g c =
    let members = c.self.inside.tree.members in
    let left : Members = fin.remove members (key_at (spot_of c.args.task.now)) in
    let spot = spot_of (record c.args.task.now { rank = c.args.rank }) in
    ap (λ (key : Key). fin.get (fin.remove members key) (record key { rank = c.args.rank })) c.key_of.ensures
    ∙ sym (get-tasks_of left spot)
    ∙ ap (λ (tasks : Spots). fin.get tasks spot) (tasks_of-remove members left (spot_of c.args.task.now) refl)
    ∙ (rw (← c.self.view_is) at c.requires.free)

pub returns-clause-tasks : goal.returns-clause-tasks
returns-clause-tasks g c =
    let members = c.self.inside.tree.members in
    let left : Members = fin.remove members (key_at (spot_of c.args.task.now)) in
    let spot = spot_of (record c.args.task.now { rank = c.args.rank }) in
    rw (← c.self.view_is)
    (tasks_of-insert left c.set_rank.new.self.members spot c.args.task.now.pid
    (c.set_rank.ensures.members ∙ ap (λ (key : Key). fin.insert (fin.remove members key) (record key { rank = c.args.rank }) c.args.task.now.pid) c.key_of.ensures)
    ∙ ap (λ (tasks : Spots). fin.insert tasks spot c.args.task.now.pid) (tasks_of-remove members left (spot_of c.args.task.now) refl))

pub returns-clause-spare : goal.returns-clause-spare
returns-clause-spare g c = rw (← c.self.view_is) c.set_rank.ensures.spare

pub returns-clause-counted : goal.returns-clause-counted
returns-clause-counted g c =
    let members = c.self.inside.tree.members in
    let left : Members = fin.remove members (key_at (spot_of c.args.task.now)) in
    rw (← c.self.view_is, ← tasks_of-remove members left (spot_of c.args.task.now) refl, len-tasks_of members, len-tasks_of left)
    (rw (c.key_of.ensures) at c.set_rank.ensures.counted)
