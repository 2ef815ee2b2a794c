use Rattle.std.proofs.Common.{◌≡◌, ℕ, None, sym, ap, ◌∙◌, arith}
use Rattle.std.specs.Prelude.{IsTrue}
use Rattle.std.specs.FinMap as fin
use Rattle.cs_types.specs.Queue.{RunQueued, seat_of, spot_of}
use Rattle.cs_types.proofs.Queues.{spot_total, spot_cmp-IsAntisymmetric}
use Rattle.run_queue.proofs.Ties.{len-lt, most_comparisons-cookies, longer-insert, IsTied-including, including-some, including-none}
use Rattle.run_queue.specs.Run.{including}
use Rattle.run_queue.proofs.queue.RunQueue.enter_cookies.Goals as goal

pub put-requires-clause-spare : goal.put-requires-clause-spare
put-requires-clause-spare g c =
    let seat = seat_of c.args.task in
    let free : (cookie : ℕ) → fin.get c.self.inside.cookies.tasks (cookie, seat) ≡ None = rw (← c.self.view_is) at c.requires.free in
    let there : IsTrue (fin.contains_key c.self.inside.classes.tasks seat) = rw (← c.self.view_is) at c.requires.there in
    let few = len-lt c.self.inside.classes.tasks c.self.inside.cookies.tasks seat c.self.invariant.tied free there in
    let fits = c.self.invariant.fits in
    omega arith

pub invariant_of-self : goal.invariant_of-self
invariant_of-self g c =
    let seat = seat_of c.args.task in
    let free : (cookie : ℕ) → fin.get c.self.inside.cookies.tasks (cookie, seat) ≡ None = rw (← c.self.view_is) at c.requires.free in
    let there : IsTrue (fin.contains_key c.self.inside.classes.tasks seat) = rw (← c.self.view_is) at c.requires.there in
    let cookies = ap fin.len c.put.ensures.tasks
    ∙ longer-insert spot_total spot_cmp-IsAntisymmetric c.self.inside.cookies.tasks (spot_of c.args.task) c.args.task.pid (free c.args.task.cookie) in
    let fits = c.self.invariant.fits in
    let left = c.put.ensures.spare in record {
      fits = omega arith;
      tied = rw c.put.ensures.tasks
          (IsTied-including c.self.inside.classes.tasks c.self.inside.cookies.tasks seat c.self.invariant.tied free there c.args.task.pid c.args.task.cookie c.if-task-ne0.true);
    }

pub returns-then-task-ne0-clause-counted : goal.returns-then-task-ne0-clause-counted
returns-then-task-ne0-clause-counted g c =
    let most = most_comparisons-cookies c.self.inside.classes.tasks c.self.inside.cookies.tasks c.self.invariant.tied in
    rw (← c.self.view_is) (omega (arith, c.put.ensures.counted))

pub returns-then-task-ne0-clause-cookies : goal.returns-then-task-ne0-clause-cookies
returns-then-task-ne0-clause-cookies g c =
    c.put.ensures.tasks ∙ sym (including-some c.args.task c.self.inside.cookies.tasks c.if-task-ne0.true)
    ∙ ap (λ (q : RunQueued). including c.args.task q.cookies) c.self.view_is

pub returns-else-task-ne0-clause-cookies : goal.returns-else-task-ne0-clause-cookies
returns-else-task-ne0-clause-cookies g c = sym (including-none c.args.task c.args.self.now.cookies c.if-task-ne0.false)
