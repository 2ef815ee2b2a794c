use Rattle.std.proofs.Common.{◌≡◌, None, ap, ◌∙◌, arith}
use Rattle.std.specs.FinMap as fin
use Rattle.cs_types.specs.Queue.{Seats, seat_of}
use Rattle.cs_types.proofs.Queues.{seat_total, seat_cmp-IsAntisymmetric}
use Rattle.run_queue.proofs.Ties.{most_comparisons-cookies, has-insert, longer-insert, IsTied-plain}
use Rattle.run_queue.proofs.queue.RunQueue.enqueue.Goals as goal

pub invariant_of-self : goal.invariant_of-self
invariant_of-self g c =
    let free : fin.get c.self.inside.classes.tasks (seat_of c.args.task) ≡ None = rw (← c.self.view_is) at c.requires.free in
    let tasks = ap fin.len c.enqueue.ensures.tasks ∙ longer-insert seat_total seat_cmp-IsAntisymmetric c.self.inside.classes.tasks (seat_of c.args.task) c.args.task.pid free in
    let fits = c.self.invariant.fits in
    let spare = c.enqueue.ensures.spare in record {
      fits = omega arith;
      tied = rw c.enqueue.ensures.tasks
          (IsTied-plain c.self.inside.classes.tasks c.self.inside.cookies.tasks c.self.invariant.tied (seat_of c.args.task) c.args.task.pid free);
    }

pub enter_cookies-requires-clause-there : goal.enter_cookies-requires-clause-there
enter_cookies-requires-clause-there g c =
    ap (λ (tasks : Seats). fin.contains_key tasks (seat_of c.args.task)) c.enqueue.ensures.tasks
    ∙ has-insert seat_total seat_cmp-IsAntisymmetric c.self.inside.classes.tasks (seat_of c.args.task) c.args.task.pid

pub returns-clause-counted : goal.returns-clause-counted
returns-clause-counted g c =
    let most = most_comparisons-cookies c.self.inside.classes.tasks c.self.inside.cookies.tasks c.self.invariant.tied in
    rw (← c.self.view_is) (omega (arith, c.enqueue.ensures.counted, c.enter_cookies.ensures.few))
