use Rattle.std.proofs.Common.{◌≡◌, ◌+◌, ℕ, None, cond, ap, ◌∙◌, arith}
use Rattle.std.specs.FinMap as fin
use Rattle.cs_types.specs.Queue.{seat_of}
use Rattle.cs_types.proofs.Queues.{seat_total, seat_cmp-IsAntisymmetric}
use Rattle.run_queue.proofs.Ties.{shorter-remove, tied_others}
use Rattle.run_queue.proofs.queue.RunQueue.dequeue.Goals as goal

pub invariant_of-self : goal.invariant_of-self
invariant_of-self g c =
    let seat = seat_of c.args.task.now in
    let free : (cookie : ℕ) → fin.get c.self.inside.cookies.tasks (cookie, seat) ≡ None = rw (← c.self.view_is) at c.leave_cookies.ensures.free in
    let tasks = ap (λ b. fin.len c.dequeue.new.self.tasks + cond b 1 0) c.dequeue.ensures.found
    ∙ ap (λ n. n + cond (fin.contains_key c.self.inside.classes.tasks seat) 1 0) (ap fin.len c.dequeue.ensures.tasks)
    ∙ shorter-remove seat_total seat_cmp-IsAntisymmetric c.self.inside.classes.tasks seat in
    let fits = c.self.invariant.fits in
    let spare = c.dequeue.ensures.spare in record {
      fits = omega arith;
      tied = rw c.dequeue.ensures.tasks (tied_others c.self.inside.classes.tasks c.self.inside.cookies.tasks seat c.self.invariant.tied free);
    }
