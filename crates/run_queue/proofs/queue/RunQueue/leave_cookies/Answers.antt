use Rattle.std.proofs.Common.{◌≡◌, ◌+◌, ℕ, cond, sym, ap, ◌∙◌, arith}
use Rattle.std.specs.Prelude.{IsTrue}
use Rattle.std.specs.FinMap as fin
use Rattle.cs_types.specs.Queue.{RunQueued, Spots, seat_of, spot_of}
use Rattle.cs_types.proofs.Queues.{seat_total, seat_cmp-IsAntisymmetric, spot_total, spot_cmp-IsAntisymmetric}
use Rattle.run_queue.proofs.Ties.{gone-remove, most_comparisons-cookies, shorter-remove, free_spot, IsTied-remove_cookie, IsTied-without, without-some, without-none}
use Rattle.run_queue.specs.Run.{without}
use Rattle.run_queue.proofs.queue.RunQueue.leave_cookies.Goals as goal

pub invariant_of-self : goal.invariant_of-self
invariant_of-self g c =
    let tied = c.self.invariant.tied in
    let own : (cookie : ℕ) → IsTrue (fin.contains_key c.self.inside.cookies.tasks (cookie, seat_of c.args.task.now)) → cookie ≡ c.args.task.now.cookie = rw (← c.self.view_is) at c.requires.cookie in
    let cookies = ap (λ b. fin.len c.take.new.self.tasks + cond b 1 0) c.take.ensures.found
    ∙ ap (λ n. n + cond (fin.contains_key c.self.inside.cookies.tasks (spot_of c.args.task.now)) 1 0) (ap fin.len c.take.ensures.tasks)
    ∙ shorter-remove spot_total spot_cmp-IsAntisymmetric c.self.inside.cookies.tasks (spot_of c.args.task.now) in
    let fits = c.self.invariant.fits in
    let left = c.take.ensures.spare in record {
      fits = omega arith;
      tied = rw c.take.ensures.tasks
          (IsTied-without c.self.inside.classes.tasks _ (seat_of c.args.task.now)
          (IsTied-remove_cookie c.self.inside.classes.tasks c.self.inside.cookies.tasks tied (seat_of c.args.task.now) c.args.task.now.cookie own));
    }

pub returns-then-task-ne0-clause-free : goal.returns-then-task-ne0-clause-free
returns-then-task-ne0-clause-free g c cookie =
    let tasks = c.self.inside.classes.tasks in
    let cookies = c.self.inside.cookies.tasks in
    let seat = seat_of c.args.task.now in
    let own : (cookie : ℕ) → IsTrue (fin.contains_key cookies (cookie, seat)) → cookie ≡ c.args.task.now.cookie = rw (← c.self.view_is) at c.requires.cookie in
    let tied = IsTied-remove_cookie tasks cookies c.self.invariant.tied seat c.args.task.now.cookie own in
    ap (λ (left : Spots). fin.get left (cookie, seat)) c.take.ensures.tasks
    ∙ free_spot (fin.remove tasks seat) (fin.remove cookies (spot_of c.args.task.now)) tied seat c.args.task.now.pid (gone-remove seat_total seat_cmp-IsAntisymmetric tasks seat) cookie

pub returns-then-task-ne0-clause-counted : goal.returns-then-task-ne0-clause-counted
returns-then-task-ne0-clause-counted g c =
    let most = most_comparisons-cookies c.self.inside.classes.tasks c.self.inside.cookies.tasks c.self.invariant.tied in
    rw (← c.self.view_is) (omega (arith, c.take.ensures.counted))

pub returns-then-task-ne0-clause-cookies : goal.returns-then-task-ne0-clause-cookies
returns-then-task-ne0-clause-cookies g c =
    c.take.ensures.tasks ∙ sym (without-some c.args.task.now c.self.inside.cookies.tasks c.if-task-ne0.true)
    ∙ ap (λ (q : RunQueued). without c.args.task.now q.cookies) c.self.view_is

pub returns-else-task-ne0-clause-cookies : goal.returns-else-task-ne0-clause-cookies
returns-else-task-ne0-clause-cookies g c = sym (without-none c.args.task.now c.args.self.now.cookies c.if-task-ne0.false)
