use Rattle.std.proofs.Common.{◌≡◌, ◌≢◌, ◌+◌, ◌≤◌, ℕ, None, cond, true, ap, sym, ◌∙◌, arith}
use Rattle.std.specs.Prelude.{IsTrue}
use Rattle.std.specs.FinMap as fin
use Rattle.cs_types.specs.declared.queue.Queued.{Queued}
use Rattle.cs_types.specs.Comparisons.{most_comparisons}
use Rattle.cs_types.specs.Queue.{RunQueued, Seat, Seats, Spots, seat_of, spot_of}
use Rattle.cs_types.proofs.Queues.{seat_total, seat_cmp-IsAntisymmetric, spot_total, spot_cmp-IsAntisymmetric}
use Rattle.run_queue.specs.Run.{IsTied, without, including}
use Rattle.run_queue.proofs.Ties.{most_comparisons-cookies, free_spot, shorter-remove, longer-insert, IsTied-plain, IsTied-cookie, IsTied-remove_plain, IsTied-remove_cookie, without-some, without-none, including-some, including-none}
use Rattle.run_queue.proofs.queue.RunQueue.set_fair_rank.Goals as goal

-- what is tied once the task of a seat and a cookie is out of both
module _ (tasks : Seats) (cookies : Spots) (tied : IsTied tasks cookies) (seat later : Seat) (cookie pid : ℕ)
    (own : (other : ℕ) → IsTrue (fin.contains_key cookies (other, seat)) → other ≡ cookie)
    (there : fin.contains_key tasks seat ≡ true) (free : fin.get (fin.remove tasks seat) later ≡ None) where
  as_many : fin.len (fin.insert (fin.remove tasks seat) later pid) ≡ fin.len tasks
  as_many =
      let less = shorter-remove seat_total seat_cmp-IsAntisymmetric tasks seat in
      let one = ap (λ b. fin.len (fin.remove tasks seat) + cond b 1 0) there in
      let more = longer-insert seat_total seat_cmp-IsAntisymmetric (fin.remove tasks seat) later pid free in
      omega (arith, less, one, more)

  module _ (entered : fin.contains_key cookies (cookie, seat) ≡ true) where
    tied_out : IsTied (fin.remove tasks seat) (fin.remove cookies (cookie, seat))
    tied_out = IsTied-remove_cookie tasks cookies tied seat cookie own

    free_there : fin.get (fin.remove cookies (cookie, seat)) (cookie, later) ≡ None
    free_there = free_spot (fin.remove tasks seat) (fin.remove cookies (cookie, seat)) tied_out later pid free cookie

    tied_again : cookie ≢ 0 → IsTied (fin.insert (fin.remove tasks seat) later pid) (fin.insert (fin.remove cookies (cookie, seat)) (cookie, later) pid)
    tied_again some = IsTied-cookie (fin.remove tasks seat) (fin.remove cookies (cookie, seat)) tied_out later pid free cookie some

    as_many_cookies : fin.len (fin.insert (fin.remove cookies (cookie, seat)) (cookie, later) pid) ≡ fin.len cookies
    as_many_cookies =
        let less = shorter-remove spot_total spot_cmp-IsAntisymmetric cookies (cookie, seat) in
        let one = ap (λ b. fin.len (fin.remove cookies (cookie, seat)) + cond b 1 0) entered in
        let more = longer-insert spot_total spot_cmp-IsAntisymmetric (fin.remove cookies (cookie, seat)) (cookie, later) pid free_there in
        omega (arith, less, one, more)

    few_out : most_comparisons (fin.len (fin.remove cookies (cookie, seat))) ≤ most_comparisons (fin.len (fin.remove tasks seat))
    few_out = most_comparisons-cookies (fin.remove tasks seat) (fin.remove cookies (cookie, seat)) tied_out

  tied_plain : cookie ≡ 0 → IsTied (fin.insert (fin.remove tasks seat) later pid) cookies
  tied_plain none = IsTied-plain (fin.remove tasks seat) cookies (IsTied-remove_plain tasks cookies tied seat cookie own none) later pid free

pub set_rank-requires-clause-free : goal.set_rank-requires-clause-free
set_rank-requires-clause-free g c =
    let task = c.args.task.now in
    let later : Queued = record task { rank = c.args.rank } in
    let own : (other : ℕ) → IsTrue (fin.contains_key c.self.inside.cookies.tasks (other, seat_of task)) → other ≡ task.cookie = rw (← c.self.view_is) at c.requires.cookie in
    let there : fin.contains_key c.self.inside.classes.tasks (seat_of task) ≡ true = rw (← c.self.view_is) at c.requires.there in
    let entered : task.cookie ≢ 0 → IsTrue (fin.contains_key c.self.inside.cookies.tasks (spot_of task)) = rw (← c.self.view_is) at c.requires.entered in
    let free : fin.get (fin.remove c.self.inside.classes.tasks (seat_of task)) (seat_of later) ≡ None = rw (← c.self.view_is) at c.requires.free in
    free_there c.self.inside.classes.tasks c.self.inside.cookies.tasks c.self.invariant.tied (seat_of task) (seat_of later) task.cookie task.pid own there free (entered c.if-task-ne0.true)

pub invariant_of-self : goal.invariant_of-self
invariant_of-self g c =
    let task = c.args.task.now in
    let later : Queued = record task { rank = c.args.rank } in
    let tasks = c.self.inside.classes.tasks in
    let cookies = c.self.inside.cookies.tasks in
    let tied = c.self.invariant.tied in
    let own : (other : ℕ) → IsTrue (fin.contains_key cookies (other, seat_of task)) → other ≡ task.cookie = rw (← c.self.view_is) at c.requires.cookie in
    let there : fin.contains_key tasks (seat_of task) ≡ true = rw (← c.self.view_is) at c.requires.there in
    let entered : task.cookie ≢ 0 → IsTrue (fin.contains_key cookies (spot_of task)) = rw (← c.self.view_is) at c.requires.entered in
    let free : fin.get (fin.remove tasks (seat_of task)) (seat_of later) ≡ None = rw (← c.self.view_is) at c.requires.free in
    let is : c.set_fair_rank.new.self.tasks ≡ fin.insert (fin.remove tasks (seat_of task)) (seat_of later) task.pid =
    c.set_fair_rank.ensures.tasks
    ∙ ap (λ (n : ℕ). fin.insert (fin.remove tasks (n, (task.rank, task.stamp))) (n, (c.args.rank, task.stamp)) task.pid) (sym c.requires.fair) in
    let as_before = ap fin.len is ∙ as_many tasks cookies tied (seat_of task) (seat_of later) task.cookie task.pid own there free in
    let cookies_as_before = ap fin.len c.set_rank.ensures.tasks
    ∙ as_many_cookies tasks cookies tied (seat_of task) (seat_of later) task.cookie task.pid own there free (entered c.if-task-ne0.true) in
    let fits = c.self.invariant.fits in
    let spare = c.set_fair_rank.ensures.spare in
    let cookies_spare = c.set_rank.ensures.spare in
    record {
      fits = omega arith;
      tied = rw (is, c.set_rank.ensures.tasks)
          (tied_again tasks cookies tied (seat_of task) (seat_of later) task.cookie task.pid own there free (entered c.if-task-ne0.true) c.if-task-ne0.true);
    }

pub invariant_of-self-else-task-ne0 : goal.invariant_of-self-else-task-ne0
invariant_of-self-else-task-ne0 g c =
    let task = c.args.task.now in
    let later : Queued = record task { rank = c.args.rank } in
    let tasks = c.self.inside.classes.tasks in
    let cookies = c.self.inside.cookies.tasks in
    let tied = c.self.invariant.tied in
    let own : (other : ℕ) → IsTrue (fin.contains_key cookies (other, seat_of task)) → other ≡ task.cookie = rw (← c.self.view_is) at c.requires.cookie in
    let there : fin.contains_key tasks (seat_of task) ≡ true = rw (← c.self.view_is) at c.requires.there in
    let free : fin.get (fin.remove tasks (seat_of task)) (seat_of later) ≡ None = rw (← c.self.view_is) at c.requires.free in
    let is : c.set_fair_rank.new.self.tasks ≡ fin.insert (fin.remove tasks (seat_of task)) (seat_of later) task.pid =
    c.set_fair_rank.ensures.tasks
    ∙ ap (λ (n : ℕ). fin.insert (fin.remove tasks (n, (task.rank, task.stamp))) (n, (c.args.rank, task.stamp)) task.pid) (sym c.requires.fair) in
    let as_before = ap fin.len is ∙ as_many tasks cookies tied (seat_of task) (seat_of later) task.cookie task.pid own there free in
    let fits = c.self.invariant.fits in
    let spare = c.set_fair_rank.ensures.spare in
    record {
      fits = omega arith;
      tied = rw is (tied_plain tasks cookies tied (seat_of task) (seat_of later) task.cookie task.pid own there free c.if-task-ne0.false);
    }

pub returns-then-task-ne0-clause-counted : goal.returns-then-task-ne0-clause-counted
returns-then-task-ne0-clause-counted g c =
    let task = c.args.task.now in
    let later : Queued = record task { rank = c.args.rank } in
    let tasks = c.self.inside.classes.tasks in
    let cookies = c.self.inside.cookies.tasks in
    let tied = c.self.invariant.tied in
    let own : (other : ℕ) → IsTrue (fin.contains_key cookies (other, seat_of task)) → other ≡ task.cookie = rw (← c.self.view_is) at c.requires.cookie in
    let there : fin.contains_key tasks (seat_of task) ≡ true = rw (← c.self.view_is) at c.requires.there in
    let entered : task.cookie ≢ 0 → IsTrue (fin.contains_key cookies (spot_of task)) = rw (← c.self.view_is) at c.requires.entered in
    let free : fin.get (fin.remove tasks (seat_of task)) (seat_of later) ≡ None = rw (← c.self.view_is) at c.requires.free in
    let most = most_comparisons-cookies tasks cookies tied in
    let less = few_out tasks cookies tied (seat_of task) (seat_of later) task.cookie task.pid own there free (entered c.if-task-ne0.true) in
    let seat = ap (λ (n : ℕ). most_comparisons (fin.len (fin.remove tasks (n, (task.rank, task.stamp))))) c.requires.fair in
    rw (← c.self.view_is) (omega (arith, most, less, seat, c.set_fair_rank.ensures.counted, c.set_rank.ensures.counted))

pub returns-then-task-ne0-clause-cookies : goal.returns-then-task-ne0-clause-cookies
returns-then-task-ne0-clause-cookies g c =
    let task = c.args.task.now in
    let later : Queued = record task { rank = c.args.rank } in
    let cookies = c.self.inside.cookies.tasks in
    c.set_rank.ensures.tasks
    ∙ sym (ap (including later) (without-some task cookies c.if-task-ne0.true) ∙ including-some later (fin.remove cookies (spot_of task)) c.if-task-ne0.true)
    ∙ ap (λ (q : RunQueued). including later (without task q.cookies)) c.self.view_is

pub returns-else-task-ne0-clause-cookies : goal.returns-else-task-ne0-clause-cookies
returns-else-task-ne0-clause-cookies g c =
    let task = c.args.task.now in
    let later : Queued = record task { rank = c.args.rank } in
    let cookies = c.self.inside.cookies.tasks in
    sym (ap (including later) (without-none task cookies c.if-task-ne0.false) ∙ including-none later cookies c.if-task-ne0.false)
    ∙ ap (λ (q : RunQueued). including later (without task q.cookies)) c.self.view_is
