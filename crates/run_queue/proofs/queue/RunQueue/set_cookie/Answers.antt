use Rattle.std.proofs.Common.{ap, ◌∙◌, arith}
use Rattle.std.specs.FinMap as fin
use Rattle.cs_types.specs.Comparisons.{most_comparisons}
use Rattle.cs_types.specs.Queue.{Seats}
use Rattle.run_queue.specs.Run.{including}
use Rattle.run_queue.proofs.queue.RunQueue.set_cookie.Goals as goal

pub returns-clause-cookies : goal.returns-clause-cookies
returns-clause-cookies g c = c.enter_cookies.ensures.cookies ∙ ap (including (record c.args.task.now { cookie = c.args.cookie })) c.leave_cookies.ensures.cookies

pub returns-clause-counted : goal.returns-clause-counted
returns-clause-counted g c =
    omega (
      arith,
      c.leave_cookies.ensures.counted,
      c.enter_cookies.ensures.counted,
      ap (λ (tasks : Seats). most_comparisons (fin.len tasks)) c.leave_cookies.ensures.tasks,
    )
