use Rattle.std.proofs.Common.{map, ap, ◌∙◌, arith}
use Rattle.std.specs.FinMap.{entries, len}
use Rattle.cs_types.specs.Queue.{RunQueued}
use Rattle.cookie_queue.specs.Anew.{respotted}
use Rattle.run_queue.specs.Anew.{reseated}
use Rattle.run_queue.proofs.Ties.{most_comparisons-cookies}
use Rattle.run_queue.proofs.Anew.{len-anew}
use Rattle.run_queue.proofs.queue.RunQueue.renew.Goals as goal

pub invariant_of-self : goal.invariant_of-self
invariant_of-self g c =
    let at = g.R.Renewal.at c.args.renewal.now in
    let was = c.self.inside in
    let tasks = len-anew (reseated at) was.classes.tasks c.renew.new.self.tasks c.renew.ensures.entries in
    let cookies = len-anew (respotted at) was.cookies.tasks c.renew-2.new.self.tasks c.renew-2.ensures.entries in
    let seats = ap (λ (run : RunQueued). entries run.tasks) c.self.view_is in
    let spots = ap (λ (run : RunQueued). entries run.cookies) c.self.view_is in
    record {
      fits = omega (arith, c.self.invariant.fits, tasks, cookies, c.renew.ensures.spare, c.renew-2.ensures.spare);
      tied = c.requires.tied c.renew.new.self.tasks c.renew-2.new.self.tasks (c.renew.ensures.entries ∙ ap (map (reseated at)) seats)
          (c.renew-2.ensures.entries ∙ ap (map (respotted at)) spots);
    }

pub returns-clause-counted : goal.returns-clause-counted
returns-clause-counted g c =
    let was = c.self.inside in
    let fewer = most_comparisons-cookies was.classes.tasks was.cookies.tasks c.self.invariant.tied in
    let seen = ap (λ (run : RunQueued). len run.tasks) c.self.view_is in
    rw (← c.self.view_is) (omega (arith, fewer, c.renew.ensures.counted, c.renew-2.ensures.counted))
