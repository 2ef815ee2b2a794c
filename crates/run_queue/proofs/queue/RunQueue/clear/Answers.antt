use Rattle.std.proofs.Common.{ℕ, ap, ◌∙◌, arith}
use Rattle.std.specs.FinMap.{len, len-empty}
use Rattle.cs_types.specs.Queue.{seat_cmp, spot_cmp}
use Rattle.run_queue.proofs.Ties.{IsTied-empty}
use Rattle.run_queue.proofs.queue.RunQueue.clear.Goals as goal

pub invariant_of-self : goal.invariant_of-self
invariant_of-self g c =
    let fits = c.self.invariant.fits in
    let tasks = ap len c.clear.ensures.tasks ∙ len-empty seat_cmp ℕ in
    let cookies = ap len c.clear-2.ensures.tasks ∙ len-empty spot_cmp ℕ in
    let spare = c.clear.ensures.spare in
    let left = c.clear-2.ensures.spare in record {
      fits = omega arith;
      tied = IsTied-empty c.clear.new.self.tasks c.clear-2.new.self.tasks c.clear-2.ensures.tasks;
    }
