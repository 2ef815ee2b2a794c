use Rattle.std.proofs.Common.{ℕ, ap, ◌∙◌, arith}
use Rattle.std.specs.FinMap.{len, len-empty}
use Rattle.cs_types.specs.Queue.{seat_cmp}
use Rattle.run_queue.proofs.Ties.{IsTied-empty}
use Rattle.run_queue.proofs.queue.RunQueue.empty.Goals as goal

pub invariant_of-result : goal.invariant_of-result
invariant_of-result c =
    let tasks = ap len c.empty.ensures.tasks ∙ len-empty seat_cmp ℕ in record {
      fits = omega arith;
      tied = IsTied-empty c.empty.result.tasks c.empty-2.result.tasks c.empty-2.ensures.tasks;
    }
