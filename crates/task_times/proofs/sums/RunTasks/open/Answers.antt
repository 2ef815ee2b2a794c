use Rattle.task_times.proofs.Summed.{sums_so_far-none}
use Rattle.task_times.proofs.sums.RunTasks.open.Goals as goal

pub returns : goal.returns
returns c = λ opening.
    sums_so_far-none c.args.entries opening c.none.result c.none-2.result c.in_ok-vec.field-0.items c.in_ok-vec-2.field-0.items c.none.ensures c.none-2.ensures
    (c.in_ok-vec.ensures.items_if_clones_equal (λ y same. same))
    (c.in_ok-vec-2.ensures.items_if_clones_equal (λ y same. same))
