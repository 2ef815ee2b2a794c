use Rattle.std.proofs.Common.{ap, ◌∙◌}
use Rattle.std.specs.Prelude.{replicate}
use Rattle.run_times.proofs.Summed.{times_in-none}
use Rattle.run_times.proofs.times.RunTimes.open.Goals as goal

pub returns : goal.returns
returns c =
    times_in-none c.args.siblings c.none.result c.none-2.result c.none-3.result c.in_ok-vec.field-0.items c.none.ensures c.none-2.ensures c.none-3.ensures
    (c.in_ok-vec.ensures.items_if_clones_equal (λ y same. same) ∙ ap (λ n. replicate n c.none.result) c.from.ensures)
