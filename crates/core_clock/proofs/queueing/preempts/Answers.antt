use Rattle.std.proofs.Common.{◌∙◌, ap, true}
use Rattle.std.specs.Option.{option_map_or}
use Rattle.cs_types.specs.Order.{is_higher_here}
use Rattle.core_clock.proofs.queueing.preempts.Goals as goal

pub returns-in-None : goal.returns-in-None
returns-in-None g c beside = ap (λ found. option_map_or (λ running. is_higher_here c.args.task.now running) found true) (c.in-None.ensures.task beside)

pub returns-in-Some : goal.returns-in-Some
returns-in-Some g c beside =
    c.is_higher.ensures ∙ ap (λ found. option_map_or (λ running. is_higher_here c.args.task.now running) found true) (c.in-Some.ensures.task beside)
