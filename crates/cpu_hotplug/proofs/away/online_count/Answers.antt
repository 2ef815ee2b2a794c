use Rattle.std.proofs.Common.{List, ◌≤◌, ◌∙◌, length, ap, arith}
use Rattle.std.specs.Prelude.{filter}
use Rattle.std.proofs.lemmas.List.{take_all}
use Rattle.core_lanes.specs.declared.lane.Lane.{Lane}
use Rattle.core_lanes.proofs.Onlines.{length-online}
use Rattle.cpu_hotplug.proofs.away.online_count.Goals as goal

pub overflow_add-count : goal.overflow_add-count
overflow_add-count g c =
    omega (arith, c.loop-lane.invariant.few, c.loop-lane-test.true, ap length c.deref-lane-items.ensures.value, c.args.core.now.few)

pub returns : goal.returns
returns g c beside table =
    let lanes = c.args.core.now.lanes.items in
    let past : length lanes ≤ c.loop-lane.lane-index = omega (arith, c.loop-lane-test.false, ap length c.deref-lane-items.ensures.value) in
    c.loop-lane.invariant.counted
    ∙ ap (λ (ls : List (Lane g.row.Q.Denot)). length (filter (λ lane. lane.online) ls)) (take_all c.loop-lane.lane-index lanes past)
    ∙ length-online beside (c.args.core.now, table)
