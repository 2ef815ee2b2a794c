use Rattle.std.proofs.Common.{◌∙◌, ap, sym}
use Rattle.std.specs.Option.{option_or}
use Rattle.core_lanes.specs.Lanes.{room_of}
use Rattle.core_tasks.specs.Drain.{next_by}
use Rattle.core_tasks.proofs.Pending.{next_any, next_fresh}
use Rattle.core_tasks.proofs.drain.next_to_schedule.Goals as goal

pub returns-else-is_fresh : goal.returns-else-is_fresh
returns-else-is_fresh g c beside table =
    let room = room_of beside (c.args.core.now, table) in
    c.lowest_pending-else-is_fresh.ensures beside table ∙ next_any room ∙ ap (next_by room) (sym c.if-is_fresh.false ∙ c.is_fresh.ensures table)

pub returns-then-is_fresh : goal.returns-then-is_fresh
returns-then-is_fresh g c beside table =
    let room = room_of beside (c.args.core.now, table) in
    c.or.ensures ∙ (λ i. option_or (c.lowest_pending.ensures beside table i) (c.lowest_pending-then-is_fresh.ensures beside table i)) ∙ next_fresh room
    ∙ ap (next_by room) (sym c.if-is_fresh.true ∙ c.is_fresh.ensures table)
