use Rattle.std.proofs.Common.{◌+◌, ◌-◌, ◌*◌, refl, arith}
use Rattle.core_lanes.proofs.Counted.{no_more_live, later, and_then}
use Rattle.core_lanes.proofs.Stays.{both_stay}
use Rattle.cpu_hotplug.proofs.Sleeping.{knows_asleep, may_next, knows_awake, moved}
use Rattle.cpu_hotplug.proofs.moves.+move_past.Goals as goal

pub change-requires : goal.change-requires
change-requires g t c =
    knows_asleep c.args.cpu c.args.to c.args.stay c.args.movers.now c.args.core.now c.args.table.now c.requires c.first_task-task.result c.first_task-task.ensures.first

pub move_past-requires : goal.move_past-requires
move_past-requires g t c κs within = (
  omega (arith, c.decreases, c.if-stay-eq0.false),
  (
    within.0,
    (
      within.1,
      may_next c.args.cpu c.args.to c.args.stay c.args.movers.now c.args.core.now c.args.table.now c.requires c.first_task-task.result c.first_task-task.ensures.first
          c.change.new.self c.change.new.table c.change.ensures.changes,
    ),
  ),
)

pub change-requires-2 : goal.change-requires-2
change-requires-2 g t c =
    knows_awake c.args.cpu c.args.to c.args.stay c.args.movers.now c.args.core.now c.args.table.now c.requires c.first_task-task.result c.first_task-task.ensures.first
    c.change.new.self c.change.new.table c.change.ensures.changes c.move_past.new.core c.move_past.new.table c.move_past.ensures.touches

pub returns-clause-touches : goal.returns-clause-touches
returns-clause-touches g t c =
    moved c.args.cpu c.args.to c.args.stay c.args.movers.now c.args.core.now c.args.table.now c.requires c.first_task-task.result c.first_task-task.ensures.first
    c.change.new.self c.change.new.table c.change.ensures.changes c.move_past.new.core c.move_past.new.table c.move_past.ensures.touches
    c.change-2.new.self c.change-2.new.table c.change-2.ensures.changes

-- the first is asked for, sleeps, and is queued again, and the others move past the rest
pub returns-clause-counted : goal.returns-clause-counted
returns-clause-counted g t c =
    let rises = g.met.Q.SiblingQueue.rises in
    let stay = c.args.stay in
    let slept = c.change.ensures.changes.stays in
    let rest = 5 * (stay - 1) + 3 in
    and_then (3 + rest) 2 (5 * stay + 3) (c.args.core.now, c.args.table.now) _ _ _ (omega (arith, c.if-stay-eq0.false))
    (and_then 3 rest (3 + rest) (c.args.core.now, c.args.table.now) _ _ _ refl
    (and_then 1 2 3 (c.args.core.now, c.args.table.now) _ _ _ refl c.first_task-task.ensures.counted c.change.ensures.counted)
    (later rises rest (c.change.new.self, c.change.new.table) (c.args.core.now, c.args.table.now) _ _ (no_more_live slept) c.move_past.ensures.counted))
    (later rises 2 (c.move_past.new.core, c.move_past.new.table) (c.args.core.now, c.args.table.now) _ _ (no_more_live (both_stay slept c.move_past.ensures.touches.stays)) c.change-2.ensures.counted)
