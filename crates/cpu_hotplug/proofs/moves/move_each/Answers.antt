use Rattle.std.proofs.Common.{List, ◌+◌, ◌*◌, ◌≤◌, ap, ◌∙◌, subst, arith, map, length}
use Rattle.std.proofs.Math.Nat.{suc-mul, mul-le-mul_right}
use Rattle.cs_types.specs.declared.task.Task.{Task}
use Rattle.cs_types.specs.Queue.{queued_of}
use Rattle.core_lanes.specs.Queued.{queued_at}
use Rattle.core_lanes.specs.Lanes.{room_of}
use Rattle.core_lanes.proofs.Stays.{some_beside, agree_again}
use Rattle.core_lanes.proofs.Counted.{as_many_live}
use Rattle.cpu_hotplug.proofs.Leaving.{none_left}
use Rattle.cpu_hotplug.proofs.Each.{none_yet, may_move, one_moved, within_all, tasks_all, room_all, numbers_all}
use Rattle.cpu_hotplug.proofs.moves.move_each.Goals as goal

pub loop-mover-init : goal.loop-mover-init
loop-mover-init g c = record {
  moved = none_yet c.args.cpu c.args.to c.args.movers.now c.args.core.now c.args.table.now c.requires c.empty_queue.new.self c.empty_queue.ensures.away.bare c.empty_queue.ensures.away.held;
  compared = omega arith;
}

-- each enters the other queue
pub enter-requires : goal.enter-requires
enter-requires g c =
    may_move c.args.cpu c.args.to c.args.movers.now c.args.core.now c.args.table.now c.requires c.empty_queue.new.movers c.empty_queue.ensures.told
    c.loop-mover.mover-index c.loop-mover-test.true (c.loop-mover.core, c.loop-mover.table) c.loop-mover.invariant.moved

pub loop-mover-preserved : goal.loop-mover-preserved
loop-mover-preserved g c =
    let moved = c.loop-mover.invariant.moved in
    let most = g.Q.SiblingQueue.most_compared in
    let many = as_many_live (c.args.core.now, c.args.table.now) (c.loop-mover.core, c.loop-mover.table) moved.kept in
    let once = subst (λ n. c.enter.new.comparisons ≤ c.loop-mover.comparisons + 1 * most n) many c.enter.ensures.counted in
    record {
      moved = one_moved c.args.cpu c.args.to c.args.movers.now c.args.core.now c.args.table.now c.requires c.empty_queue.new.movers c.empty_queue.ensures.told
          c.loop-mover.mover-index c.loop-mover-test.true (c.loop-mover.core, c.loop-mover.table) moved (c.enter.new.self, c.enter.new.table) c.enter.ensures.enters;
      compared = omega (arith, c.loop-mover.invariant.compared, once, suc-mul c.loop-mover.mover-index (most (length c.args.table.now.tasks)));
    }

-- and all of them did
pub returns-clause-touches : goal.returns-clause-touches
returns-clause-touches g c =
    let core = c.args.core.now in
    let table = c.args.table.now in
    let cpu = c.args.cpu in
    let moved = c.loop-mover.invariant.moved in
    let count = c.loop-mover.mover-index in
    let beyond = c.loop-mover-test.false in
    let most = c.loop-mover.auto.mover-index-end in
    let pids = c.empty_queue.new.movers in
    let told = c.empty_queue.ensures.told in
    record {
      room = room_all cpu c.args.to c.args.movers.now core table c.requires pids told count (omega (arith, beyond)) most (c.loop-mover.core, c.loop-mover.table) moved;
      numbers = numbers_all cpu c.args.to c.args.movers.now core table c.requires pids told count (omega (arith, beyond)) most (c.loop-mover.core, c.loop-mover.table) moved;
      stays = record {
        agree = λ agree.
            agree_again cpu _ moved.agree
            (ap (λ (tasks : List Task). queued_at tasks cpu) (tasks_all cpu c.args.to c.args.movers.now core table c.requires pids told count (omega (arith, beyond)) most (c.loop-mover.core, c.loop-mover.table) moved)
            ∙ ap (map queued_of) (none_left (room_of some_beside (core, table)) cpu table.tasks (c.requires.another some_beside)));
        kept = moved.kept;
      };
    }

-- so no more entered than live
pub returns-clause-counted : goal.returns-clause-counted
returns-clause-counted g c =
    let within = within_all c.args.cpu c.args.to c.args.movers.now c.args.core.now c.args.table.now c.requires c.empty_queue.new.movers c.empty_queue.ensures.told
    c.loop-mover.mover-index (omega (arith, c.loop-mover-test.false)) c.loop-mover.auto.mover-index-end (c.loop-mover.core, c.loop-mover.table) c.loop-mover.invariant.moved in
    omega (arith, c.loop-mover.invariant.compared, mul-le-mul_right (g.Q.SiblingQueue.most_compared (length c.args.table.now.tasks)) within)
