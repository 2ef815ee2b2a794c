use Rattle.std.proofs.Common.{◌∙◌, ap, sym, cond, arith, []}
use Rattle.cs_types.specs.declared.task.Task.{Task}
use Rattle.cs_types.specs.Room.{lowest_online}
use Rattle.cs_types.specs.Queueing.{moved_to}
use Rattle.core_lanes.specs.Lanes.{room_of}
use Rattle.core_lanes.proofs.Stays.{some_beside}
use Rattle.core_clock.proofs.queueing.rehome.Goals as goal

pub moved_to-requires : goal.moved_to-requires
moved_to-requires g c = record { cpu = c.lowest_online.ensures.within; can = c.requires }

pub returns-else-not-is_online-clause-rehomed : goal.returns-else-not-is_online-clause-rehomed
returns-else-not-is_online-clause-rehomed g c beside table =
    let room = room_of beside (c.args.core.now, table) in
    let task = c.args.task.now in
    ap (λ b. cond b task (moved_to room (lowest_online room) task)) (sym c.if-not-is_online.false ∙ c.is_online.ensures beside table)

pub returns-then-not-is_online-clause-rehomed : goal.returns-then-not-is_online-clause-rehomed
returns-then-not-is_online-clause-rehomed g c beside table =
    let room = room_of beside (c.args.core.now, table) in
    let task = c.args.task.now in
    c.moved_to.ensures beside table
    ∙ ap (λ cpu. moved_to room cpu task) (c.lowest_online.ensures.lowest beside table)
    ∙ ap (λ b. cond b task (moved_to room (lowest_online room) task)) (sym c.if-not-is_online.true ∙ c.is_online.ensures beside table)

pub returns-then-not-is_online-clause-within : goal.returns-then-not-is_online-clause-within
returns-then-not-is_online-clause-within g c =
    omega (arith, ap (λ (t : Task). t.home) (c.moved_to.ensures some_beside (record { tasks = []; totals = []; limit = 0 })), c.lowest_online.ensures.within)
