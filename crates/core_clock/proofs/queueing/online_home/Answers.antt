use Rattle.std.proofs.Common.{◌∙◌, ap, sym, cond}
use Rattle.cs_types.specs.Room.{lowest_online}
use Rattle.core_lanes.specs.Lanes.{room_of}
use Rattle.core_clock.proofs.queueing.online_home.Goals as goal

pub returns-then-is_online-clause-home : goal.returns-then-is_online-clause-home
returns-then-is_online-clause-home g c beside table =
    ap (λ b. cond b c.args.cpu (lowest_online (room_of beside (c.args.core.now, table)))) (sym c.if-is_online.true ∙ c.is_online.ensures beside table)

pub returns-else-is_online-clause-home : goal.returns-else-is_online-clause-home
returns-else-is_online-clause-home g c beside table =
    c.lowest_online.ensures.lowest beside table
    ∙ ap (λ b. cond b c.args.cpu (lowest_online (room_of beside (c.args.core.now, table)))) (sym c.if-is_online.false ∙ c.is_online.ensures beside table)
