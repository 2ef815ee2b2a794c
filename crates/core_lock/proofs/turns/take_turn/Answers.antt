use Rattle.std.proofs.Common.{rules, sym, subst, ◌∙◌}
use mathlib.Core.Option.{none}
use Rattle.atomic_table.specs.Table.{Me, Allows, step}
use Rattle.core_lock.specs.Board.{IsKept, looked}
use Rattle.core_lock.proofs.Looking.{looks}
use Rattle.core_lock.proofs.turns.take_turn.Goals as goal

pub load-requires : goal.load-requires
load-requires g c =
    let top = c.args.top.now in
    let waits = c.requires.waits in (
      c.loop.invariant.0 ∙ c.requires.table.0,
      search rules,
      subst (λ (m : Me _ _). Allows (IsKept g.R.Room.opening g.R.Room.history g.R.Room.spare top.key.value) top.table_id.slots c.loop.seat.id m 1 (λ n. n)
          (looked g.R.Room.opening g.R.Room.history g.R.Room.spare (step top.table_id.slots 1 0 0 none) m)) (sym (c.loop.invariant.1 ∙ waits.2))
          (looks g.R.Room.opening g.R.Room.history g.R.Room.spare top.key.value top.table_id.slots c.loop.seat.id waits.0 waits.1 c.args.ticket),
    )

pub returns-then-load-ticket-clause-turn : goal.returns-then-load-ticket-clause-turn
returns-then-load-ticket-clause-turn g c begun has is =
    (c.load.ensures.2 begun has c.args.ticket (c.loop.invariant.1 ∙ is)).0 c.if-load-ticket.true

pub loop-preserved : goal.loop-preserved
loop-preserved g c =
    let waits = c.requires.waits in (
      c.load.ensures.0 ∙ c.loop.invariant.0,
      (c.load.ensures.2 waits.0 waits.1 c.args.ticket (c.loop.invariant.1 ∙ waits.2)).1 c.if-load-ticket.false ∙ c.loop.invariant.1,
    )
