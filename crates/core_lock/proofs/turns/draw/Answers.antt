use Rattle.std.proofs.Common.{rules, ◌+◌, ◌%◌, ◌^◌, sym, subst}
use mathlib.Core.Option.{none}
use Rattle.atomic_table.specs.Table.{Me, Allows, step}
use Rattle.core_lock.specs.Board.{IsKept, drawn}
use Rattle.core_lock.proofs.Drawing.{draws}
use Rattle.core_lock.proofs.turns.draw.Goals as goal

pub fetch_add-requires : goal.fetch_add-requires
fetch_add-requires g c =
    let top = c.args.top.now in
    let ready = c.requires.ready in (
      c.requires.table.0,
      search rules,
      subst (λ (m : Me _ _). Allows (IsKept g.R.Room.opening g.R.Room.history g.R.Room.spare top.key.value) top.table_id.slots c.args.seat.now.id m 0 (λ n. (n + 1) % 2 ^ 64)
          (drawn (step top.table_id.slots 0 1 0 none) m)) (sym ready.2)
          (draws g.R.Room.opening g.R.Room.history g.R.Room.spare top.key.value top.table_id.slots c.args.seat.now.id ready.0 ready.1 ready.3),
    )
