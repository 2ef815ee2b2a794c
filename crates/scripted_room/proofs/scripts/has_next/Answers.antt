use Rattle.std.proofs.Common.{◌∙◌, drop, sym}
use Rattle.scripted_room.proofs.Steps.{events_in-others}
use Rattle.scripted_room.proofs.scripts.has_next.Goals as goal

pub returns-else-is_same : goal.returns-else-is_same
returns-else-is_same c =
    let script = c.args.script.now in
    rw c.if-is_same.false (events_in-others script.actor c.args.actor (drop script.place script.events.items) (sym c.is_same.ensures ∙ c.if-is_same.false))
