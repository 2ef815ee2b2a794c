use Rattle.std.proofs.Common.{◌≡◌, ◌∙◌, true, false, None, ap, sym}
use Rattle.std.proofs.lemmas.Bool.{cond-true, cond-false}
use Rattle.cs_types.specs.Room.{is_online}
use Rattle.cs_types.specs.Selection.{first_on}
use Rattle.core_lanes.specs.Lanes.{room_of}
use Rattle.core_pick.specs.Choice.{kept_in}
use Rattle.core_pick.proofs.Leads.{lead_of-one}
use Rattle.core_pick.proofs.selection.lead_alone.Goals as goal

pub returns-then-is_online : goal.returns-then-is_online
returns-then-is_online g c table is beside =
    let room = room_of beside (c.args.core.now, table) in
    let on : is_online room c.args.cpu ≡ true = sym (c.is_online.ensures beside table) ∙ c.if-is_online.true in
    is beside ∙ ap (kept_in room) (sym (lead_of-one room c.args.cpu ∙ cond-true (is_online room c.args.cpu) (first_on room c.args.cpu) None on))

pub returns-else-is_online : goal.returns-else-is_online
returns-else-is_online g c table is beside =
    let room = room_of beside (c.args.core.now, table) in
    let off : is_online room c.args.cpu ≡ false = sym (c.is_online.ensures beside table) ∙ c.if-is_online.false in
    c.idle.ensures ∙ ap (kept_in room) (sym (lead_of-one room c.args.cpu ∙ cond-false (is_online room c.args.cpu) (first_on room c.args.cpu) None off))
