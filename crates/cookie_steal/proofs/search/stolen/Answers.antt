use Rattle.std.proofs.Common.{ℕ, ap, ◌∙◌, sym, ◌≡◌, false}
use Rattle.std.specs.Prelude.{filter, ◌||◌, ◌==◌, is_some, None}
use Rattle.std.proofs.lemmas.Bool.{ne_eqb, cond-false}
use Rattle.cs_types.specs.Room.{SiblingState, sibling_of}
use Rattle.cs_types.specs.Order.{first_of}
use Rattle.cs_types.specs.Selection.{queued_with}
use Rattle.cs_types.specs.Steal.{may_steal, stolen}
use Rattle.core_lanes.specs.Lanes.{room_of}
use Rattle.core_lanes.proofs.Stays.{lane_at}
use Rattle.cookie_steal.proofs.search.stolen.Goals as goal

pub returns-clause-stolen : goal.returns-clause-stolen
unfolding stolen
returns-clause-stolen g c beside =
    let room = room_of beside (c.args.core.now, c.args.table.now) in
    let from = λ (source : ℕ). first_of (filter (may_steal (sibling_of room c.args.thief) (sibling_of room source)) (queued_with room room.core_cookie source)) in
    let at = lane_at c.args.core.now.lanes.items c.args.thief c.index.result.now c.requires.at.cpu c.index.ensures in
    let has : (room.core_cookie == 0) ≡ false = ne_eqb _ _ c.if-core-eq0.false in
    let idles : is_some (sibling_of room c.args.thief).run ≡ false = ap (λ (s : SiblingState). is_some s.run) at ∙ sym c.is_some.ensures ∙ c.if-is_some.false in
    let test : ((room.core_cookie == 0) || is_some (sibling_of room c.args.thief).run) ≡ false = λ i. has i || idles i in
    c.first_to_steal.ensures.first beside ∙ ap from (c.requires.is beside) ∙ sym (cond-false _ None _ test)
