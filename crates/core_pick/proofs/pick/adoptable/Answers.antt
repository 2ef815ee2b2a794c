use Rattle.std.proofs.Common.{◌≡◌, ◌∙◌, ◌<◌, ℕ, List, ap, sym, get_or, length, map, None}
use Rattle.std.specs.Prelude.{Bool, ◌==◌, ◌&&◌, not}
use Rattle.std.proofs.lemmas.Bool.{cond-true, cond-false}
use Rattle.std.proofs.lemmas.List.{get_or-map}
use Rattle.cs_types.specs.Room.{SiblingState}
use Rattle.core_lanes.specs.declared.lane.Lane.{Lane}
use Rattle.core_lanes.proofs.Stays.{lane_at, number_of}
use Rattle.core_pick.proofs.pick.adoptable.Goals as goal

-- the test of a sibling's own number is that of its place among those of all
by_own : {Q : Type 0} (lanes : List (Lane Q)) (cpu pick : ℕ) (equal : Bool) (x : Lane Q) → cpu < length lanes → x ≡ get_or lanes cpu x →
    (equal && not (get_or (map number_of lanes) cpu 0 == pick)) ≡ (equal && not (x.number == pick))
by_own lanes cpu pick equal x below is = ap (λ n. equal && not (n == pick)) (get_or-map number_of lanes cpu x 0 below ∙ ap number_of (sym is))

pub returns-then-may_adopt : goal.returns-then-may_adopt
returns-then-may_adopt g c beside table =
    let core = c.args.core.now in
    let lanes = core.lanes.items in
    ap (λ (sibling : SiblingState). sibling.waiting) (sym (lane_at lanes c.args.cpu c.index-lane.result.now c.requires c.index-lane.ensures))
    ∙ sym (cond-true _ _ None (by_own lanes c.args.cpu core.pick_number (core.pick_number == core.task_number) c.index-lane.result.now c.requires c.index-lane.ensures
    ∙ sym c.may_adopt.ensures ∙ c.if-may_adopt.true))

pub returns-else-may_adopt : goal.returns-else-may_adopt
returns-else-may_adopt g c beside table =
    let core = c.args.core.now in
    sym (cond-false _ _ None (by_own core.lanes.items c.args.cpu core.pick_number (core.pick_number == core.task_number) c.index-lane.result.now c.requires c.index-lane.ensures
    ∙ sym c.may_adopt.ensures ∙ c.if-may_adopt.false))
