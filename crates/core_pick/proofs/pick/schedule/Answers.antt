use Rattle.std.proofs.Common.{◌∙◌, ◌<◌, ap, sym, subst}
use Rattle.std.specs.Prelude.{if◌then◌else◌}
use Rattle.cs_types.specs.Room.{RoomState, sibling_of}
use Rattle.cs_types.specs.Selection.{adopt_or_pick_anew, is_to_steal}
use Rattle.cs_types.specs.Steal.{set_place}
use Rattle.core_lanes.specs.Lanes.{at, beside_after, room_of}
use Rattle.core_lanes.specs.Numbers.{numbers_of, with_ended}
use Rattle.core_pick.specs.Schedules.{may_adopt_by}
use Rattle.core_lanes.specs.Changes.{Kept}
use Rattle.core_lanes.proofs.Stays.{both_stay}
use Rattle.core_pick.proofs.pick.schedule.Goals as goal

pub balance-requires : goal.balance-requires
balance-requires g c = record {
  cpu = subst (λ (kept : Kept). c.args.cpu < kept.siblings) (sym c.adopt_or_pick_anew-pick.ensures.schedules.stays.kept) c.requires.picks.cpu;
  agree = c.adopt_or_pick_anew-pick.ensures.schedules.stays.agree c.requires.picks.agree;
}

pub returns-clause-schedules : goal.returns-clause-schedules
returns-clause-schedules g c =
    let now = c.args.now in
    let cpu = c.args.cpu in
    let picked = c.adopt_or_pick_anew-pick.ensures.schedules in
    record {
      pick = picked.pick;
      room = λ beside.
          let old = room_of (at now beside) (c.args.core.now, c.args.table.now) in
          let made = (adopt_or_pick_anew old (may_adopt_by c.args.cpu (numbers_of (c.args.core.now, c.args.table.now))) cpu (sibling_of old cpu).waiting).room in
          c.balance.ensures.room (beside_after (at now beside) made)
          ∙ ap (λ (room : RoomState). set_place room cpu (if is_to_steal room cpu then 1 else 0)) (picked.room beside);
      numbers = λ beside kept. ap (with_ended beside.ended) c.balance.ensures.numbers ∙ picked.numbers beside kept;
      stays = both_stay picked.stays c.balance.ensures.stays;
    }
