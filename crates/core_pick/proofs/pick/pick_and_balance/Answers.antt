use Rattle.std.proofs.Common.{◌∙◌, ap}
use Rattle.std.specs.Prelude.{if◌then◌else◌}
use Rattle.cs_types.specs.Room.{RoomState}
use Rattle.cs_types.specs.Selection.{is_to_steal}
use Rattle.cs_types.specs.Steal.{set_place}
use Rattle.core_lanes.specs.Lanes.{at}
use Rattle.core_lanes.proofs.Stays.{both_stay}
use Rattle.core_pick.proofs.pick.pick_and_balance.Goals as goal

pub returns : goal.returns
returns g c = record {
  schedules = record {
    pick = c.pick_anew-pick.ensures.schedules.pick;
    room = λ beside. c.balance.ensures.room (at c.args.now beside)
        ∙ ap (λ (room : RoomState). set_place room c.args.cpu (if is_to_steal room c.args.cpu then 1 else 0)) (c.pick_anew-pick.ensures.schedules.room beside);
    numbers = c.balance.ensures.numbers ∙ c.pick_anew-pick.ensures.schedules.numbers;
    stays = both_stay c.pick_anew-pick.ensures.schedules.stays c.balance.ensures.stays;
  };
  counted = λ longest longer. c.pick_anew-pick.ensures.counted longest longer;
}
