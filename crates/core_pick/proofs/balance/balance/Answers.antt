use mir.Val.{bool_byte}
use Rattle.std.proofs.Common.{ap, ◌∙◌, ◌≡◌, refl, Bool, true, false, if◌then◌else◌}
use Rattle.cs_types.specs.Selection.{is_to_steal}
use Rattle.cs_types.specs.Steal.{set_place}
use Rattle.core_lanes.specs.Lanes.{room_of}
use Rattle.core_pick.proofs.balance.balance.Goals as goal

-- a test as a number, as the code takes it
as_number : (b d : Bool) → b ≡ d → bool_byte b ≡ (if d then 1 else 0)
as_number true true same = refl
as_number false false same = refl
as_number true false same = absurd cc
as_number false true same = absurd cc

pub returns : goal.returns
returns g c = let set = c.set_place.ensures c.args.table.now in record {
  room = λ beside.
      set.room beside
      ∙ ap (set_place (room_of beside (c.args.core.now, c.args.table.now)) c.args.cpu) (c.from-place.ensures ∙ as_number (c.is_to_steal.result) (is_to_steal (room_of beside (c.args.core.now, c.args.table.now)) c.args.cpu) (c.is_to_steal.ensures beside));
  numbers = set.numbers;
  stays = set.stays;
}
