use Rattle.std.proofs.Common.{refl}
use Rattle.core_lanes.proofs.Stays.{alike_stays}
use Rattle.core_lanes.proofs.lanes.Core.touch.Goals as goal

pub returns : goal.returns
returns g c table = record { room = λ beside. refl; numbers = refl; stays = alike_stays _ _ refl refl refl }
