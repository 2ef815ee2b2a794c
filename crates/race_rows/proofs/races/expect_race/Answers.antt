use Rattle.cs_outside.proofs.pair_guard.PairGuard.TheSendSync as guard
use Rattle.std.proofs.Crossing as std
use denote.Param.Send.{sendable}
use Rattle.core_state.proofs.Crosses.{CoreState-send}
use Rattle.race_rows.proofs.races.expect_race.Goals as goal

-- the machine may go to another thread if its guards may
pub race-requires-send-R : goal.race-requires-send-R
race-requires-send-R g c κs within = search (sendable, std.crosses, CoreState-send, guard.the_send) depth 40 fits 20000
