use Rattle.cs_outside.proofs.pair_guard.PairGuard.TheSendSync as guard
use Rattle.std.proofs.Crossing as std
use denote.Param.Send.{sendable}
use Rattle.core_state.proofs.Crosses.{CoreState-send}
use Rattle.lock_rows.proofs.passes.passes_in_threads_of_a_stranger.Goals as goal

-- the machine may go to another thread if its guards may
pub expect_two_threads-requires-send-M : goal.expect_two_threads-requires-send-M
expect_two_threads-requires-send-M g c κs = search (sendable, std.crosses, CoreState-send, guard.the_send) depth 40 fits 20000
