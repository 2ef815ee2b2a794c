use Rattle.std.proofs.Crossing as std
use denote.Param.Send.{sendable}
use Rattle.core_state.proofs.Crosses.{CoreState-send}
use Rattle.row_runs.proofs.program.run_over_trees.Goals as goal

-- the machine may go to another thread where its guards may
pub run-requires-send-R : goal.run-requires-send-R
run-requires-send-R g c κs within = search (sendable, std.crosses, CoreState-send) depth 40 fits 20000
