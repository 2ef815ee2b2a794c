use Rattle.std.proofs.lemmas.Result.{IfOk-from_err}
use Rattle.scripted_room.proofs.scripts.Scripts.of.Goals as goal

pub returns-in_err-add : goal.returns-in_err-add
returns-in_err-add c = record { steps = IfOk-from_err _ _ c.from_residual.ensures.0; count = IfOk-from_err _ _ c.from_residual.ensures.0 }
