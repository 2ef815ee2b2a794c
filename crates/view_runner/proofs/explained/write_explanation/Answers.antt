use Rattle.std.proofs.Common.{refl, sym, subst}
use Rattle.scenario_input.specs.Stop.{status_of}
use Rattle.scenario_runner.specs.Ends.{Used}
use Rattle.view_runner.specs.Written.{Says, said, broken_off, nothing}
use Rattle.view_runner.proofs.explained.write_explanation.Goals as goal

-- Nothing is said.
pub returns-in_default : goal.returns-in_default
returns-in_default g c =
    let sink : Used g.row.K.Denot = record { bytes = g.K.Sink.written; faults = g.K.Sink.faults; before = c.args.sink.now; after = c.args.sink.now } in
    subst (Says sink (status_of c.args.stop)) (sym c.from-status.ensures) (nothing c.in_default.ensures refl)

-- All of it was written.
pub returns-in-Ok : goal.returns-in-Ok
returns-in-Ok g c =
    let sink : Used g.row.K.Denot = record { bytes = g.K.Sink.written; faults = g.K.Sink.faults; before = c.args.sink.now; after = c.write.new.sink } in
    let tells = c.in-Some.ensures in
    subst (Says sink (status_of c.args.stop)) (sym c.from-status.ensures)
    (said tells.0 c.in-Some.said tells.1 tells.2 c.in-Ok.ensures.ok c.in-Ok.ensures.faultless)

-- The sink failed.
pub returns-in-Err : goal.returns-in-Err
returns-in-Err g c =
    let tells = c.in-Some.ensures in
    broken_off tells.0 c.in-Some.said tells.1 tells.2 c.write.ensures.prefix c.in-Err.ensures.failed
