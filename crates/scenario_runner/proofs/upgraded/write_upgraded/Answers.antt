use Rattle.std.proofs.Common.{subst}
use Rattle.cs_types.specs.declared.scenario.Scenario.{Scenario}
use Rattle.scenario_text.specs.Text.{scenario_text}
use Rattle.scenario_runner.specs.Ends.{Used}
use Rattle.scenario_runner.specs.Written.{IsWritten}
use Rattle.scenario_runner.proofs.Writes.{is_written}
use Rattle.scenario_runner.proofs.upgraded.write_upgraded.Goals as goal

pub returns : goal.returns
returns g c =
    let sink : Used g.row.K.Denot = record { bytes = g.K.Sink.written; faults = g.K.Sink.faults; before = c.args.sink.now; after = c.scenario_text.new.sink } in
    subst (λ (s : Scenario). IsWritten sink (scenario_text s) c.of_writing.result) c.upgrade.ensures.upgraded
    (is_written sink _ c.scenario_text.result c.of_writing.result c.of_writing.ensures.done c.of_writing.ensures.fault c.scenario_text.ensures.ok c.scenario_text.ensures.prefix c.scenario_text.ensures.faultless c.scenario_text.ensures.failed)
