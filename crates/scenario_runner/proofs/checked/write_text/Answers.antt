use Rattle.scenario_runner.specs.Ends.{Used}
use Rattle.scenario_runner.proofs.Writes.{is_written}
use Rattle.scenario_runner.proofs.checked.write_text.Goals as goal

pub returns : goal.returns
returns g c =
    let sink : Used g.row.K.Denot = record { bytes = g.K.Sink.written; faults = g.K.Sink.faults; before = c.args.sink.now; after = c.write_all.new.sink } in
    is_written sink _ c.write_all.result c.of_writing.result c.of_writing.ensures.done c.of_writing.ensures.fault c.write_all.ensures.ok c.write_all.ensures.prefix c.write_all.ensures.faultless c.write_all.ensures.failed
