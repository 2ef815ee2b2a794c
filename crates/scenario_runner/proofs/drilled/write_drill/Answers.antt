use Rattle.std.proofs.Common.{◌∙◌, subst}
use Rattle.cs_types.specs.Room.{Opening}
use Rattle.room_drill.specs.Summary.{summary_text}
use Rattle.scenario_runner.specs.Ends.{Used}
use Rattle.scenario_runner.specs.Written.{IsWritten}
use Rattle.scenario_runner.proofs.Runs.{drained_of}
use Rattle.scenario_runner.proofs.drilled.write_drill.Goals as goal

pub returns : goal.returns
returns g c =
    let run = g.R.Room.history c.drain.new.self in
    let sink : Used g.row.K.Denot = record { bytes = g.K.Sink.written; faults = g.K.Sink.faults; before = c.args.sink.now; after = c.write_summary.new.sink } in
    record {
      run = run;
      drained = drained_of _ _ c.args.steps.now _ run c.play.ensures.opening c.play.ensures.history c.drain.ensures.entries;
      written = subst (λ (o : Opening). IsWritten sink (summary_text c.args.seed o run) c.write_summary.result) (c.drain.ensures.opening ∙ c.play.ensures.opening) c.write_summary.ensures;
    }
