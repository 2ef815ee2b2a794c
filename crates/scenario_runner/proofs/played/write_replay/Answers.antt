use Rattle.std.proofs.Common.{◌∙◌, subst}
use Rattle.cs_types.specs.Room.{Opening}
use Rattle.scenario_runner.specs.Ends.{Used}
use Rattle.scenario_runner.specs.Written.{WritesOutput}
use Rattle.scenario_runner.proofs.Runs.{drained_of}
use Rattle.scenario_runner.proofs.played.write_replay.Goals as goal

pub returns : goal.returns
returns g c =
    let run = g.R.Room.history c.drain.new.self in
    let sink : Used g.row.K.Denot = record { bytes = g.K.Sink.written; faults = g.K.Sink.faults; before = c.args.sink.now; after = c.write_output.new.sink } in
    record {
      run = run;
      drained = drained_of _ _ c.args.steps.now _ run c.play.ensures.opening c.play.ensures.history c.drain.ensures.entries;
      output = subst (λ (o : Opening). WritesOutput sink o run c.write_output.result) (c.drain.ensures.opening ∙ c.play.ensures.opening) c.write_output.ensures;
    }
