use Rattle.std.proofs.Common.{subst, inl, inr, refl}
use Rattle.cs_types.specs.Room.{Opening}
use Rattle.scenario_runner.specs.Ends.{Used}
use Rattle.scenario_runner.specs.Written.{WritesOutput}
use Rattle.scenario_runner.proofs.played.write_race.Goals as goal

pub returns-in-Ok : goal.returns-in-Ok
returns-in-Ok g c =
    let run = g.R.Room.history c.in-Ok.raced in
    let sink : Used g.row.K.Denot = record { bytes = g.K.Sink.written; faults = g.K.Sink.faults; before = c.args.sink.now; after = c.write_output.new.sink } in
    inl
    (record {
      run = run;
      raced = c.in-Ok.ensures.raced;
      output = subst (λ (o : Opening). WritesOutput sink o run c.write_output.result) c.in-Ok.ensures.opening c.write_output.ensures;
    })

pub returns-in-Err : goal.returns-in-Err
returns-in-Err g c = inr (record { memory = refl; unwritten = refl })
