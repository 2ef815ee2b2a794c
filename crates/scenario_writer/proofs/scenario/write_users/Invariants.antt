use Rattle.std.proofs.Common.{◌≡◌, ◌≤◌, drop}
use Rattle.std.specs.List.{flat_map}
use Rattle.scenario_text.specs.Text.{line, users_words, users_in}
use Rattle.cs_outside.proofs.Reached.{AreLeft}
use Rattle.scenario_writer.proofs.Counted.{counted}
use Rattle.scenario_writer.proofs.scenario.write_users.Given as goal

abbrev pub invariant-loop-place : goal.invariant-loop-place
invariant-loop-place g l =
    let written = g.K.Sink.written in
    let lines = users_words (users_in l.version l.tasks) in
    record {
      left : AreLeft line (written l.fn.sink) (flat_map line lines) (drop l.number lines) (written l.sink);
      numbered : l.number ≡ counted l.tasks l.place;
      small : l.number ≤ l.place;
      faultless : g.K.Sink.faults l.sink ≡ g.K.Sink.faults l.fn.sink;
    }
