use Rattle.std.proofs.Common.{◌≡◌, drop, map}
use Rattle.std.specs.List.{flat_map}
use Rattle.scenario_text.specs.Text.{line, users_in, task_words_in}
use Rattle.cs_outside.proofs.Reached.{AreLeft}
use Rattle.scenario_writer.proofs.scenario.write_tasks.Given as goal

abbrev pub invariant-loop-task : goal.invariant-loop-task
invariant-loop-task g l =
    let written = g.K.Sink.written in
    let words = task_words_in l.version (users_in l.version l.tasks) in
    record {
      left : AreLeft line (written l.fn.sink) (flat_map line (map words l.tasks)) (map words (drop l.task-index l.tasks)) (written l.sink);
      faultless : g.K.Sink.faults l.sink ≡ g.K.Sink.faults l.fn.sink;
    }
