use Rattle.std.proofs.Common.{◌≡◌, ◌-◌, All, drop, take}
use Rattle.std.specs.List.{flat_map}
use Rattle.scenario_text.specs.Text.{entry_text}
use Rattle.scenario_text.specs.Entry.{FitsReply}
use Rattle.cs_outside.proofs.Reached.{Reached}
use Rattle.room_report.proofs.parts.write_entries.Given as goal

abbrev pub invariant-loop-index : goal.invariant-loop-index
invariant-loop-index g l =
    let written = g.K.Sink.written in
    let faults = g.K.Sink.faults in
    record {
      reached : Reached (written l.fn.sink) (flat_map entry_text (drop l.from (g.R.Room.history l.room))) (flat_map entry_text (drop l.index (g.R.Room.history l.room))) (written l.sink);
      faultless : faults l.sink ≡ faults l.fn.sink;
      numbers : All (λ entry. FitsReply entry.reply) (take (l.index - l.from) (drop l.from (g.R.Room.history l.room)));
    }
