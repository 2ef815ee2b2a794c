use Rattle.std.proofs.Common.{sym, ap, ◌∙◌}
use Rattle.cs_types.specs.History.{fold_of}
use Rattle.run_times.specs.Times.{advance_of}
use Rattle.run_times.proofs.Spans.{advance_of-le}
use Rattle.task_times.specs.Living.{leaver}
use Rattle.task_times.proofs.Leaving.{no_exit}
use Rattle.task_times.proofs.Summed.{sums_so_far-still}
use Rattle.task_times.proofs.sums.RunTasks.before.Goals as goal

pub advance-requires-clause-time : goal.advance-requires-clause-time
advance-requires-clause-time g c =
    advance_of-le (g.R.Room.opening c.args.room.now).scenario.siblings c.args.event c.in-Some.time c.requires.event (sym c.in-Some.ensures)

pub returns-in-Exit : goal.returns-in-Exit
returns-in-Exit g c = λ entry same. c.leave.ensures entry (same ∙ c.in-Exit.is)

pub returns-in_default-event : goal.returns-in_default-event
returns-in_default-event g c = λ entry same.
    let opening = g.R.Room.opening c.args.room.now in
    let history = g.R.Room.history c.args.room.now in
    c.requires.times
    ∙ sums_so_far-still _ opening history entry (ap advance_of same ∙ sym c.in_default.ensures)
    (ap (leaver (fold_of opening history)) same ∙ no_exit (fold_of opening history) c.args.event c.in_default-event.not-Exit)
