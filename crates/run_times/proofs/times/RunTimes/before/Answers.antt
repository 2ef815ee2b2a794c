use Rattle.std.proofs.Common.{sym, ap, ◌∙◌, arith}
use Rattle.std.proofs.lemmas.List.Elements.{recursion_from_All}
use Rattle.cs_types.specs.declared.reply.Entry.{Entry}
use Rattle.cs_types.specs.Scenario.{IsEvent}
use Rattle.cs_types.specs.History.{beginning}
use Rattle.run_times.specs.Times.{advance_of}
use Rattle.run_times.specs.Sums.{Times}
use Rattle.run_times.proofs.Spans.{advance_of-le, total_time-le}
use Rattle.run_times.proofs.Summed.{times_of-still}
use Rattle.run_times.proofs.times.RunTimes.before.Goals as goal

pub advance-requires-clause-fits : goal.advance-requires-clause-fits
advance-requires-clause-fits g c =
    let opening = g.R.Room.opening c.args.room.now in
    let history = g.R.Room.history c.args.room.now in
    let siblings = opening.scenario.siblings in
    let total = ap (λ (t : Times). t.total) c.requires.times in
    omega (
      arith,
      total,
      total_time-le siblings (beginning opening) history (recursion_from_All (λ (entry : Entry). IsEvent siblings entry.event) history c.requires.events),
      advance_of-le siblings c.args.event c.in-Some.time c.requires.event (sym c.in-Some.ensures),
      c.requires.few,
    )

pub returns-in_default : goal.returns-in_default
returns-in_default g c = λ entry same.
    c.requires.times
    ∙ times_of-still (g.R.Room.opening c.args.room.now) (g.R.Room.history c.args.room.now) entry (ap advance_of same ∙ sym c.in_default.ensures)
