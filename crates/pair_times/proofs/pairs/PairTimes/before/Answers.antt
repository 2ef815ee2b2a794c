use Rattle.std.proofs.Common.{sym, ap, ◌∙◌, subst, arith}
use Rattle.std.proofs.lemmas.List.Elements.{recursion_from_All}
use Rattle.cs_types.specs.declared.reply.Entry.{Entry}
use Rattle.cs_types.specs.Scenario.{IsEvent}
use Rattle.cs_types.specs.History.{beginning}
use Rattle.run_times.specs.Times.{advance_of, spans_of}
use Rattle.run_times.proofs.Spans.{advance_of-le, total_time-le, time_in-most}
use Rattle.pair_times.specs.Pairs.{run_both, time_of, Pairs, ArePairsOf}
use Rattle.pair_times.proofs.Runs.{pairs_of-advance, pairs_of-still}
use Rattle.pair_times.proofs.pairs.PairTimes.before.Goals as goal

pub add_each-requires-clause-fits : goal.add_each-requires-clause-fits
add_each-requires-clause-fits g c a b lt =
    let opening = g.R.Room.opening c.args.room.now in
    let history = g.R.Room.history c.args.room.now in
    let siblings = opening.scenario.siblings in
    let same = ap (λ (pairs : Pairs). time_of pairs.rows a b) c.self.view_is in
    omega (
      arith,
      same,
      c.requires.pairs.times a b lt,
      time_in-most (run_both c.args.self.now.by a b) (spans_of opening history),
      total_time-le siblings (beginning opening) history (recursion_from_All (λ (entry : Entry). IsEvent siblings entry.event) history c.requires.events),
      advance_of-le siblings c.args.event c.in-Some.time c.requires.event (sym c.in-Some.ensures),
      c.requires.few,
    )

pub returns-in-Some-clause-pairs : goal.returns-in-Some-clause-pairs
returns-in-Some-clause-pairs g c = λ entry same.
    let opening = g.R.Room.opening c.args.room.now in
    let history = g.R.Room.history c.args.room.now in
    let was = subst (ArePairsOf opening history) (sym c.self.view_is) c.requires.pairs in
    pairs_of-advance c.self.inside.by opening history entry c.in-Some.time c.self.inside.rows.items _ c.keys_run.result.items (ap advance_of same ∙ sym c.in-Some.ensures) was
    c.add_each.ensures.rows c.keys_run.ensures.run
    (λ a b lt. rw c.as_slice.ensures.value at (c.add_each.ensures.times a b lt))

pub returns-in_default-clause-pairs : goal.returns-in_default-clause-pairs
returns-in_default-clause-pairs g c = λ entry same.
    pairs_of-still c.args.self.now.by (g.R.Room.opening c.args.room.now) (g.R.Room.history c.args.room.now) entry _ (ap advance_of same ∙ sym c.in_default.ensures) c.requires.pairs
