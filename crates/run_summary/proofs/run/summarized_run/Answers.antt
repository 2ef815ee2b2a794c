use Rattle.std.proofs.Common.{length, arith, ℕ, ◌*◌, ◌≡◌, ◌≤◌, sym, ap, ◌∙◌, subst}
use Rattle.std.specs.Prelude.{All}
use Rattle.std.proofs.lemmas.Nat.{mul-le}
use Rattle.cs_types.specs.Scenario.{IsPlayable}
use Rattle.cs_types.specs.Room.{Opening}
use Rattle.cs_types.specs.History.{History, AreEvents}
use Rattle.cs_types.specs.Laws.{is_refused}
use Rattle.cs_laws.proofs.Drains.{AreEvents-drained}
use Rattle.cs_laws.proofs.Histories.{length-history_of}
use Rattle.run_times.specs.declared.siblings.SiblingTimes.{SiblingTimes}
use Rattle.run_times.specs.Times.{spans_of}
use Rattle.run_times.specs.Sums.{did, Times, times_of}
use Rattle.run_times.proofs.Clock.{total_time-clock}
use Rattle.run_times.proofs.Laws.{each_adds_up, times_of-drained, exposed-le}
use Rattle.wait_times.specs.Rows.{AreWaitsSoFar, AreWaitsBeforeEnd}
use Rattle.run_summary.specs.declared.replies.ReplyCounts.{ReplyCounts}
use Rattle.run_summary.specs.Replies.{count_of, all_refused}
use Rattle.run_summary.specs.Summaries.{ArePartsOf}
use Rattle.run_summary.proofs.Counts.{refused_adds_up}
use Rattle.run_summary.proofs.Drained.{parts_of-drained, cookie_pairs-le, group_pairs-le}
use Rattle.run_summary.proofs.run.summarized_run.Goals as goal

pub play-requires-clause-parts : goal.play-requires-clause-parts
play-requires-clause-parts g c =
    let opening = g.R.Room.opening c.args.room.now in
    subst (λ (history : History). ArePartsOf opening history c.in_ok-summary.summary) (sym c.requires.empty)
    (c.in_ok-summary.ensures.parts opening (sym c.siblings.ensures.siblings))

pub returns-clause-adds_up : goal.returns-clause-adds_up
returns-clause-adds_up g c =
    let opening = g.R.Room.opening c.drain.new.self in
    subst (λ (times : Times). All (λ (sibling : SiblingTimes). did sibling ≡ times.total) times.siblings) (sym c.end.ensures.summary.times)
    (each_adds_up opening.scenario.siblings (spans_of opening (g.R.Room.history c.drain.new.self)))

pub returns-clause-clock : goal.returns-clause-clock
returns-clause-clock g c =
    ap (λ (times : Times). times.total) c.end.ensures.summary.times ∙ total_time-clock (g.R.Room.opening c.drain.new.self) (g.R.Room.history c.drain.new.self)

pub returns-clause-exposed : goal.returns-clause-exposed
returns-clause-exposed g c =
    let opening = g.R.Room.opening c.play.new.room in
    let history = g.R.Room.history c.play.new.room in
    let ended = g.R.Room.history c.drain.new.self in
    let same : times_of opening history ≡ times_of (g.R.Room.opening c.drain.new.self) ended =
    times_of-drained opening history ended c.drain.ensures.entries ∙ ap (λ (o : Opening). times_of o ended) (sym c.drain.ensures.opening) in
    subst (λ (times : Times). times.exposed.all ≤ times.pending) (same ∙ sym c.end.ensures.summary.times)
    (exposed-le opening history (subst (λ (o : Opening). IsPlayable o.scenario) (sym c.play.ensures.opening) c.siblings.ensures.playable)
    c.play.ensures.events (g.met.R.Room.legal c.play.new.room))

pub returns-clause-cookie_pairs : goal.returns-clause-cookie_pairs
returns-clause-cookie_pairs g c =
    cookie_pairs-le (g.R.Room.opening c.drain.new.self) (g.R.Room.history c.drain.new.self) c.end.new.self c.end.ensures.summary

pub returns-clause-group_pairs : goal.returns-clause-group_pairs
returns-clause-group_pairs g c =
    group_pairs-le (g.R.Room.opening c.drain.new.self) (g.R.Room.history c.drain.new.self) c.end.new.self c.end.ensures.summary

pub returns-clause-refused : goal.returns-clause-refused
returns-clause-refused g c =
    let history = g.R.Room.history c.drain.new.self in
    subst (λ (counts : ReplyCounts). all_refused counts ≡ count_of is_refused history) (sym c.end.ensures.summary.replies) (refused_adds_up history)

pub end-requires-clause-parts : goal.end-requires-clause-parts
end-requires-clause-parts g c =
    let history = g.R.Room.history c.drain.new.self in
    subst (λ (o : Opening). ArePartsOf o history c.play.new.summary) (sym c.drain.ensures.opening)
    (parts_of-drained (g.R.Room.opening c.play.new.room) (g.R.Room.history c.play.new.room) history c.play.new.summary c.drain.ensures.entries c.play.ensures.parts)

-- the siblings are at most 16, and the entries of the end at most as many as their square
few_siblings : (opening : Opening) → IsPlayable opening.scenario → opening.scenario.siblings ≤ 16
few_siblings opening playable = playable.siblings.1

pub end-requires-clause-few : goal.end-requires-clause-few
end-requires-clause-few g c =
    let siblings = λ (o : Opening). o.scenario.siblings * o.scenario.siblings in
    omega (
      arith,
      c.drain.ensures.count,
      c.drain.ensures.few,
      ap siblings c.play.ensures.opening,
      ap (λ (n : ℕ). n * n) c.siblings.ensures.siblings,
      ap length c.play.ensures.history ∙ length-history_of (g.R.Room.opening c.args.room.now) c.args.steps.now,
      c.play.ensures.entries,
      c.in_ok-summary.ensures.entries,
    )

pub end-requires-clause-fits : goal.end-requires-clause-fits
end-requires-clause-fits g c =
    let n = c.siblings.result in
    let few : n ≤ 16 = omega (arith, few_siblings (g.R.Room.opening c.args.room.now) c.siblings.ensures.playable, c.siblings.ensures.siblings) in
    omega (arith, mul-le n n 16 16 few few, c.play.ensures.entries, c.in_ok-summary.ensures.entries, c.requires.few)

pub play-requires-clause-waits : goal.play-requires-clause-waits
play-requires-clause-waits g c =
    let opening = g.R.Room.opening c.args.room.now in
    subst (λ (history : History). AreWaitsSoFar opening history c.in_ok-summary.summary.waits) (sym c.requires.empty) (c.in_ok-summary.ensures.waits opening)

pub end-requires-clause-events : goal.end-requires-clause-events
end-requires-clause-events g c =
    let opening = g.R.Room.opening c.play.new.room in
    let history = g.R.Room.history c.drain.new.self in
    subst (λ (o : Opening). AreEvents o history) (sym c.drain.ensures.opening)
    (AreEvents-drained opening (g.R.Room.history c.play.new.room) history c.play.ensures.events c.drain.ensures.entries)

pub end-requires-clause-waits : goal.end-requires-clause-waits
end-requires-clause-waits g c =
    let opening = g.R.Room.opening c.play.new.room in
    let past = g.R.Room.history c.play.new.room in
    let history = g.R.Room.history c.drain.new.self in
    subst (λ (o : Opening). AreWaitsBeforeEnd o history c.play.new.summary.waits) (sym c.drain.ensures.opening)
    (record { past = past; drained = c.drain.ensures.entries; so_far = c.play.ensures.waits })
