use Rattle.std.proofs.Common.{◌≡◌, length, sym, ap, ◌∙◌, subst, arith}
use Rattle.cs_types.specs.Scenario.{IsPlayable}
use Rattle.cs_types.specs.Room.{Opening}
use Rattle.cs_laws.proofs.Histories.{history_more}
use Rattle.run_times.proofs.Events.{events_more, event_in}
use Rattle.wait_times.specs.Rows.{Waits}
use Rattle.run_summary.specs.Summaries.{Summary, spare_rows}
use Rattle.run_summary.proofs.Plays.{length_so_far, length_with_next, parts_more, parts_beside, waits_before, rows_fit, rows_go, took_as_much}
use Rattle.run_summary.proofs.run.play.Goals as goal

pub before-requires-clause-playable : goal.before-requires-clause-playable
before-requires-clause-playable g c = subst (λ (o : Opening). IsPlayable o.scenario) (sym c.loop-step.invariant.opening) c.requires.playable

pub before-requires-clause-few : goal.before-requires-clause-few
before-requires-clause-few g c =
    let long : length (g.R.Room.history c.loop-step.room) ≡ c.loop-step.step-index =
    length_so_far (g.R.Room.opening c.args.room.now) c.args.steps.now c.loop-step.step-index (g.R.Room.history c.loop-step.room) c.loop-step.auto.step-index-end c.loop-step.invariant.history in
    omega (arith, long, c.requires.few, c.loop-step-test.true, c.loop-step.invariant.entries)

pub before-requires-clause-fits : goal.before-requires-clause-fits
before-requires-clause-fits g c = omega (arith, c.requires.fits, c.loop-step.invariant.entries)

pub before-requires-clause-spare : goal.before-requires-clause-spare
before-requires-clause-spare g c =
    rows_fit (g.R.Room.opening c.args.room.now).scenario.siblings _ c.args.steps.now c.loop-step.step-index _ _ (ap (λ (o : Opening). o.scenario.siblings) c.loop-step.invariant.opening)
    c.loop-step-test.true c.loop-step.invariant.rows

pub after-requires-clause-playable : goal.after-requires-clause-playable
after-requires-clause-playable g c = subst (λ (o : Opening). IsPlayable o.scenario) (sym (c.apply-reply.ensures.opening ∙ c.loop-step.invariant.opening)) c.requires.playable

pub after-requires-clause-events : goal.after-requires-clause-events
after-requires-clause-events g c =
    let begun = g.R.Room.opening c.args.room.now in
    let opening = g.R.Room.opening c.loop-step.room in
    let past = g.R.Room.history c.loop-step.room in
    events_more opening _ past _ _ c.apply-reply.ensures.opening c.apply-reply.ensures.entry c.loop-step.invariant.events
    (event_in begun opening _ c.loop-step.invariant.opening (c.requires.events c.loop-step.step-index _ c.loop-step-test.true))

pub after-requires-clause-waits : goal.after-requires-clause-waits
after-requires-clause-waits g c =
    let opening = g.R.Room.opening c.loop-step.room in
    let past = g.R.Room.history c.loop-step.room in
    waits_before opening _ past _ _ _ _ c.apply-reply.ensures.opening c.apply-reply.ensures.entry c.before-in-loop-step.ensures.waits c.loop-step.invariant.waits

pub after-requires-clause-few : goal.after-requires-clause-few
after-requires-clause-few g c =
    let past = g.R.Room.history c.loop-step.room in
    let long : length past ≡ c.loop-step.step-index =
    length_so_far (g.R.Room.opening c.args.room.now) c.args.steps.now c.loop-step.step-index past c.loop-step.auto.step-index-end c.loop-step.invariant.history in
    length_with_next past _ _ c.loop-step.step-index (length c.args.steps.now) _ c.apply-reply.ensures.entry long c.loop-step-test.true
    (omega (arith, c.requires.few, c.requires.each, c.loop-step.invariant.each, ap (λ (w : Waits). w.entries) c.before-in-loop-step.ensures.waits))

pub after-requires-clause-fits : goal.after-requires-clause-fits
after-requires-clause-fits g c =
    omega (arith, c.requires.fits, c.requires.each, c.loop-step.invariant.each, ap (λ (w : Waits). w.entries) c.before-in-loop-step.ensures.waits)

pub loop-step-preserved : goal.loop-step-preserved
loop-step-preserved g c =
    let begun = g.R.Room.opening c.args.room.now in
    let opening = g.R.Room.opening c.loop-step.room in
    let past = g.R.Room.history c.loop-step.room in
    record {
      history = history_more begun opening c.args.steps.now c.loop-step.step-index _ past _ c.apply-reply.result c.loop-step-test.true c.loop-step.invariant.history c.loop-step.invariant.opening c.apply-reply.ensures.entry c.apply-reply.ensures.reply;
      opening = c.apply-reply.ensures.opening ∙ c.loop-step.invariant.opening;
      spare = omega (arith, c.apply-reply.ensures.spare, c.loop-step.invariant.spare);
      events = events_more opening _ past _ _ c.apply-reply.ensures.opening c.apply-reply.ensures.entry c.loop-step.invariant.events
          (event_in begun opening _ c.loop-step.invariant.opening (c.requires.events c.loop-step.step-index _ c.loop-step-test.true));
      parts = parts_beside _ _ _ _ c.after.ensures.rest (parts_more opening _ past _ _ _ c.apply-reply.ensures.opening c.apply-reply.ensures.entry c.before-in-loop-step.ensures.parts);
      waits = c.after.ensures.waits;
      each = c.after.ensures.entries ∙ ap (λ (w : Waits). w.entries) c.before-in-loop-step.ensures.waits ∙ c.loop-step.invariant.each;
      entries = ap (λ (s : Summary). s.tasks.entries) c.after.ensures.rest ∙ c.before-in-loop-step.ensures.entries ∙ c.loop-step.invariant.entries;
      rows = rows_go begun.scenario.siblings opening.scenario.siblings c.args.steps.now c.loop-step.step-index _ _ (spare_rows c.after.new.self) (ap (λ (o : Opening). o.scenario.siblings) c.loop-step.invariant.opening)
          c.loop-step-test.true c.loop-step.invariant.rows
          (took_as_much _ _ _ _ c.before-in-loop-step.ensures.spare (ap spare_rows c.after.ensures.rest));
    }
