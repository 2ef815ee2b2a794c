use Rattle.std.proofs.Common.{◌≡◌, refl, sym, ap, ◌∙◌, arith, true, false, List, length}
use Rattle.cs_types.specs.declared.event.Step.{Step}
use Rattle.trace_check.proofs.Followed.{start, goes_on, wrong_here, made_of, spare_more, all, line_here}
use Rattle.trace_check.proofs.judging.make_all.Goals as goal

pub loop-place-init : goal.loop-place-init
loop-place-init g c =
    record {
      opening = refl;
      spare = omega arith;
      so_far =
          start (g.R.Room.opening c.args.room.now) (g.R.Room.opening c.args.room.now).scenario.steps c.new-places.result (g.R.Room.history c.args.room.now)
          c.args.text.now c.requires.empty (λ actor. c.new-places.ensures (g.R.Room.opening c.args.room.now).scenario.steps actor);
    }

pub returns-then-not-has_line-clause-err : goal.returns-then-not-has_line-clause-err
returns-then-not-has_line-clause-err g c =
    let steps = c.requires.steps in
    let inside = c.loop-place-test.true in
    let long = ap (λ (s : List Step). length s) steps in
    wrong_here (g.R.Room.opening c.args.room.now) c.loop-place.places c.make_step-entry.new.places c.loop-place.place (g.R.Room.history c.loop-place.room)
    (g.R.Room.history c.make_step-entry.new.room) c.args.text.now c.loop-place.rest.now _ c.requires.playable c.loop-place.invariant.so_far
    (omega (arith, inside, long)) refl
    (line_here _ _ _ c.first_line.ensures.some c.first_line.ensures.none)
    (made_of _ _ _ _ _ _ _ _ _ _ c.loop-place.invariant.opening steps c.make_step-entry.ensures.made)
    (λ its. let both : true ≡ false = sym (c.has_line.ensures.1 its) ∙ c.if-not-has_line.true in absurd cc)

pub loop-place-preserved : goal.loop-place-preserved
loop-place-preserved g c =
    record {
      opening = c.make_step-entry.ensures.opening ∙ c.loop-place.invariant.opening;
      spare =
          spare_more _ _ _ _ c.make_step-entry.result _ (c.has_line.ensures.0 c.if-not-has_line.false) c.make_step-entry.ensures.spare c.loop-place.invariant.spare;
      so_far =
          goes_on (g.R.Room.opening c.args.room.now) (g.R.Room.opening c.args.room.now).scenario.steps c.loop-place.places c.make_step-entry.new.places c.loop-place.place
          (g.R.Room.history c.loop-place.room) (g.R.Room.history c.make_step-entry.new.room) c.args.text.now c.loop-place.rest.now _ _ _
          c.loop-place.invariant.so_far
          (made_of _ _ _ _ _ _ _ _ _ _ c.loop-place.invariant.opening c.requires.steps c.make_step-entry.ensures.made)
          c.requires.playable.steps c.first_line.ensures.some (c.has_line.ensures.0 c.if-not-has_line.false);
    }

pub returns-clause-ok : goal.returns-clause-ok
returns-clause-ok g c =
    let steps = c.requires.steps in
    let long = ap (λ (s : List Step). length s) steps in
    let past = c.loop-place-test.false in
    let inside = c.loop-place.auto.place-end in
    all (g.R.Room.opening c.args.room.now) c.loop-place.places c.loop-place.place (g.R.Room.history c.loop-place.room) c.args.text.now c.loop-place.rest.now
    c.loop-place.invariant.so_far (omega (arith, long, past, inside))
