use Rattle.std.proofs.Common.{◌≡◌, ◌∙◌, ◌++◌, ◌∷◌, [], List, length, Some, refl, sym, ap, subst, arith, length-append}
use Rattle.std.specs.Prelude.{slice_get}
use Rattle.cs_types.specs.declared.event.Event.{Event}
use Rattle.cs_types.specs.declared.event.Step.{Step}
use Rattle.cs_types.specs.declared.reply.Entry.{Entry}
use Rattle.cs_types.specs.Room.{Opening}
use Rattle.cs_types.specs.Scenario.{IsEvent, script}
use Rattle.cs_types.specs.History.{History, IsLegal, events_by, reply_to}
use Rattle.sibling_workers.specs.Race.{events_in}
use Rattle.scripted_room.specs.Scripts.{step_of}
use Rattle.scripted_room.specs.Scripted.{IsScripted}
use Rattle.scripted_room.proofs.Turns.{script_at, script_event, scripts_more, slice_get-append, still_made, made_not_finished, whole_script}
use Rattle.scripted_room.proofs.scripted.Scripted.turn.Goals as goal

pub apply-requires-clause-event : goal.apply-requires-clause-event
apply-requires-clause-event g c =
    let scenario = g.N.Named.opening.scenario in
    let history = g.R.Room.history c.self.inside.room in
    let at = script_at scenario history c.self.inside.scripts c.next.new.self c.args.actor c.in-Some.event c.self.invariant.scripts c.in-Some.ensures.some in
    subst (λ (opening : Opening). IsEvent opening.scenario.siblings c.in-Some.event) (sym c.self.invariant.named)
    (script_event scenario c.args.actor (events_by c.args.actor history) (events_in c.args.actor c.next.new.self) c.in-Some.event c.self.invariant.playable at)

pub returns-in-Some-clause-turn : goal.returns-in-Some-clause-turn
returns-in-Some-clause-turn g c =
    let scenario = g.N.Named.opening.scenario in
    let history = g.R.Room.history c.self.inside.room in
    let at = script_at scenario history c.self.inside.scripts c.next.new.self c.args.actor c.in-Some.event c.self.invariant.scripts c.in-Some.ensures.some in
    let past = events_by c.args.actor history in
    rw (← c.self.view_is) (
      c.in-Some.event,
      subst (λ (es : List Event). slice_get es (length past) ≡ Some c.in-Some.event) at (slice_get-append past (events_in c.args.actor c.next.new.self) c.in-Some.event),
      subst (λ (o : Opening). c.apply.result ≡ reply_to o history c.in-Some.event) c.self.invariant.named c.apply.ensures.reply,
      c.apply.ensures.entry,
    )

pub returns-in-Some-clause-made : goal.returns-in-Some-clause-made
returns-in-Some-clause-made g c other whole =
    let scenario = g.N.Named.opening.scenario in
    let history = g.R.Room.history c.self.inside.room in
    let more = scripts_more scenario history c.self.inside.scripts c.next.new.self c.args.actor c.in-Some.event c.apply.result c.self.invariant.scripts c.in-Some.ensures.some in
    let now : events_by other (g.R.Room.history c.apply.new.self) ++ events_in other c.next.new.self ≡ script scenario other =
    ap (λ (h : History). events_by other h ++ events_in other c.next.new.self) c.apply.ensures.entry ∙ more other
    in
    still_made scenario history (g.R.Room.history c.apply.new.self) c.self.inside.scripts c.next.new.self (step_of c.args.actor c.in-Some.event ∷ []) other
    (c.self.invariant.scripts other) now (c.in-Some.ensures.some other) (rw (← c.self.view_is) at whole)

pub returns-in-Some-clause-order : goal.returns-in-Some-clause-order
returns-in-Some-clause-order g c a =
    let scenario = g.N.Named.opening.scenario in
    let history = g.R.Room.history c.self.inside.room in
    let more = scripts_more scenario history c.self.inside.scripts c.next.new.self c.args.actor c.in-Some.event c.apply.result c.self.invariant.scripts c.in-Some.ensures.some in (
      events_in a c.next.new.self,
      ap (λ (h : History). events_by a h ++ events_in a c.next.new.self) c.apply.ensures.entry ∙ more a,
    )

pub returns-in-None-clause-order : goal.returns-in-None-clause-order
returns-in-None-clause-order g c a = (events_in a c.self.inside.scripts, c.self.invariant.scripts a)

pub apply-requires-clause-spare : goal.apply-requires-clause-spare
apply-requires-clause-spare g c = omega (arith, c.self.invariant.spare, c.in-Some.ensures.count)

pub returns-in-Some-clause-unchanged : goal.returns-in-Some-clause-unchanged
returns-in-Some-clause-unchanged g c same = absurd (made_not_finished c.apply.result same)

pub returns-in-Some-clause-spare : goal.returns-in-Some-clause-spare
returns-in-Some-clause-spare g c = rw (← c.self.view_is) c.apply.ensures.spare

pub returns-in-Some-clause-playable : goal.returns-in-Some-clause-playable
returns-in-Some-clause-playable g c = c.self.invariant.playable

pub returns-in-Some-clause-opening : goal.returns-in-Some-clause-opening
returns-in-Some-clause-opening g c = c.apply.ensures.opening ∙ c.self.invariant.named

pub returns-in-Some-clause-legal : goal.returns-in-Some-clause-legal
returns-in-Some-clause-legal g c =
    subst (λ (opening : Opening). IsLegal opening (g.R.Room.history c.apply.new.self)) (c.apply.ensures.opening ∙ c.self.invariant.named) (g.met.R.Room.legal c.apply.new.self)

pub returns-in-None-clause-turn : goal.returns-in-None-clause-turn
returns-in-None-clause-turn g c =
    let scenario = g.N.Named.opening.scenario in
    let history = g.R.Room.history c.self.inside.room in
    rw (← c.self.view_is)
    (refl, whole_script scenario history c.self.inside.scripts c.args.actor (c.self.invariant.scripts c.args.actor) c.in-None.ensures.none.1)

pub returns-in-None-clause-unchanged : goal.returns-in-None-clause-unchanged
returns-in-None-clause-unchanged g c same = c.self.view_is

pub returns-in-None-clause-spare : goal.returns-in-None-clause-spare
returns-in-None-clause-spare g c = rw (← c.self.view_is) (omega arith)

pub returns-in-None-clause-made : goal.returns-in-None-clause-made
returns-in-None-clause-made g c other whole = rw (← c.self.view_is) at whole

pub returns-in-None-clause-playable : goal.returns-in-None-clause-playable
returns-in-None-clause-playable g c = c.self.invariant.playable

pub returns-in-None-clause-opening : goal.returns-in-None-clause-opening
returns-in-None-clause-opening g c = c.self.invariant.named

pub returns-in-None-clause-legal : goal.returns-in-None-clause-legal
returns-in-None-clause-legal g c =
    subst (λ (opening : Opening). IsLegal opening (g.R.Room.history c.self.inside.room)) c.self.invariant.named (g.met.R.Room.legal c.self.inside.room)

pub invariant_of-self : goal.invariant_of-self
invariant_of-self g c =
    let scenario = g.N.Named.opening.scenario in
    let history = g.R.Room.history c.self.inside.room in
    let more = scripts_more scenario history c.self.inside.scripts c.next.new.self c.args.actor c.in-Some.event c.apply.result c.self.invariant.scripts c.in-Some.ensures.some in
    let made : Entry = record { actor = c.args.actor; event = c.in-Some.event; reply = c.apply.result } in
    record {
      playable = c.self.invariant.playable;
      named = c.apply.ensures.opening ∙ c.self.invariant.named;
      scripts = λ a. ap (λ (h : History). events_by a h ++ events_in a c.next.new.self) c.apply.ensures.entry ∙ more a;
      counted = omega (arith, c.self.invariant.counted, ap (length {A = Entry}) c.apply.ensures.entry, length-append history (made ∷ []), c.in-Some.ensures.count);
      spare = omega (arith, c.self.invariant.spare, c.apply.ensures.spare, c.in-Some.ensures.count);
    }

pub invariant_of-self-in-None : goal.invariant_of-self-in-None
invariant_of-self-in-None g c =
    let room = c.self.inside.room in
    subst (λ (left : List Step). IsScripted g.N.Named.opening (g.R.Room.opening room) (g.R.Room.history room) (g.R.Room.spare room) left)
    (sym c.in-None.ensures.none.0) c.self.invariant
