use Rattle.std.proofs.Common.{arith, ◌∙◌, sym, subst}
use Rattle.cs_types.specs.declared.event.Event.TheVariants.{Tick}
use Rattle.cs_types.specs.declared.reply.Reply.TheVariants.{Offline}
use Rattle.cs_types.specs.Room.{running_on}
use Rattle.cs_types.specs.Step.{tick}
use Rattle.core_lanes.specs.Numbers.{booked}
use Rattle.core_tasks.specs.State.{beside_of, room_with, state_numbers}
use Rattle.core_tasks.specs.Steps.{MakesStep}
use Rattle.core_tasks.proofs.States.{lifted, leaves_all, untouched}
use Rattle.core_events.proofs.Onlines.{when_online, when_offline}
use Rattle.core_events.proofs.Compared.{for_event}
use Rattle.core_events.proofs.events.tick.Goals as goal

pub returns-then-not-is_online-clause-makes : goal.returns-then-not-is_online-clause-makes
returns-then-not-is_online-clause-makes g c = leaves_all c.args.state.now (Tick c.args.cpu) Offline (λ intervals. untouched (state_numbers c.args.state.now)) (λ intervals.
    let room = room_with intervals c.args.state.now in
    when_offline room c.args.cpu (tick room c.args.cpu (running_on room c.args.cpu)) (sym (c.is_online.ensures (beside_of intervals c.args.state.now) c.args.state.now.tasks) ∙ c.if-not-is_online.true))

pub tick-requires : goal.tick-requires
tick-requires g c =
    let ready = c.requires.ready in
    record { at = record { cpu = c.requires.cpu; agree = ready.sound.agree }; paid = ready.paid; stamp = omega (arith, ready.spares.stamps) }

pub returns-clause-makes : goal.returns-clause-makes
returns-clause-makes g c =
    let old = c.args.state.now in
    let cpu = c.args.cpu in
    let charges = c.tick.ensures.ticks.charges in
    record {
      step = λ intervals.
          let room = room_with intervals old in
          let beside = beside_of intervals old in
          let made = tick room cpu (running_on room cpu) in
          let up = when_online room cpu made (sym (c.is_online.ensures beside old.tasks) ∙ c.if-not-is_online.false) in
          subst (MakesStep intervals old _ _ _) up (record {
            reply = c.tick.ensures.ticks.asks beside;
            room = charges.room beside;
            numbers = λ kept. charges.numbers beside kept ∙ untouched (booked made.room (state_numbers old));
          });
      stays = lifted old (c.tick.new.core, c.tick.new.table) charges.stays;
    }

pub returns-clause-counted : goal.returns-clause-counted
returns-clause-counted g c = for_event g.met.Q.SiblingQueue.rises 3 c.args.state.now (Tick c.args.cpu) _ _ (omega arith) c.tick.ensures.counted
