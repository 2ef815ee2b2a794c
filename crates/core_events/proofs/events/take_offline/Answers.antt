use Rattle.std.proofs.Common.{arith, ◌∙◌, ap, sym, ◌+◌, length}
use Rattle.cs_types.specs.declared.event.Event.TheVariants.{Offline}
use Rattle.cs_types.specs.Step.{take_offline}
use Rattle.core_lanes.specs.Numbers.{booked}
use Rattle.core_tasks.specs.State.{beside_of, room_with, state_numbers}
use Rattle.core_tasks.specs.Steps.{numbers_after}
use Rattle.core_tasks.proofs.States.{lifted}
use Rattle.core_events.proofs.Readies.{low_times, offline_touches}
use Rattle.core_events.proofs.Compared.{for_event}
use Rattle.core_events.proofs.events.take_offline.Goals as goal

pub offline-requires : goal.offline-requires
offline-requires g c =
    let ready = c.requires.ready in
    record {
      moves = record {
        cpu = c.requires.cpu;
        agree = ready.sound.agree;
        low = low_times c.args.state.now ready.time;
        stamp = omega (arith, ready.spares.stamps);
        touches = omega (arith, ready.spares.touches);
      };
      paid = ready.paid;
    }

pub returns-clause-makes : goal.returns-clause-makes
returns-clause-makes g c =
    let old = c.args.state.now in
    let cpu = c.args.cpu in
    let takes = c.offline.ensures.leaves in
    record {
      step = λ intervals.
          let room = room_with intervals old in
          let beside = beside_of intervals old in
          record {
            reply = c.hotplug_reply.ensures ∙ takes.reply beside;
            room = takes.room beside;
            numbers = λ kept. takes.numbers beside kept
                ∙ offline_touches room cpu (booked (take_offline room cpu).room (state_numbers old)) c.offline.result
                ∙ ap (λ r. numbers_after room (Offline cpu) r (booked (take_offline room cpu).room (state_numbers old))) (sym c.hotplug_reply.ensures);
          };
      stays = lifted old (c.offline.new.core, c.offline.new.table) takes.stays;
    }

pub returns-clause-counted : goal.returns-clause-counted
returns-clause-counted g c = for_event g.met.Q.SiblingQueue.rises (length c.args.state.now.tasks.tasks + 1) c.args.state.now (Offline c.args.cpu) _ _ (omega arith) c.offline.ensures.counted
