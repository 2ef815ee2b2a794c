use Rattle.std.proofs.Common.{◌∙◌, ap, sym}
use Rattle.cs_types.specs.declared.event.Event.TheVariants.{Online}
use Rattle.core_lanes.specs.Numbers.{with_ended}
use Rattle.core_tasks.specs.State.{beside_of, room_with, state_numbers}
use Rattle.core_tasks.specs.Steps.{numbers_after}
use Rattle.core_tasks.proofs.States.{uncharged, lifted}
use Rattle.core_events.proofs.Readies.{online_touches}
use Rattle.core_events.proofs.events.bring_online.Goals as goal

pub returns : goal.returns
returns g c =
    let old = c.args.state.now in
    let cpu = c.args.cpu in
    let brings = c.online.ensures old.tasks in
    record {
      step = λ intervals.
          let room = room_with intervals old in
          let beside = beside_of intervals old in
          uncharged (record {
            reply = c.hotplug_reply.ensures ∙ brings.reply beside;
            room = brings.room beside;
            numbers = ap (with_ended old.ended.items) brings.numbers ∙ online_touches room cpu (state_numbers old) c.online.result
                ∙ ap (λ r. numbers_after room (Online cpu) r (state_numbers old)) (sym c.hotplug_reply.ensures);
          });
      stays = lifted old (c.online.new.core, old.tasks) brings.stays;
    }
