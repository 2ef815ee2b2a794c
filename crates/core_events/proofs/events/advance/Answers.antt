use Rattle.std.proofs.Common.{◌∙◌, ◌*◌, ◌≤◌, [], ap, map, refl, length, arith}
use Rattle.std.proofs.lemmas.List.Elements.{All-weaker}
use Rattle.cs_types.specs.declared.event.Event.TheVariants.{Advance}
use Rattle.cs_types.specs.declared.reply.Reply.TheVariants.{Now}
use Rattle.cs_types.specs.declared.task.Task.{Task}
use Rattle.cs_types.specs.Room.{SiblingState}
use Rattle.cs_laws.proofs.Timely.{IsTimelyTask, IsTimelySibling}
use Rattle.core_lanes.specs.Lanes.{lane_state, room_of, at}
use Rattle.core_lanes.specs.Numbers.{with_ended}
use Rattle.core_tasks.specs.State.{beside_of, room_with, state_numbers}
use Rattle.core_tasks.proofs.States.{uncharged, lifted, untouched, both_stay}
use Rattle.core_events.proofs.Readies.{low_times}
use Rattle.core_events.proofs.Compared.{for_event}
use Rattle.core_events.proofs.events.advance.Goals as goal

pub advance-state-requires : goal.advance-state-requires
advance-state-requires g c =
    let old = c.args.state.now in
    let time = c.requires.ready.time in
    let room = room_with [] old in
    let timely = time.timely [] in
    record {
      agree = c.requires.ready.sound.agree;
      own = c.requires.ready.own;
      low = low_times old time;
      clock = time.clock;
      used = All-weaker (IsTimelyTask room) (λ (task : Task). task.used ≤ old.clock) (λ task is. is.used) old.tasks.tasks timely.tasks;
      ran = All-weaker (IsTimelySibling (time.entries * (69 * old.clock)) old.clock) (λ (sibling : SiblingState). sibling.ran ≤ old.clock)
          (λ sibling is. is.ran) (map lane_state old.core.lanes.items) timely.siblings;
      short = c.requires.event.1;
    }

pub returns-clause-makes : goal.returns-clause-makes
returns-clause-makes g c =
    let old = c.args.state.now in
    let advances = c.advance-state.ensures.advances in
    let clock = advances.clock in
    record {
      step = λ intervals.
          let room = room_with intervals old in
          let beside = beside_of intervals old in
          uncharged (record {
            reply = ap Now clock;
            room = ap (λ n. room_of (at n beside) (c.advance-state.new.core, c.advance-state.new.table)) clock ∙ advances.room beside;
            numbers = ap (with_ended old.ended.items) advances.numbers ∙ untouched (state_numbers old);
          });
      stays = both_stay (lifted old (c.advance-state.new.core, c.advance-state.new.table) advances.stays) (record { sound = λ sound. record { agree = sound.agree; limit = sound.limit; user_top = sound.user_top; pids = sound.pids; ended = sound.ended; refs = sound.refs }; siblings = refl; ends = refl });
    }

pub returns-clause-counted : goal.returns-clause-counted
returns-clause-counted g c = for_event g.met.Q.SiblingQueue.rises (3 * length c.args.state.now.core.lanes.items) c.args.state.now (Advance c.args.delta) _ _ (omega arith) c.advance-state.ensures.counted
