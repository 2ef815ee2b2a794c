use Rattle.std.proofs.Common.{◌≡◌, ◌∙◌, ap, subst, refl, arith, Option, Some, None, ◌+◌, ◌*◌, ◌<◌, ◌≤◌, ◌^◌, sym, Bool, true, false, cond, ℕ}
use Rattle.std.specs.Option.{IsSome}
use Rattle.cs_types.specs.declared.task.Task.{Task}
use Rattle.cs_types.specs.declared.reply.Reply.TheVariants.{Ticked}
use Rattle.cs_types.specs.Room.{RoomState, flag, running_on}
use Rattle.cs_types.specs.Accounting.{charge}
use Rattle.cs_types.specs.Time.{begin_slice, asks_at_tick}
use Rattle.cs_types.specs.Step.{tick}
use Rattle.core_lanes.specs.Lanes.{Beside, at, beside_after, room_of, BareCore}
use Rattle.core_lanes.specs.Numbers.{booked, with_ended, numbers_in}
use Rattle.core_lanes.proofs.Stays.{both_stay, stands}
use Rattle.core_lanes.proofs.Counted.{as_many_live}
use Rattle.core_clock.proofs.Changes.{still_below}
use Rattle.core_clock.proofs.time.tick.Goals as goal

pub runner-requires : goal.runner-requires
runner-requires g c = still_below c.charge.ensures.charges.stays c.requires.at.cpu

pub rotates-rotates-requires : goal.rotates-rotates-requires
rotates-rotates-requires g c = record {
  at = record { cpu = still_below c.charge.ensures.charges.stays c.requires.at.cpu; agree = c.charge.ensures.charges.stays.agree c.requires.at.agree };
  there = c.in-Some.ensures.there;
}

pub asks_at_tick-asks-requires : goal.asks_at_tick-asks-requires
asks_at_tick-asks-requires g c = record {
  may = record {
    at = record { cpu = still_below c.charge.ensures.charges.stays c.requires.at.cpu; agree = c.charge.ensures.charges.stays.agree c.requires.at.agree };
    there = c.in-Some.ensures.there;
  };
  rotates = c.rotates-rotates.ensures.rotates;
}

pub begin_slice-requires : goal.begin_slice-requires
begin_slice-requires g c = record {
  there = subst IsSome (sym c.in-Some.ensures.there) refl;
  agree = c.charge.ensures.charges.stays.agree c.requires.at.agree;
  stamp = subst (λ n. n + 1 < 2 ^ 64) (sym (ap (λ (core : BareCore). core.next_stamp) c.charge.ensures.core)) c.requires.stamp;
}

pub flag-requires : goal.flag-requires
flag-requires g c = still_below (both_stay c.charge.ensures.charges.stays (c.begin_slice.ensures.changes c.args.cpu c.in-Some.task.now c.in-Some.ensures.there (record { slice = c.has_used_slice-used.ensures; peers = c.rotates-rotates.ensures.rotates })).stays) c.requires.at.cpu

pub returns-in_default-clause-ticks : goal.returns-in_default-clause-ticks
returns-in_default-clause-ticks g c =
    let cpu = c.args.cpu in
    let made : (beside : Beside) → let room = room_of (at c.args.now beside) (c.args.core.now, c.args.table.now) in charge room ≡ (tick room cpu (running_on room cpu)).room =
    λ beside.
    let room = room_of (at c.args.now beside) (c.args.core.now, c.args.table.now) in
    let paid = beside_after (at c.args.now beside) (charge room) in
    let charged = c.charge.ensures.charges.room beside in
    ap (λ (found : Option Task). (tick room cpu found).room) (c.in_default.ensures.task paid ∙ ap (λ (now : RoomState). running_on now cpu) charged) in
    record {
      asks = λ beside.
          let room = room_of (at c.args.now beside) (c.args.core.now, c.args.table.now) in
          let paid = beside_after (at c.args.now beside) (charge room) in
          let charged = c.charge.ensures.charges.room beside in
          let found : None ≡ running_on room cpu = c.in_default.ensures.task paid ∙ ap (λ (now : RoomState). running_on now cpu) charged in
          ap (λ (found : Option Task). (tick room cpu found).reply) found;
      charges = record {
        room = λ beside. subst (λ (room : RoomState). room_of (beside_after (at c.args.now beside) room) (c.charge.new.core, c.charge.new.table) ≡ room) (made beside)
            (c.charge.ensures.charges.room beside);
        numbers = λ beside kept. c.charge.ensures.charges.numbers beside kept ∙ ap (λ (room : RoomState). booked room (numbers_in beside (c.args.core.now, c.args.table.now))) (made beside);
        stays = c.charge.ensures.charges.stays;
      };
    }

pub returns-clause-ticks : goal.returns-clause-ticks
returns-clause-ticks g c =
    let cpu = c.args.cpu in
    let task = c.in-Some.task.now in
    let table = c.begin_slice.new.table in
    let slice = c.begin_slice.ensures.changes cpu task c.in-Some.ensures.there (record { slice = c.has_used_slice-used.ensures; peers = c.rotates-rotates.ensures.rotates }) in
    let raised = c.flag.ensures table in
    record {
      asks = λ beside.
          let room = room_of (at c.args.now beside) (c.args.core.now, c.args.table.now) in
          let paid = beside_after (at c.args.now beside) (charge room) in
          let charged = c.charge.ensures.charges.room beside in
          let found : Some task ≡ running_on room cpu = c.in-Some.ensures.task paid ∙ ap (λ (now : RoomState). running_on now cpu) charged in
          let asks : c.asks_at_tick-asks.result ≡ asks_at_tick room cpu task =
          c.asks_at_tick-asks.ensures.asks paid ∙ ap (λ (now : RoomState). asks_at_tick now cpu task) charged in
          ap Ticked asks ∙ ap (λ (found : Option Task). (tick room cpu found).reply) found;
      charges = record {
        room = λ beside.
            let room = room_of (at c.args.now beside) (c.args.core.now, c.args.table.now) in
            let paid = beside_after (at c.args.now beside) (charge room) in
            let charged = c.charge.ensures.charges.room beside in
            let found : Some task ≡ running_on room cpu = c.in-Some.ensures.task paid ∙ ap (λ (now : RoomState). running_on now cpu) charged in
            let asks : c.asks_at_tick-asks.result ≡ asks_at_tick room cpu task =
            c.asks_at_tick-asks.ensures.asks paid ∙ ap (λ (now : RoomState). asks_at_tick now cpu task) charged in
            stands paid (c.flag.new.self, table) (tick room cpu (running_on room cpu)).room
            (raised.room paid
            ∙ ap (λ (now : RoomState). flag now cpu c.asks_at_tick-asks.result) (slice.room paid ∙ ap (λ (now : RoomState). begin_slice now cpu task) charged)
            ∙ ap (flag (begin_slice (charge room) cpu task) cpu) asks
            ∙ ap (λ (found : Option Task). (tick room cpu found).room) found);
        numbers = λ beside kept.
            let room = room_of (at c.args.now beside) (c.args.core.now, c.args.table.now) in
            let paid = beside_after (at c.args.now beside) (charge room) in
            let charged = c.charge.ensures.charges.room beside in
            let found : Some task ≡ running_on room cpu = c.in-Some.ensures.task paid ∙ ap (λ (now : RoomState). running_on now cpu) charged in
            ap (with_ended beside.ended) (raised.numbers ∙ slice.numbers) ∙ c.charge.ensures.charges.numbers beside kept
            ∙ ap (λ (found : Option Task). booked (tick room cpu found).room (numbers_in beside (c.args.core.now, c.args.table.now))) found;
        stays = both_stay c.charge.ensures.charges.stays (both_stay slice.stays raised.stays);
      };
    }

-- a task that goes behind its peers is asked no more, and another stays where it is
in_turn : (rotates : Bool) (start peers asks end most : ℕ) → peers ≤ start + 1 * most → asks ≤ peers + cond rotates 0 2 * most → end ≤ asks + cond rotates 2 0 * most →
    end ≤ start + 3 * most
in_turn true start peers asks end most one two three = omega (arith, one, two, three)
in_turn false start peers asks end most one two three = omega (arith, one, two, three)

pub returns-clause-counted : goal.returns-clause-counted
returns-clause-counted g c =
    let many = as_many_live (c.args.core.now, c.args.table.now) (c.charge.new.core, c.charge.new.table) c.charge.ensures.charges.stays.kept in
    subst (λ n. c.begin_slice.new.comparisons ≤ c.args.comparisons.now + 3 * g.Q.SiblingQueue.most_compared n) many
    (in_turn c.rotates-rotates.result _ _ _ _ _ c.rotates-rotates.ensures.counted c.asks_at_tick-asks.ensures.counted c.begin_slice.ensures.counted)
