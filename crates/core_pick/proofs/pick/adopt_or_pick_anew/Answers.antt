use Rattle.std.proofs.Common.{◌≡◌, ◌∙◌, ◌+◌, ◌<◌, ◌≤◌, ◌^◌, List, length, ap, sym, subst}
use Rattle.cs_types.specs.declared.task.Task.{Task}
use Rattle.cs_types.specs.Room.{RoomState, sibling_of}
use Rattle.cs_types.specs.Selection.{adopt, pick_anew, adopt_or_pick_anew}
use Rattle.cs_types.specs.Accounting.{charge}
use Rattle.task_table.specs.Table.{Table}
use Rattle.core_lanes.specs.Queued.{queued_among}
use Rattle.core_lanes.specs.Lanes.{Beside, BareCore, bare, AreLow, at, beside_after, room_of}
use Rattle.core_lanes.specs.Numbers.{Numbers, numbers_of, numbers_in, with_ended, booked, took}
use Rattle.core_pick.specs.Schedules.{may_adopt_by}
use Rattle.core_lanes.specs.Changes.{Kept}
use Rattle.core_lanes.proofs.Stays.{both_stay, stands}
use Rattle.core_pick.specs.Comparisons.{most_of_schedule}
use Rattle.core_pick.proofs.Cases.{ChargesAndSchedules-same, is_adopted, is_not_adopted}
use Rattle.core_pick.proofs.pick.adopt_or_pick_anew.Goals as goal

pub pick_anew-requires : goal.pick_anew-requires
pick_anew-requires g c =
    let picks = c.requires.picks in
    let same = sym c.charge.ensures.core in
    record {
      cpu = subst (λ (kept : Kept). c.args.cpu < kept.siblings) (sym c.charge.ensures.charges.stays.kept) c.requires.picks.cpu;
      agree = c.charge.ensures.charges.stays.agree picks.agree;
      low = subst (λ (table : Table). AreLow (bare c.charge.new.core).siblings table.tasks) (sym c.charge.ensures.table)
          (subst (λ (core : BareCore). AreLow core.siblings c.args.table.now.tasks) same picks.low);
      clock = picks.clock;
      touches = subst (λ (core : BareCore). core.task_number + 1 < 2 ^ 64) same picks.touches;
    }

pub returns-in-Some-clause-schedules : goal.returns-in-Some-clause-schedules
returns-in-Some-clause-schedules g c =
    let now = c.args.now in
    let cpu = c.args.cpu in
    let may_adopt = may_adopt_by c.args.cpu (numbers_of (c.args.core.now, c.args.table.now)) in
    let adopts = c.adopt.ensures now c.args.table.now in
    ChargesAndSchedules-same now (c.args.core.now, c.args.table.now) (c.adopt.new.core, c.args.table.now) cpu c.adopt.result
    (λ room. adopt room cpu c.in-Some.waiting) (λ room. adopt_or_pick_anew room may_adopt cpu (sibling_of room cpu).waiting)
    (λ beside. is_adopted (room_of (at now beside) (c.args.core.now, c.args.table.now)) may_adopt cpu c.in-Some.waiting (c.in-Some.ensures (at now beside) c.args.table.now))
    (record {
      pick = adopts.pick;
      room = λ beside. stands {Q = g.row.Q.Denot} {g = g.Q.SiblingQueue} (at now beside) (c.adopt.new.core, c.args.table.now) _ (adopts.room beside);
      numbers = λ beside kept. ap (with_ended beside.ended) adopts.numbers ∙ ap (λ (numbers : Numbers). took cpu c.adopt.result numbers) kept;
      stays = adopts.stays;
    })

pub returns-clause-schedules : goal.returns-clause-schedules
returns-clause-schedules g c =
    let now = c.args.now in
    let cpu = c.args.cpu in
    let may_adopt = may_adopt_by c.args.cpu (numbers_of (c.args.core.now, c.args.table.now)) in
    let picked = c.pick_anew.ensures.schedules in
    let paid : Beside → Beside = λ beside. beside_after (at now beside) (charge (room_of (at now beside) (c.args.core.now, c.args.table.now))) in
    let room : (beside : Beside) → room_of (paid beside) (c.pick_anew.new.core, c.pick_anew.new.table)
    ≡ (pick_anew (charge (room_of (at now beside) (c.args.core.now, c.args.table.now))) cpu).room =
    λ beside. picked.room (paid beside) ∙ ap (λ (r : RoomState). (pick_anew r cpu).room) (c.charge.ensures.charges.room beside) in
    ChargesAndSchedules-same now (c.args.core.now, c.args.table.now) (c.pick_anew.new.core, c.pick_anew.new.table) cpu c.pick_anew.result
    (λ room. pick_anew (charge room) cpu) (λ room. adopt_or_pick_anew room may_adopt cpu (sibling_of room cpu).waiting)
    (λ beside. is_not_adopted (room_of (at now beside) (c.args.core.now, c.args.table.now)) may_adopt cpu (c.in_default.ensures (at now beside) c.args.table.now))
    (record {
      pick = λ beside. picked.pick (paid beside) ∙ ap (λ (r : RoomState). (pick_anew r cpu).pick) (c.charge.ensures.charges.room beside);
      room = λ beside. stands {Q = g.row.Q.Denot} {g = g.Q.SiblingQueue} (paid beside) (c.pick_anew.new.core, c.pick_anew.new.table) _ (room beside);
      numbers = λ beside kept. ap (with_ended beside.ended) picked.numbers
          ∙ ap (λ (numbers : Numbers). took cpu c.pick_anew.result numbers)
          (c.charge.ensures.charges.numbers beside kept ∙ ap (λ (r : RoomState). booked r (numbers_in beside (c.args.core.now, c.args.table.now))) (room beside));
      stays = both_stay c.charge.ensures.charges.stays picked.stays;
    })

pub returns-clause-counted : goal.returns-clause-counted
returns-clause-counted g c longest longer =
    let many = ap (λ (kept : Kept). kept.siblings) c.charge.ensures.charges.stays.kept in
    let tasks = ap (λ (table : Table). table.tasks) c.charge.ensures.table in
    subst (λ n. c.pick_anew.new.comparisons ≤ c.args.comparisons.now + most_of_schedule n (g.Q.SiblingQueue.most_compared longest)) many
    (c.pick_anew.ensures.counted longest (λ cpu below.
    subst (λ (ts : List Task). length (queued_among ts cpu) ≤ longest) (sym tasks) (longer cpu (subst (λ n. cpu < n) many below))))
