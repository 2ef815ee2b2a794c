use Rattle.std.proofs.Common.{◌∙◌, ◌+◌, ◌<◌, ◌≤◌, ◌^◌, ap, sym, set, subst, refl, arith}
use Rattle.std.specs.Prelude.{unwrap_or}
use Rattle.std.proofs.Math.ListN.{length-set}
use Rattle.std.proofs.lemmas.List.{map-set}
use Rattle.std.proofs.Math.Seq.{map-set_same}
use Rattle.cs_types.specs.declared.reply.Kind.TheVariants.{Selected}
use Rattle.cs_types.specs.declared.reply.Pick.{Pick}
use Rattle.cs_types.specs.Room.{RoomState}
use Rattle.cs_types.specs.Selection.{pid_of, choice, forced_count, select_for}
use Rattle.core_lanes.specs.declared.lane.Lane.{Lane}
use Rattle.core_lanes.specs.Lanes.{at, lane_state, room_of}
use Rattle.core_lanes.specs.Numbers.{Numbers, numbers_of, touched}
use Rattle.core_lanes.specs.Changes.{Kept}
use Rattle.core_lanes.proofs.Stays.{queues_kept, alike_stays, both_stay, number_of}
use Rattle.core_pick.proofs.pick.select.Goals as goal

pub select_for-run-requires : goal.select_for-run-requires
select_for-run-requires g c = record {
  may = record {
    at = record { cpu = c.requires.may.cpu; agree = c.requires.may.agree };
    asked = c.ask-cookie.ensures.asks;
    clock = c.requires.may.clock;
  };
}

pub touch-requires : goal.touch-requires
touch-requires g c = subst (λ n. n + 1 < 2 ^ 64) (sym (ap (λ (n : Numbers). n.task) c.select_for-run.ensures.selects.numbers)) c.requires.may.touches

pub index_mut-requires : goal.index_mut-requires
index_mut-requires g c =
    let kept = (c.touch.ensures c.select_for-run.new.table).stays.kept ∙ c.select_for-run.ensures.selects.stays.kept in
    subst (λ n. c.args.cpu < n) (sym (ap (λ (k : Kept). k.siblings) kept)) c.requires.may.cpu

pub invariant_of-core : goal.invariant_of-core
invariant_of-core g c = record { few = subst (λ n. n ≤ 16) (sym (length-set c.touch.new.self.lanes.items c.args.cpu _)) c.touch.new.self.few }

pub returns-clause-schedules : goal.returns-clause-schedules
returns-clause-schedules g c =
    let cpu = c.args.cpu in
    let now = c.args.now in
    let touched_core = c.touch.new.self in
    let lanes = touched_core.lanes.items in
    let lane = c.index_mut.result.now in
    let is = c.index_mut.ensures.value in
    let numbered : Lane g.row.Q.Denot = record lane { number = touched_core.task_number } in
    let touch = c.touch.ensures c.select_for-run.new.table in
    record {
      pick = λ beside.
          let room = room_of (at now beside) (c.args.core.now, c.args.table.now) in
          let core = c.ask-cookie.ensures.asks.lead (at now beside) in
          let run = c.unwrap_or.ensures
          ∙ ap (λ pid. unwrap_or pid 0) (c.select_for-run.ensures.selects.gets (at now beside) ∙ ap (λ n. pid_of (choice room n cpu)) core) in
          let forced = c.count.ensures.count
          ∙ ap (λ (r : RoomState). r.forced) (touch.room (at now beside))
          ∙ c.select_for-run.ensures.selects.forced (at now beside)
          ∙ ap (forced_count room) core in
          λ i. let pick : Pick = record { kind = Selected; run = run i; core = core i; forced = forced i } in pick;
      room = λ beside.
          let room = room_of (at now beside) (c.args.core.now, c.args.table.now) in
          let core = c.ask-cookie.ensures.asks.lead (at now beside) in
          let same = map-set_same lane_state lanes cpu numbered lane (ap lane_state is) in
          (λ i. record (room_of (at now beside) (touched_core, c.select_for-run.new.table)) { siblings = same i })
          ∙ touch.room (at now beside)
          ∙ c.select_for-run.ensures.selects.room beside
          ∙ ap (select_for room cpu) core;
      numbers = (λ i. record (numbers_of (touched_core, c.select_for-run.new.table)) { pick = touched_core.task_number; own = map-set number_of lanes cpu numbered i })
          ∙ ap (λ (n : Numbers). record n { pick = n.task; own = set n.own cpu n.task }) (touch.numbers ∙ ap (touched 1) c.select_for-run.ensures.selects.numbers);
      stays = both_stay c.select_for-run.ensures.selects.stays
          (both_stay touch.stays (alike_stays _ _ (queues_kept lanes cpu lane numbered is refl) refl refl));
    }

pub returns-clause-counted : goal.returns-clause-counted
returns-clause-counted g c longest longer =
    omega (arith, c.ask-cookie.ensures.counted longest longer, c.select_for-run.ensures.counted longest longer)
