use Rattle.std.proofs.Common.{◌≡◌, ℕ, ◌<◌, ◌+◌, ◌*◌, ◌^◌, ◌∙◌, ap, sym, subst, refl, length, map, take, arith, false, Some, get_or}
use Rattle.std.specs.Prelude.{List, All}
use Rattle.std.proofs.lemmas.List.{length-map}
use Rattle.cs_types.specs.declared.task.Task.{Task}
use Rattle.cs_types.specs.Room.{RoomState, SiblingState, absent, running_on}
use Rattle.cs_laws.proofs.Homes.{running_is_found}
use Rattle.core_lanes.specs.declared.queue.SiblingQueue.{Ghosts}
use Rattle.core_lanes.specs.Lanes.{Beside, lane_state, room_of, RunTheirOwn}
use Rattle.core_lanes.specs.declared.lanes.Core.{Core}
use Rattle.core_lanes.specs.Changes.{Changes}
use Rattle.core_lanes.specs.Comparisons.{ComparesFor}
use Rattle.task_table.specs.Table.{Table}
use Rattle.core_lanes.proofs.Stays.{some_beside, same_stays}
use Rattle.core_clock.proofs.Changes.{both_change, changes_as, still_below}
use Rattle.core_lanes.proofs.Counted.{no_more_live, later, and_then}
use Rattle.core_clock.proofs.Growth.{is_run_by, with_growth_on, grown_alone, runs_alone, grown_with_first, grown_with_none, grown_with_more, grown_with_all, all_grown}
use Rattle.core_clock.proofs.time.grow_tasks.Goals as goal

pub loop-cpu-init : goal.loop-cpu-init
loop-cpu-init g c = record {
  changes = record {
    room = λ beside. sym (grown_with_none c.args.delta (room_of beside (c.args.core.now, c.args.table.now)));
    numbers = refl;
    stays = same_stays;
  };
  counted = omega arith;
}

pub grow_on-requires-clause-at : goal.grow_on-requires-clause-at
grow_on-requires-clause-at g c = record {
  cpu = still_below c.loop-cpu.invariant.changes.stays (omega (arith, c.loop-cpu-test.true, c.len-cpu-end.ensures));
  agree = c.loop-cpu.invariant.changes.stays.agree c.requires.agree;
}

pub grow_on-requires-clause-can : goal.grow_on-requires-clause-can
grow_on-requires-clause-can g c =
    let used : Task → Type 0 = λ task. task.used + c.args.delta < 2 ^ 64 in
    let vtime : Task → Type 0 = λ task. task.vtime + 69 * c.args.delta < 2 ^ 128 in
    let lower = take c.loop-cpu.cpu (map lane_state c.args.core.now.lanes.items) in
    let are = sym (ap (λ (room : RoomState). room.tasks) (c.loop-cpu.invariant.changes.room some_beside)) in
    record {
      used = subst (All used) are (all_grown (λ task. task.used < 2 ^ 56) used lower c.args.delta c.args.table.now.tasks
          (λ old new grows low. omega (arith, grows.used, low, c.requires.short)) c.requires.used);
      vtimes = subst (All vtime) are (all_grown (λ task. task.vtime < 2 ^ 100) vtime lower c.args.delta c.args.table.now.tasks
          (λ old new grows low. omega (arith, grows.vtime, low, c.requires.short)) c.requires.vtimes);
    }

-- the growth of the task that a sibling runs, once those of the lower ones have grown, is the growth with one sibling more
more_grown : {Q : Type 0} {g : Ghosts Q} (old mid new : Core Q g × Table) (delta cpu : ℕ) → cpu < length old.0.lanes.items →
    Changes old mid (grown_with_first delta cpu) → Changes mid new (λ room. with_growth_on room cpu delta) → Changes old new (grown_with_first delta (cpu + 1))
more_grown {Q} old mid new delta cpu below first then =
    changes_as (λ beside. grown_with_more delta cpu (room_of beside old) (omega (arith, below, length-map old.0.lanes.items (lane_state {Q = Q}))))
    (both_change first then)

-- no lower sibling runs the task of this one, also where those have grown
alone : {Q : Type 0} {g : Ghosts Q} (old mid : Core Q g × Table) (delta cpu : ℕ) (task : Task) (beside : Beside) → cpu < length old.0.lanes.items → RunTheirOwn old →
    Changes old mid (grown_with_first delta cpu) → running_on (room_of beside mid) cpu ≡ Some task →
    is_run_by (take cpu (room_of beside mid).siblings) task.spec.pid ≡ false
alone {Q} old mid delta cpu task beside below own changes runs =
    let same : (room_of beside mid).siblings ≡ (room_of beside old).siblings = ap (λ (room : RoomState). room.siblings) (changes.room beside) in
    subst (λ (siblings : List SiblingState). is_run_by (take cpu siblings) task.spec.pid ≡ false) (sym same)
    (runs_alone (room_of beside old) cpu task.spec.pid (own beside) (omega (arith, below, length-map old.0.lanes.items (lane_state {Q = Q})))
    (ap (λ (siblings : List SiblingState). (get_or siblings cpu absent).run) (sym same) ∙ (running_is_found (room_of beside mid) cpu task runs).0))

pub loop-cpu-preserved : goal.loop-cpu-preserved
loop-cpu-preserved g c =
    let both : Type 0 = Core g.row.Q.Denot g.Q.SiblingQueue × Table in
    let old : both = (c.args.core.now, c.args.table.now) in
    let mid : both = (c.loop-cpu.core, c.loop-cpu.table) in
    let cpu = c.loop-cpu.cpu in
    let below : cpu < length c.args.core.now.lanes.items = omega (arith, c.loop-cpu-test.true, c.len-cpu-end.ensures) in
    let changes = c.loop-cpu.invariant.changes in
    record {
      changes = more_grown old mid _ c.args.delta cpu below changes
          (changes_as (λ beside.
          let room = room_of beside mid in
          grown_alone room cpu c.args.delta (changes.stays.agree c.requires.agree).table.rising
          (λ task runs. alone old mid c.args.delta cpu task beside below c.requires.own changes runs)) c.grow_on.ensures.changes);
      counted = and_then (2 * cpu) 2 (2 * (cpu + 1)) old _ _ _ (omega arith) c.loop-cpu.invariant.counted (later g.met.Q.SiblingQueue.rises 2 mid old _ _ (no_more_live changes.stays) c.grow_on.ensures.counted);
    }

pub returns-clause-changes : goal.returns-clause-changes
returns-clause-changes g c =
    let lanes = c.args.core.now.lanes in
    let cpu = c.loop-cpu.cpu in
    let all : cpu ≡ length (map lane_state lanes.items) =
    omega (arith, c.loop-cpu-test.false, c.loop-cpu.auto.cpu-end, c.len-cpu-end.ensures, length-map lanes.items lane_state) in
    changes_as (λ beside. grown_with_all c.args.delta cpu (room_of beside (c.args.core.now, c.args.table.now)) all) c.loop-cpu.invariant.changes

pub returns-clause-counted : goal.returns-clause-counted
returns-clause-counted g c =
    let lanes = c.args.core.now.lanes in
    let all : c.loop-cpu.cpu ≡ length lanes.items = omega (arith, c.loop-cpu-test.false, c.loop-cpu.auto.cpu-end, c.len-cpu-end.ensures) in
    subst (λ n. ComparesFor (2 * n) (c.args.core.now, c.args.table.now) c.args.comparisons.now c.loop-cpu.comparisons) all c.loop-cpu.invariant.counted
