use Rattle.std.proofs.Common.{◌≡◌, ℕ, ◌+◌, ◌<◌, ◌∙◌, ap, sym, refl, length, map, arith, Some, None, ◌≤◌, subst, get_or}
use Rattle.std.proofs.lemmas.List.{length-map, length-set}
use Rattle.cs_types.specs.Room.{RoomState, SiblingState, absent, sibling_of, with_sibling}
use Rattle.core_lanes.specs.declared.queue.SiblingQueue.{Ghosts}
use Rattle.core_lanes.specs.declared.lane.Lane.{Lane}
use Rattle.core_lanes.specs.declared.lanes.Core.{Core}
use Rattle.core_lanes.specs.Lanes.{lane_state, room_of}
use Rattle.core_lanes.specs.Changes.{Kept, Changes}
use Rattle.core_lanes.specs.Comparisons.{ComparesFor}
use Rattle.task_table.specs.Table.{Table}
use Rattle.core_lanes.proofs.Stays.{some_beside, policies_of, lane_at, changes_sibling}
use Rattle.core_lanes.proofs.Counted.{of_one, and_then}
use Rattle.core_clock.proofs.Clocks.{renewed_is, renewed_first, renewed_next, renewed_more, renewed_all, with_renewed}
use Rattle.core_clock.proofs.Changes.{held_at, both_change, changes_as}
use Rattle.core_clock.proofs.time.renew_siblings.Goals.{in-Some, in_default}
use Rattle.core_clock.proofs.time.renew_siblings.Goals as goal

-- the sibling after these is what it was
next_is : {Q : Type 0} {g : Ghosts Q} (old mid : Core Q g × Table) (delta cpu : ℕ) (lane : Lane Q) → cpu < length old.0.lanes.items → cpu < length mid.0.lanes.items →
    Changes old mid (renewed_first delta cpu) → lane ≡ get_or mid.0.lanes.items cpu lane → lane_state lane ≡ get_or (map lane_state old.0.lanes.items) cpu absent
next_is {Q} old mid delta cpu lane below inside changes is =
    sym (lane_at mid.0.lanes.items cpu lane inside is)
    ∙ ap (λ (room : RoomState). sibling_of room cpu) (changes.room some_beside)
    ∙ renewed_next delta cpu (room_of some_beside old) (omega (arith, below, length-map old.0.lanes.items (lane_state {Q = Q})))

-- one sibling more
more_renewed : {Q : Type 0} {g : Ghosts Q} (old mid new : Core Q g × Table) (delta cpu : ℕ) → cpu < length old.0.lanes.items →
    Changes old mid (renewed_first delta cpu) → Changes mid new (λ room. with_renewed delta room cpu) → Changes old new (renewed_first delta (cpu + 1))
more_renewed {Q} old mid new delta cpu below first then =
    changes_as (λ beside. renewed_more delta cpu (room_of beside old) (omega (arith, below, length-map old.0.lanes.items (lane_state {Q = Q}))))
    (both_change first then)

pub overflow_add-lane : goal.overflow_add-lane
overflow_add-lane g c =
    let old = c.args.core.now.lanes in
    let cpu = c.loop-cpu.cpu in
    let below : cpu < length old.items = omega (arith, c.loop-cpu-test.true, c.len-cpu-end.ensures) in
    let inside : cpu < length c.loop-cpu.core.lanes.items = omega (arith, below, ap (λ (kept : Kept). kept.siblings) c.loop-cpu.invariant.changes.stays.kept) in
    let same = next_is (c.args.core.now, c.args.table.now) (c.loop-cpu.core, c.args.table.now) c.args.delta cpu c.index_mut-lane.result.now below inside c.loop-cpu.invariant.changes c.index_mut-lane.ensures.value in
    omega (arith, ap (λ (sibling : SiblingState). sibling.ran) same, c.requires.ran cpu absent (omega (arith, below, length-map old.items lane_state)))

pub smallest_vtime-requires : goal.smallest_vtime-requires
smallest_vtime-requires g c =
    let agree = c.loop-cpu.invariant.changes.stays.agree c.requires.agree in
    record {
      policies = policies_of (c.loop-cpu.core, c.args.table.now) agree;
      holds = held_at (c.loop-cpu.core, c.args.table.now) c.loop-cpu.cpu c.index_mut-lane.result.now agree
          (omega (arith, c.loop-cpu-test.true, c.len-cpu-end.ensures, ap (λ (kept : Kept). kept.siblings) c.loop-cpu.invariant.changes.stays.kept))
          c.index_mut-lane.ensures.value;
    }

pub invariant_of-core : goal.invariant_of-core
invariant_of-core g c = record { few = subst (λ n. n ≤ 16) (sym (length-set c.loop-cpu.core.lanes.items c.loop-cpu.cpu _)) c.loop-cpu.core.few }

pub invariant_of-core-in_default : goal.invariant_of-core-in_default
invariant_of-core-in_default g c = record { few = subst (λ n. n ≤ 16) (sym (length-set c.loop-cpu.core.lanes.items c.loop-cpu.cpu _)) c.loop-cpu.core.few }

pub loop-cpu-preserved : goal.loop-cpu-preserved
loop-cpu-preserved g c =
    let cores : Type 0 = Core g.row.Q.Denot g.Q.SiblingQueue in
    let old : cores × Table = (c.args.core.now, c.args.table.now) in
    let mid : cores × Table = (c.loop-cpu.core, c.args.table.now) in
    let lanes = c.loop-cpu.core.lanes.items in
    let cpu = c.loop-cpu.cpu in
    let lane = c.index_mut-lane.result.now in
    let is = c.index_mut-lane.ensures.value in
    let below : cpu < length c.args.core.now.lanes.items = omega (arith, c.loop-cpu-test.true, c.len-cpu-end.ensures) in
    let inside : cpu < length lanes = omega (arith, below, ap (λ (kept : Kept). kept.siblings) c.loop-cpu.invariant.changes.stays.kept) in
    let here = lane_at lanes cpu lane inside is in
    let once : ComparesFor 1 old c.loop-cpu.comparisons c.smallest_vtime.new.comparisons =
    omega (arith, c.smallest_vtime.ensures.counted, of_one g.Q.SiblingQueue.most_compared g.met.Q.SiblingQueue.rises c.args.table.now.tasks cpu) in
    let counted = and_then cpu 1 (cpu + 1) old _ _ _ refl c.loop-cpu.invariant.counted once in
    elim c.match-smallest_vtime.branch [
      | in-Some w ↦
          let after = record lane { ran = lane.ran + c.args.delta; least = w.raise.new.least } in
          record {
            changes = subst (λ (new : cores). Changes old (new, c.args.table.now) (renewed_first c.args.delta (cpu + 1))) (sym w.core-is)
                (more_renewed old mid _ c.args.delta cpu below c.loop-cpu.invariant.changes (changes_as (λ beside.
                let room = room_of beside mid in
                ap (λ (n : ℕ). with_sibling room cpu (let now : SiblingState = record (lane_state lane) { ran = lane.ran + c.args.delta; least = n } in now)) w.raise.ensures
                ∙ renewed_is c.args.delta room cpu (lane_state lane) (Some w.in-Some.smallest) here (sym w.in-Some.is ∙ c.smallest_vtime.ensures.answer))
                (changes_sibling c.loop-cpu.core _ c.args.table.now cpu lane after (λ _. lane_state after) inside is refl refl refl refl refl)));
            counted = counted;
          }
      | in_default w ↦
          let after = record lane { ran = lane.ran + c.args.delta } in
          record {
            changes = subst (λ (new : cores). Changes old (new, c.args.table.now) (renewed_first c.args.delta (cpu + 1))) (sym w.core-is)
                (more_renewed old mid _ c.args.delta cpu below c.loop-cpu.invariant.changes (changes_as (λ beside. renewed_is c.args.delta (room_of beside mid) cpu (lane_state lane) None here (sym w.in_default.is ∙ c.smallest_vtime.ensures.answer))
                (changes_sibling c.loop-cpu.core _ c.args.table.now cpu lane after (λ _. lane_state after) inside is refl refl refl refl refl)));
            counted = counted;
          }
    ]

pub returns-clause-changes : goal.returns-clause-changes
returns-clause-changes g c =
    let lanes = c.args.core.now.lanes in
    let cpu = c.loop-cpu.cpu in
    let all : cpu ≡ length (map lane_state lanes.items) =
    omega (arith, c.loop-cpu-test.false, c.loop-cpu.auto.cpu-end, c.len-cpu-end.ensures, length-map lanes.items lane_state) in
    changes_as (λ beside. renewed_all c.args.delta cpu (room_of beside (c.args.core.now, c.args.table.now)) all) c.loop-cpu.invariant.changes

pub returns-clause-counted : goal.returns-clause-counted
returns-clause-counted g c =
    let lanes = c.args.core.now.lanes in
    let all : c.loop-cpu.cpu ≡ length lanes.items = omega (arith, c.loop-cpu-test.false, c.loop-cpu.auto.cpu-end, c.len-cpu-end.ensures) in
    subst (λ n. ComparesFor n (c.args.core.now, c.args.table.now) c.args.comparisons.now c.loop-cpu.comparisons) all c.loop-cpu.invariant.counted
