use Rattle.std.proofs.Common.{arith, subst, ◌≤◌, ◌≡◌, ◌≢◌, ◌*◌, ◌∙◌, ap, sym, map, length, refl}
use Rattle.std.specs.Prelude.{List}
use Rattle.std.specs.List.{enumerate_from}
use Rattle.bounded_list.proofs.Items.{with_items_is}
use Rattle.cs_types.specs.Room.{RoomState}
use Rattle.cs_types.specs.Accounting.{charge, without_interval}
use Rattle.cs_types.specs.Hotplug.{lowest_other, move_off, left, leave}
use Rattle.core_lanes.specs.declared.lane.Lane.{Lane}
use Rattle.core_lanes.specs.Queued.{queued_among}
use Rattle.task_table.specs.Table.{Table}
use Rattle.core_lanes.specs.Changes.{Kept}
use Rattle.core_lanes.specs.Lanes.{AreLow, BareCore, bare, at, beside_after, lane_state, room_by, room_of}
use Rattle.core_lanes.specs.Numbers.{Numbers, numbers_in, with_ended, touched}
use Rattle.core_lanes.proofs.Stays.{both_stay, alike_stays, number_of, queue_of}
use Rattle.cpu_hotplug.proofs.Steps.{with_account, without_interval_is, leave_is}
use Rattle.cpu_hotplug.proofs.hotplug.leave.Goals as goal

-- ---- the calls

pub move_off-requires : goal.move_off-requires
move_off-requires g c = record {
  may = record {
    cpu = omega (arith, c.requires.may.moves.cpu, ap (λ (kept : Kept). kept.siblings) c.charge.ensures.charges.stays.kept);
    agree = (alike_stays _ _ refl refl refl).agree (c.charge.ensures.charges.stays.agree c.requires.may.moves.agree);
    low = subst (λ (table : Table). AreLow (bare c.charge.new.core).siblings table.tasks) (sym c.charge.ensures.table)
        (subst (λ (core : BareCore). AreLow core.siblings c.args.table.now.tasks) (sym c.charge.ensures.core) c.requires.may.moves.low);
    stamp = omega (arith, c.requires.may.moves.stamp, ap (λ (core : BareCore). core.next_stamp) c.charge.ensures.core, ap (λ (table : Table). length table.tasks) c.charge.ensures.table);
    touches = omega (arith, c.requires.may.moves.touches, ap (λ (core : BareCore). core.task_number) c.charge.ensures.core, ap (λ (table : Table). length table.tasks) c.charge.ensures.table);
  };
  another = λ beside.
      subst (λ (core : BareCore). lowest_other (room_by beside core c.args.table.now) c.args.cpu ≢ c.args.cpu) (sym c.charge.ensures.core) (c.requires.another beside);
}

pub set_one_away-requires : goal.set_one_away-requires
set_one_away-requires g c = record { few = subst (λ (lanes : List (Lane g.row.Q.Denot)). length lanes ≤ 16) (sym c.deref_mut.ensures.value) c.move_off.new.core.few }

pub invariant_of-core : goal.invariant_of-core
invariant_of-core g c = record { few = c.charge.new.core.few }

pub invariant_of-core-2 : goal.invariant_of-core-2
invariant_of-core-2 g c =
    let moved = c.move_off.new.core in
    let kept = with_items_is moved.lanes c.set_one_away.new.lanes (c.set_one_away.auto.lanes ∙ ap length c.deref_mut.ensures.value) in
    record { few = omega (arith, ap length kept, c.set_one_away.auto.lanes, ap length c.deref_mut.ensures.value, moved.few) }

-- ---- the room

pub returns-clause-touches : goal.returns-clause-touches
unfolding leave
returns-clause-touches g c =
    let cpu = c.args.cpu in
    let moved = c.move_off.new.core in
    let account = c.close.new.self in
    let kept = with_items_is moved.lanes c.set_one_away.new.lanes (c.set_one_away.auto.lanes ∙ ap length c.deref_mut.ensures.value) in
    record {
      room = λ beside.
          let room = room_of (at c.args.now beside) (c.args.core.now, c.args.table.now) in
          let paid = beside_after (at c.args.now beside) (charge room) in
          let shut : room_of paid (c.charge.new.core, c.charge.new.table) ≡ charge room = c.charge.ensures.charges.room beside in
          let before = ap (λ (r : RoomState). with_account r account) shut ∙ without_interval_is (charge room) account c.close.ensures.count c.close.ensures.occupation c.close.ensures.started in
          let after : room_of paid (moved, c.move_off.new.table) ≡ move_off (without_interval (charge room)) cpu = c.move_off.ensures.touches.room paid ∙ ap (λ (r : RoomState). move_off r cpu) before in
          let states : map lane_state c.set_one_away.new.lanes ≡ map (left cpu) (enumerate_from 0 room.siblings) =
          c.set_one_away.ensures.states
          ∙ ap (λ (lanes : List (Lane g.row.Q.Denot)). map (left cpu) (enumerate_from 0 (map lane_state lanes))) c.deref_mut.ensures.value
          ∙ ap (λ (r : RoomState). map (left cpu) (enumerate_from 0 r.siblings)) after in
          ap (λ (lanes : List (Lane g.row.Q.Denot)). let next : RoomState = record (room_of paid (moved, c.move_off.new.table)) { siblings = map lane_state lanes } in next) kept
          ∙ (λ i. let next : RoomState = record (after i) { siblings = states i } in next)
          ∙ leave_is room cpu;
      numbers = λ beside booked_before.
          let room = room_of (at c.args.now beside) (c.args.core.now, c.args.table.now) in
          let own : map number_of c.set_one_away.new.lanes ≡ map number_of moved.lanes.items = c.set_one_away.ensures.numbers ∙ ap (map number_of) c.deref_mut.ensures.value in
          let charged =
          ap (λ n. let next : Numbers = record (numbers_in beside (c.charge.new.core, c.charge.new.table)) { intervals = n } in next) c.close.ensures.intervals
          ∙ c.charge.ensures.charges.numbers beside booked_before in
          ap (λ (lanes : List (Lane g.row.Q.Denot)). let next : Numbers = record (numbers_in beside (moved, c.move_off.new.table)) { own = map number_of lanes } in next) kept
          ∙ (λ i. let next : Numbers = record (numbers_in beside (moved, c.move_off.new.table)) { own = own i } in next)
          ∙ ap (with_ended beside.ended) c.move_off.ensures.touches.numbers
          ∙ (λ i. touched (2 * length (queued_among (c.charge.ensures.table i).tasks cpu)) (charged i));
      stays =
          both_stay c.charge.ensures.charges.stays
          (both_stay (alike_stays _ _ refl refl refl)
          (both_stay c.move_off.ensures.touches.stays
          (alike_stays _ _ (ap (map queue_of) kept ∙ c.set_one_away.ensures.queues ∙ ap (map queue_of) c.deref_mut.ensures.value) refl refl)));
    }
