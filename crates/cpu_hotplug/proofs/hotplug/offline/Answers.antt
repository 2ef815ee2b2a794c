use Rattle.std.proofs.Common.{ℕ, ◌≡◌, ◌∙◌, ap, sym, subst, refl, length, true, false, arith, eq-eqb, ne_eqb}
use Rattle.std.proofs.lemmas.List.{length-map}
use Rattle.cs_types.specs.Room.{RoomState, online}
use Rattle.cs_types.specs.Step.{Stepped, take_offline}
use Rattle.task_table.specs.Table.{Table}
use Rattle.core_lanes.specs.declared.queue.SiblingQueue.{Ghosts}
use Rattle.core_lanes.specs.declared.lanes.Core.{Core}
use Rattle.core_lanes.specs.Queued.{queued_among}
use Rattle.core_lanes.specs.Lanes.{Beside, at, beside_after, lane_state, room_of}
use Rattle.core_lanes.specs.Numbers.{Numbers, numbers_in, booked, touched}
use Rattle.core_lanes.specs.Changes.{IsBooked}
use Rattle.core_lanes.proofs.Stays.{same_stays}
use Rattle.cpu_hotplug.specs.Hotplugs.{reply_of, leave_touches, TakesOffline}
use Rattle.cpu_hotplug.specs.declared.hotplug.Hotplug.{Hotplug}
use Rattle.cpu_hotplug.specs.declared.hotplug.Hotplug.TheVariants.{Done, Busy, Already}
use Rattle.cs_laws.proofs.Places.{lowest_other_is}
use Rattle.cpu_hotplug.proofs.Steps.{offline_step}
use Rattle.cpu_hotplug.proofs.hotplug.offline.Goals as goal

-- nothing is touched
untouched : (numbers : Numbers) → numbers ≡ touched 0 numbers
untouched numbers = ap (λ n. let other : Numbers = record numbers { task = n } in other) (omega arith)

-- a core and its table that stay stand for the room of which they have all but what is beside them
stands : {Q : Type 0} {g : Ghosts Q} (beside : Beside) (both : Core Q g × Table) (room : RoomState) → room_of beside both ≡ room → room_of (beside_after beside room) both ≡ room
stands beside both room is = subst (λ (r : RoomState). room_of (beside_after beside r) both ≡ r) is refl

-- and their books are still those of the room
still_booked : {Q : Type 0} {g : Ghosts Q} (beside : Beside) (both : Core Q g × Table) (room : RoomState) → room_of beside both ≡ room → IsBooked beside both →
    numbers_in beside both ≡ touched 0 (booked room (numbers_in beside both))
still_booked beside both room is kept =
    kept ∙ untouched (booked (room_of beside both) (numbers_in beside both)) ∙ ap (λ (r : RoomState). touched 0 (booked r (numbers_in beside both))) is

-- an ask that nothing comes of changes nothing
refused : {Q : Type 0} {g : Ghosts Q} (now cpu : ℕ) (core : Core Q g) (table : Table) (made : Hotplug) → ((queued : ℕ) → leave_touches made queued ≡ 0) →
    ((beside : Beside) → let room = room_of (at now beside) (core, table) in take_offline room cpu ≡ record { reply = reply_of made; room = room }) →
    TakesOffline now (core, table) (core, table) cpu made
refused now cpu core table made none step = record {
  reply = λ beside. sym (ap (λ (one : Stepped). one.reply) (step beside));
  room = λ beside.
      let room = room_of (at now beside) (core, table) in
      stands (at now beside) (core, table) (take_offline room cpu).room (sym (ap (λ (one : Stepped). one.room) (step beside)));
  numbers = λ beside kept.
      let room = room_of (at now beside) (core, table) in
      still_booked (at now beside) (core, table) (take_offline room cpu).room (sym (ap (λ (one : Stepped). one.room) (step beside))) kept
      ∙ ap (λ n. touched n (booked (take_offline room cpu).room (numbers_in beside (core, table)))) (sym (none (length (queued_among table.tasks cpu))));
  unchanged = λ not_done. refl;
  stays = same_stays;
}

pub leave-requires : goal.leave-requires
leave-requires g c = record {
  may = c.requires;
  another = λ beside.
      let core = c.args.core.now in
      let table = c.args.table.now in
      (lowest_other_is (room_of beside (core, table)) c.args.cpu (omega (arith, c.requires.moves.cpu, length-map core.lanes.items lane_state))
      (sym (c.is_online.ensures beside table) ∙ c.if-not-is_online.false)
      (λ alone. c.if-online_count-eq1.false (c.online_count.ensures beside table ∙ alone))).2;
}

pub returns-then-not-is_online-clause-leaves : goal.returns-then-not-is_online-clause-leaves
returns-then-not-is_online-clause-leaves g c =
    refused c.args.now c.args.cpu c.args.core.now c.args.table.now Already (λ queued. refl) (λ beside.
    offline_step (room_of (at c.args.now beside) (c.args.core.now, c.args.table.now)) c.args.cpu false _
    (sym (c.is_online.ensures (at c.args.now beside) c.args.table.now) ∙ c.if-not-is_online.true) refl)

pub returns-then-online_count-eq1-clause-leaves : goal.returns-then-online_count-eq1-clause-leaves
returns-then-online_count-eq1-clause-leaves g c =
    refused c.args.now c.args.cpu c.args.core.now c.args.table.now Busy (λ queued. refl) (λ beside.
    let room = room_of (at c.args.now beside) (c.args.core.now, c.args.table.now) in
    offline_step room c.args.cpu true true (sym (c.is_online.ensures (at c.args.now beside) c.args.table.now) ∙ c.if-not-is_online.false)
    (eq-eqb (length (online room)) 1 (sym (c.online_count.ensures (at c.args.now beside) c.args.table.now) ∙ c.if-online_count-eq1.true)))

pub returns-clause-leaves : goal.returns-clause-leaves
returns-clause-leaves g c =
    let step = λ (beside : Beside).
    let room = room_of (at c.args.now beside) (c.args.core.now, c.args.table.now) in
    let several = ne_eqb (length (online room)) 1 (λ alone. c.if-online_count-eq1.false (c.online_count.ensures (at c.args.now beside) c.args.table.now ∙ alone)) in
    sym (offline_step room c.args.cpu true false (sym (c.is_online.ensures (at c.args.now beside) c.args.table.now) ∙ c.if-not-is_online.false) several) in
    record {
      reply = λ beside. ap (λ (made : Stepped). made.reply) (step beside);
      room = λ beside.
          subst (λ (made : Stepped). room_of (beside_after (at c.args.now beside) made.room) (c.leave.new.core, c.leave.new.table) ≡ made.room) (step beside) (c.leave.ensures.touches.room beside);
      numbers = λ beside kept.
          subst (λ (made : Stepped). numbers_in beside (c.leave.new.core, c.leave.new.table)
          ≡ touched (leave_touches Done (length (queued_among c.args.table.now.tasks c.args.cpu))) (booked made.room (numbers_in beside (c.args.core.now, c.args.table.now)))) (step beside) (c.leave.ensures.touches.numbers beside kept);
      unchanged = λ not_done. absurd (not_done refl);
      stays = c.leave.ensures.touches.stays;
    }
