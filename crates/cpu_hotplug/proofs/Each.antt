-- Each: the tasks of a sibling that leaves move to another one by one, whatever the queues hold meanwhile.
use Rattle.std.proofs.Common.{true, zero, suc, ◌≡◌, ◌+◌, ◌*◌, ◌<◌, ◌≤◌, ◌^◌, ℕ, List, refl, subst, sym, ap, ◌∙◌, arith, length, map, get_or, add-zero, add-one}
use Rattle.std.specs.Prelude.{find, ◌==◌, All, Some}
use Rattle.std.proofs.lemmas.Bool.{and_parts, eqb-true}
use Rattle.cs_types.specs.declared.task.Task.{Task}
use Rattle.cs_types.specs.Room.{RoomState, SiblingState, has_pid}
use Rattle.cs_types.specs.Queueing.{moved_to}
use Rattle.cs_types.specs.Hotplug.{moved_off}
use Rattle.cs_laws.proofs.Spots.{replaced_by}
use Rattle.task_table.specs.Table.{Table}
use Rattle.core_lanes.specs.declared.queue.SiblingQueue.{Ghosts}
use Rattle.core_lanes.specs.declared.lanes.Core.{Core}
use Rattle.core_lanes.specs.Queued.{queued_among, mover_of, AreTold, AreStamped}
use Rattle.task_table.specs.Moves.{with_first_moved}
use Rattle.core_lanes.specs.Exchanges.{AgreeApart, PlacesFirst, least_of, counted}
use Rattle.core_lanes.specs.Lanes.{BareCore, Beside, bare, room_by, room_of, Agree, AgreeBy, IsFit, MayMoveBy}
use Rattle.core_lanes.proofs.Placed.{one_placed}
use Rattle.core_lanes.specs.Numbers.{Numbers, numbers_by, numbers_of, touched}
use Rattle.core_lanes.specs.Changes.{Kept, kept_of, identity_of, MovesBy}
use Rattle.core_lanes.proofs.Stays.{some_beside, found_in, as_many_bare}
use Rattle.cpu_hotplug.specs.Leaves.{MayMoveAllTo}
use Rattle.cpu_hotplug.proofs.Ranks.{each_of}
use Rattle.core_lanes.proofs.Counted.{few_queued}
use Rattle.cpu_hotplug.proofs.Leaving.{length-told, moved_is, so_far, none_moved, all_moved, one_more, next_found, IsNext}

-- so many tasks of the sibling moved
pub record MovedSoFar {Q : Type 0} {g : Ghosts Q} (Held : Type 0) (cpu count : ℕ) (old now : Core Q g × Table) : Type 0 where
  pub room : (beside : Beside) → room_of beside now ≡ so_far (room_of beside old) cpu count
  pub numbers : numbers_of now ≡ touched (2 * count) (numbers_of old)
  pub kept : kept_of now ≡ kept_of old
  pub agree : AgreeBy Held now

two_more : (n i : ℕ) → n + 2 * i + 2 ≡ n + 2 * (i + 1)
two_more n i = omega arith

one_stamp : (n i : ℕ) → n + suc i ≡ n + i + 1
one_stamp n i = omega arith

two_touches : (n i : ℕ) → n + 2 * suc i ≡ n + 2 * i + 2
two_touches n i = omega arith

-- a core and a table that agree do so whatever the queues hold
pub apart_of : {Q : Type 0} {g : Ghosts Q} {both : Core Q g × Table} → Agree both → AgreeApart both
apart_of agree = record { table = agree.table; few_tasks = agree.few_tasks; tasks = agree.tasks; stamped = agree.stamped; held = tt }

-- and so does a core that is alike but for its queues, as soon as these hold what they are to hold
pub agree_by : {Q : Type 0} {g : Ghosts Q} {Held : Type 0} (now then : Core Q g) (table : Table) → AgreeApart (now, table) → bare then ≡ bare now → Held → AgreeBy Held (then, table)
agree_by now then table apart same held =
    let many = as_many_bare now then same in
    record {
      table = apart.table;
      few_tasks = apart.few_tasks;
      tasks = subst (λ n. All (IsFit n) table.tasks) (sym many) apart.tasks;
      stamped = subst (λ (core : BareCore). AreStamped core.next_stamp table.tasks) (sym same) apart.stamped;
      held = held;
    }

module _ {Q : Type 0} {g : Ghosts Q} (cpu to : ℕ) (places : List ℕ) (core : Core Q g) (table : Table) (may : MayMoveAllTo cpu to places (core, table)) where
  -- none, where the core is as before but for its queues
  pub none_yet : {Held : Type 0} (then : Core Q g) → bare then ≡ bare core → AgreeBy Held (then, table) → MovedSoFar Held cpu 0 (core, table) (then, table)
  none_yet then same agree =
      let many = as_many_bare core then same in
      record {
        room = λ beside.
            let room = room_of beside (core, table) in
            let next : room.next_stamp ≡ room.next_stamp + 0 = omega arith in
            let tasks = sym (none_moved room cpu table.tasks) in
            (λ i. room_by beside (same i) table) ∙ (λ i. let first : RoomState = record room { tasks = tasks i; next_stamp = next i } in first);
        numbers = (λ i. numbers_by (same i) table) ∙ ap (λ n. let first : Numbers = record (numbers_of (core, table)) { task = n } in first) (omega arith);
        kept = λ i. record { siblings = many i; limit = table.limit; identities = map identity_of table.tasks };
        agree = agree;
      }

  abbrev pub room : RoomState
  room = room_of some_beside (core, table)

  module _ (pids : List ℕ) (told : AreTold (map mover_of (queued_among table.tasks cpu)) pids) where
    pub movers_are : length pids ≡ length (queued_among table.tasks cpu)
    movers_are = length-told room cpu may.may.agree.table.rising may.may.agree.stamped pids told

    module _ {Held : Type 0} (count : ℕ) (within : count < length pids) (now : Core Q g × Table) (moved : MovedSoFar Held cpu count (core, table) now) where
      found : (task : Task) × (find (has_pid (get_or pids count 0)) now.1.tasks ≡ Some task) × IsNext room cpu count now.1.tasks task
      found = next_found room cpu may.may.agree.table.rising may.may.agree.stamped pids told count within now.1.tasks (ap (λ (one : RoomState). one.tasks) (moved.room some_beside))

      -- the next one may
      pub may_move : MayMoveBy Held (get_or pids count 0) cpu to now
      may_move =
          let task = found.0 in
          let next = found.2 in
          let many : length now.0.lanes.items ≡ length core.lanes.items = ap (λ (kept : Kept). kept.siblings) moved.kept in
          let on = and_parts task.queued (task.home == cpu) next.on in
          record {
            task = task;
            there = found.1;
            queued = on.0;
            home = eqb-true task.home cpu on.1;
            other = omega (arith, may.within, many);
            elsewhere = λ here. may.another some_beside (sym (may.lowest some_beside table) ∙ here);
            agree = moved.agree;
            vtime = found_in (λ (one : Task). one.vtime < 2 ^ 100) task.spec.pid table.tasks task may.may.low.vtimes next.there;
            leasts = subst (λ (siblings : List SiblingState). All (λ (sibling : SiblingState). sibling.least < 2 ^ 100) siblings)
                (sym (ap (λ (room : RoomState). room.siblings) (moved.room some_beside))) may.may.low.leasts;
            stamp = omega (arith, ap (λ (one : RoomState). one.next_stamp) (moved.room some_beside), within, movers_are, few_queued table.tasks cpu, may.may.stamp);
            touches = omega (arith, ap (λ (numbers : Numbers). numbers.task) moved.numbers, within, movers_are, few_queued table.tasks cpu, may.may.touches);
          }

      -- and once it has, one more moved
      pub one_moved : {After : Type 0} (then : Core Q g × Table) → MovesBy After (get_or pids count 0) to now then → MovedSoFar After cpu (count + 1) (core, table) then
      one_moved then moves =
          let task = found.0 in
          let next = found.2 in
          let stamps = ap (λ (one : RoomState). one.next_stamp) (moved.room some_beside) in
          let there = moved_to (room_of some_beside now) to task in
          let done : Task = record there { queued = true; stamp = now.0.next_stamp } in
          let queued : task.queued ≡ true = (and_parts task.queued (task.home == cpu) next.on).0 in
          record {
            room = λ beside.
                let was = room_of beside (core, table) in
                let is = ap (λ b. let one : Task = record there { queued = b; stamp = now.0.next_stamp } in one) (sym queued)
                ∙ moved_is was (room_of beside now) cpu to now.0.next_stamp task there
                (ap (λ (one : RoomState). one.siblings) (moved.room beside)) (may.lowest beside table) refl next.on
                (stamps ∙ ap (λ n. core.next_stamp + n) (sym next.rank)) in
                let more = ap (λ (one : RoomState). map (replaced_by done) one.tasks) (moved.room some_beside)
                ∙ one_more was cpu may.may.agree.stamped count task next.there next.on next.rank done is table.tasks (each_of table.tasks may.may.agree.table.rising) in
                let stamp : now.0.next_stamp + 1 ≡ core.next_stamp + (count + 1) = omega (arith, stamps) in
                moves.room task found.1 beside ∙ (λ j. let after : RoomState = record (moved.room beside j) { tasks = more j; next_stamp = stamp j } in after);
            numbers =
                moves.numbers
                ∙ ap (touched 2) moved.numbers
                ∙ ap (λ n. let after : Numbers = record (numbers_of (core, table)) { task = n } in after) (two_more core.task_number count);
            kept = moves.kept ∙ moved.kept;
            agree = moves.agree;
          }

    -- So it is of those that are placed one after another, whatever the queues hold.
    pub first_moved : (count : ℕ) → count ≤ length pids → (then : Core Q g) (now : Table) → PlacesFirst count pids cpu to (core, table) (then, now) →
        MovedSoFar (Unit {0}) cpu count (core, table) (then, now)
    first_moved zero within then now placed =
        let same : bare then ≡ bare core = placed.core ∙ (λ i. let before : BareCore = record (bare core) {
          next_stamp = add-zero core.next_stamp i;
          task_number = add-zero core.task_number i;
        } in before) in
        let agree : AgreeBy (Unit {0}) (core, table) = apart_of may.may.agree in
        subst (λ (now : Table). MovedSoFar (Unit {0}) cpu 0 (core, table) (then, now)) (sym placed.table) (none_yet then same (agree_by core then table agree same tt))
    first_moved (suc count) within then now placed =
        let before : Core Q g = record core { next_stamp = core.next_stamp + count; task_number = core.task_number + 2 * count } in
        let tasks : Table = record table { tasks = with_first_moved count pids to (least_of core cpu) (least_of core to) core.next_stamp table.tasks } in
        let moved = first_moved count (omega (arith, within)) before tasks (record { core = refl; lanes = refl; table = refl }) in
        let below : count < length pids = omega (arith, within) in
        let same : bare then ≡ counted 1 (bare before) = placed.core ∙ (λ i. let after : BareCore = record (bare core) {
          next_stamp = one_stamp core.next_stamp count i;
          task_number = two_touches core.task_number count i;
        } in after) in
        let places = one_placed before tasks (get_or pids count 0) cpu to (may_move count below (before, tasks) moved) (least_of core cpu) (least_of core to) refl refl then same now placed.table in
        subst (λ n. MovedSoFar (Unit {0}) cpu n (core, table) (then, now)) (add-one count) (one_moved count below (before, tasks) moved (then, now) places)

    -- where no more are told, all moved
    module _ {Held : Type 0} (count : ℕ) (beyond : length pids ≤ count) (most : count ≤ length pids) (now : Core Q g × Table) (moved : MovedSoFar Held cpu count (core, table) now) where
      all : count ≡ length (queued_among table.tasks cpu)
      all = omega (arith, movers_are, beyond, most)

      -- so no more moved than live
      pub within_all : count ≤ length table.tasks
      within_all = omega (arith, all, few_queued table.tasks cpu)

      pub tasks_all : now.1.tasks ≡ map (moved_off room cpu) table.tasks
      tasks_all =
          ap (λ (one : RoomState). one.tasks) (moved.room some_beside) ∙ (λ j. (so_far room cpu (all j)).tasks)
          ∙ all_moved room cpu table.tasks (each_of table.tasks may.may.agree.table.rising)

      pub room_all : (beside : Beside) → room_of beside now ≡ record (so_far (room_of beside (core, table)) cpu (length (queued_among table.tasks cpu))) { tasks = map (moved_off (room_of beside (core, table)) cpu) table.tasks }
      room_all beside =
          let was = room_of beside (core, table) in
          let tasks = all_moved was cpu table.tasks (each_of table.tasks may.may.agree.table.rising) in
          moved.room beside ∙ (λ j. so_far was cpu (all j))
          ∙ (λ j. let next : RoomState = record (so_far was cpu (length (queued_among table.tasks cpu))) { tasks = tasks j } in next)

      pub numbers_all : numbers_of now ≡ touched (2 * length (queued_among table.tasks cpu)) (numbers_of (core, table))
      numbers_all = moved.numbers ∙ ap (λ n. touched (2 * n) (numbers_of (core, table))) all
