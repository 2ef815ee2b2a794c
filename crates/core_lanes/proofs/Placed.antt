-- Placed: a core and its table once a task moved, whatever the queues hold.
use Rattle.std.proofs.Common.{◌≡◌, ℕ, ◌+◌, ◌<◌, ◌^◌, arith, inl, inr, cond, List, [], ◌∷◌, refl, sym, subst, ap, ◌∙◌, map, length}
use Rattle.std.specs.Prelude.{◌==◌, All, Some, find}
use Rattle.std.proofs.Math.Nat.{mod-eq_of_lt}
use Rattle.std.proofs.lemmas.Bool.{cases_Bool, cond-true, cond-false, eqb-true}
use Rattle.std.proofs.lemmas.List.{length-map}
use Rattle.cs_types.proofs.Foremost.{find_passes}
use Rattle.cs_laws.proofs.Spots.{replaced_by, find-replaced}
use Rattle.cs_types.specs.declared.task.Task.{Task}
use Rattle.cs_types.specs.Room.{has_pid, absent}
use Rattle.cs_types.specs.Queueing.{moved_to, moved}
use Rattle.task_table.specs.Moves.{moved_by, with_moved}
use Rattle.task_table.specs.Table.{Table, IsSound as IsTable}
use Rattle.task_table.proofs.Tables.{changed_each}
use Rattle.core_lanes.specs.Queued.{AreStamped}
use Rattle.core_lanes.specs.declared.queue.SiblingQueue.{Ghosts}
use Rattle.core_lanes.specs.declared.lanes.Core.{Core}
use Rattle.core_lanes.specs.Exchanges.{PlacesFirst, least_of, counted}
use Rattle.core_lanes.specs.Lanes.{BareCore, bare, lane_state, room_by, room_of, IsFit, MayStamp, MayMoveBy}
use Rattle.core_lanes.specs.Numbers.{numbers_by}
use Rattle.core_lanes.specs.Changes.{MovesBy}
use Rattle.core_lanes.proofs.Replaced.{stamped-replaced, All-replaced, identities-replaced, rises-replaced}
use Rattle.core_lanes.proofs.Stays.{some_beside, found_in, stamped-later, stamp_next}

-- a table is sound still where a task takes the place of the one with its pid
sound-replaced : (task old : Task) (table : Table) → find (has_pid task.spec.pid) table.tasks ≡ Some old → IsTable table →
    IsTable (record table { tasks = map (replaced_by task) table.tasks })
sound-replaced task old table there sound = record {
  rising = rises-replaced task table.tasks sound.rising;
  known = λ pid none.
      let found = sym (find-replaced task old table.tasks there pid) ∙ none in
      elim (cases_Bool (pid == task.spec.pid)) [
        | inl same ↦ let some = sym (cond-true _ (Some task) (find (has_pid pid) table.tasks) same) ∙ found in absurd cc
        | inr other ↦ sound.known pid (sym (cond-false _ (Some task) (find (has_pid pid) table.tasks) other) ∙ found)
      ];
  few = omega (arith, length-map table.tasks (replaced_by task), sound.few);
  limit = sound.limit;
}

module _ {Q : Type 0} {g : Ghosts Q} (core : Core Q g) (before : Table) (pid from to : ℕ) (may : MayMoveBy (Unit {0}) pid from to (core, before)) where
  -- the task as the table has it then
  abbrev done : Task
  done = record (moved_to (room_of some_beside (core, before)) to may.task) { stamp = core.next_stamp }

  -- and the table
  abbrev after : Table
  after = record before { tasks = map (replaced_by done) before.tasks }

  pid_is : may.task.spec.pid ≡ pid
  pid_is = eqb-true may.task.spec.pid pid (find_passes (has_pid pid) before.tasks may.task may.there)

  there : find (has_pid done.spec.pid) before.tasks ≡ Some may.task
  there = subst (λ n. find (has_pid n) before.tasks ≡ Some may.task) (sym pid_is) may.there

  may_stamp : MayStamp (core.next_stamp + 1) before.tasks done
  may_stamp = stamp_next core.next_stamp before.tasks done refl may.agree.stamped

  low : least_of core to < 2 ^ 100
  low = may.leasts to absent (omega (arith, length-map core.lanes.items lane_state, may.other))

  changed : moved_by to (least_of core from) (least_of core to) core.next_stamp may.task ≡ done
  changed =
      (λ i. moved_by to (least_of core (sym may.home i)) (least_of core to) core.next_stamp may.task)
      ∙ ap (λ vtime. let task : Task = record done { vtime = vtime } in task) (mod-eq_of_lt (omega (arith, low, may.vtime)))

  -- it stands in the place of the one with its pid
  after_is : record before { tasks = with_moved pid to (least_of core from) (least_of core to) core.next_stamp before.tasks } ≡ after
  after_is =
      ap (λ (ts : List Task). let table : Table = record before { tasks = ts } in table)
      (ap (λ n. with_moved n to (least_of core from) (least_of core to) core.next_stamp before.tasks) (sym pid_is)
      ∙ sym (changed_each (moved_by to (least_of core from) (least_of core to) core.next_stamp) before.tasks may.task may.agree.table.rising there)
      ∙ ap (λ (now : Task). map (λ (other : Task). cond (has_pid may.task.spec.pid other) now other) before.tasks) changed)

  -- so it is placed, whatever the siblings' queues are
  placed_after : (then : Core Q g) → bare then ≡ counted 1 (bare core) → MovesBy (Unit {0}) pid to (core, before) (then, after)
  placed_after then same =
      let many : length then.lanes.items ≡ length core.lanes.items =
      sym (length-map then.lanes.items lane_state) ∙ ap (λ (core : BareCore). length core.siblings) same ∙ length-map core.lanes.items lane_state in
      let fits = found_in (IsFit (length core.lanes.items)) done.spec.pid before.tasks may.task may.agree.tasks there in
      let fit : IsFit (length core.lanes.items) done = record { home = may.other; policy = fits.policy } in
      record {
        room = λ task told beside.
            let one : Some may.task ≡ Some task = sym may.there ∙ told in
            let is : may.task ≡ task = cc in
            (λ i. room_by beside (same i) after)
            ∙ ap (λ b. let queued : Task = record done { queued = b } in room_by beside (counted 1 (bare core)) (record before { tasks = map (replaced_by queued) before.tasks })) may.queued
            ∙ ap (moved (room_of beside (core, before)) to) is;
        numbers = λ i. numbers_by (same i) after;
        kept =
            let identities = identities-replaced done may.task before.tasks may.agree.table.rising there refl in
            λ i. record { siblings = many i; limit = before.limit; identities = identities i };
        agree = record {
          table = sound-replaced done may.task before there may.agree.table;
          few_tasks = may.agree.few_tasks;
          tasks = subst (λ n. All (IsFit n) after.tasks) (sym many) (All-replaced (IsFit (length core.lanes.items)) done before.tasks fit may.agree.tasks);
          stamped = subst (λ (core : BareCore). AreStamped core.next_stamp after.tasks) (sym same)
              (stamped-replaced done may.task before.tasks there (core.next_stamp + 1) (λ queued. may_stamp) (stamped-later (omega arith) may.agree.stamped));
          held = tt;
        };
      }

  -- It is placed where it moved in the table.
  pub one_placed : (behind least : ℕ) → behind ≡ least_of core from → least ≡ least_of core to → (then : Core Q g) → bare then ≡ counted 1 (bare core) →
      (now : Table) → now ≡ record before { tasks = with_moved pid to behind least core.next_stamp before.tasks } → MovesBy (Unit {0}) pid to (core, before) (then, now)
  one_placed behind least behind_is least_is then same now is =
      let there : record before { tasks = with_moved pid to behind least core.next_stamp before.tasks } ≡ after =
      (λ i. record before { tasks = with_moved pid to (behind_is i) (least_is i) core.next_stamp before.tasks }) ∙ after_is in
      subst (λ (table : Table). MovesBy (Unit {0}) pid to (core, before) (then, table)) (sym (is ∙ there)) (placed_after then same)

  -- also where it alone is placed
  pub lone_placed : (then : Core Q g) (now : Table) → PlacesFirst 1 (pid ∷ []) from to (core, before) (then, now) → MovesBy (Unit {0}) pid to (core, before) (then, now)
  lone_placed then now placed =
      let first : core.next_stamp + 0 ≡ core.next_stamp = omega arith in
      let is : now ≡ record before { tasks = with_moved pid to (least_of core from) (least_of core to) core.next_stamp before.tasks } =
      placed.table ∙ (λ i. record before { tasks = with_moved pid to (least_of core from) (least_of core to) (first i) before.tasks }) in
      one_placed (least_of core from) (least_of core to) refl refl then placed.core now is
