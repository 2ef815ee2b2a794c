-- Sleeping: what is so while a task that stays sleeps, and the others move past it.
use Rattle.std.proofs.Common.{◌≡◌, ◌≢◌, ℕ, ◌-◌, ◌*◌, ◌<◌, ◌^◌, true, false, List, map, Some, refl, sym, subst, ap, ◌∙◌, length, arith}
use Rattle.std.specs.Prelude.{find, All, IsTrue, ◌&&◌}
use Rattle.std.proofs.lemmas.Bool.{eq-eqb}
use Rattle.cs_types.specs.declared.task.Task.{Task}
use Rattle.cs_types.specs.Room.{RoomState, SiblingState, has_pid, with_task, sibling_of}
use Rattle.cs_types.specs.Hotplug.{lowest_other, move_off}
use Rattle.task_table.specs.Table.{Table}
use Rattle.core_lanes.specs.declared.queue.SiblingQueue.{Ghosts}
use Rattle.core_lanes.specs.declared.lanes.Core.{Core}
use Rattle.core_lanes.specs.Queued.{queued_among, HasOwnStamp}
use Rattle.core_lanes.specs.Lanes.{Beside, lane_state, room_of, IsFit, Agree, Knows}
use Rattle.core_lanes.specs.Numbers.{Numbers, numbers_of, touched}
use Rattle.core_lanes.specs.Changes.{Kept, Changes, Touches}
use Rattle.core_lanes.proofs.Counted.{as_many_live}
use Rattle.core_lanes.proofs.Queues.{off_elsewhere, is_on}
use Rattle.core_lanes.proofs.Replaced.{All-replaced}
use Rattle.core_lanes.proofs.Stays.{some_beside, both_stay, found_in}
use Rattle.cpu_hotplug.specs.Leaves.{NoneBehind, IsQueuedAt, MayMovePast}
use Rattle.cpu_hotplug.proofs.Past.{asleep, aside, same_queued, one_less, moved_past, sleeps, own_still}

module _ {Q : Type 0} {g : Ghosts Q} (cpu to stay : ℕ) (movers : List ℕ) (core : Core Q g) (table : Table) (may : MayMovePast cpu to stay movers (core, table))
    (task : Task) (first : IsQueuedAt to table.tasks task) where
  abbrev agree : Agree (core, table)
  agree = may.all.may.agree

  fit : IsFit (length core.lanes.items) task
  fit = found_in (IsFit (length core.lanes.items)) task.spec.pid table.tasks task agree.tasks first.there

  two : to ≢ cpu
  two is = may.all.another some_beside (sym (may.all.lowest some_beside table) ∙ is)

  off : is_on cpu task ≡ false
  off = off_elsewhere task cpu (λ is. two (sym first.home ∙ sym is))

  on : is_on to task ≡ true
  on = λ i. first.queued i && eq-eqb task.home to first.home i

  -- it may sleep
  pub knows_asleep : Knows (core, table) (asleep task)
  knows_asleep = record {
    known = record {
      apart = record { agree = agree; old = task; there = first.there; fits = record { home = fit.home; policy = fit.policy } };
      cookie = refl;
    };
    stamp = λ queued. absurd cc;
  }

  module _ (core1 : Core Q g) (table1 : Table) (changes : Changes (core, table) (core1, table1) (λ room. with_task room (asleep task))) where
    tasks1 : table1.tasks ≡ aside task table.tasks
    tasks1 = ap (λ (room : RoomState). room.tasks) (changes.room some_beside)

    siblings1 : map lane_state core1.lanes.items ≡ map lane_state core.lanes.items
    siblings1 = ap (λ (room : RoomState). room.siblings) (changes.room some_beside)

    many1 : length core1.lanes.items ≡ length core.lanes.items
    many1 = ap (λ (kept : Kept). kept.siblings) changes.stays.kept

    same1 : queued_among table1.tasks cpu ≡ queued_among table.tasks cpu
    same1 = ap (λ (ts : List Task). queued_among ts cpu) tasks1 ∙ same_queued task table.tasks agree.table.rising first.there cpu off

    lowest1 : (beside : Beside) (tasks : Table) → to ≡ lowest_other (room_of beside (core1, tasks)) cpu
    lowest1 beside tasks =
        may.all.lowest beside tasks
        ∙ ap (λ (siblings : List SiblingState). lowest_other (record (room_of beside (core, tasks)) { siblings = siblings }) cpu) (sym siblings1)

    -- one less stays awake
    pub may_next : MayMovePast cpu to (stay - 1) movers (core1, table1)
    may_next =
        let low = may.all.may.low in
        let tasks = as_many_live (core, table) (core1, table1) changes.stays.kept in
        let below : cpu < length core1.lanes.items = omega (arith, may.all.may.cpu, many1) in
        record {
          all = record {
            may = record {
              cpu = below;
              agree = changes.stays.agree agree;
              low = record {
                vtimes = subst (All (λ (t : Task). t.vtime < 2 ^ 100)) (sym tasks1)
                    (All-replaced (λ (t : Task). t.vtime < 2 ^ 100) (asleep task) table.tasks
                    (found_in (λ (t : Task). t.vtime < 2 ^ 100) task.spec.pid table.tasks task low.vtimes first.there) low.vtimes);
                leasts = subst (All (λ (sibling : SiblingState). sibling.least < 2 ^ 100)) (sym siblings1) low.leasts;
                snapshots = subst (All (λ (sibling : SiblingState). sibling.snapshot < 2 ^ 100)) (sym siblings1) low.snapshots;
              };
              stamp = omega (arith, ap (λ (room : RoomState). room.next_stamp) (changes.room some_beside), tasks, may.all.may.stamp);
              touches = omega (arith, ap (λ (numbers : Numbers). numbers.task) changes.numbers, tasks, may.all.may.touches);
            };
            another = λ beside is. two (lowest1 beside table1 ∙ is);
            lowest = lowest1;
            within = omega (arith, may.all.within, many1);
            tell = record { agree = record { cpu = below; agree = changes.stays.agree agree }; each = may.all.tell.each ∙ ap length (sym same1) };
          };
          ahead = λ beside.
              subst (λ (siblings : List SiblingState). NoneBehind (sibling_of (record (room_of beside (core, table)) { siblings = siblings }) cpu).least (queued_among table1.tasks cpu)) (sym siblings1)
              (subst (NoneBehind (sibling_of (room_of beside (core, table)) cpu).least) (sym same1) (may.ahead beside));
          staying = omega (arith, may.staying, one_less task table.tasks agree.table.rising first.there to on, ap (λ (ts : List Task). length (queued_among ts to)) tasks1);
        }

    module _ (core2 : Core Q g) (table2 : Table) (touches : Touches (2 * length (queued_among table1.tasks cpu)) (core1, table1) (core2, table2) (λ room. move_off room cpu)) where
      room2 : (beside : Beside) → room_of beside (core2, table2) ≡ move_off (with_task (room_of beside (core, table)) (asleep task)) cpu
      room2 beside = touches.room beside ∙ ap (λ (room : RoomState). move_off room cpu) (changes.room beside)

      abbrev room : RoomState
      room = room_of some_beside (core, table)

      tasks2 : table2.tasks ≡ (move_off (with_task room (asleep task)) cpu).tasks
      tasks2 = ap (λ (r : RoomState). r.tasks) (room2 some_beside)

      -- once the others moved, it may be queued again
      pub knows_awake : Knows (core2, table2) task
      knows_awake = record {
        known = record {
          apart = record {
            agree = (both_stay changes.stays touches.stays).agree agree;
            old = asleep task;
            there = subst (λ (ts : List Task). find (has_pid task.spec.pid) ts ≡ Some (asleep task)) (sym tasks2) (sleeps room cpu task agree.table.rising first.there off);
            fits = record { home = omega (arith, fit.home, ap (λ (kept : Kept). kept.siblings) (both_stay changes.stays touches.stays).kept); policy = fit.policy };
          };
          cookie = refl;
        };
        stamp = λ queued. record {
          below = omega (
            arith,
            found_in (λ (t : Task). IsTrue t.queued → t.stamp < core.next_stamp) task.spec.pid table.tasks task agree.stamped.below first.there queued,
            ap (λ (r : RoomState). r.next_stamp) (room2 some_beside),
          );
          own = subst (λ (ts : List Task). HasOwnStamp ts task) (sym tasks2) (own_still room cpu task agree.table.rising first.there off agree.stamped queued);
        };
      }

      -- and then all is as if they had moved past it
      pub moved : (core3 : Core Q g) (table3 : Table) → Changes (core2, table2) (core3, table3) (λ room. with_task room task) →
          Touches (2 * length (queued_among table.tasks cpu)) (core, table) (core3, table3) (λ room. move_off room cpu)
      moved core3 table3 awakes = record {
        room = λ beside.
            awakes.room beside ∙ ap (λ (r : RoomState). with_task r task) (room2 beside) ∙ moved_past (room_of beside (core, table)) cpu task agree.table.rising first.there off;
        numbers = awakes.numbers ∙ touches.numbers ∙ ap (touched (2 * length (queued_among table1.tasks cpu))) changes.numbers
            ∙ ap (λ (qs : List Task). touched (2 * length qs) (numbers_of (core, table))) same1;
        stays = both_stay changes.stays (both_stay touches.stays awakes.stays);
      }
