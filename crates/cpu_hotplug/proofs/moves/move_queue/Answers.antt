use Rattle.std.proofs.Common.{Some, ◌≡◌, ◌+◌, ◌*◌, ◌<◌, ◌≤◌, ℕ, List, [], ◌≢◌, subst, sym, ap, ◌∙◌, arith, length, map}
use Rattle.std.specs.Prelude.{slice_get}
use Rattle.bounded_list.specs.Bounded.{Bounded}
use Rattle.task_table.specs.Table.{Table}
use Rattle.cs_types.specs.declared.task.Task.{Task}
use Rattle.cs_types.specs.declared.queue.Queued.{Queued}
use Rattle.cs_types.specs.Room.{RoomState}
use Rattle.cs_types.specs.Queue.{queued_of}
use Rattle.cs_types.specs.Hotplug.{lowest_other, moved_off}
use Rattle.core_lanes.specs.declared.queue.SiblingQueue.{Ghosts}
use Rattle.core_lanes.specs.declared.lanes.Core.{Core}
use Rattle.core_lanes.specs.declared.lane.Lane.{Lane}
use Rattle.core_lanes.specs.Queued.{queued_among, queued_at}
use Rattle.core_lanes.specs.Exchanges.{AgreeApart, MayExchange}
use Rattle.core_lanes.specs.Lanes.{queues_of, room_by, room_of, Agree}
use Rattle.core_lanes.specs.Numbers.{numbers_by}
use Rattle.core_lanes.specs.Changes.{Kept, kept_of}
use Rattle.core_lanes.proofs.Stays.{some_beside, as_many_bare, queue_of}
use Rattle.core_lanes.proofs.Counted.{few_queued, as_many_live}
use Rattle.cpu_hotplug.specs.Leaves.{NoneBehind}
use Rattle.cpu_hotplug.proofs.Leaving.{none_left}
use Rattle.cpu_hotplug.proofs.Moving.{least_from, least_to, anew, moved_there, elsewhere, none_behind}
use Rattle.cpu_hotplug.proofs.Each.{MovedSoFar, agree_by, movers_are, first_moved, tasks_all, room_all, numbers_all}
use Rattle.cpu_hotplug.proofs.moves.move_queue.Given.{Over}
use Rattle.cpu_hotplug.proofs.moves.move_queue.Goals.{After-place}
use Rattle.cpu_hotplug.proofs.moves.move_queue.Goals as goal

-- they are placed on the other sibling, and no stamp and no touch overflows
pub place-requires : goal.place-requires
place-requires g c =
    let to = c.requires.to in
    let tasks = c.args.table.now.tasks in
    let few = few_queued tasks c.args.cpu in
    let told = movers_are c.args.cpu c.args.to c.args.movers.now c.args.core.now c.args.table.now to c.tell_queued.new.movers c.tell_queued.ensures.told in
    record {
      cpu = to.may.cpu;
      other = to.within;
      stamps = omega (arith, to.may.stamp, few, told);
      touches = omega (arith, to.may.touches, few, told);
    }

-- so all of them moved
moved : (g : Over) (c : After-place g) → MovedSoFar (Unit {0}) c.args.cpu (length c.tell_queued.new.movers) (c.args.core.now, c.args.table.now) (c.place.new.self, c.place.new.table)
moved g c =
    first_moved c.args.cpu c.args.to c.args.movers.now c.args.core.now c.args.table.now c.requires.to c.tell_queued.new.movers c.tell_queued.ensures.told
    (length c.tell_queued.new.movers) (omega arith) c.place.new.self c.place.new.table c.place.ensures.placed

-- ---- all tasks

-- all moved, and the siblings and their queues are as before
module _ {Q : Type 0} {g : Ghosts Q} (core now : Core Q g) (table after : Table) (cpu to : ℕ) (agree : Agree (core, table)) (apart : AgreeApart (now, after))
    (lanes : now.lanes ≡ core.lanes) (limit : after.limit ≡ table.limit) (lowest : to ≡ lowest_other (room_of some_beside (core, table)) cpu)
    (tasks : after.tasks ≡ map (moved_off (room_of some_beside (core, table)) cpu) table.tasks) (cpu_in : cpu < length core.lanes.items) (to_in : to < length core.lanes.items)
    (two : cpu ≢ to) (none : queued_among table.tasks to ≡ []) (ahead : NoneBehind (least_from (room_of some_beside (core, table)) cpu to lowest) (queued_among table.tasks cpu)) where
  room : RoomState
  room = room_of some_beside (core, table)

  at_before : (place : ℕ) (queue : Q) → slice_get (queues_of now) place ≡ Some queue → slice_get (queues_of core) place ≡ Some queue
  at_before place queue at = ap (λ (ls : Bounded (Lane Q)). slice_get (map queue_of ls.items) place) (sym lanes) ∙ at

  holds_now : (queue : Q) (qs : List Queued) → g.holds queue table.limit qs → g.holds queue after.limit qs
  holds_now queue qs held = subst (λ n. g.holds queue n qs) (sym limit) held

  there : queued_at after.tasks to ≡ map (anew (room_of some_beside (core, table)) cpu to lowest) (queued_at table.tasks cpu)
  there = ap (λ (ts : List Task). queued_at ts to) tasks ∙ moved_there (room_of some_beside (core, table)) cpu to lowest two table.tasks none

  may_exchange : MayExchange cpu to (now, after)
  may_exchange = record {
    cpu = subst (λ (ls : Bounded (Lane Q)). cpu < length ls.items) (sym lanes) cpu_in;
    other = subst (λ (ls : Bounded (Lane Q)). to < length ls.items) (sym lanes) to_in;
    two = two;
    full = λ queue at. record {
      table = apart.table;
      moved = record {
        was = queued_at table.tasks cpu;
        from = least_from (room_of some_beside (core, table)) cpu to lowest;
        to = least_to (room_of some_beside (core, table)) cpu to lowest;
        next = core.next_stamp;
        holds = holds_now queue (queued_at table.tasks cpu) (agree.held cpu queue (at_before cpu queue at));
        are = there;
        ahead = none_behind (least_from (room_of some_beside (core, table)) cpu to lowest) (queued_among table.tasks cpu) ahead;
      };
    };
    empty = λ queue at.
        subst (λ qs. g.holds queue after.limit qs)
        (ap (map queued_of) (none ∙ sym (ap (λ (ts : List Task). queued_among ts cpu) tasks ∙ none_left (room_of some_beside (core, table)) cpu table.tasks (λ is. two (sym is ∙ sym lowest)))))
        (holds_now queue (queued_at table.tasks to) (agree.held to queue (at_before to queue at)));
    rest = λ other queue one also at.
        subst (λ qs. g.holds queue after.limit qs)
        (ap (map queued_of) (sym (ap (λ (ts : List Task). queued_among ts other) tasks ∙ elsewhere (room_of some_beside (core, table)) cpu to lowest two other one also table.tasks)))
        (holds_now queue (queued_at table.tasks other) (agree.held other queue (at_before other queue at)));
  }

pub exchange-requires : goal.exchange-requires
exchange-requires g c =
    let core = c.args.core.now in
    let table = c.args.table.now in
    let cpu = c.args.cpu in
    let to = c.requires.to in
    let pids = c.tell_queued.new.movers in
    let all = moved g (goal.at.exchange-requires g c).After-place in
    may_exchange core c.place.new.self table c.place.new.table cpu c.args.to to.may.agree all.agree c.place.ensures.placed.lanes
    (ap (λ (kept : Kept). kept.limit) all.kept) (to.lowest some_beside table)
    (tasks_all cpu c.args.to c.args.movers.now core table to pids c.tell_queued.ensures.told (length pids) (omega arith) (omega arith) (c.place.new.self, c.place.new.table) all)
    to.may.cpu to.within (λ is. to.another some_beside (sym (to.lowest some_beside table) ∙ sym is)) c.requires.whole.empty (c.requires.whole.ahead some_beside)

pub returns-clause-touches : goal.returns-clause-touches
returns-clause-touches g c =
    let core = c.args.core.now in
    let table = c.args.table.now in
    let cpu = c.args.cpu in
    let pids = c.tell_queued.new.movers in
    let told = c.tell_queued.ensures.told in
    let now = c.place.new.self in
    let after = c.place.new.table in
    let all = moved g (goal.at.returns-clause-touches g c).After-place in
    let bare_is = c.exchange.ensures.queues.bare in
    record {
      room = λ beside.
          (λ j. room_by beside (bare_is j) after)
          ∙ room_all cpu c.args.to c.args.movers.now core table c.requires.to pids told (length pids) (omega arith) (omega arith) (now, after) all beside;
      numbers = (λ j. numbers_by (bare_is j) after)
          ∙ numbers_all cpu c.args.to c.args.movers.now core table c.requires.to pids told (length pids) (omega arith) (omega arith) (now, after) all;
      stays = record {
        agree = λ agree. agree_by now c.exchange.new.self after all.agree bare_is c.exchange.ensures.queues.held;
        kept =
            (λ j. let kept : Kept = record (kept_of (now, after)) { siblings = as_many_bare now c.exchange.new.self bare_is j } in kept)
            ∙ all.kept;
      };
    }

pub returns-clause-counted : goal.returns-clause-counted
returns-clause-counted g c =
    let many = as_many_live (c.args.core.now, c.args.table.now) (c.place.new.self, c.place.new.table) (moved g (goal.at.returns-clause-counted g c).After-place).kept in
    subst (λ n. c.exchange.new.comparisons ≤ c.args.comparisons.now + 3 * g.Q.SiblingQueue.most_compared n) many c.exchange.ensures.counted
