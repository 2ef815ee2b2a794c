use Rattle.std.proofs.Common.{◌*◌, ◌≡◌, ◌+◌, ◌<◌, ◌≤◌, ℕ, List, refl, sym, subst, ap, ◌∙◌, arith, length, take, ◌/◌}
use Rattle.std.proofs.Math.Nat.{add-mul, mul-le-mul_right}
use Rattle.std.proofs.lemmas.List.{length-take-le}
use Rattle.cs_types.specs.Room.{RoomState}
use Rattle.task_table.specs.Table.{Table}
use Rattle.core_lanes.specs.declared.queue.SiblingQueue.{Ghosts}
use Rattle.core_lanes.specs.declared.lanes.Core.{Core}
use Rattle.core_lanes.specs.Queued.{queued_among}
use Rattle.cs_types.specs.Hotplug.{lowest_other}
use Rattle.core_lanes.specs.Lanes.{Beside, room_of, Agree, MayTell}
use Rattle.cpu_hotplug.specs.Leaves.{MayMoveOff, MayMoveAllTo}
use Rattle.core_lanes.specs.Numbers.{Numbers, numbers_of}
use Rattle.core_lanes.proofs.Stays.{same_stays}
use Rattle.core_lanes.proofs.Counted.{few_queued}
use Rattle.cpu_hotplug.proofs.Leaving.{enough, nobody_moves}
use Rattle.cpu_hotplug.proofs.moves.move_off.Goals as goal

-- ---- where none is queued there

pub returns-then-count-eq0-clause-touches : goal.returns-then-count-eq0-clause-touches
returns-then-count-eq0-clause-touches g c =
    let core = c.args.core.now in
    let table = c.args.table.now in
    let none : length (queued_among table.tasks c.args.cpu) ≡ 0 = omega (arith, c.if-count-eq0.true, c.count-count.ensures) in
    record {
      room = λ beside.
          let room = room_of beside (core, table) in
          let stay = sym (nobody_moves room c.args.cpu table.tasks none) in
          let next : room.next_stamp ≡ room.next_stamp + length (queued_among table.tasks c.args.cpu) = omega (arith, none) in
          λ i. let after : RoomState = record room { tasks = stay i; next_stamp = next i } in after;
      numbers = ap (λ n. let after : Numbers = record (numbers_of (core, table)) { task = n } in after) (omega (arith, none));
      stays = same_stays;
    }

-- ---- the list of those that move

-- so many are queued, and a list of the most tasks has so many places
module _ {Q : Type 0} {g : Ghosts Q} (both : Core Q g × Table) (cpu count : ℕ) (agree : Agree both) (is : count ≡ length (queued_among both.1.tasks cpu)) where
  within : count ≤ 256
  within = enough both.1.tasks cpu both.1.limit count is agree.table.few agree.few_tasks

  may_tell : (places : List ℕ) → length places ≡ 256 → cpu < length both.0.lanes.items → MayTell cpu both (take count places)
  may_tell places all at =
      record {
        agree = record { cpu = at; agree = agree };
        each = length-take-le count places (subst (λ n. count ≤ n) (sym all) within) ∙ is;
      }

  may_all : (places : List ℕ) → length places ≡ 256 → (to : ℕ) → MayMoveOff cpu both → ((beside : Beside) (tasks : Table) → to ≡ lowest_other (room_of beside (both.0, tasks)) cpu) →
      to < length both.0.lanes.items → MayMoveAllTo cpu to (take count places) both
  may_all places all to off lowest inside =
      record { may = off.may; another = off.another; lowest = lowest; within = inside; tell = may_tell places all off.may.cpu }

pub slice_bounds-places-end : goal.slice_bounds-places-end
slice_bounds-places-end g c = within (c.args.core.now, c.args.table.now) c.args.cpu c.count-count.result c.requires.may.agree c.count-count.ensures

pub slice_bounds-movers-end : goal.slice_bounds-movers-end
slice_bounds-movers-end g c =
    sym (length-take-le c.count-count.result _ (within (c.args.core.now, c.args.table.now) c.args.cpu c.count-count.result c.requires.may.agree c.count-count.ensures))

-- ---- where they move with their queue

pub move_past-requires : goal.move_past-requires
move_past-requires g c = record {
  all = may_all (c.args.core.now, c.args.table.now) c.args.cpu c.count-count.result c.requires.may.agree c.count-count.ensures _ refl c.lowest_other-to.result c.requires
      c.lowest_other-to.ensures.lowest c.lowest_other-to.ensures.within;
  ahead = c.are_ahead.ensures.ahead c.if-are_ahead.true;
  staying = c.count-stay.ensures;
}

-- ---- or one by one

pub move_each-requires : goal.move_each-requires
move_each-requires g c =
    may_all (c.args.core.now, c.args.table.now) c.args.cpu c.count-count.result c.requires.may.agree c.count-count.ensures _ refl c.lowest_other-to.result c.requires
    c.lowest_other-to.ensures.lowest c.lowest_other-to.ensures.within

-- ---- the comparisons

-- far more come than stay
pub returns-then-are_ahead-clause-counted : goal.returns-then-are_ahead-clause-counted
returns-then-are_ahead-clause-counted g c =
    let tasks = c.args.table.now.tasks in
    let most = g.Q.SiblingQueue.most_compared (length tasks) in
    let calls = 5 * c.count-stay.result + 3 in
    let few : c.count-stay.result ≤ c.count-count.result / 8 = c.if-stay-count.true in
    let within : calls ≤ length tasks = omega (arith, c.if-count-ge-MANY.true, few, c.count-count.ensures, few_queued tasks c.args.cpu) in
    omega (arith, c.are_ahead.ensures.counted, c.move_past.ensures.counted, mul-le-mul_right most within, add-mul (length tasks) 1 most)
