-- Numbers: the three selection numbers of a core, and its books with those of its table.
use Rattle.std.specs.Prelude.{ℕ, ◌+◌, ◌==◌, ◌&&◌, ◌||◌, nat_lt, Bool, if◌then◌else◌, List, length, slice_set}
use Rattle.cs_types.specs.declared.reply.Pick.{Pick}
use Rattle.cs_types.specs.Room.{RoomState}
use Rattle.cs_types.specs.Touches.{is_selected, is_adopted, pick_touches}
use Rattle.cs_types.specs.Accounting.{total_of}
use Rattle.task_table.specs.Table.{Table, total_among, total_in}
use Rattle.core_lanes.specs.declared.queue.SiblingQueue.{Ghosts}
use Rattle.core_lanes.specs.declared.lanes.Core.{Core}
use Rattle.core_lanes.specs.Lanes.{Beside, BareCore, bare}

-- the task number, the pick number, each sibling's own number, how many intervals were recorded, and what each task was
-- charged, by its pid
pub record Numbers : Type 0 where
  pub task : ℕ
  pub pick : ℕ
  pub own : List ℕ
  pub intervals : ℕ
  pub totals : ℕ → ℕ

abbrev pub numbers_by : BareCore → Table → Numbers
numbers_by core table =
    record {
      task = core.task_number;
      pick = core.pick_number;
      own = core.own;
      intervals = core.account.intervals;
      totals = λ pid. total_in table pid;
    }

abbrev pub numbers_of : {Q : Type 0} {g : Ghosts Q} → Core Q g × Table → Numbers
numbers_of both = numbers_by (bare both.0) both.1

-- the numbers with what the tasks that ended were charged, each beside its pid
abbrev pub with_ended : List (ℕ × ℕ) → Numbers → Numbers
with_ended ended numbers = record numbers { totals = λ pid. numbers.totals pid + total_among ended pid }

abbrev pub numbers_in : {Q : Type 0} {g : Ghosts Q} → Beside → Core Q g × Table → Numbers
numbers_in beside both = with_ended beside.ended (numbers_of both)

-- whether there was a core-wide selection, and nothing was touched since the last one
abbrev pub is_fresh_by : Numbers → Bool
is_fresh_by numbers = nat_lt 0 numbers.pick && (numbers.pick == numbers.task)

-- the numbers whose books are those of the room's recorded intervals
abbrev pub booked : RoomState → Numbers → Numbers
booked room numbers =
    record numbers { intervals = length room.intervals; totals = λ pid. total_of pid room.intervals }

-- the numbers once the queues were touched this number of times
abbrev pub touched : ℕ → Numbers → Numbers
touched count numbers = record numbers { task = numbers.task + count }

-- the numbers once a sibling took a pick of this kind
abbrev pub took : ℕ → Pick → Numbers → Numbers
took cpu pick numbers =
    let task = numbers.task + pick_touches pick in
    let pick_number = if is_selected pick.kind then task else numbers.pick in
    record numbers {
      task = task;
      pick = pick_number;
      own = if is_selected pick.kind || is_adopted pick.kind then slice_set numbers.own cpu pick_number else numbers.own;
    }
