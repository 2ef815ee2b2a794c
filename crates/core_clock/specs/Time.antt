-- Time: what an advance asks of a core and its table, and how it ages the siblings.
use Rattle.std.specs.Prelude.{ℕ, List, ◌+◌, ◌*◌, ◌^◌, ◌<◌, ◌≤◌, All, map}
use Rattle.std.specs.Option.{option_map_or}
use Rattle.cs_types.specs.declared.task.Task.{Task}
use Rattle.cs_types.specs.Room.{RoomState, SiblingState, running_on, with_task}
use Rattle.cs_types.specs.Time.{grown_by}
use Rattle.task_table.specs.Table.{Table}
use Rattle.core_lanes.specs.declared.queue.SiblingQueue.{Ghosts}
use Rattle.core_lanes.specs.declared.lanes.Core.{Core}
use Rattle.core_lanes.specs.Lanes.{lane_state, Agree, HasLowTimes, RunTheirOwn}

-- ---- what is asked

-- The clock may go on by delta ns, at most a second: no task is run by two siblings; and none has used more time than
-- the clock shows, nor has a sibling run for longer since its last schedule, so that no time overflows.
pub record MayAdvance {Q : Type 0} {g : Ghosts Q} (now delta : ℕ) (both : Core Q g × Table) : Type 0 where
  pub agree : Agree both
  pub own : RunTheirOwn both
  pub low : HasLowTimes both
  pub clock : now + 1000000000 < 2 ^ 56
  pub used : All (λ task. task.used ≤ now) both.1.tasks
  pub ran : All (λ sibling. sibling.ran ≤ now) (map lane_state both.0.lanes.items)
  pub short : delta ≤ 1000000000

-- the running tasks may grow by delta ns, at most a second: no task is run by two siblings, and the times are far from
-- overflow
pub record MayGrow {Q : Type 0} {g : Ghosts Q} (delta : ℕ) (both : Core Q g × Table) : Type 0 where
  pub agree : Agree both
  pub own : RunTheirOwn both
  pub used : All (λ task. task.used < 2 ^ 56) both.1.tasks
  pub vtimes : All (λ task. task.vtime < 2 ^ 100) both.1.tasks
  pub short : delta ≤ 1000000000

-- the times of tasks do not overflow if these are delta ns later
pub record CanGrow (delta : ℕ) (tasks : List Task) : Type 0 where
  pub used : All (λ task. task.used + delta < 2 ^ 64) tasks
  pub vtimes : All (λ task. task.vtime + 69 * delta < 2 ^ 128) tasks

-- ---- what is made of them

-- the task that a sibling runs, if one, is delta ns later
abbrev pub with_grown : ℕ → ℕ → RoomState → RoomState
with_grown cpu delta room = option_map_or (λ task. with_task room (grown_by delta task.spec.policy task)) (running_on room cpu) room

-- each sibling has run delta ns longer
abbrev pub with_ages : ℕ → RoomState → RoomState
with_ages delta room =
    record room { siblings = map (λ (sibling : SiblingState). record sibling { ran = sibling.ran + delta }) room.siblings }
