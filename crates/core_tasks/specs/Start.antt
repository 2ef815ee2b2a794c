-- Start: a table, a core with it, and a state before the first step.
use Rattle.std.specs.Prelude.{◌≡◌, ℕ, List, [], length}
use Rattle.cs_types.specs.declared.task.TaskSpec.{TaskSpec}
use Rattle.cs_types.specs.declared.scenario.Scenario.{Scenario}
use Rattle.cs_types.specs.Room.{Opening, asleep_tasks, start}
use Rattle.cs_types.specs.History.{beginning}
use Rattle.task_table.specs.Table.{Table, total_in, IsSound as IsTable}
use Rattle.core_lanes.specs.declared.queue.SiblingQueue.{Ghosts}
use Rattle.core_lanes.specs.declared.lanes.Core.{Core}
use Rattle.core_lanes.specs.Lanes.{bare, bare_start, Agree}
use Rattle.core_tasks.specs.declared.state.State.{State}
use Rattle.core_tasks.specs.State.{room_with, state_numbers, IsSound}
use Rattle.core_tasks.specs.Steps.{numbers_at}

-- the table has these tasks asleep, can take this number in all, and has charged nothing
pub record AreAsleep (most : ℕ) (specs : List TaskSpec) (table : Table) : Type 0 where
  pub tasks : table.tasks ≡ asleep_tasks specs
  pub sound : IsTable table
  pub limit : table.limit ≡ most
  pub totals : (pid : ℕ) → total_in table pid ≡ 0

-- the core and the table are those of the scenario before the first step, and agree
pub record IsStartOf {Q : Type 0} {g : Ghosts Q} (scenario : Scenario) (both : Core Q g × Table) : Type 0 where
  pub core : bare both.0 ≡ bare_start scenario.siblings
  pub tasks : both.1 ≡ record { tasks = asleep_tasks scenario.tasks; totals = both.1.totals; limit = scenario.task_limit }
  pub totals : (pid : ℕ) → total_in both.1 pid ≡ 0
  pub agree : Agree both

-- the state is that of what a machine begins with, before the first step, and this number of tasks may end
pub record IsFirstState {Q G : Type 0} {g : Ghosts Q} (opening : Opening) (most : ℕ) (state : State Q G g) : Type 0 where
  pub room : room_with [] state ≡ start opening
  pub sound : IsSound state
  pub siblings : length state.core.lanes.items ≡ opening.scenario.siblings
  pub numbers : state_numbers state ≡ numbers_at opening (beginning opening)
  pub ends : state.ended.room ≡ most
