-- Drill: the scenario of a seed (this project's).
use Rattle.std.specs.Prelude.{ℕ, ◌+◌, ◌*◌, ◌-◌, ◌%◌, pos, ◌-ℤ◌, true, false, List, [], ◌∷◌}
use Rattle.cs_types.specs.declared.task.Policy.{Policy}
use Rattle.cs_types.specs.declared.task.Policy.TheVariants.{Deadline, Fifo, Rr, Fair}
use Rattle.cs_types.specs.declared.task.Creds.{Creds}
use Rattle.cs_types.specs.declared.task.TaskSpec.{TaskSpec}
use Rattle.cs_types.specs.declared.event.Actor.{Actor}
use Rattle.cs_types.specs.declared.event.Actor.TheVariants.{Sibling, Caller}
use Rattle.cs_types.specs.declared.event.Event.{Event}
use Rattle.cs_types.specs.declared.event.Event.TheVariants.{Turn, Resched, Block, Exit, Tick, Wake, Advance, Fork, Prctl, SetSched, Offline, Online}
use Rattle.cs_types.specs.declared.event.Step.{Step}
use Rattle.cs_types.specs.declared.scenario.Scenario.{Scenario}
use Rattle.room_drill.specs.Draws.{Draws, draw, and_then, made, made_of_two, in_turn, row, Table, by_row}

-- ---- policies

-- a policy, by a number below 4: real-time priorities from 1 to 99, relative deadlines from 1 to 50 ms, and nice values
-- from -20 to 19
abbrev pub policy_table : Table Policy
policy_table =
    record {
      rows =
          row 0 0 (made (λ n. Fifo (1 + n)) (draw 99))
          ∷ row 1 1 (made (λ n. Rr (1 + n)) (draw 99))
          ∷ row 2 2 (made (λ n. Deadline (1000000 * (1 + n))) (draw 50)) ∷ [];
      last = row 3 3 (made (λ n. Fair (pos n -ℤ pos 20)) (draw 40));
    }

-- the policy of a row that is drawn
unfoldable pub drawn_policy : Draws Policy
drawn_policy = and_then (draw 4) (by_row policy_table)

-- ---- tasks

-- one user's task with a memory image that may be dumped
abbrev pub drill_creds : Creds
drill_creds =
    record {
      ruid = 1000;
      euid = 1000;
      suid = 1000;
      rgid = 1000;
      egid = 1000;
      sgid = 1000;
      cap = false;
      mm = true;
      dumpable = true;
    }

-- A task leads its own thread group and process group. The tasks begin on the siblings in turn.
abbrev pub drill_task : ℕ → Policy → TaskSpec
drill_task pid policy =
    record { pid = pid; tgid = pid; pgid = pid; cpu = (pid - 1) % 4; policy = policy; creds = drill_creds }

-- the task of a pid, with a drawn policy
abbrev pub drawn_task : ℕ → Draws TaskSpec
drawn_task pid = made (drill_task pid) drawn_policy

-- ---- steps

-- one of the 4 siblings
abbrev pub drawn_cpu : Draws ℕ
drawn_cpu = draw 4

-- one of the 24 tasks
abbrev pub drawn_pid : Draws ℕ
drawn_pid = made (λ n. 1 + n) (draw 24)

-- a task calls `prctl` with a command over another task alone, and with no address
abbrev pub asks : ℕ → ℕ → ℕ → Event
asks cmd caller target = Prctl caller (record { cmd = cmd; pid = pos target; scope = 0; addr = 0 })

-- what is done, by a number below 20
abbrev pub event_table : Table Event
event_table =
    record {
      rows =
          row 0 5 (made Turn drawn_cpu)
          ∷ row 6 6 (made Resched drawn_cpu)
          ∷ row 7 7 (made Tick drawn_cpu)
          ∷ row 8 8 (made Block drawn_cpu)
          ∷ row 9 11 (made Wake drawn_pid)
          ∷ row 12 12 (made (λ n. Advance (1 + n)) (draw 5000000))
          ∷ row 13 13 (made_of_two (asks 1) drawn_pid drawn_pid)
          ∷ row 14 14 (made_of_two (asks 2) drawn_pid drawn_pid)
          ∷ row 15 15 (made_of_two SetSched drawn_pid drawn_policy)
          ∷ row 16 16 (made (λ pid. Fork pid false) drawn_pid)
          ∷ row 17 17 (made Exit drawn_cpu)
          ∷ row 18 18 (made Offline drawn_cpu) ∷ [];
      last = row 19 19 (made Online drawn_cpu);
    }

-- a sibling makes what it does to itself, and caller 0 makes the others
abbrev pub actor_of : Event → Actor
actor_of (Turn cpu) = Sibling cpu
actor_of (Resched cpu) = Sibling cpu
actor_of (Tick cpu) = Sibling cpu
actor_of (Block cpu) = Sibling cpu
actor_of (Exit cpu) = Sibling cpu
actor_of event = Caller 0

-- the event of a row that is drawn
unfoldable pub drawn_event : Draws Event
drawn_event = and_then (draw 20) (by_row event_table)

-- a drawn event, and who makes it
abbrev pub drawn_step : Draws Step
drawn_step = made (λ event. record { actor = actor_of event; event = event }) drawn_event

-- ---- the scenario

-- how many steps there are
abbrev pub drill_steps : ℕ
drill_steps = 20000

-- the scenario of these tasks and steps: of version 1, with 4 siblings, and no guard is taught
abbrev pub drill_of : List TaskSpec → List Step → Scenario
drill_of tasks steps =
    record {
      version = 1;
      siblings = 4;
      task_limit = 64;
      cookie_limit = 16;
      user_top = 1048576;
      tasks = tasks;
      teaches = [];
      steps = steps;
    }

-- The scenario of a seed, which is the generator's first word: tasks 1 to 24 are drawn, and then the steps.
unfoldable pub drill_scenario : ℕ → Scenario
drill_scenario seed =
    (made_of_two drill_of (in_turn 1 24 drawn_task) (in_turn 1 drill_steps (λ number. drawn_step)) seed).0
