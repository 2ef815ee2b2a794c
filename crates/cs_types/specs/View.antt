-- Views: what a machine shows of the core, a sibling and a task, from the fold of its history.
use Rattle.std.specs.Prelude.{◌≡◌, ◌≢◌, ◌⊎◌, ◌↔◌, ◌-◌, Bool, true, false, IsTrue, IsSomeAnd, ℕ, nat_lt, find, length, Option, Some, None, unwrap_or, slice_get, if◌then◌else◌}
use Rattle.std.specs.Option.{option_map, option_map_or}
use Rattle.cs_types.specs.declared.task.Task.{Task}
use Rattle.cs_types.specs.declared.view.CoreView.{CoreView}
use Rattle.cs_types.specs.declared.view.CpuView.{CpuView}
use Rattle.cs_types.specs.declared.view.TaskView.{TaskView}
use Rattle.cs_types.specs.declared.view.EndView.{EndView}
use Rattle.cs_types.specs.declared.view.GuardView.{GuardView}
use Rattle.cs_types.specs.declared.event.Event.TheVariants.{Turn, Resched}
use Rattle.cs_types.specs.declared.reply.Pick.{Pick}
use Rattle.cs_types.specs.declared.reply.Reply.{Reply}
use Rattle.cs_types.specs.Guards.{GuardList}
use Rattle.cs_types.specs.Room.{RoomState, Waiting, sibling_of}
use Rattle.cs_types.specs.Accounting.{total_of}
use Rattle.cs_types.specs.Touches.{is_adopted, pick_of, own_number}
use Rattle.cs_types.specs.History.{Moment, step_at}

-- what a machine shows of the core (this project's)
abbrev pub core_view : Moment → CoreView
core_view moment =
    record {
      cookie = moment.room.core_cookie;
      forced = moment.room.forced;
      occupation = moment.room.occupation;
      intervals = length moment.room.intervals;
    }

-- what it shows of the sibling of this number, none where there is no such sibling
abbrev pub cpu_view : Moment → ℕ → Option CpuView
cpu_view moment cpu =
    if nat_lt cpu (length moment.room.siblings)
    then Some (record {
      online = (sibling_of moment.room cpu).online;
      run = unwrap_or (sibling_of moment.room cpu).run 0;
      number = own_number cpu moment.ledger;
      pending = (sibling_of moment.room cpu).pending;
    })
    else None

-- the living task with the least pid above this one, none where there is none; the tasks stand by rising pid
abbrev pub task_after : RoomState → ℕ → Option Task
task_after room pid = find (λ task. nat_lt pid task.spec.pid) room.tasks

-- what a task was charged for forced idle
abbrev pub forced_of : RoomState → ℕ → ℕ
forced_of room pid = total_of pid room.intervals

-- what a machine shows of a living task (this project's)
abbrev pub task_view : RoomState → Task → TaskView
task_view room task =
    record {
      pid = task.spec.pid;
      tgid = task.spec.tgid;
      cpu = task.home;
      queued = task.queued;
      cookie = task.cookie;
      forced = forced_of room task.spec.pid;
      vtime = task.vtime;
    }

-- a task that ended, by its pid
abbrev pub end_view : RoomState → ℕ → EndView
end_view room pid = record { pid = pid; forced = forced_of room pid }

-- what a machine shows of the living task with the least pid above this one
abbrev pub task_view_after : Moment → ℕ → Option TaskView
task_view_after moment pid = option_map (task_view moment.room) (task_after moment.room pid)

-- what a machine shows of the guard of this number, none where there is no such guard
abbrev pub guard_view : GuardList → ℕ → Option GuardView
guard_view guards index =
    option_map (λ guard. record { place = guard.place; asked = guard.asked }) (slice_get guards.all index)

-- ---- the trust rule, of what is shown

-- A sibling that is online and not pending runs idle, or the task with its pid has the core cookie; by the core, what
-- follows each pid among the tasks, and the sibling, as they are shown.
abbrev pub IsTrusted : CoreView → (ℕ → Option TaskView) → CpuView → Type 0
IsTrusted core task_after cpu =
    cpu.online ≡ true → cpu.pending ≡ false →
    (cpu.run ≡ 0) ⊎ IsSomeAnd (task_after (cpu.run - 1)) (λ task. (task.pid ≡ cpu.run) × (task.cookie ≡ core.cookie))

-- ---- adoptions, by what is shown

-- whether a reply tells that a waiting pick was adopted
abbrev pub adopts : Reply → Bool
adopts reply = option_map_or (λ (pick : Pick). is_adopted pick.kind) (pick_of reply) false

-- A sibling is to adopt, by the task number, the pick number, and its own number as it is shown: the pick number is the
-- task number, so nothing was touched since the last core-wide selection; its own number is another, so it took no pick
-- of that one yet; and a pick waits for it (`core_task_seq`, `core_pick_seq`, `core_sched_seq` and `core_pick` in
-- `pick_next_task`, kernel/sched/core.c).
abbrev pub IsToAdopt : ℕ → ℕ → CpuView → Waiting → Type 0
IsToAdopt task pick cpu waiting = (pick ≡ task) × (cpu.number ≢ pick) × (waiting ≢ None)

-- A turn and a reschedule of the sibling with this number adopt exactly where it is to.
pub record AdoptsByNumbers (moment : Moment) (cpu : ℕ) (numbers : ℕ × ℕ) (shown : CpuView) : Type 0 where
  pub turn : IsTrue (adopts (step_at moment (Turn cpu)).reply) ↔ IsToAdopt numbers.0 numbers.1 shown (sibling_of moment.room cpu).waiting
  pub resched : IsTrue (adopts (step_at moment (Resched cpu)).reply) ↔ IsToAdopt numbers.0 numbers.1 shown (sibling_of moment.room cpu).waiting
