-- Selection: what a sibling runs next, in three cases (`pick_next_task` under CONFIG_SCHED_CORE,
-- kernel/sched/core.c).
use Rattle.std.specs.Prelude.{ℕ, Bool, true, false, ◌==◌, ◌&&◌, ◌||◌, not, if◌then◌else◌, List, map, filter, count_by, Option, Some, None, is_none, is_some, unwrap_or}
use Rattle.std.specs.List.{list_any, enumerate_from}
use Rattle.std.specs.Option.{option_map, option_map_or, option_and_then, option_to_list}
use Rattle.cs_types.specs.declared.task.Task.{Task}
use Rattle.cs_types.specs.declared.reply.Kind.TheVariants.{Selected, Adopted, Plain}
use Rattle.cs_types.specs.declared.reply.Pick.{Pick}
use Rattle.cs_types.specs.Room.{RoomState, SiblingState, Waiting, queued_on, sibling_of, online, online_from, with_sibling}
use Rattle.cs_types.specs.Order.{is_fair, foremost, outranks, first_of}
use Rattle.cs_types.specs.Accounting.{charge, without_interval}

-- ---- what a sibling has for a core cookie

-- the first task queued on a sibling, none for idle (`pick_task`)
abbrev pub first_on : RoomState → ℕ → Option Task
first_on room cpu = first_of (queued_on room cpu)

-- a task's cookie, and 0 for idle
abbrev pub cookie_of : Option Task → ℕ
cookie_of None = 0
cookie_of (Some task) = task.cookie

-- a task's pid, none for idle
abbrev pub pid_of : Option Task → Option ℕ
pid_of task = option_map (λ (task : Task). task.spec.pid) task

-- whether this is a fair task
abbrev pub is_fair_task : Option Task → Bool
is_fair_task task = option_map_or is_fair task false

-- the tasks queued on a sibling that have this cookie (`core_tree`)
abbrev pub queued_with : RoomState → ℕ → ℕ → List Task
queued_with room cookie cpu = filter (λ task. task.cookie == cookie) (queued_on room cpu)

-- a sibling's snapshot, against which its fair tasks are compared with those of other siblings (`min_vruntime_fi`)
abbrev pub snapshot_of : RoomState → ℕ → ℕ
snapshot_of room cpu = (sibling_of room cpu).snapshot

-- The lead of a selection that a sibling makes: the earliest first of the online siblings, in the order that begins at
-- it, than which no other first is higher (`max` in `pick_next_task`; that it is the earliest of equal deadlines is
-- this project's rule).
unfoldable pub lead_from : RoomState → ℕ → Option Task
lead_from room cpu =
    option_and_then (λ first. first) (foremost (outranks (snapshot_of room)) (map (first_on room) (online_from room cpu)))

-- What a sibling gets for a core cookie: its first, if that is idle or has the cookie; else the first task queued there
-- with the cookie (`sched_core_find`; by the present virtual times, which is this project's rule), which is not
-- searched for if the cookie is 0; else idle.
unfoldable pub choice : RoomState → ℕ → ℕ → Option Task
choice room core cpu =
    if is_none (first_on room cpu) || (cookie_of (first_on room cpu) == core)
    then first_on room cpu
    else (if core == 0 then None else first_of (queued_with room core cpu))

-- The tasks of a sibling that may run for a core cookie: those queued there that have it. For cookie 0 the kernel
-- searches nothing, so only the first may, if its cookie is 0.
abbrev pub eligible : RoomState → ℕ → ℕ → List Task
eligible room core cpu =
    if core == 0
    then filter (λ task. task.cookie == 0) (option_to_list (first_on room cpu))
    else queued_with room core cpu

-- A sibling is forced idle if it gets idle and has a queued task.
abbrev pub is_forced : RoomState → ℕ → ℕ → Bool
is_forced room core cpu = is_none (choice room core cpu) && is_some (first_on room cpu)

-- how many online siblings are forced idle, and how many get a task (`core_forceidle_count` and
-- `core_forceidle_occupation`; that the latter is kept even if none is forced idle is this project's rule)
abbrev pub forced_count : RoomState → ℕ → ℕ
forced_count room core = count_by (is_forced room core) (online room)

abbrev pub occupation_of : RoomState → ℕ → ℕ
occupation_of room core = count_by (λ cpu. is_some (choice room core cpu)) (online room)

-- ---- a schedule

-- the pick of a schedule, and the room after it
pub record Scheduled : Type 0 where
  pub pick : Pick
  pub room : RoomState

-- whether what a sibling runs or is to run is this: a task's pid, or none for idle
abbrev pub is_run : Option ℕ → Option ℕ → Bool
is_run None None = true
is_run (Some a) (Some b) = a == b
is_run None (Some b) = false
is_run (Some a) None = false

-- the sibling runs this from now on, nothing waits for it, and its reschedule is no longer pending
-- (`clear_tsk_need_resched`)
abbrev pub running : SiblingState → Option ℕ → SiblingState
running sibling run = record sibling { run = run; pending = false; waiting = None; ran = 0 }

-- ---- adopted

-- The sibling runs what waits for it, which an earlier selection of another sibling chose.
abbrev pub adopt : RoomState → ℕ → Option ℕ → Scheduled
adopt room cpu run =
    record {
      pick = record { kind = Adopted; run = unwrap_or run 0; core = room.core_cookie; forced = room.forced };
      room = with_sibling room cpu (running (sibling_of room cpu) run);
    }

-- ---- plain

-- whether no cookie takes part: the core has none, none was forced idle, and the sibling's first has none
abbrev pub is_plain : RoomState → ℕ → Bool
is_plain room cpu = (room.core_cookie == 0) && (room.forced == 0) && (cookie_of (first_on room cpu) == 0)

-- The sibling runs its first, and its snapshot becomes its least if that is a fair task (`se_fi_update`,
-- kernel/sched/fair.c).
abbrev pub pick_plain : RoomState → ℕ → Scheduled
pick_plain room cpu =
    let first = first_on room cpu in
    let sibling = sibling_of room cpu in
    record {
      pick = record { kind = Plain; run = unwrap_or (pid_of first) 0; core = 0; forced = 0 };
      room = with_sibling (without_interval room) cpu
          (record (running sibling (pid_of first)) {
            snapshot = if is_fair_task first then sibling.least else sibling.snapshot;
          });
    }

-- ---- selected

-- A selection renews no snapshot if some sibling was forced idle before it and some is after it (`fi_before` in
-- `pick_next_task`).
abbrev pub renews_snapshots : RoomState → ℕ → Bool
renews_snapshots room core = (room.forced == 0) || (forced_count room core == 0)

-- An online sibling, after the selector has selected for a core cookie. The selector is this sibling or another.
abbrev pub sibling_after_selection : RoomState → ℕ → ℕ → ℕ → SiblingState → SiblingState
sibling_after_selection room core selector cpu sibling =
    let chosen = choice room core cpu in
    let selects = cpu == selector in
    let runs_it = is_run sibling.run (pid_of chosen) in
    record sibling {
      -- The selector runs its choice.
      run = if selects then pid_of chosen else sibling.run;
      -- For any other its choice waits, unless it runs that already (`rq->core_pick`).
      waiting = if selects || runs_it then None else Some (pid_of chosen);
      -- The selector is not pending. One that runs its choice already stays pending if it was, and every other becomes
      -- pending (`resched_curr`).
      pending = not selects && (not runs_it || sibling.pending);
      -- The time since its schedule begins anew for the selector alone.
      ran = if selects then 0 else sibling.ran;
      -- If idle is the choice, it remembers the occupation (`core_occupation` of `rq->idle`).
      occupation = if is_none chosen then occupation_of room core else sibling.occupation;
      -- If a fair task is the choice, the snapshot becomes the least (`task_vruntime_update` and `se_fi_update`,
      -- kernel/sched/fair.c).
      snapshot = if is_fair_task chosen && renews_snapshots room core then sibling.least else sibling.snapshot;
    }

-- whether some online sibling's choice is the task with this pid
abbrev pub is_chosen : RoomState → ℕ → ℕ → Bool
is_chosen room core pid = list_any (λ cpu. is_run (pid_of (choice room core cpu)) (Some pid)) (online room)

-- A task that is chosen remembers the occupation (`core_occupation`).
abbrev pub task_after_selection : RoomState → ℕ → Task → Task
task_after_selection room core task =
    record task { occupation = if is_chosen room core task.spec.pid then occupation_of room core else task.occupation }

-- the room once the online siblings have their choices for this core cookie. An interval of forced idle opens if some
-- sibling is forced idle (that it opens under core cookie 0 too is the rule since 6.0, and not yet 5.19's).
unfoldable pub select_for : RoomState → ℕ → ℕ → RoomState
select_for room cpu core =
    record room {
      tasks = map (task_after_selection room core) room.tasks;
      siblings = map (λ numbered.
          if numbered.1.online
          then sibling_after_selection room core cpu numbered.0 numbered.1
          else numbered.1) (enumerate_from 0 room.siblings);
      core_cookie = core;
      forced = forced_count room core;
      occupation = occupation_of room core;
      started = if forced_count room core == 0 then None else Some room.clock;
    }

-- The core's cookie becomes the lead's, and each online sibling gets its choice for it.
abbrev pub select : RoomState → ℕ → Scheduled
select room cpu =
    let core = cookie_of (lead_from room cpu) in
    record {
      pick = record {
        kind = Selected;
        run = unwrap_or (pid_of (choice room core cpu)) 0;
        core = core;
        forced = forced_count room core;
      };
      room = select_for room cpu core;
    }

-- ---- every case

-- a pick that adopts nothing
abbrev pub pick_anew : RoomState → ℕ → Scheduled
pick_anew room cpu = if is_plain room cpu then pick_plain room cpu else select room cpu

-- A waiting pick is adopted if it may be: nothing was touched since the last core-wide selection, and this event has
-- dequeued no task. Else the open interval is charged, and the sibling picks anew (`sched_core_account_forceidle` in
-- `pick_next_task`).
abbrev pub adopt_or_pick_anew : RoomState → Bool → ℕ → Waiting → Scheduled
adopt_or_pick_anew room may_adopt cpu None = pick_anew (charge room) cpu
adopt_or_pick_anew room may_adopt cpu (Some run) =
    if may_adopt then adopt room cpu run else pick_anew (charge room) cpu

-- A sibling is to try to steal if some sibling is forced idle, it runs idle itself, the core has a cookie, and a task
-- is queued on it (the end of `pick_next_task`, and `queue_core_balance`).
abbrev pub is_to_steal : RoomState → ℕ → Bool
is_to_steal room cpu =
    not (room.forced == 0) && is_none (sibling_of room cpu).run && not (room.core_cookie == 0) && is_some (first_on room cpu)

-- After each schedule the sibling's tries begin at the next sibling, or it makes none.
abbrev pub balance : ℕ → Scheduled → Scheduled
balance cpu made =
    record made {
      room = with_sibling made.room cpu
          (record (sibling_of made.room cpu) { place = if is_to_steal made.room cpu then 1 else 0 });
    }

-- a schedule
abbrev pub schedule : RoomState → Bool → ℕ → Scheduled
schedule room may_adopt cpu = balance cpu (adopt_or_pick_anew room may_adopt cpu (sibling_of room cpu).waiting)
