-- Times: how far the clock and the times come at each step, and so in a history.
use Rattle.std.proofs.Common.{◌≡◌, ℕ, zero, suc, ◌+◌, ◌*◌, ◌<◌, ◌≤◌, length, max, Bool, true, false, cond, not, ltb, List, [], ◌∷◌, map, get_or, set, refl, sym, ap, ◌∙◌, subst, inl, inr, Option, Some, None, arith, ◌^◌}
use Rattle.std.specs.Prelude.{◌⊎◌, ◌==◌, ◌&&◌, ◌||◌, is_some, filter, fold, All}
use Rattle.std.specs.List.{AllByRecursion, enumerate_from}
use Rattle.std.specs.Option.{IfSome, option_map_or, option_map}
use Rattle.std.proofs.Math.Nat.{max-le, le-max_left}
use Rattle.std.proofs.lemmas.Bool.{cond_both, cases_lt}
use Rattle.std.proofs.lemmas.Nat.{mul-le}
use Rattle.std.proofs.lemmas.List.Elements.{All-from_recursion, All-weaker, recursion_from_All}
use Rattle.cs_types.specs.declared.task.Task.{Task}
use Rattle.cs_types.specs.declared.task.TaskSpec.{TaskSpec}
use Rattle.cs_types.specs.declared.task.Policy.{Policy}
use Rattle.cs_types.specs.declared.task.Policy.TheVariants.{Stop, Deadline, Fifo, Rr, Fair}
use Rattle.cs_types.specs.declared.event.Event.{Event}
use Rattle.cs_types.specs.declared.event.Event.TheVariants.{Turn, Resched, Block, Exit, Tick, Wake, Advance, Fork, Prctl, SetSched, Offline, Online, Load, Unload}
use Rattle.cs_types.specs.declared.reply.Reply.{Reply}
use Rattle.cs_types.specs.declared.reply.Reply.TheVariants.{Zero}
use Rattle.cs_types.specs.declared.reply.Entry.{Entry}
use Rattle.cs_types.specs.Scenario.{IsEvent}
use Rattle.cs_types.specs.Room.{Opening, RoomState, SiblingState, idle, absent, asleep, inserted, has_pid, start, online, is_online, lowest_online, queued_on, sibling_of, running_on, task_of, with_sibling, with_task, flag}
use Rattle.cs_types.specs.Order.{foremost, is_fair, first_of}
use Rattle.cs_types.specs.Selection.{sibling_after_selection, task_after_selection, select_for, select, pick_plain, is_plain, pick_anew, adopt_or_pick_anew, schedule}
use Rattle.cs_types.specs.Time.{grown_by, is_running, grown, with_growth, fair_times, least_of, with_leasts, advanced, has_used_slice, begin_slice}
use Rattle.cs_laws.proofs.Timely.{IsTimelyTask, IsTimelySibling, IsTimely}
use Rattle.cs_types.specs.Prctl.{asked_by_call, Setting, setting_of, is_set, makes_cookie, with_used, with_answer, prctl_answer}
use Rattle.cs_types.specs.Step.{Stepped, step, wake, turn, try_steal, run_idle, block, without, has_threads, exit, child_of, child_at_home, with_child, may_not_fork, fork, tick, unless_offline, with_policy, set_policy, take_offline, bring_online}
use Rattle.cs_types.specs.Queueing.{refreshed_by, refreshed, enqueue, queue_at_home, dequeue, moved_to, moved, rehomed}
use Rattle.cs_types.specs.Guards.{load, unload}
use Rattle.cs_types.specs.Steal.{source_of, stolen, set_place}
use Rattle.cs_types.specs.Hotplug.{lowest_other, moved_off, away, leave, with_sibling_back}
use Rattle.cs_types.specs.Accounting.{charge, without_interval}
use Rattle.cs_types.specs.Touches.{is_fresh}
use Rattle.cs_types.specs.History.{History, Moment, beginning, next, after, moment_of, fold_of}
use Rattle.cs_types.specs.View.{task_after, task_view, task_view_after}
use Rattle.cs_types.proofs.Foremost.{each_weaker}
use Rattle.cs_types.proofs.Filtered.{each-filter, each_found}
use Rattle.cs_types.proofs.Inserted.{each-inserted}
use Rattle.cs_types.proofs.Lists.{map-set_alike, map-enumerate_alike, map-map_alike, get_or-map_default, all_map, all_enumerated, all_set, all_get, all_replicate}
use Rattle.cs_laws.proofs.Siblings.{kept-with_answer, parts_of, kept, kept-with_sibling, kept-select_for, least-alike}
use Rattle.cs_types.proofs.Growth.{growth-le}

-- ---- a room at a moment

-- the times of a room, whose leasts and snapshots are at most so much
pub record Timely (most : ℕ) (room : RoomState) : Type 0 where
  pub tasks : AllByRecursion (IsTimelyTask room) room.tasks
  pub siblings : AllByRecursion (IsTimelySibling most room.clock) room.siblings

-- a room whose times are so is timely, and the other way round
timely_parts : (entries : ℕ) (room : RoomState) → Timely (entries * (69 * room.clock)) room → IsTimely entries room
timely_parts entries room timely = record {
  tasks = All-from_recursion (IsTimelyTask room) room.tasks timely.tasks;
  siblings = All-from_recursion (IsTimelySibling (entries * (69 * room.clock)) room.clock) room.siblings timely.siblings;
}

parts_timely : (entries : ℕ) (room : RoomState) → IsTimely entries room → Timely (entries * (69 * room.clock)) room
parts_timely entries room timely = record {
  tasks = recursion_from_All (IsTimelyTask room) room.tasks timely.tasks;
  siblings = recursion_from_All (IsTimelySibling (entries * (69 * room.clock)) room.clock) room.siblings timely.siblings;
}

absent_is_timely : (most clock : ℕ) → IsTimelySibling most clock absent
absent_is_timely most clock = record { least = omega arith; snapshot = omega arith; ran = omega arith }

sibling_is_timely : (most : ℕ) (room : RoomState) (cpu : ℕ) → Timely most room → IsTimelySibling most room.clock (sibling_of room cpu)
sibling_is_timely most room cpu timely = all_get (IsTimelySibling most room.clock) room.siblings cpu absent (absent_is_timely most room.clock) timely.siblings

-- A task is as timely in a room of the same time whose leasts are no smaller.
still_timely : (old new : RoomState) (tasks : List Task) → new.clock ≡ old.clock → ((cpu : ℕ) → (sibling_of old cpu).least ≤ (sibling_of new cpu).least) →
    AllByRecursion (IsTimelyTask old) tasks → AllByRecursion (IsTimelyTask new) tasks
still_timely old new tasks clock more all =
    each_weaker (IsTimelyTask old) (IsTimelyTask new) tasks
    (λ task is. record { vtime = omega (arith, is.vtime, more task.home, clock); used = omega (arith, is.used, clock) }) all

-- so where the leasts are the same
kept_timely : (old new : RoomState) (tasks : List Task) → new.clock ≡ old.clock → kept new ≡ kept old →
    AllByRecursion (IsTimelyTask old) tasks → AllByRecursion (IsTimelyTask new) tasks
kept_timely old new tasks clock same all =
    still_timely old new tasks clock (λ cpu. omega (arith, least-alike new old same cpu)) all

-- ---- a schedule

-- a snapshot that becomes the least where the test says so
snapshot-le : (most clock : ℕ) (renews : Bool) (sibling : SiblingState) → IsTimelySibling most clock sibling → cond renews sibling.least sibling.snapshot ≤ most
snapshot-le most clock renews sibling is = cond_both renews sibling.least sibling.snapshot (λ n. n ≤ most) (λ _. is.least) (λ _. is.snapshot)

sibling_after_selection_is_timely : (most clock : ℕ) (room : RoomState) (core selector cpu : ℕ) (sibling : SiblingState) →
    IsTimelySibling most clock sibling → IsTimelySibling most clock (sibling_after_selection room core selector cpu sibling)
sibling_after_selection_is_timely most clock room core selector cpu sibling is = record {
  least = is.least;
  snapshot = snapshot-le most clock _ sibling is;
  ran = cond_both (cpu == selector) 0 sibling.ran (λ n. n ≤ clock) (λ _. omega arith) (λ _. is.ran);
}

timely-select_for : (most : ℕ) (room : RoomState) (cpu core : ℕ) → Timely most room → Timely most (select_for room cpu core)
unfolding select_for
timely-select_for most room cpu core timely = record {
  tasks = kept_timely room (select_for room cpu core) (map (task_after_selection room core) room.tasks) refl (kept-select_for room cpu core)
      (all_map (IsTimelyTask room) (task_after_selection room core) room.tasks
      (each_weaker (IsTimelyTask room) (λ task. IsTimelyTask room (task_after_selection room core task)) room.tasks
      (λ task is. record { vtime = is.vtime; used = is.used }) timely.tasks));
  siblings = all_enumerated (IsTimelySibling most room.clock) _
      (λ other sibling is. cond_both sibling.online _ sibling (IsTimelySibling most room.clock)
      (λ _. sibling_after_selection_is_timely most room.clock room core cpu other sibling is) (λ _. is)) 0 room.siblings timely.siblings;
}

-- a sibling with the same least, whose times are so
timely-with_sibling : (most : ℕ) (room : RoomState) (cpu : ℕ) (sibling : SiblingState) → parts_of sibling ≡ parts_of (sibling_of room cpu) →
    IsTimelySibling most room.clock sibling → Timely most room → Timely most (with_sibling room cpu sibling)
timely-with_sibling most room cpu sibling same is timely = record {
  tasks = kept_timely room (with_sibling room cpu sibling) room.tasks refl (kept-with_sibling room cpu sibling same) timely.tasks;
  siblings = all_set (IsTimelySibling most room.clock) room.siblings cpu sibling is timely.siblings;
}

-- a sibling whose times are those of the one at its place
like : (most : ℕ) (room : RoomState) (cpu : ℕ) (sibling : SiblingState) → sibling.least ≡ (sibling_of room cpu).least → sibling.snapshot ≡ (sibling_of room cpu).snapshot →
    sibling.ran ≤ (sibling_of room cpu).ran → Timely most room → IsTimelySibling most room.clock sibling
like most room cpu sibling least snapshot ran timely =
    let is = sibling_is_timely most room cpu timely in
    record { least = omega (arith, is.least, least); snapshot = omega (arith, is.snapshot, snapshot); ran = omega (arith, is.ran, ran) }

-- the counts of the whole core make no difference
same_core : (most : ℕ) (old new : RoomState) → new.clock ≡ old.clock → new.tasks ≡ old.tasks → new.siblings ≡ old.siblings → Timely most old → Timely most new
same_core most old new clock tasks siblings timely =
    let one : AllByRecursion (IsTimelyTask new) old.tasks = kept_timely old new old.tasks clock (ap (λ (ss : List SiblingState). map parts_of ss) siblings) timely.tasks in
    let two : AllByRecursion (IsTimelySibling most new.clock) old.siblings = subst (λ n. AllByRecursion (IsTimelySibling most n) old.siblings) (sym clock) timely.siblings in
    record {
      tasks = subst (AllByRecursion (IsTimelyTask new)) (sym tasks) one;
      siblings = subst (AllByRecursion (IsTimelySibling most new.clock)) (sym siblings) two;
    }

timely-pick_plain : (most : ℕ) (room : RoomState) (cpu : ℕ) → Timely most room → Timely most (pick_plain room cpu).room
timely-pick_plain most room cpu timely =
    let is = sibling_is_timely most room cpu timely in
    timely-with_sibling most (without_interval room) cpu _ refl
    (record { least = is.least; snapshot = snapshot-le most room.clock _ (sibling_of room cpu) is; ran = omega arith })
    (same_core most room (without_interval room) refl refl refl timely)

timely-pick_anew : (most : ℕ) (room : RoomState) (cpu : ℕ) → Timely most room → Timely most (pick_anew room cpu).room
timely-pick_anew most room cpu timely =
    cond_both (is_plain room cpu) (pick_plain room cpu) (select room cpu) (λ made. Timely most made.room) (λ _. timely-pick_plain most room cpu timely)
    (λ _. timely-select_for most room cpu _ timely)

timely-charge : (most : ℕ) (room : RoomState) → Timely most room → Timely most (charge room)
timely-charge most room timely = same_core most room (charge room) refl refl refl timely

timely-adopt_or_pick_anew : (most : ℕ) (room : RoomState) (fresh : Bool) (cpu : ℕ) (waiting : Option (Option ℕ)) → Timely most room → Timely most (adopt_or_pick_anew room fresh cpu waiting).room
timely-adopt_or_pick_anew most room fresh cpu None timely = timely-pick_anew most (charge room) cpu (timely-charge most room timely)
timely-adopt_or_pick_anew most room true cpu (Some run) timely =
    timely-with_sibling most room cpu _ refl (like most room cpu _ refl refl (omega arith) timely) timely
timely-adopt_or_pick_anew most room false cpu (Some run) timely = timely-pick_anew most (charge room) cpu (timely-charge most room timely)

timely-schedule : (most : ℕ) (room : RoomState) (fresh : Bool) (cpu : ℕ) → Timely most room → Timely most (schedule room fresh cpu).room
timely-schedule most room fresh cpu timely =
    let made = adopt_or_pick_anew room fresh cpu (sibling_of room cpu).waiting in
    let is = timely-adopt_or_pick_anew most room fresh cpu (sibling_of room cpu).waiting timely in
    timely-with_sibling most made.room cpu _ refl (like most made.room cpu _ refl refl (omega arith) is) is

-- ---- changes of one task or one sibling

-- a task in the place of another
all_placed_over : (P : Task → Type 0) (test : Task → Bool) (task : Task) (tasks : List Task) → P task → AllByRecursion P tasks → AllByRecursion P (map (λ other. cond (test other) task other) tasks)
all_placed_over P test task tasks is all =
    all_map P _ tasks (each_weaker P _ tasks (λ other holds. cond_both (test other) task other P (λ _. is) (λ _. holds)) all)

timely-with_task : (most : ℕ) (room : RoomState) (task : Task) → IsTimelyTask room task → Timely most room → Timely most (with_task room task)
timely-with_task most room task is timely = record {
  tasks = kept_timely room (with_task room task) (with_task room task).tasks refl refl
      (all_placed_over (IsTimelyTask room) (has_pid task.spec.pid) task room.tasks is timely.tasks);
  siblings = timely.siblings;
}

timely-flag : (most : ℕ) (room : RoomState) (cpu : ℕ) (test : Bool) → Timely most room → Timely most (flag room cpu test)
timely-flag most room cpu test timely =
    timely-with_sibling most room cpu _ refl (like most room cpu _ refl refl (omega arith) timely) timely

-- The running task goes to sleep, and its sibling runs idle.
timely-slept : (most : ℕ) (room : RoomState) (cpu : ℕ) (task : Task) → IsTimelyTask room task → Timely most room → Timely most (run_idle (dequeue room task) cpu)
timely-slept most room cpu task is timely =
    let asleep = timely-with_task most room (record task { queued = false }) (record { vtime = is.vtime; used = is.used }) timely in
    timely-with_sibling most (dequeue room task) cpu _ refl (like most (dequeue room task) cpu _ refl refl (omega arith) asleep) asleep

-- or it ends
timely-gone : (most : ℕ) (room : RoomState) (cpu : ℕ) (task : Task) → Timely most room → Timely most (run_idle (without room task) cpu)
timely-gone most room cpu task timely =
    let gone : Timely most (without room task) = record {
      tasks = kept_timely room (without room task) (without room task).tasks refl refl (each-filter (IsTimelyTask room) _ room.tasks timely.tasks);
      siblings = timely.siblings;
    } in
    timely-with_sibling most (without room task) cpu _ refl (like most (without room task) cpu _ refl refl (omega arith) gone) gone

timely-block : (most : ℕ) (room : RoomState) (cpu : ℕ) (task : Option Task) → IfSome task (IsTimelyTask room) → Timely most room → Timely most (block room cpu task).room
timely-block most room cpu None is timely = timely
timely-block most room cpu (Some task) is timely =
    timely-schedule most (run_idle (dequeue (charge room) task) cpu) false cpu (timely-slept most (charge room) cpu task (record { vtime = is.vtime; used = is.used }) (timely-charge most room timely))

timely-exit : (most : ℕ) (room : RoomState) (cpu : ℕ) (task : Option Task) → Timely most room → Timely most (exit room cpu task).room
timely-exit most room cpu None timely = timely
timely-exit most room cpu (Some task) timely =
    cond_both (has_threads room task) _ _ (λ (made : Stepped). Timely most made.room) (λ _. timely)
    (λ _. timely-schedule most (run_idle (without (charge room) task) cpu) false cpu (timely-gone most (charge room) cpu task (timely-charge most room timely)))

-- ---- a task is queued or moves

-- A task that moves keeps what it is ahead.
moved_is_timely : (room : RoomState) (cpu : ℕ) (task : Task) → IsTimelyTask room task → IsTimelyTask room (moved_to room cpu task)
moved_is_timely room cpu task is = record { vtime = omega (arith, is.vtime); used = is.used }

rehomed_is_timely : (room : RoomState) (task : Task) → IsTimelyTask room task → IsTimelyTask room (rehomed room task)
rehomed_is_timely room task is =
    cond_both (is_online room task.home) task (moved_to room (lowest_online room) task) (IsTimelyTask room) (λ _. is)
    (λ _. moved_is_timely room (lowest_online room) task is)

refreshed_is_timely : (room : RoomState) (policy : Policy) (task : Task) → IsTimelyTask room task → IsTimelyTask room (refreshed_by room policy task)
refreshed_is_timely room (Deadline relative) task is = record { vtime = is.vtime; used = is.used }
refreshed_is_timely room (Fair nice) task is = record { vtime = max-le is.vtime (omega arith); used = is.used }
refreshed_is_timely room Stop task is = is
refreshed_is_timely room (Fifo priority) task is = is
refreshed_is_timely room (Rr priority) task is = is

-- the stamps make no difference
timely-stamped : (most : ℕ) (room : RoomState) (stamp : ℕ) → Timely most room → Timely most (record room { next_stamp = stamp })
timely-stamped most room stamp timely = same_core most room (record room { next_stamp = stamp }) refl refl refl timely

timely-enqueue : (most : ℕ) (room : RoomState) (task : Task) → IsTimelyTask room task → Timely most room → Timely most (enqueue room task)
timely-enqueue most room task is timely =
    timely-stamped most (with_task room (record task { queued = true; stamp = room.next_stamp })) (room.next_stamp + 1)
    (timely-with_task most room (record task { queued = true; stamp = room.next_stamp }) (record { vtime = is.vtime; used = is.used }) timely)

timely-queue_at_home : (most : ℕ) (room : RoomState) (task : Task) → IsTimelyTask room task → Timely most room → Timely most (queue_at_home room task)
timely-queue_at_home most room task is timely =
    let fresh = refreshed room task in
    timely-flag most (enqueue room fresh) task.home _
    (timely-enqueue most room fresh (refreshed_is_timely room task.spec.policy task is) timely)

timely-wake : (most : ℕ) (room : RoomState) (task : Option Task) → IfSome task (IsTimelyTask room) → Timely most room → Timely most (wake room task).room
timely-wake most room None is timely = timely
timely-wake most room (Some task) is timely =
    cond_both task.queued _ _ (λ (made : Stepped). Timely most made.room) (λ _. timely)
    (λ _. timely-queue_at_home most room (rehomed room task) (rehomed_is_timely room task is) timely)

timely-fork : (most : ℕ) (room : RoomState) (thread : Bool) (caller : Option Task) → Timely most room → Timely most (fork room thread caller).room
timely-fork most room thread None timely = timely
timely-fork most room thread (Some caller) timely =
    let child = child_of caller thread room.next_pid in
    let is : IsTimelyTask (with_child room child) (child_at_home room child) = record { vtime = omega arith; used = omega arith } in
    let born : Timely most (with_child room child) = record {
      tasks = kept_timely room (with_child room child) (with_child room child).tasks refl refl
          (each-inserted (IsTimelyTask room) child room.tasks (record { vtime = omega arith; used = omega arith }) timely.tasks);
      siblings = timely.siblings;
    } in
    cond_both (may_not_fork room.task_limit room.tasks caller) _ _ (λ (made : Stepped). Timely most made.room) (λ _. timely)
    (λ _. timely-queue_at_home most (with_child room child) (child_at_home room child) is born)

timely-set_policy : (most : ℕ) (room : RoomState) (policy : Policy) (task : Option Task) → IfSome task (IsTimelyTask room) → Timely most room → Timely most (set_policy room policy task).room
timely-set_policy most room policy None is timely = timely
timely-set_policy most room policy (Some task) is timely =
    let changed = with_policy policy task in
    let changed_is : IsTimelyTask room changed = record { vtime = is.vtime; used = omega arith } in
    let left = dequeue room changed in
    let left_is = timely-with_task most room (record changed { queued = false }) (record { vtime = is.vtime; used = omega arith }) timely in
    cond_both task.queued _ _ (Timely most)
    (λ _. timely-flag most (queue_at_home left changed) task.home _
    (timely-queue_at_home most left changed (record { vtime = is.vtime; used = omega arith }) left_is))
    (λ _. timely-with_task most room changed changed_is timely)

timely-set_place : (most : ℕ) (room : RoomState) (cpu place : ℕ) → Timely most room → Timely most (set_place room cpu place)
timely-set_place most room cpu place timely =
    timely-with_sibling most room cpu _ refl (like most room cpu _ refl refl (omega arith) timely) timely

timely-try_steal : (most : ℕ) (room : RoomState) (cpu : ℕ) (task : Option Task) → IfSome task (IsTimelyTask room) → Timely most room → Timely most (try_steal room cpu task).room
timely-try_steal most room cpu None is timely = timely-set_place most room cpu _ timely
timely-try_steal most room cpu (Some task) is timely =
    let came = timely-enqueue most room (moved_to room cpu task) (moved_is_timely room cpu task is) timely in
    let inserted = timely-set_place most (moved room cpu task) cpu 0 came in
    timely-flag most (flag (set_place (moved room cpu task) cpu 0) cpu true) (source_of room cpu) _
    (timely-flag most (set_place (moved room cpu task) cpu 0) cpu true inserted)

-- what is stolen is a task of the room
stolen_is_timely : (most : ℕ) (room : RoomState) (cpu : ℕ) → Timely most room → IfSome (stolen room cpu) (IsTimelyTask room)
unfolding stolen
stolen_is_timely most room cpu timely =
    cond_both ((room.core_cookie == 0) || is_some (sibling_of room cpu).run) None _ (λ (task : Option Task). IfSome task (IsTimelyTask room)) (λ _. tt)
    (λ _. first_is_timely _ (each-filter (IsTimelyTask room) _ _ (each-filter (IsTimelyTask room) _ _ (each-filter (IsTimelyTask room) _ room.tasks timely.tasks)))) where
      first_is_timely : (tasks : List Task) → AllByRecursion (IsTimelyTask room) tasks → IfSome (first_of tasks) (IsTimelyTask room)
      first_is_timely tasks all = go (first_of tasks) refl where
        go : (task : Option Task) → first_of tasks ≡ task → IfSome task (IsTimelyTask room)
        go None found = tt
        go (Some task) found = each_found (IsTimelyTask room) _ tasks task found all

timely-turn : (most : ℕ) (room : RoomState) (fresh : Bool) (cpu : ℕ) → Timely most room → Timely most (turn room fresh cpu).room
timely-turn most room fresh cpu timely =
    cond_both (sibling_of room cpu).pending _ _ (λ (made : Stepped). Timely most made.room) (λ _. timely-schedule most room fresh cpu timely)
    (λ _. cond_both ((sibling_of room cpu).place == 0) _ _ (λ (made : Stepped). Timely most made.room) (λ _. timely)
    (λ _. timely-try_steal most room cpu (stolen room cpu) (stolen_is_timely most room cpu timely) timely))

-- ---- a sibling leaves or comes back

least-left : (room : RoomState) (cpu other : ℕ) → (sibling_of (leave room cpu) other).least ≡ (sibling_of room other).least
unfolding leave
least-left room cpu other =
    sym (get_or-map_default (λ (s : SiblingState). s.least) (leave room cpu).siblings other absent)
    ∙ (ap (λ ns. get_or ns other 0)
    (map-enumerate_alike (λ (s : SiblingState). s.least) _
    (λ place. cond_both (place.0 == cpu) (away place.1) _ (λ (s : SiblingState). s.least ≡ place.1.least) (λ _. refl) (λ _. refl)) 0 room.siblings)
    ∙ get_or-map_default (λ (s : SiblingState). s.least) room.siblings other absent)

left_is_timely : (most : ℕ) (room : RoomState) (cpu : ℕ) → Timely most room → Timely most (leave room cpu)
unfolding leave
left_is_timely most room cpu timely = record {
  tasks = still_timely room (leave room cpu) (map (moved_off room cpu) room.tasks) refl (λ other. omega (arith, least-left room cpu other))
      (all_map (IsTimelyTask room) (moved_off room cpu) room.tasks (each_weaker (IsTimelyTask room) _ room.tasks
      (λ task is. cond_both (task.queued && (task.home == cpu)) _ task (IsTimelyTask room)
      (λ _. let moved_is = moved_is_timely room (lowest_other room cpu) task is in record { vtime = moved_is.vtime; used = moved_is.used }) (λ _. is)) timely.tasks));
  siblings = all_enumerated (IsTimelySibling most room.clock) _
      (λ other sibling is. cond_both (other == cpu) (away sibling) _ (IsTimelySibling most room.clock)
      (λ _. record { least = is.least; snapshot = is.snapshot; ran = is.ran }) (λ _. record { least = is.least; snapshot = is.snapshot; ran = is.ran }))
      0 room.siblings timely.siblings;
}

least-back : (room : RoomState) (cpu other : ℕ) → (sibling_of (with_sibling_back room cpu) other).least ≡ (sibling_of room other).least
least-back room cpu other =
    sym (get_or-map_default (λ (s : SiblingState). s.least) (with_sibling_back room cpu).siblings other absent)
    ∙ (ap (λ ns. get_or ns other 0) (map-set_alike (λ (s : SiblingState). s.least) room.siblings cpu _ absent refl)
    ∙ get_or-map_default (λ (s : SiblingState). s.least) room.siblings other absent)

back_is_timely : (most : ℕ) (room : RoomState) (cpu : ℕ) → Timely most room → Timely most (with_sibling_back room cpu)
back_is_timely most room cpu timely = record {
  tasks = still_timely room (with_sibling_back room cpu) room.tasks refl (λ other. omega (arith, least-back room cpu other)) timely.tasks;
  siblings = all_set (IsTimelySibling most room.clock) room.siblings cpu _ (like most room cpu _ refl refl (omega arith) timely) timely.siblings;
}

timely-unless_offline : (most : ℕ) (room : RoomState) (cpu : ℕ) (stepped : Stepped) → Timely most room → Timely most stepped.room → Timely most (unless_offline room cpu stepped).room
timely-unless_offline most room cpu stepped was now =
    cond_both (is_online room cpu) _ _ (λ (made : Stepped). Timely most made.room) (λ _. now) (λ _. was)

timely-take_offline : (most : ℕ) (room : RoomState) (cpu : ℕ) → Timely most room → Timely most (take_offline room cpu).room
timely-take_offline most room cpu timely =
    cond_both (not (is_online room cpu)) _ _ (λ (made : Stepped). Timely most made.room) (λ _. timely)
    (λ _. cond_both (length (online room) == 1) _ _ (λ (made : Stepped). Timely most made.room) (λ _. timely) (λ _. left_is_timely most room cpu timely))

timely-bring_online : (most : ℕ) (room : RoomState) (cpu : ℕ) → Timely most room → Timely most (bring_online room cpu).room
timely-bring_online most room cpu timely =
    cond_both (is_online room cpu) _ _ (λ (made : Stepped). Timely most made.room) (λ _. timely) (λ _. back_is_timely most room cpu timely)

-- ---- a call

timely-with_answer : (most : ℕ) (room : RoomState) (set : Setting) (answer : Reply) → Timely most room → Timely most (with_answer room set answer)
timely-with_answer most room set Zero timely = record {
  tasks = kept_timely room (with_answer room set Zero) (with_answer room set Zero).tasks refl (kept-with_answer room set Zero)
      (all_map (IsTimelyTask room) _ room.tasks (each_weaker (IsTimelyTask room) _ room.tasks
      (λ task is. cond_both (is_set set task.spec.pid) _ task (IsTimelyTask room) (λ _. record { vtime = is.vtime; used = is.used }) (λ _. is)) timely.tasks));
  siblings = all_map (IsTimelySibling most room.clock) _ room.siblings (each_weaker (IsTimelySibling most room.clock) _ room.siblings
      (λ sibling is. record { least = is.least; snapshot = is.snapshot; ran = is.ran }) timely.siblings);
}
timely-with_answer most room set answer timely = timely

-- ---- an advance and a tick

-- what is ahead of a least by so much before a growth is by so much after it
grown_is_timely : (least clock delta : ℕ) (policy : Policy) (task : Task) → task.vtime ≤ least + 69 * clock → (grown_by delta policy task).vtime ≤ least + 69 * (clock + delta)
grown_is_timely least clock delta (Rr priority) task is = omega (arith, is)
grown_is_timely least clock delta (Fair nice) task is = omega (arith, is, growth-le delta nice)
grown_is_timely least clock delta Stop task is = omega (arith, is)
grown_is_timely least clock delta (Deadline relative) task is = omega (arith, is)
grown_is_timely least clock delta (Fifo priority) task is = omega (arith, is)

grown_used : (clock delta : ℕ) (policy : Policy) (task : Task) → task.used ≤ clock → (grown_by delta policy task).used ≤ clock + delta
grown_used clock delta (Rr priority) task is = omega (arith, is)
grown_used clock delta (Fair nice) task is = omega (arith, is)
grown_used clock delta Stop task is = omega (arith, is)
grown_used clock delta (Deadline relative) task is = omega (arith, is)
grown_used clock delta (Fifo priority) task is = omega (arith, is)

home-grown_by : (delta : ℕ) (policy : Policy) (task : Task) → (grown_by delta policy task).home ≡ task.home
home-grown_by delta (Rr priority) task = refl
home-grown_by delta (Fair nice) task = refl
home-grown_by delta Stop task = refl
home-grown_by delta (Deadline relative) task = refl
home-grown_by delta (Fifo priority) task = refl

kept-with_growth : (room : RoomState) (delta : ℕ) → kept (with_growth room delta) ≡ kept room
kept-with_growth room delta = map-map_alike parts_of (λ s. record s { ran = s.ran + delta }) (λ s. refl) room.siblings

least-with_growth : (room : RoomState) (delta cpu : ℕ) → (sibling_of (with_growth room delta) cpu).least ≡ (sibling_of room cpu).least
least-with_growth room delta cpu = least-alike (with_growth room delta) room (kept-with_growth room delta) cpu

timely_grown : (room : RoomState) (delta : ℕ) (task : Task) → IsTimelyTask room task → IsTimelyTask (with_growth room delta) (grown room delta task)
timely_grown room delta task is =
    let least = least-with_growth room delta task.home in
    cond_both (is_running room task) (grown_by delta task.spec.policy task) task (IsTimelyTask (with_growth room delta))
    (λ _. record {
      vtime = subst (λ home. (grown_by delta task.spec.policy task).vtime ≤ (sibling_of (with_growth room delta) home).least + 69 * (room.clock + delta))
          (sym (home-grown_by delta task.spec.policy task))
          (omega (arith, least, grown_is_timely (sibling_of room task.home).least room.clock delta task.spec.policy task is.vtime));
      used = grown_used room.clock delta task.spec.policy task is.used;
    })
    (λ _. record { vtime = omega (arith, is.vtime, least); used = omega (arith, is.used) })

timely-with_growth : (most : ℕ) (room : RoomState) (delta : ℕ) → Timely most room → Timely most (with_growth room delta)
timely-with_growth most room delta timely = record {
  tasks = all_map (IsTimelyTask (with_growth room delta)) (grown room delta) room.tasks (each_weaker (IsTimelyTask room) _ room.tasks (timely_grown room delta) timely.tasks);
  siblings = all_map (IsTimelySibling most (room.clock + delta)) _ room.siblings (each_weaker (IsTimelySibling most room.clock) _ room.siblings
      (λ sibling is. record { least = is.least; snapshot = is.snapshot; ran = omega (arith, is.ran) }) timely.siblings);
}

-- The least of a sibling is the least that it had, or a virtual time of its queue, and so at most so much more.
least_is_timely : (most : ℕ) (room : RoomState) (cpu : ℕ) → Timely most room → least_of room cpu ≤ most + 69 * room.clock
least_is_timely most room cpu timely =
    go (foremost ltb (fair_times room cpu)) refl where
      ahead : (task : Task) → IsTimelyTask room task → task.vtime ≤ most + 69 * room.clock
      ahead task is = omega (arith, is.vtime, (sibling_is_timely most room task.home timely).least)

      times : AllByRecursion (λ n. n ≤ most + 69 * room.clock) (fair_times room cpu)
      times =
          all_map (λ n. n ≤ most + 69 * room.clock) (λ task. task.vtime) (filter is_fair (queued_on room cpu))
          (each_weaker (IsTimelyTask room) (λ task. task.vtime ≤ most + 69 * room.clock) (filter is_fair (queued_on room cpu)) ahead
          (each-filter (IsTimelyTask room) is_fair (queued_on room cpu) (each-filter (IsTimelyTask room) _ room.tasks timely.tasks)))

      own : (sibling_of room cpu).least ≤ most + 69 * room.clock
      own = omega (arith, (sibling_is_timely most room cpu timely).least)

      go : (smallest : Option ℕ) → foremost ltb (fair_times room cpu) ≡ smallest →
          option_map_or (λ n. max (sibling_of room cpu).least n) smallest (sibling_of room cpu).least ≤ most + 69 * room.clock
      go None none = own
      go (Some smallest) found =
          max-le own (each_found (λ n. n ≤ most + 69 * room.clock) _ (fair_times room cpu) smallest found times)

-- It never falls.
least_of-ge : (room : RoomState) (cpu : ℕ) → (sibling_of room cpu).least ≤ least_of room cpu
least_of-ge room cpu = go (foremost ltb (fair_times room cpu)) where
  go : (smallest : Option ℕ) → (sibling_of room cpu).least ≤ option_map_or (λ n. max (sibling_of room cpu).least n) smallest (sibling_of room cpu).least
  go None = omega arith
  go (Some smallest) = le-max_left (sibling_of room cpu).least smallest

-- an element of a list that was changed by its places
get_or-changed : (f : ℕ × SiblingState → SiblingState) (n i : ℕ) (xs : List SiblingState) → i < length xs →
    get_or (map f (enumerate_from n xs)) i absent ≡ f (n + i, get_or xs i absent)
get_or-changed f n i [] few = absurd (omega (arith, few))
get_or-changed f n zero (x ∷ xs) few = ap (λ m. f (m, x)) (omega arith)
get_or-changed f n (suc i) (x ∷ xs) few =
    get_or-changed f (n + 1) i xs (omega (arith, few)) ∙ ap (λ m. f (m, get_or xs i absent)) (omega arith)

get_or_past : (xs : List SiblingState) (i : ℕ) → length xs ≤ i → get_or xs i absent ≡ absent
get_or_past [] i past = refl
get_or_past (x ∷ xs) zero past = absurd (omega (arith, past))
get_or_past (x ∷ xs) (suc i) past = get_or_past xs i (omega (arith, past))

least-with_leasts : (room : RoomState) (cpu : ℕ) → (sibling_of room cpu).least ≤ (sibling_of (with_leasts room) cpu).least
least-with_leasts room cpu = go (cases_lt cpu (length room.siblings)) where
  inside : cpu < length room.siblings → (sibling_of room cpu).least ≤ (sibling_of (with_leasts room) cpu).least
  inside few =
      let same : (sibling_of (with_leasts room) cpu).least ≡ least_of room (0 + cpu) =
      ap (λ (s : SiblingState). s.least) (get_or-changed (λ (place : ℕ × SiblingState). record place.1 { least = least_of room place.0 }) 0 cpu room.siblings few) in
      let here : least_of room (0 + cpu) ≡ least_of room cpu = ap (least_of room) (omega arith) in
      omega (arith, same, here, least_of-ge room cpu)

  outside : length room.siblings ≤ cpu → (sibling_of room cpu).least ≤ (sibling_of (with_leasts room) cpu).least
  outside past =
      let none = ap (λ (s : SiblingState). s.least) (get_or_past room.siblings cpu past) in omega (arith, none)

  go : (cpu < length room.siblings) ⊎ (length room.siblings ≤ cpu) → (sibling_of room cpu).least ≤ (sibling_of (with_leasts room) cpu).least
  go (inl few) = inside few
  go (inr past) = outside past

timely-with_leasts : (most : ℕ) (room : RoomState) → Timely most room → Timely (most + 69 * room.clock) (with_leasts room)
timely-with_leasts most room timely = record {
  tasks = still_timely room (with_leasts room) room.tasks refl (least-with_leasts room) timely.tasks;
  siblings = all_enumerated (IsTimelySibling (most + 69 * room.clock) room.clock) _
      (λ cpu sibling is. record { least = least_is_timely most room cpu timely; snapshot = is.snapshot; ran = is.ran }) 0 room.siblings
      (each_weaker (IsTimelySibling most room.clock) (IsTimelySibling (most + 69 * room.clock) room.clock) room.siblings
      (λ sibling is. record { least = omega (arith, is.least); snapshot = omega (arith, is.snapshot); ran = is.ran }) timely.siblings);
}

timely-advanced : (most : ℕ) (room : RoomState) (delta : ℕ) → Timely most room → Timely (most + 69 * (room.clock + delta)) (advanced room delta)
unfolding advanced
timely-advanced most room delta timely = timely-with_leasts most (with_growth room delta) (timely-with_growth most room delta timely)

timely-tick : (most : ℕ) (room : RoomState) (cpu : ℕ) (task : Option Task) → IfSome task (IsTimelyTask room) → Timely most room → Timely most (tick room cpu task).room
timely-tick most room cpu None is timely = timely-charge most room timely
timely-tick most room cpu (Some task) is timely =
    let paid = charge room in
    let used : cond (has_used_slice task) 0 task.used ≤ room.clock =
    cond_both (has_used_slice task) 0 task.used (λ n. n ≤ room.clock) (λ _. omega arith) (λ _. is.used) in
    let rested : Timely most (begin_slice paid cpu task) =
    timely-stamped most (with_task paid _) _ (timely-with_task most paid _ (record { vtime = is.vtime; used = used }) (timely-charge most room timely)) in
    timely-flag most (begin_slice paid cpu task) cpu _ rested

-- ---- every step

task_of_is_timely : (most : ℕ) (room : RoomState) (pid : ℕ) → Timely most room → IfSome (task_of room pid) (IsTimelyTask room)
task_of_is_timely most room pid timely = go (task_of room pid) refl where
  go : (task : Option Task) → task_of room pid ≡ task → IfSome task (IsTimelyTask room)
  go None none = tt
  go (Some task) found = each_found (IsTimelyTask room) (has_pid pid) room.tasks task found timely.tasks

running_is_timely : (most : ℕ) (room : RoomState) (cpu : ℕ) → Timely most room → IfSome (running_on room cpu) (IsTimelyTask room)
running_is_timely most room cpu timely = go (sibling_of room cpu).run refl where
  go : (run : Option ℕ) → (sibling_of room cpu).run ≡ run → IfSome (running_on room cpu) (IsTimelyTask room)
  go None idle_there = subst (λ (task : Option Task). IfSome task (IsTimelyTask room)) (sym (none_runs idle_there)) tt where
    none_runs : (sibling_of room cpu).run ≡ None → running_on room cpu ≡ None
    none_runs none = simp (none)
  go (Some pid) runs = subst (λ (task : Option Task). IfSome task (IsTimelyTask room)) (sym (it_runs runs)) (task_of_is_timely most room pid timely) where
    it_runs : (sibling_of room cpu).run ≡ Some pid → running_on room cpu ≡ task_of room pid
    it_runs runs = simp (runs)

-- each event but an advance
weaker : (entries : ℕ) (room : RoomState) (new : RoomState) → new.clock ≡ room.clock → Timely (entries * (69 * room.clock)) new → IsTimely (entries + 1) new
weaker entries room new clock timely =
    timely_parts (entries + 1) new (record {
      tasks = timely.tasks;
      siblings = each_weaker (IsTimelySibling (entries * (69 * room.clock)) new.clock) (IsTimelySibling ((entries + 1) * (69 * new.clock)) new.clock) new.siblings
          (λ sibling is. record { least = up sibling.least is.least; snapshot = up sibling.snapshot is.snapshot; ran = is.ran }) timely.siblings;
    }) where
      up : (n : ℕ) → n ≤ entries * (69 * room.clock) → n ≤ (entries + 1) * (69 * new.clock)
      up n le =
          let same : (entries + 1) * (69 * new.clock) ≡ entries * (69 * room.clock) + 69 * room.clock = ap (λ c. (entries + 1) * (69 * c)) clock ∙ grind arith in
          omega (arith, le, same)

-- ---- the clock

clock-select_for : (room : RoomState) (cpu core : ℕ) → (select_for room cpu core).clock ≡ room.clock
unfolding select_for
clock-select_for room cpu core = refl

clock-pick_anew : (room : RoomState) (cpu : ℕ) → (pick_anew room cpu).room.clock ≡ room.clock
clock-pick_anew room cpu =
    cond_both (is_plain room cpu) (pick_plain room cpu) (select room cpu) (λ made. made.room.clock ≡ room.clock) (λ _. refl)
    (λ _. clock-select_for room cpu _)

clock-adopt_or_pick_anew : (room : RoomState) (fresh : Bool) (cpu : ℕ) (waiting : Option (Option ℕ)) → (adopt_or_pick_anew room fresh cpu waiting).room.clock ≡ room.clock
clock-adopt_or_pick_anew room fresh cpu None = clock-pick_anew (charge room) cpu
clock-adopt_or_pick_anew room true cpu (Some run) = refl
clock-adopt_or_pick_anew room false cpu (Some run) = clock-pick_anew (charge room) cpu

clock-schedule : (room : RoomState) (fresh : Bool) (cpu : ℕ) → (schedule room fresh cpu).room.clock ≡ room.clock
clock-schedule room fresh cpu = clock-adopt_or_pick_anew room fresh cpu (sibling_of room cpu).waiting

clock-try_steal : (room : RoomState) (cpu : ℕ) (task : Option Task) → (try_steal room cpu task).room.clock ≡ room.clock
clock-try_steal room cpu None = refl
clock-try_steal room cpu (Some task) = refl

clock-turn : (room : RoomState) (fresh : Bool) (cpu : ℕ) → (turn room fresh cpu).room.clock ≡ room.clock
clock-turn room fresh cpu =
    cond_both (sibling_of room cpu).pending _ _ (λ (made : Stepped). made.room.clock ≡ room.clock) (λ _. clock-schedule room fresh cpu)
    (λ _. cond_both ((sibling_of room cpu).place == 0) _ _ (λ (made : Stepped). made.room.clock ≡ room.clock) (λ _. refl) (λ _. clock-try_steal room cpu (stolen room cpu)))

clock-block : (room : RoomState) (cpu : ℕ) (task : Option Task) → (block room cpu task).room.clock ≡ room.clock
clock-block room cpu None = refl
clock-block room cpu (Some task) = clock-schedule (run_idle (dequeue (charge room) task) cpu) false cpu

clock-exit : (room : RoomState) (cpu : ℕ) (task : Option Task) → (exit room cpu task).room.clock ≡ room.clock
clock-exit room cpu None = refl
clock-exit room cpu (Some task) =
    cond_both (has_threads room task) _ _ (λ (made : Stepped). made.room.clock ≡ room.clock) (λ _. refl)
    (λ _. clock-schedule (run_idle (without (charge room) task) cpu) false cpu)

clock-wake : (room : RoomState) (task : Option Task) → (wake room task).room.clock ≡ room.clock
clock-wake room None = refl
clock-wake room (Some task) = cond_both task.queued _ _ (λ (made : Stepped). made.room.clock ≡ room.clock) (λ _. refl) (λ _. refl)

clock-fork : (room : RoomState) (thread : Bool) (caller : Option Task) → (fork room thread caller).room.clock ≡ room.clock
clock-fork room thread None = refl
clock-fork room thread (Some caller) =
    cond_both (may_not_fork room.task_limit room.tasks caller) _ _ (λ (made : Stepped). made.room.clock ≡ room.clock) (λ _. refl) (λ _. refl)

clock-tick : (room : RoomState) (cpu : ℕ) (task : Option Task) → (tick room cpu task).room.clock ≡ room.clock
clock-tick room cpu None = refl
clock-tick room cpu (Some task) = refl

clock-advanced : (room : RoomState) (delta : ℕ) → (advanced room delta).clock ≡ room.clock + delta
unfolding advanced
clock-advanced room delta = refl

clock-with_answer : (room : RoomState) (set : Setting) (answer : Reply) → (with_answer room set answer).clock ≡ room.clock
clock-with_answer room set Zero = refl
clock-with_answer room set answer = refl

clock-unless_offline : (room : RoomState) (cpu : ℕ) (stepped : Stepped) → stepped.room.clock ≡ room.clock → (unless_offline room cpu stepped).room.clock ≡ room.clock
clock-unless_offline room cpu stepped same =
    cond_both (is_online room cpu) _ _ (λ (made : Stepped). made.room.clock ≡ room.clock) (λ _. same) (λ _. refl)

clock-set_policy : (room : RoomState) (policy : Policy) (task : Option Task) → (set_policy room policy task).room.clock ≡ room.clock
clock-set_policy room policy None = refl
clock-set_policy room policy (Some task) = cond_both task.queued _ _ (λ (made : RoomState). made.clock ≡ room.clock) (λ _. refl) (λ _. refl)

clock-take_offline : (room : RoomState) (cpu : ℕ) → (take_offline room cpu).room.clock ≡ room.clock
unfolding leave
clock-take_offline room cpu =
    cond_both (not (is_online room cpu)) _ _ (λ (made : Stepped). made.room.clock ≡ room.clock) (λ _. refl)
    (λ _. cond_both (length (online room) == 1) _ _ (λ (made : Stepped). made.room.clock ≡ room.clock) (λ _. refl) (λ _. refl))

clock-bring_online : (room : RoomState) (cpu : ℕ) → (bring_online room cpu).room.clock ≡ room.clock
clock-bring_online room cpu = cond_both (is_online room cpu) _ _ (λ (made : Stepped). made.room.clock ≡ room.clock) (λ _. refl) (λ _. refl)

-- how far the clock goes on with an event, in ns
abbrev pub lapse : Event → ℕ
lapse (Advance delta) = delta
lapse event = 0

clock_by : (old new : ℕ) → new ≡ old → new ≡ old + 0
clock_by old new same = omega (arith, same)

-- At a step the clock goes on by the length of an advance, and else stands.
pub clock-step_by : (room : RoomState) (fresh : Bool) (event : Event) → (step room fresh event).room.clock ≡ room.clock + lapse event
clock-step_by room fresh (Turn cpu) = clock_by _ _ (clock-unless_offline room cpu _ (clock-turn room fresh cpu))
clock-step_by room fresh (Resched cpu) = clock_by _ _ (clock-unless_offline room cpu _ (clock-schedule room fresh cpu))
clock-step_by room fresh (Block cpu) = clock_by _ _ (clock-unless_offline room cpu _ (clock-block room cpu (running_on room cpu)))
clock-step_by room fresh (Exit cpu) = clock_by _ _ (clock-unless_offline room cpu _ (clock-exit room cpu (running_on room cpu)))
clock-step_by room fresh (Tick cpu) = clock_by _ _ (clock-unless_offline room cpu _ (clock-tick room cpu (running_on room cpu)))
clock-step_by room fresh (Wake pid) = clock_by _ _ (clock-wake room (task_of room pid))
clock-step_by room fresh (Advance delta) = clock-advanced room delta
clock-step_by room fresh (Fork caller thread) = clock_by _ _ (clock-fork room thread (task_of room caller))
clock-step_by room fresh (Prctl caller ask) =
    clock_by _ _ (clock-with_answer (with_used room (makes_cookie room caller ask) (asked_by_call room caller ask)) (setting_of room caller ask) (prctl_answer room caller ask))
clock-step_by room fresh (SetSched pid policy) = clock_by _ _ (clock-set_policy room policy (task_of room pid))
clock-step_by room fresh (Offline cpu) = clock_by _ _ (clock-take_offline room cpu)
clock-step_by room fresh (Online cpu) = clock_by _ _ (clock-bring_online room cpu)
clock-step_by room fresh (Load index) = clock_by _ _ refl
clock-step_by room fresh (Unload index) = clock_by _ _ refl

lapse-le : (event : Event) (siblings : ℕ) → IsEvent siblings event → lapse event ≤ 1000000000
lapse-le (Turn cpu) siblings is = omega arith
lapse-le (Resched cpu) siblings is = omega arith
lapse-le (Block cpu) siblings is = omega arith
lapse-le (Exit cpu) siblings is = omega arith
lapse-le (Tick cpu) siblings is = omega arith
lapse-le (Wake pid) siblings is = omega arith
lapse-le (Advance delta) siblings is = is.1
lapse-le (Fork caller thread) siblings is = omega arith
lapse-le (Prctl caller ask) siblings is = omega arith
lapse-le (SetSched pid policy) siblings is = omega arith
lapse-le (Offline cpu) siblings is = omega arith
lapse-le (Online cpu) siblings is = omega arith
lapse-le (Load index) siblings is = omega arith
lapse-le (Unload index) siblings is = omega arith

-- So it goes on by one second at most.
pub clock-step : (room : RoomState) (fresh : Bool) (event : Event) (siblings : ℕ) → IsEvent siblings event →
    (step room fresh event).room.clock ≤ room.clock + 1000000000
clock-step room fresh event siblings is = omega (arith, clock-step_by room fresh event, lapse-le event siblings is)

-- an advance raises what is most by as much as the clock shows then
advanced_is_timely : (entries : ℕ) (room : RoomState) (delta : ℕ) → Timely (entries * (69 * room.clock)) room → IsTimely (entries + 1) (advanced room delta)
advanced_is_timely entries room delta timely =
    let made = timely-advanced (entries * (69 * room.clock)) room delta timely in
    let now = clock-advanced room delta in
    let more : entries * (69 * room.clock) + 69 * (room.clock + delta) ≤ (entries + 1) * (69 * (room.clock + delta)) = grind arith in
    let same = ap (λ c. (entries + 1) * (69 * c)) now in
    timely_parts (entries + 1) (advanced room delta) (record {
      tasks = made.tasks;
      siblings = each_weaker (IsTimelySibling (entries * (69 * room.clock) + 69 * (room.clock + delta)) (advanced room delta).clock)
          (IsTimelySibling ((entries + 1) * (69 * (advanced room delta).clock)) (advanced room delta).clock) (advanced room delta).siblings
          (λ sibling is. record { least = omega (arith, is.least, more, same); snapshot = omega (arith, is.snapshot, more, same); ran = is.ran }) made.siblings;
    })

timely-step : (entries : ℕ) (room : RoomState) (fresh : Bool) (event : Event) → Timely (entries * (69 * room.clock)) room → IsTimely (entries + 1) (step room fresh event).room
timely-step entries room fresh (Turn cpu) timely =
    weaker entries room _ (clock-unless_offline room cpu _ (clock-turn room fresh cpu)) (timely-unless_offline _ room cpu _ timely (timely-turn _ room fresh cpu timely))
timely-step entries room fresh (Resched cpu) timely =
    weaker entries room _ (clock-unless_offline room cpu _ (clock-schedule room fresh cpu)) (timely-unless_offline _ room cpu _ timely (timely-schedule _ room fresh cpu timely))
timely-step entries room fresh (Block cpu) timely =
    weaker entries room _ (clock-unless_offline room cpu _ (clock-block room cpu (running_on room cpu)))
    (timely-unless_offline _ room cpu _ timely (timely-block _ room cpu (running_on room cpu) (running_is_timely _ room cpu timely) timely))
timely-step entries room fresh (Exit cpu) timely =
    weaker entries room _ (clock-unless_offline room cpu _ (clock-exit room cpu (running_on room cpu)))
    (timely-unless_offline _ room cpu _ timely (timely-exit _ room cpu (running_on room cpu) timely))
timely-step entries room fresh (Tick cpu) timely =
    weaker entries room _ (clock-unless_offline room cpu _ (clock-tick room cpu (running_on room cpu)))
    (timely-unless_offline _ room cpu _ timely (timely-tick _ room cpu (running_on room cpu) (running_is_timely _ room cpu timely) timely))
timely-step entries room fresh (Wake pid) timely =
    weaker entries room _ (clock-wake room (task_of room pid)) (timely-wake _ room (task_of room pid) (task_of_is_timely _ room pid timely) timely)
timely-step entries room fresh (Advance delta) timely = advanced_is_timely entries room delta timely
timely-step entries room fresh (Fork caller thread) timely =
    weaker entries room _ (clock-fork room thread (task_of room caller)) (timely-fork _ room thread (task_of room caller) timely)
timely-step entries room fresh (Prctl caller ask) timely =
    let made = with_used room (makes_cookie room caller ask) (asked_by_call room caller ask) in
    weaker entries room _ (clock-with_answer made (setting_of room caller ask) (prctl_answer room caller ask))
    (timely-with_answer _ made (setting_of room caller ask) (prctl_answer room caller ask) (same_core _ room made refl refl refl timely))
timely-step entries room fresh (SetSched pid policy) timely =
    weaker entries room _ (clock-set_policy room policy (task_of room pid)) (timely-set_policy _ room policy (task_of room pid) (task_of_is_timely _ room pid timely) timely)
timely-step entries room fresh (Offline cpu) timely = weaker entries room _ (clock-take_offline room cpu) (timely-take_offline _ room cpu timely)
timely-step entries room fresh (Online cpu) timely = weaker entries room _ (clock-bring_online room cpu) (timely-bring_online _ room cpu timely)
timely-step entries room fresh (Load index) timely =
    weaker entries room _ refl (same_core _ room (record room { guards = load room.guards index }) refl refl refl timely)
timely-step entries room fresh (Unload index) timely =
    weaker entries room _ refl (same_core _ room (record room { guards = unload room.guards index }) refl refl refl timely)

-- ---- what a machine asks between two changes of one step

-- ---- after a history

timely_after : (done : ℕ) (moment : Moment) (entries : List Entry) → IsTimely done moment.room → IsTimely (done + length entries) (after moment entries).room
timely_after done moment [] timely = subst (λ n. IsTimely n moment.room) (omega arith) timely
timely_after done moment (entry ∷ entries) timely =
    subst (λ n. IsTimely n (after (next moment entry) entries).room) (omega arith)
    (timely_after (done + 1) (next moment entry) entries (timely-step done moment.room (is_fresh moment.ledger) entry.event (parts_timely done moment.room timely)))

asleep_is_timely : (opening : Opening) (spec : TaskSpec) → IsTimelyTask (start opening) (asleep spec)
asleep_is_timely opening spec = record { vtime = omega arith; used = omega arith }

timely_asleep : (opening : Opening) (tasks : List Task) (specs : List TaskSpec) → AllByRecursion (IsTimelyTask (start opening)) tasks →
    AllByRecursion (IsTimelyTask (start opening)) (fold (λ ts spec. inserted (asleep spec) ts) tasks specs)
timely_asleep opening tasks [] all = all
timely_asleep opening tasks (spec ∷ specs) all =
    timely_asleep opening (inserted (asleep spec) tasks) specs (each-inserted (IsTimelyTask (start opening)) (asleep spec) tasks (asleep_is_timely opening spec) all)

-- After every history the times keep their bounds.
pub timely-fold_of : (opening : Opening) (history : History) → IsTimely (length history) (fold_of opening history)
timely-fold_of opening history =
    subst (λ n. IsTimely n (fold_of opening history)) (omega arith)
    (timely_after 0 (beginning opening) history (timely_parts 0 (start opening) (record {
      tasks = timely_asleep opening [] opening.scenario.tasks tt;
      siblings = all_replicate (IsTimelySibling 0 0) opening.scenario.siblings idle (record { least = omega arith; snapshot = omega arith; ran = omega arith });
    })))

-- ---- after a history that a machine plays

-- what fewer than 2^17 entries and a clock below 2^56 come to
most_is_low : (entries clock : ℕ) → entries < 2 ^ 17 → clock < 2 ^ 56 → entries * (69 * clock) + 69 * clock < 2 ^ 80
most_is_low entries clock few low =
    let slow : 69 * clock ≤ 69 * 2 ^ 56 = omega (arith, low) in
    let within : entries ≤ 2 ^ 17 = omega (arith, few) in
    omega (arith, slow, mul-le entries (69 * clock) (2 ^ 17) (69 * 2 ^ 56) within slow)

-- Each virtual time, each least and each snapshot stays below 2^80.
pub vtimes_bounded : (entries : ℕ) (room : RoomState) → IsTimely entries room → entries < 2 ^ 17 → room.clock < 2 ^ 56 →
    All (λ (task : Task). task.vtime < 2 ^ 80) room.tasks
vtimes_bounded entries room timely few low =
    All-weaker (IsTimelyTask room) (λ (task : Task). task.vtime < 2 ^ 80)
    (λ task is.
    let home = sibling_is_timely (entries * (69 * room.clock)) room task.home (parts_timely entries room timely) in
    omega (arith, is.vtime, home.least, most_is_low entries room.clock few low)) room.tasks timely.tasks

pub siblings_bounded : (entries : ℕ) (room : RoomState) → IsTimely entries room → entries < 2 ^ 17 → room.clock < 2 ^ 56 →
    All (λ (sibling : SiblingState). (sibling.least < 2 ^ 80) × (sibling.snapshot < 2 ^ 80)) room.siblings
siblings_bounded entries room timely few low =
    All-weaker (IsTimelySibling (entries * (69 * room.clock)) room.clock) (λ (sibling : SiblingState). (sibling.least < 2 ^ 80) × (sibling.snapshot < 2 ^ 80))
    (λ sibling is. (omega (arith, is.least, most_is_low entries room.clock few low), omega (arith, is.snapshot, most_is_low entries room.clock few low)))
    room.siblings timely.siblings

-- So each virtual time that is shown is below 2^80.
pub shown_bounded : (opening : Opening) (history : History) (pid : ℕ) → length history < 2 ^ 17 → (fold_of opening history).clock < 2 ^ 56 →
    IfSome (task_view_after (moment_of opening history) pid) (λ task. task.vtime < 2 ^ 80)
shown_bounded opening history pid few low = go (task_after room pid) refl where
  room : RoomState
  room = fold_of opening history

  go : (found : Option Task) → task_after room pid ≡ found → IfSome (option_map (task_view room) found) (λ task. task.vtime < 2 ^ 80)
  go None none = tt
  go (Some task) found =
      each_found (λ (t : Task). t.vtime < 2 ^ 80) (λ t. ltb pid t.spec.pid) room.tasks task found
      (recursion_from_All (λ (t : Task). t.vtime < 2 ^ 80) room.tasks
      (vtimes_bounded (length history) room (timely-fold_of opening history) few low))
