-- Moves: how each change of a room changes the spots of its tasks.
use Rattle.std.proofs.Common.{◌≡◌, ℕ, Bool, cond, true, false, refl, sym, ap, ◌∙◌, Option, Some, None}
use Rattle.std.specs.Prelude.{find, ◌==◌, ◌&&◌}
use Rattle.std.specs.Option.{option_map}
use Rattle.std.proofs.lemmas.Bool.{cond_both, cond-true, cond-false, eqb-true, eq-eqb}
use Rattle.cs_types.specs.declared.task.Task.{Task}
use Rattle.cs_types.specs.declared.task.Policy.{Policy}
use Rattle.cs_types.specs.declared.task.Policy.TheVariants.{Stop, Deadline, Fifo, Rr, Fair}
use Rattle.cs_types.specs.Room.{RoomState, has_pid, task_of, sibling_of, with_task}
use Rattle.cs_types.specs.Selection.{select_for, select, pick_plain, is_plain, pick_anew, adopt_or_pick_anew, schedule, task_after_selection}
use Rattle.cs_types.specs.Accounting.{charge}
use Rattle.cs_types.specs.Queueing.{refreshed_by, refreshed, dequeue, moved, moved_to, queue_at_home}
use Rattle.cs_types.specs.Step.{without, with_child, child_of, with_policy, with_policy_set}
use Rattle.cs_types.specs.Time.{is_running, grown, grown_by, advanced, ticked_room, has_used_slice, rotates}
use Rattle.cs_types.specs.Hotplug.{lowest_other, moved_off, leave}
use Rattle.cs_types.specs.Prctl.{Setting, is_set, set_cookies}
use Rattle.cs_types.proofs.Foremost.{find_passes}
use Rattle.cs_laws.proofs.Rising.{pid-grown_by}
use Rattle.cs_laws.proofs.Spots.{Spot, spot_of, spot_at, find-map, spot_in-map, spot_in-replaced, find-replaced, spot_in-alike, spot_in-without, spot_in-inserted}

-- ---- a schedule moves no task

pub spots-select_for : (room : RoomState) (cpu core pid : ℕ) → spot_at (select_for room cpu core) pid ≡ spot_at room pid
unfolding select_for
spots-select_for room cpu core pid =
    spot_in-map (task_after_selection room core) (λ task. refl) (λ task. refl) room.tasks pid

pub spots-pick_anew : (room : RoomState) (cpu pid : ℕ) → spot_at (pick_anew room cpu).room pid ≡ spot_at room pid
spots-pick_anew room cpu pid =
    cond_both (is_plain room cpu) (pick_plain room cpu) (select room cpu) (λ made. spot_at made.room pid ≡ spot_at room pid) (λ _. refl)
    (λ _. spots-select_for room cpu _ pid)

pub spots-adopt_or_pick_anew : (room : RoomState) (fresh : Bool) (cpu : ℕ) (waiting : Option (Option ℕ)) (pid : ℕ) → spot_at (adopt_or_pick_anew room fresh cpu waiting).room pid ≡ spot_at room pid
spots-adopt_or_pick_anew room fresh cpu None pid = spots-pick_anew (charge room) cpu pid
spots-adopt_or_pick_anew room true cpu (Some run) pid = refl
spots-adopt_or_pick_anew room false cpu (Some run) pid = spots-pick_anew (charge room) cpu pid

pub spots-schedule : (room : RoomState) (fresh : Bool) (cpu pid : ℕ) → spot_at (schedule room fresh cpu).room pid ≡ spot_at room pid
spots-schedule room fresh cpu pid = spots-adopt_or_pick_anew room fresh cpu (sibling_of room cpu).waiting pid

-- ---- nor do an advance and a tick

pub spots-advanced : (room : RoomState) (delta pid : ℕ) → spot_at (advanced room delta) pid ≡ spot_at room pid
unfolding advanced
spots-advanced room delta pid =
    spot_in-map (grown room delta)
    (λ task. cond_both (is_running room task) _ _ (λ (t : Task). t.spec.pid ≡ task.spec.pid) (λ _. pid-grown_by delta task.spec.policy task) (λ _. refl))
    (λ task. cond_both (is_running room task) _ _ (λ (t : Task). spot_of t ≡ spot_of task) (λ _. spot_kept task.spec.policy task) (λ _. refl)) room.tasks pid where
      spot_kept : (policy : Policy) (task : Task) → spot_of (grown_by delta policy task) ≡ spot_of task
      spot_kept Stop task = refl
      spot_kept (Deadline relative) task = refl
      spot_kept (Fifo priority) task = refl
      spot_kept (Rr priority) task = refl
      spot_kept (Fair nice) task = refl

pub spots-ticked_room : (room : RoomState) (cpu : ℕ) (task : Task) → task_of room task.spec.pid ≡ Some task → (pid : ℕ) →
    spot_at (ticked_room room cpu task) pid ≡ spot_at room pid
spots-ticked_room room cpu task found pid =
    spot_in-alike (record task {
      used = cond (has_used_slice task) 0 task.used;
      stamp = cond (rotates room cpu task) room.next_stamp task.stamp;
    }) task room.tasks found refl pid

-- ---- into a queue and out of it

-- a refreshed task keeps its pid and its spot
pid-refreshed_by : (room : RoomState) (policy : Policy) (task : Task) → (refreshed_by room policy task).spec.pid ≡ task.spec.pid
pid-refreshed_by room Stop task = refl
pid-refreshed_by room (Deadline relative) task = refl
pid-refreshed_by room (Fifo priority) task = refl
pid-refreshed_by room (Rr priority) task = refl
pid-refreshed_by room (Fair nice) task = refl

spot-refreshed_by : (room : RoomState) (policy : Policy) (task : Task) → spot_of (refreshed_by room policy task) ≡ spot_of task
spot-refreshed_by room Stop task = refl
spot-refreshed_by room (Deadline relative) task = refl
spot-refreshed_by room (Fifo priority) task = refl
spot-refreshed_by room (Rr priority) task = refl
spot-refreshed_by room (Fair nice) task = refl

-- the spot of a task that is queued at its home
abbrev pub queued_spot : Task → Spot
queued_spot task = record { queued = true; home = task.home; cookie = task.cookie }

pub spots-queue_at_home : (room : RoomState) (task old : Task) → find (has_pid task.spec.pid) room.tasks ≡ Some old → (pid : ℕ) →
    spot_at (queue_at_home room task) pid ≡ cond (pid == task.spec.pid) (Some (queued_spot task)) (spot_at room pid)
spots-queue_at_home room task old found pid =
    let fresh = refreshed room task in
    let same = pid-refreshed_by room task.spec.policy task in
    let spot = spot-refreshed_by room task.spec.policy task in
    spot_in-replaced (record fresh { queued = true; stamp = room.next_stamp }) old room.tasks (ap (λ n. find (has_pid n) room.tasks) same ∙ found) pid
    ∙ (ap (λ n. cond (pid == n) (Some (queued_spot fresh)) (spot_at room pid)) same
    ∙ ap (λ (s : Spot). cond (pid == task.spec.pid) (Some (record s { queued = true })) (spot_at room pid)) spot)

pub spots-dequeue : (room : RoomState) (task : Task) → task_of room task.spec.pid ≡ Some task → (pid : ℕ) →
    spot_at (dequeue room task) pid ≡ cond (pid == task.spec.pid) (Some (record (spot_of task) { queued = false })) (spot_at room pid)
spots-dequeue room task found pid = spot_in-replaced (record task { queued = false }) task room.tasks found pid

pub spots-without : (room : RoomState) (task : Task) (pid : ℕ) → spot_at (without room task) pid ≡ cond (pid == task.spec.pid) None (spot_at room pid)
spots-without room task pid = spot_in-without task.spec.pid room.tasks pid

-- a task that moves is queued at its new home
pub spots-moved : (room : RoomState) (cpu : ℕ) (task : Task) → task_of room task.spec.pid ≡ Some task → (pid : ℕ) →
    spot_at (moved room cpu task) pid ≡ cond (pid == task.spec.pid) (Some (record { queued = true; home = cpu; cookie = task.cookie })) (spot_at room pid)
spots-moved room cpu task found pid = spot_in-replaced (record (moved_to room cpu task) { queued = true; stamp = room.next_stamp }) task room.tasks found pid

-- ---- a child

pub spots-with_child : (room : RoomState) (caller : Task) (thread : Bool) (pid : ℕ) →
    spot_at (with_child room (child_of caller thread room.next_pid)) pid
    ≡ cond (pid == room.next_pid) (Some (spot_of (child_of caller thread room.next_pid))) (spot_at room pid)
spots-with_child room caller thread pid =
    spot_in-inserted (child_of caller thread room.next_pid) room.tasks pid

-- ---- another policy

-- A task with another policy keeps its spot, also where it leaves its queue and enters it again.
pub spots-with_policy : (room : RoomState) (policy : Policy) (task : Task) → task_of room task.spec.pid ≡ Some task → (pid : ℕ) →
    spot_at (with_task room (with_policy policy task)) pid ≡ spot_at room pid
spots-with_policy room policy task found pid = spot_in-alike (with_policy policy task) task room.tasks found refl pid

pub spots-requeue : (room : RoomState) (policy : Policy) (task : Task) → task_of room task.spec.pid ≡ Some task → task.queued ≡ true → (pid : ℕ) →
    spot_at (queue_at_home (dequeue room (with_policy policy task)) (with_policy policy task)) pid ≡ spot_at room pid
spots-requeue room policy task found is pid =
    spots-queue_at_home (dequeue room changed) changed gone found_then pid
    ∙ cond_both (pid == task.spec.pid) (Some (queued_spot changed)) (spot_at (dequeue room changed) pid) (λ one. one ≡ spot_at room pid)
    (λ same. sym (ap (spot_at room) (eqb-true pid task.spec.pid same) ∙ (ap (option_map spot_of) found
    ∙ ap (λ b. Some (record (spot_of task) { queued = b })) is)))
    (λ other. spot_in-replaced gone task room.tasks found pid ∙ cond-false (pid == task.spec.pid) _ _ other) where
      changed : Task
      changed = with_policy policy task

      gone : Task
      gone = record changed { queued = false }

      found_then : find (has_pid task.spec.pid) (dequeue room changed).tasks ≡ Some gone
      found_then = find-replaced gone task room.tasks found task.spec.pid ∙ cond-true (task.spec.pid == task.spec.pid) _ _ (eq-eqb _ _ refl)

pub spots-with_policy_set : (room : RoomState) (policy : Policy) (task : Task) → task_of room task.spec.pid ≡ Some task → (pid : ℕ) →
    spot_at (with_policy_set room policy task) pid ≡ spot_at room pid
spots-with_policy_set room policy task found pid =
    cond_both task.queued _ _ (λ (made : RoomState). spot_at made pid ≡ spot_at room pid)
    (λ is. spots-requeue room policy task found is pid) (λ _. spots-with_policy room policy task found pid)

-- ---- a sibling that leaves

spot_cond : (b : Bool) (x y : Task) → spot_of (cond b x y) ≡ cond b (spot_of x) (spot_of y)
spot_cond true x y = refl
spot_cond false x y = refl

-- a task queued there has the lowest other for its home
abbrev pub spot_off : ℕ → ℕ → Spot → Spot
spot_off cpu other spot = cond (spot.queued && (spot.home == cpu)) (record spot { home = other }) spot

pub spots-leave : (room : RoomState) (cpu pid : ℕ) →
    spot_at (leave room cpu) pid ≡ option_map (spot_off cpu (lowest_other room cpu)) (spot_at room pid)
unfolding leave
spots-leave room cpu pid =
    ap (option_map spot_of) (find-map (moved_off room cpu)
    (λ task. cond_both (task.queued && (task.home == cpu)) _ _ (λ (t : Task). t.spec.pid ≡ task.spec.pid) (λ _. refl) (λ _. refl)) pid room.tasks)
    ∙ go (task_of room pid) where
      go : (found : Option Task) → option_map spot_of (option_map (moved_off room cpu) found) ≡ option_map (spot_off cpu (lowest_other room cpu)) (option_map spot_of found)
      go None = refl
      go (Some task) =
          ap Some (spot_cond (task.queued && (task.home == cpu)) _ task)

-- ---- cookies that are set

-- a task that is set has the cookie
abbrev pub spot_set : Setting → ℕ → Spot → Spot
spot_set set pid spot = cond (is_set set pid) (record spot { cookie = set.cookie }) spot

pub spots-set_cookies : (room : RoomState) (set : Setting) (pid : ℕ) →
    spot_at (set_cookies room set) pid ≡ option_map (spot_set set pid) (spot_at room pid)
spots-set_cookies room set pid =
    ap (option_map spot_of) (find-map given
    (λ task. cond_both (is_set set task.spec.pid) (record task { cookie = set.cookie }) task (λ (t : Task). t.spec.pid ≡ task.spec.pid) (λ _. refl) (λ _. refl)) pid room.tasks)
    ∙ go (task_of room pid) refl where
      given : Task → Task
      given task = cond (is_set set task.spec.pid) (record task { cookie = set.cookie }) task

      go : (found : Option Task) → task_of room pid ≡ found → option_map spot_of (option_map given found) ≡ option_map (spot_set set pid) (option_map spot_of found)
      go None e = refl
      go (Some task) e =
          ap Some (spot_cond (is_set set task.spec.pid) (record task { cookie = set.cookie }) task
          ∙ ap (λ n. spot_set set n (spot_of task)) (eqb-true task.spec.pid pid (find_passes (has_pid pid) room.tasks task e)))
