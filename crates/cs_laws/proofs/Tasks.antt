-- Tasks: how many there are, and that one is found by its pid.
use Rattle.std.proofs.Common.{◌≡◌, ℕ, ◌+◌, ◌<◌, ◌≤◌, max, All, Bool, cond, true, false, List, [], ◌∷◌, length, refl, subst, sym, ◌∙◌, arith, Option, Some, None}
use Rattle.std.specs.Prelude.{fold, find, not, ◌==◌}
use Rattle.std.proofs.lemmas.Bool.{cond_both, or_parts, eqb-true, eqb-false}
use Rattle.std.proofs.lemmas.List.Filters.{length-filter_both}
use Rattle.std.proofs.lemmas.List.{length-map}
use Rattle.std.specs.List.{AllByRecursion}
use Rattle.std.proofs.Math.Nat.{le-max_left, le-max_right, max-le}
use Rattle.std.proofs.lemmas.List.Elements.{All-head, All-tail}
use Rattle.cs_types.specs.declared.task.Task.{Task}
use Rattle.cs_types.specs.declared.task.TaskSpec.{TaskSpec}
use Rattle.cs_types.specs.declared.task.Policy.{Policy}
use Rattle.cs_types.specs.declared.event.Event.{Event}
use Rattle.cs_types.specs.declared.event.Event.TheVariants.{Turn, Resched, Block, Exit, Tick, Wake, Advance, Fork, Prctl, SetSched, Offline, Online, Load, Unload}
use Rattle.cs_types.specs.declared.reply.Reply.{Reply}
use Rattle.cs_types.specs.declared.reply.Reply.TheVariants.{Zero, Child, Refused}
use Rattle.cs_types.specs.declared.reply.Errno.TheVariants.{Eagain}
use Rattle.cs_types.specs.declared.reply.Entry.{Entry}
use Rattle.cs_types.specs.Room.{Opening, RoomState, first_pid, has_pid, sibling_of, running_on, is_online, online, task_of, with_task, asleep, inserted, asleep_tasks}
use Rattle.cs_types.specs.Selection.{task_after_selection, select_for, select, pick_plain, is_plain, pick_anew, adopt_or_pick_anew, schedule}
use Rattle.cs_types.specs.Prctl.{asked_by_call, Setting, setting_of, makes_cookie, with_used, with_answer, prctl_answer, prctl_room}
use Rattle.cs_types.specs.Step.{Stepped, step, wake, block, exit, fork, turn, without, has_threads, child_of, child_at_home, may_not_fork, with_child, tick, run_idle, try_steal, unless_offline, with_policy, set_policy, take_offline, bring_online}
use Rattle.cs_types.specs.Queueing.{dequeue, queue_at_home, rehomed}
use Rattle.cs_types.specs.Steal.{stolen}
use Rattle.cs_types.specs.Hotplug.{moved_off, leave, with_sibling_back}
use Rattle.cs_types.specs.Accounting.{charge}
use Rattle.cs_types.specs.Time.{advanced, grown, ticked_room}
use Rattle.cs_types.specs.Touches.{is_fresh}
use Rattle.cs_types.specs.History.{History, Moment, beginning, next, after, fold_of}
use Rattle.cs_types.proofs.Foremost.{find_passes}
use Rattle.cs_types.proofs.Inserted.{length-inserted}

-- ---- at the start

length-added : (tasks : List Task) (specs : List TaskSpec) →
    length (fold (λ ts spec. inserted (asleep spec) ts) tasks specs) ≤ length tasks + length specs
length-added tasks [] = omega arith
length-added tasks (spec ∷ specs) =
    omega (arith, length-added (inserted (asleep spec) tasks) specs, length-inserted (asleep spec) tasks)

pub length-asleep_tasks : (specs : List TaskSpec) → length (asleep_tasks specs) ≤ length specs
length-asleep_tasks specs = omega (arith, length-added [] specs)

-- ---- by their pids

-- a task that was found is found by its own pid
pub found_again : (pid : ℕ) (tasks : List Task) (task : Task) → find (has_pid pid) tasks ≡ Some task → find (has_pid task.spec.pid) tasks ≡ Some task
found_again pid tasks task found =
    subst (λ n. find (has_pid n) tasks ≡ Some task) (sym (eqb-true task.spec.pid pid (find_passes (has_pid pid) tasks task found))) found

-- ---- at a step

-- the limit of tasks is the same, and where there were no more than it allows, there are no more
pub record KeepsFew (old new : RoomState) : Type 0 where
  pub limit : new.task_limit ≡ old.task_limit
  pub few : length old.tasks ≤ old.task_limit → length new.tasks ≤ old.task_limit

-- as many tasks stay as many
as_many : (old new : RoomState) → new.task_limit ≡ old.task_limit → length new.tasks ≡ length old.tasks → KeepsFew old new
as_many old new limit same = record { limit = limit; few = λ few. omega (arith, same, few) }

few-trans : (old mid new : RoomState) → KeepsFew old mid → KeepsFew mid new → KeepsFew old new
few-trans old mid new one two = record {
  limit = two.limit ∙ one.limit;
  few = λ few. subst (λ n. length new.tasks ≤ n) one.limit (two.few (subst (λ n. length mid.tasks ≤ n) (sym one.limit) (one.few few)));
}

few-pick_anew : (room : RoomState) (cpu : ℕ) → KeepsFew room (pick_anew room cpu).room
unfolding select_for
few-pick_anew room cpu =
    cond_both (is_plain room cpu) (pick_plain room cpu) (select room cpu) (λ made. KeepsFew room made.room)
    (λ _. as_many room (pick_plain room cpu).room refl refl)
    (λ _. as_many room (select room cpu).room refl (length-map room.tasks (task_after_selection room _)))

few-adopt_or_pick_anew : (room : RoomState) (fresh : Bool) (cpu : ℕ) (waiting : Option (Option ℕ)) → KeepsFew room (adopt_or_pick_anew room fresh cpu waiting).room
few-adopt_or_pick_anew room fresh cpu None = let made = few-pick_anew (charge room) cpu in record { limit = made.limit; few = made.few }
few-adopt_or_pick_anew room true cpu (Some run) = as_many room (adopt_or_pick_anew room true cpu (Some run)).room refl refl
few-adopt_or_pick_anew room false cpu (Some run) = let made = few-pick_anew (charge room) cpu in record { limit = made.limit; few = made.few }

few-schedule : (room : RoomState) (fresh : Bool) (cpu : ℕ) → KeepsFew room (schedule room fresh cpu).room
few-schedule room fresh cpu =
    let made = few-adopt_or_pick_anew room fresh cpu (sibling_of room cpu).waiting in record { limit = made.limit; few = made.few }

few-try_steal : (room : RoomState) (cpu : ℕ) (task : Option Task) → KeepsFew room (try_steal room cpu task).room
few-try_steal room cpu None = as_many room (try_steal room cpu None).room refl refl
few-try_steal room cpu (Some task) = as_many room (try_steal room cpu (Some task)).room refl (length-map room.tasks _)

few-turn : (room : RoomState) (fresh : Bool) (cpu : ℕ) → KeepsFew room (turn room fresh cpu).room
few-turn room fresh cpu =
    cond_both (sibling_of room cpu).pending _ _ (λ (made : Stepped). KeepsFew room made.room)
    (λ _. few-schedule room fresh cpu)
    (λ _. cond_both ((sibling_of room cpu).place == 0) _ _ (λ (made : Stepped). KeepsFew room made.room) (λ _. as_many room room refl refl)
    (λ _. few-try_steal room cpu (stolen room cpu)))

few-block : (room : RoomState) (cpu : ℕ) (task : Option Task) → KeepsFew room (block room cpu task).room
few-block room cpu None = as_many room room refl refl
few-block room cpu (Some task) =
    few-trans room (run_idle (dequeue (charge room) task) cpu) (block room cpu (Some task)).room
    (as_many room (run_idle (dequeue (charge room) task) cpu) refl (length-map room.tasks _)) (few-schedule (run_idle (dequeue (charge room) task) cpu) false cpu)

few-exit : (room : RoomState) (cpu : ℕ) (task : Option Task) → KeepsFew room (exit room cpu task).room
few-exit room cpu None = as_many room room refl refl
few-exit room cpu (Some task) =
    cond_both (has_threads room task) _ _ (λ (made : Stepped). KeepsFew room made.room) (λ _. as_many room room refl refl)
    (λ _. few-trans room (run_idle (without (charge room) task) cpu) (schedule (run_idle (without (charge room) task) cpu) false cpu).room
    (record {
      limit = refl;
      few = λ few. omega (arith, few, length-filter_both (λ other. not (has_pid task.spec.pid other)) (λ other. not (not (has_pid task.spec.pid other))) (λ other. refl) room.tasks);
    })
    (few-schedule (run_idle (without (charge room) task) cpu) false cpu))

few-wake : (room : RoomState) (task : Option Task) → KeepsFew room (wake room task).room
few-wake room None = as_many room room refl refl
few-wake room (Some task) =
    cond_both task.queued _ _ (λ (made : Stepped). KeepsFew room made.room) (λ _. as_many room room refl refl)
    (λ _. as_many room (queue_at_home room (rehomed room task)) refl (length-map room.tasks _))

-- a child comes only below the limit
few-fork : (room : RoomState) (thread : Bool) (caller : Option Task) → KeepsFew room (fork room thread caller).room
few-fork room thread None = as_many room room refl refl
few-fork room thread (Some caller) =
    by_limit (child_of caller thread room.next_pid) (may_not_fork room.task_limit room.tasks caller) refl where
      made : Bool → Task → Stepped
      made test child = cond test (record { reply = Refused Eagain; room = room }) (record { reply = Child child.spec.pid; room = queue_at_home (with_child room child) (child_at_home room child) })

      length_queued : (born : RoomState) (task : Task) → length (queue_at_home born task).tasks ≡ length born.tasks
      length_queued born task = length-map born.tasks _

      by_limit : (child : Task) (test : Bool) → may_not_fork room.task_limit room.tasks caller ≡ test → KeepsFew room (made test child).room
      by_limit child true is = as_many room room refl refl
      by_limit child false is =
          let free = eqb-false (length room.tasks) room.task_limit (or_parts (length room.tasks == room.task_limit) _ is).0 in
          record {
            limit = refl;
            few = λ few. omega (arith, few, free, length_queued (with_child room child) (child_at_home room child), length-inserted child room.tasks);
          }

few-tick : (room : RoomState) (cpu : ℕ) (task : Option Task) → KeepsFew room (tick room cpu task).room
few-tick room cpu None = as_many room (charge room) refl refl
few-tick room cpu (Some task) = as_many room (ticked_room (charge room) cpu task) refl (length-map room.tasks _)

few-advanced : (room : RoomState) (delta : ℕ) → KeepsFew room (advanced room delta)
unfolding advanced
few-advanced room delta = as_many room (advanced room delta) refl (length-map room.tasks (grown room delta))

few-with_answer : (room : RoomState) (set : Setting) (answer : Reply) → KeepsFew room (with_answer room set answer)
few-with_answer room set Zero = as_many room (with_answer room set Zero) refl (length-map room.tasks _)
few-with_answer room set answer = as_many room room refl refl

few-unless_offline : (room : RoomState) (cpu : ℕ) (stepped : Stepped) → KeepsFew room stepped.room → KeepsFew room (unless_offline room cpu stepped).room
few-unless_offline room cpu stepped keeps =
    cond_both (is_online room cpu) _ _ (λ (made : Stepped). KeepsFew room made.room) (λ _. keeps) (λ _. as_many room room refl refl)

few-set_policy : (room : RoomState) (policy : Policy) (task : Option Task) → KeepsFew room (set_policy room policy task).room
few-set_policy room policy None = as_many room room refl refl
few-set_policy room policy (Some task) =
    let changed = with_policy policy task in
    cond_both task.queued _ _ (λ (made : RoomState). KeepsFew room made)
    (λ _. as_many room _ refl (length-map (dequeue room changed).tasks _ ∙ length-map room.tasks _)) (λ _. as_many room (with_task room changed) refl (length-map room.tasks _))

few-take_offline : (room : RoomState) (cpu : ℕ) → KeepsFew room (take_offline room cpu).room
unfolding leave
few-take_offline room cpu =
    cond_both (not (is_online room cpu)) _ _ (λ (made : Stepped). KeepsFew room made.room) (λ _. as_many room room refl refl)
    (λ _. cond_both (length (online room) == 1) _ _ (λ (made : Stepped). KeepsFew room made.room) (λ _. as_many room room refl refl)
    (λ _. as_many room (leave room cpu) refl (length-map room.tasks (moved_off room cpu))))

few-bring_online : (room : RoomState) (cpu : ℕ) → KeepsFew room (bring_online room cpu).room
few-bring_online room cpu =
    cond_both (is_online room cpu) _ _ (λ (made : Stepped). KeepsFew room made.room) (λ _. as_many room room refl refl)
    (λ _. as_many room (with_sibling_back room cpu) refl refl)

-- No step goes beyond the limit.
pub few-step : (room : RoomState) (fresh : Bool) (event : Event) → KeepsFew room (step room fresh event).room
few-step room fresh (Turn cpu) = few-unless_offline room cpu _ (few-turn room fresh cpu)
few-step room fresh (Resched cpu) = few-unless_offline room cpu _ (few-schedule room fresh cpu)
few-step room fresh (Block cpu) = few-unless_offline room cpu _ (few-block room cpu (running_on room cpu))
few-step room fresh (Exit cpu) = few-unless_offline room cpu _ (few-exit room cpu (running_on room cpu))
few-step room fresh (Tick cpu) = few-unless_offline room cpu _ (few-tick room cpu (running_on room cpu))
few-step room fresh (SetSched pid policy) = few-set_policy room policy (task_of room pid)
few-step room fresh (Offline cpu) = few-take_offline room cpu
few-step room fresh (Online cpu) = few-bring_online room cpu
few-step room fresh (Load index) = as_many room _ refl refl
few-step room fresh (Unload index) = as_many room _ refl refl
few-step room fresh (Wake pid) = few-wake room (task_of room pid)
few-step room fresh (Advance delta) = few-advanced room delta
few-step room fresh (Fork caller thread) = few-fork room thread (task_of room caller)
few-step room fresh (Prctl caller ask) =
    few-trans room (with_used room (makes_cookie room caller ask) (asked_by_call room caller ask)) (prctl_room room caller ask)
    (as_many room (with_used room (makes_cookie room caller ask) (asked_by_call room caller ask)) refl refl)
    (few-with_answer (with_used room (makes_cookie room caller ask) (asked_by_call room caller ask)) (setting_of room caller ask) (prctl_answer room caller ask))

few-after : (moment : Moment) (entries : List Entry) → KeepsFew moment.room (after moment entries).room
few-after moment [] = as_many moment.room moment.room refl refl
few-after moment (entry ∷ entries) =
    few-trans moment.room (next moment entry).room (after (next moment entry) entries).room
    (few-step moment.room (is_fresh moment.ledger) entry.event) (few-after (next moment entry) entries)

-- So after a history there are no more tasks than the scenario allows.
pub few-fold_of : (opening : Opening) (history : History) → length opening.scenario.tasks ≤ opening.scenario.task_limit → length (fold_of opening history).tasks ≤ opening.scenario.task_limit
few-fold_of opening history few =
    (few-after (beginning opening) history).few (omega (arith, few, length-asleep_tasks opening.scenario.tasks))

-- ---- the first pid

most_of : (most : ℕ) (specs : List TaskSpec) → most ≤ fold (λ pid spec. max pid spec.pid) most specs
most_of most [] = omega arith
most_of most (spec ∷ specs) = omega (arith, most_of (max most spec.pid) specs, le-max_left most spec.pid)

each_of : (most : ℕ) (specs : List TaskSpec) → AllByRecursion (λ spec. spec.pid ≤ fold (λ pid spec. max pid spec.pid) most specs) specs
each_of most [] = tt
each_of most (spec ∷ specs) = (omega (arith, most_of (max most spec.pid) specs, le-max_right most spec.pid), each_of (max most spec.pid) specs)

weaker : {X : Type 0} (P Q : X → Type 0) → ((x : X) → P x → Q x) → (xs : List X) → AllByRecursion P xs → AllByRecursion Q xs
weaker P Q step [] all = tt
weaker P Q step (x ∷ xs) all = (step x all.0, weaker P Q step xs all.1)

-- it is above each pid of the lines
pub below_first_pid : (specs : List TaskSpec) → AllByRecursion (λ spec. spec.pid < first_pid specs) specs
below_first_pid specs =
    weaker (λ spec. spec.pid ≤ fold (λ pid s. max pid s.pid) 0 specs) (λ spec. spec.pid < first_pid specs) (λ spec le. omega (arith, le)) specs (each_of 0 specs)

-- and at most one above their greatest
pub first_pid-le : (limit : ℕ) (specs : List TaskSpec) → All (λ spec. spec.pid ≤ limit) specs → first_pid specs ≤ limit + 1
first_pid-le limit specs all = omega (arith, go 0 specs (omega arith) all) where
  go : (most : ℕ) (specs : List TaskSpec) → most ≤ limit → All (λ spec. spec.pid ≤ limit) specs → fold (λ pid spec. max pid spec.pid) most specs ≤ limit
  go most [] low all = low
  go most (spec ∷ specs) low all =
      go (max most spec.pid) specs (max-le low (All-head (λ s. s.pid ≤ limit) spec specs all)) (All-tail (λ s. s.pid ≤ limit) spec specs all)
