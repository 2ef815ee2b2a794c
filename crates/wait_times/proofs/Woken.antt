-- Woken: a task that is woken has a row.
use Rattle.std.proofs.Common.{◌≡◌, ℕ, ◌<◌, ◌≤◌, Bool, [], ◌∷◌, ◌++◌, length, refl, sym, ap, ◌∙◌, subst, arith, Option, Some, None}
use Rattle.std.specs.Prelude.{IfSome}
use Rattle.std.proofs.lemmas.Bool.{cond_both, eqb-true}
use Rattle.std.proofs.lemmas.List.{length-append}
use Rattle.cs_types.specs.declared.task.Task.{Task}
use Rattle.cs_types.specs.declared.event.Event.{Event}
use Rattle.cs_types.specs.declared.event.Event.TheVariants.{Wake, Fork}
use Rattle.cs_types.specs.declared.reply.Reply.{Reply}
use Rattle.cs_types.specs.declared.reply.Entry.{Entry}
use Rattle.cs_types.specs.Scenario.{IsPlayable}
use Rattle.cs_types.specs.Room.{Opening, RoomState, has_pid, task_of}
use Rattle.cs_types.specs.Step.{Stepped, step, wake, fork, may_not_fork}
use Rattle.cs_types.specs.Touches.{is_fresh}
use Rattle.cs_types.specs.History.{History, moment_of, fold_of, IsLegal}
use Rattle.cs_types.proofs.Foremost.{find_passes}
use Rattle.cs_types.proofs.Filtered.{each_found}
use Rattle.cs_laws.proofs.Rising.{AreRising}
use Rattle.run_times.proofs.Shown.{rises_of}
use Rattle.task_times.specs.TaskSums.{pids_for}
use Rattle.task_times.proofs.Bounds.{pids_below}
use Rattle.task_times.proofs.Summed.{next_pid-le}
use Rattle.wait_times.specs.Waits.{woken_by}

-- a task that lives
woken_lives : (room : RoomState) (pid : ℕ) → AreRising room → IfSome (woken_by (Wake pid) (wake room (task_of room pid)).reply) (λ woken. woken ≤ room.next_pid)
woken_lives room pid rises = go (task_of room pid) refl where
  go : (found : Option Task) → task_of room pid ≡ found → IfSome (woken_by (Wake pid) (wake room found).reply) (λ woken. woken ≤ room.next_pid)
  go None is = tt
  go (Some task) is =
      let own : task.spec.pid ≡ pid = eqb-true task.spec.pid pid (find_passes (has_pid pid) room.tasks task is) in
      let below : task.spec.pid < room.next_pid = each_found (λ (t : Task). t.spec.pid < room.next_pid) (has_pid pid) room.tasks task is (pids_below room rises) in
      cond_both task.queued _ _ (λ (made : Stepped). IfSome (woken_by (Wake pid) made.reply) (λ woken. woken ≤ room.next_pid))
      (λ _. tt) (λ _. omega (arith, own, below))

-- or a child, which has the next pid
child_is_next : (room : RoomState) (caller : ℕ) (thread : Bool) (found : Option Task) →
    IfSome (woken_by (Fork caller thread) (fork room thread found).reply) (λ woken. woken ≤ room.next_pid)
child_is_next room caller thread None = tt
child_is_next room caller thread (Some task) =
    cond_both (may_not_fork room.task_limit room.tasks task) _ _ (λ (made : Stepped). IfSome (woken_by (Fork caller thread) made.reply) (λ woken. woken ≤ room.next_pid))
    (λ _. tt) (λ _. omega arith)

woken-le : (room : RoomState) (fresh : Bool) (event : Event) → AreRising room → IfSome (woken_by event (step room fresh event).reply) (λ woken. woken ≤ room.next_pid)
woken-le room fresh (Wake pid) rises = woken_lives room pid rises
woken-le room fresh (Fork caller thread) rises = child_is_next room caller thread (task_of room caller)
woken-le room fresh event rises = tt

-- So what the last entry of a legal history wakes has one of the rows for so many entries.
pub woken_below : (entries : ℕ) (opening : Opening) (history past : History) (entry : Entry) → IsPlayable opening.scenario → IsLegal opening history →
    history ≡ past ++ entry ∷ [] → length history ≤ entries → IfSome (woken_by entry.event entry.reply) (λ pid. pid < pids_for entries)
woken_below entries opening history past entry playable legal added few =
    let long = ap length added ∙ length-append past (entry ∷ []) in
    let next = next_pid-le (length past) opening past playable (omega arith) in
    subst (λ (reply : Reply). IfSome (woken_by entry.event reply) (λ pid. pid < pids_for entries)) (sym (legal past entry [] added))
    (go (woken_by entry.event (step (fold_of opening past) (is_fresh (moment_of opening past).ledger) entry.event).reply)
    (woken-le (fold_of opening past) (is_fresh (moment_of opening past).ledger) entry.event (rises_of opening past playable))) where
      go : (woken : Option ℕ) → IfSome woken (λ pid. pid ≤ (fold_of opening past).next_pid) → IfSome woken (λ pid. pid < pids_for entries)
      go None is = tt
      go (Some pid) is = omega (arith, is, next_pid-le (length past) opening past playable (omega arith), ap length added ∙ length-append past (entry ∷ []), few)
