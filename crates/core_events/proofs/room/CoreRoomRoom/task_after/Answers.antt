use Rattle.std.proofs.Common.{◌≡◌, ◌^◌, ◌<◌, ap, ◌∙◌, sym, subst, arith, Option, Some, Bor, ℕ}
use Rattle.std.specs.Prelude.{IfSome, find, nat_lt}
use Rattle.std.specs.Option.{option_map}
use Rattle.core_events.specs.Inside.{opening_of}
use Rattle.cs_types.specs.View.{task_after, task_view, task_view_after}
use Rattle.cs_types.specs.History.{fold_of, history_of, moment_of}
use Rattle.cs_types.specs.declared.view.TaskView.{TaskView}
use Rattle.cs_types.specs.Room.{RoomState, has_pid}
use Rattle.cs_laws.proofs.Times.{shown_bounded}
use Rattle.core_events.proofs.Playable.{most_entries-le}
use Rattle.core_events.specs.Machine.{Machine}
use Rattle.core_events.proofs.Machines.{folds_of}
use Rattle.core_events.proofs.Views.{task_shown, living_total}
use Rattle.task_table.proofs.Rising.{find_again}
use Rattle.cs_types.specs.declared.task.Task.{Task}
use Rattle.core_events.proofs.room.CoreRoomRoom.task_after.Goals as goal

pub returns-in_err-next-clause-view : goal.returns-in_err-next-clause-view
returns-in_err-next-clause-view g c =
    let a = c.self.inside in
    let pid = c.args.pid in
    let folds = folds_of a c.self.invariant in
    c.from_residual.ensures
    ∙ ap (λ (next : Option (Bor Task × ℕ)). option_map (task_view (fold_of (opening_of a) a.entries.items)) (option_map (λ (n : Bor Task × ℕ). n.0.now) next)) (sym c.in_err-next.was)
    ∙ task_shown (opening_of a) a.state a.entries.items pid (option_map (λ (n : Bor Task × ℕ). n.0.now) c.next_charged.result) folds c.next_charged.ensures.next
    ∙ ap (λ h. option_map (task_view (fold_of (opening_of a) h)) (task_after (fold_of (opening_of a) h) pid)) c.self.invariant.history
    ∙ ap (λ (m : Machine). option_map (task_view (fold_of m.opening (history_of m.opening m.steps))) (task_after (fold_of m.opening (history_of m.opening m.steps)) pid)) c.self.view_is

-- what is shown is the task's view after the entries so far
shown : (g : _) (c : goal.After-view g) → Some c.view.result ≡ task_view_after (moment_of (opening_of c.self.inside) c.self.inside.entries.items) c.args.pid
shown g c =
    let a = c.self.inside in
    let last = fold_of (opening_of a) a.entries.items in
    let folds = folds_of a c.self.invariant in
    let task = c.in_ok-next.next.0.now in
    let found = sym (ap (option_map (λ (n : Bor Task × ℕ). n.0.now)) c.in_ok-next.was) ∙ c.next_charged.ensures.next in
    let there : find (has_pid task.spec.pid) a.state.tasks.tasks ≡ Some task =
    find_again (λ (other : Task). nat_lt c.args.pid other.spec.pid) 0 a.state.tasks.tasks task c.self.invariant.sound.agree.table.rising (sym found) in
    let total = c.in_ok-next.ensures.total ∙ living_total (opening_of a) a.state a.entries.items task.spec.pid task folds c.self.invariant.sound there in
    ap Some (c.view.ensures last total)
    ∙ ap (λ (next : Option (Bor Task × ℕ)). option_map (task_view last) (option_map (λ (n : Bor Task × ℕ). n.0.now) next)) (sym c.in_ok-next.was)
    ∙ task_shown (opening_of a) a.state a.entries.items c.args.pid (option_map (λ (n : Bor Task × ℕ). n.0.now) c.next_charged.result) folds c.next_charged.ensures.next

pub returns-clause-view : goal.returns-clause-view
returns-clause-view g c =
    let a = c.self.inside in
    let pid = c.args.pid in
    shown g c
    ∙ ap (λ h. option_map (task_view (fold_of (opening_of a) h)) (task_after (fold_of (opening_of a) h) pid)) c.self.invariant.history
    ∙ ap (λ (m : Machine). option_map (task_view (fold_of m.opening (history_of m.opening m.steps))) (task_after (fold_of m.opening (history_of m.opening m.steps)) pid)) c.self.view_is

pub returns-clause-bounded : goal.returns-clause-bounded
returns-clause-bounded g c =
    let a = c.self.inside in
    let most = most_entries-le a.scenario.value c.self.invariant.playable in
    subst (λ (one : Option TaskView). IfSome one (λ task. task.vtime < 2 ^ 80)) (sym (shown g c))
    (shown_bounded (opening_of a) a.entries.items c.args.pid
    (omega (arith, c.self.invariant.fits, c.self.invariant.few_entries, most))
    (omega (arith, ap (λ (room : RoomState). room.clock) c.self.invariant.fold, c.self.invariant.slow, c.self.invariant.fits, c.self.invariant.few_entries, most)))
