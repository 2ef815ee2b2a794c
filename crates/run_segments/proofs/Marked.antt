-- Marked: on which siblings a task is queued, as the tasks are gone through.
use Rattle.std.proofs.Common.{◌≡◌, ℕ, Bool, true, false, cond, ltb, List, ◌∷◌, length, refl, sym, ap, ◌∙◌, arith, Option, Some, None}
use Rattle.std.specs.Prelude.{filter, ◌==◌, ◌&&◌, ◌||◌}
use Rattle.std.specs.Option.{option_map}
use Rattle.std.proofs.lemmas.Bool.{lt-ltb}
use Rattle.cs_types.specs.declared.task.Task.{Task}
use Rattle.cs_types.specs.declared.view.TaskView.{TaskView}
use Rattle.cs_types.specs.Room.{RoomState}
use Rattle.cs_types.specs.View.{task_view, task_after}
use Rattle.cs_laws.proofs.Rising.{AreRising, above_none}
use Rattle.run_times.specs.Doing.{has_queued}
use Rattle.run_times.proofs.Shown.{shown_after, queued_above, queued_start, queued_with, is_on}

-- no task is gone through yet
pub unmarked : (room : RoomState) (cpu : ℕ) (mark : Bool) → AreRising room → mark ≡ false → (mark || ltb 0 (length (queued_above room cpu 0))) ≡ has_queued room cpu
unmarked room cpu mark rises off = ap (λ (b : Bool). b || ltb 0 (length (queued_above room cpu 0))) off ∙ ap (λ (ts : List Task). ltb 0 (length ts)) (queued_start room cpu rises)

-- one more is, and is marked where it is queued
pub marked_more : (room : RoomState) (cpu pid : ℕ) (view : TaskView) (mark : Bool) → AreRising room → Some view ≡ shown_after room pid →
    (mark || ltb 0 (length (queued_above room cpu pid))) ≡ (mark || (view.queued && (view.cpu == cpu)) || ltb 0 (length (queued_above room cpu view.pid)))
marked_more room cpu pid view mark rises shown =
    let with = queued_with room cpu pid view rises shown in
    let rest = queued_above room cpu view.pid in
    ap (λ (ts : List Task). mark || ltb 0 (length ts)) with.2
    ∙ by_test mark (is_on cpu with.0) with.0 rest
    ∙ ap (λ (v : TaskView). mark || (v.queued && (v.cpu == cpu)) || ltb 0 (length rest)) (sym with.1) where
      by_test : (mark on : Bool) (task : Task) (rest : List Task) → (mark || ltb 0 (length (cond on (task ∷ rest) rest))) ≡ (mark || on || ltb 0 (length rest))
      by_test true on task rest = refl
      by_test false true task rest = lt-ltb 0 (length (task ∷ rest)) (omega arith)
      by_test false false task rest = refl

-- all are
pub marked_all : (room : RoomState) (cpu pid : ℕ) (mark : Bool) → None ≡ shown_after room pid → (mark || ltb 0 (length (queued_above room cpu pid))) ≡ mark
marked_all room cpu pid mark shown = go (task_after room pid) refl shown mark where
  none : (mark : Bool) → (mark || false) ≡ mark
  none true = refl
  none false = refl

  go : (found : Option Task) → task_after room pid ≡ found → None ≡ option_map (task_view room) found → (mark : Bool) → (mark || ltb 0 (length (queued_above room cpu pid))) ≡ mark
  go None e is mark = ap (λ (ts : List Task). mark || ltb 0 (length ts)) (ap (filter (is_on cpu)) (above_none pid room.tasks e)) ∙ none mark
  go (Some task) e is mark = absurd cc
