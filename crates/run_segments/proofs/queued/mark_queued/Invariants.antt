use Rattle.std.proofs.Common.{◌≡◌, ℕ, ◌<◌, ◌-◌, ◌^◌, length, get_or, ltb, Bool}
use Rattle.std.specs.Prelude.{◌||◌}
use Rattle.cs_types.specs.History.{fold_of}
use Rattle.run_times.specs.Doing.{has_queued}
use Rattle.run_times.proofs.Shown.{queued_above}
use Rattle.run_segments.proofs.queued.mark_queued.Given as goal

-- those of the tasks so far are marked, and those left make up what is queued
abbrev pub invariant-loop-task : goal.invariant-loop-task
invariant-loop-task g l =
    let room = fold_of (g.R.Room.opening l.room) (g.R.Room.history l.room) in
    (cpu : ℕ) (none : Bool) → cpu < length l.marks → (get_or l.marks cpu none || ltb 0 (length (queued_above room cpu l.pid))) ≡ has_queued room cpu

abbrev pub decreases-loop-task : goal.decreases-loop-task
decreases-loop-task g l = 2 ^ 32 - l.pid
