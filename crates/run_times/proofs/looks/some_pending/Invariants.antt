use Rattle.std.proofs.Common.{◌≡◌, ℕ, ◌<◌, false}
use Rattle.cs_types.specs.History.{fold_of}
use Rattle.run_times.specs.Doing.{is_pending}
use Rattle.run_times.proofs.looks.some_pending.Given as goal

abbrev pub invariant-loop-cpu : goal.invariant-loop-cpu
invariant-loop-cpu g l =
    (k : ℕ) → k < l.cpu → is_pending (fold_of (g.R.Room.opening l.room) (g.R.Room.history l.room)) k ≡ false
