use Rattle.std.proofs.Common.{◌≡◌, ℕ, ◌<◌, Some}
use Rattle.std.specs.Prelude.{IfSome}
use Rattle.cs_types.specs.History.{fold_of}
use Rattle.run_times.specs.Doing.{key_run}
use Rattle.run_times.proofs.looks.some_apart.Given as goal

abbrev pub invariant-loop-cpu : goal.invariant-loop-cpu
invariant-loop-cpu g l =
    let room = fold_of (g.R.Room.opening l.room) (g.R.Room.history l.room) in
    record {
      -- each sibling so far runs a task with what is shared, or none
      alike : (k : ℕ) → k < l.cpu → IfSome (key_run l.by room k) (λ key. l.shared ≡ Some key);
      -- one of them runs one with that
      shared : IfSome l.shared (λ key. (k : ℕ) × (k < l.cpu) × (key_run l.by room k ≡ Some key));
    }
