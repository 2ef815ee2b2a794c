use Rattle.std.proofs.Common.{◌≡◌, ◌≢◌, ℕ, ◌≤◌}
use Rattle.std.specs.Prelude.{AllPairs}
use Rattle.arrayvec.specs.ArrayVec.{array_vec_len}
use Rattle.cs_types.specs.History.{fold_of}
use Rattle.pair_times.specs.Added.{has}
use Rattle.pair_times.proofs.Ran.{ran_by}
use Rattle.pair_times.proofs.keys.keys_run.Given as goal

abbrev pub invariant-loop-cpu : goal.invariant-loop-cpu
invariant-loop-cpu g l =
    let room = fold_of (g.R.Room.opening l.room) (g.R.Room.history l.room) in
    record {
      few : array_vec_len l.keys ≤ l.cpu;
      run : (key : ℕ) → has key l.keys.items ≡ ran_by l.by room l.cpu key;
      distinct : AllPairs (λ key other. key ≢ other) l.keys.items;
    }
