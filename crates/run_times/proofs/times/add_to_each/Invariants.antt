use Rattle.std.proofs.Common.{◌≡◌, ℕ, ◌<◌, ◌≤◌, length, get_or}
use Rattle.cs_types.specs.History.{fold_of}
use Rattle.run_times.specs.declared.siblings.SiblingTimes.{SiblingTimes}
use Rattle.run_times.specs.Doing.{doing_of, is_pending}
use Rattle.run_times.specs.Sums.{with_span}
use Rattle.run_times.proofs.times.add_to_each.Given as goal

abbrev pub invariant-loop-cpu : goal.invariant-loop-cpu
invariant-loop-cpu g l =
    let room = fold_of (g.R.Room.opening l.room) (g.R.Room.history l.room) in
    record {
      done : (k : ℕ) (none : SiblingTimes) → k < l.cpu → k < length l.initial.siblings →
          get_or l.siblings k none ≡ with_span (doing_of room k) (is_pending room k) l.time (get_or l.initial.siblings k none);
      left : (k : ℕ) (none : SiblingTimes) → l.cpu ≤ k → get_or l.siblings k none ≡ get_or l.initial.siblings k none;
    }
