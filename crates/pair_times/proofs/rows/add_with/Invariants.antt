use Rattle.std.proofs.Common.{◌≡◌, ℕ, ◌+◌, ◌<◌, ◌≤◌, cond, take, vec_len, vec_capacity}
use Rattle.pair_times.specs.Pairs.{AreRows, time_of}
use Rattle.pair_times.specs.Added.{joins}
use Rattle.pair_times.proofs.rows.add_with.Given as goal

abbrev pub invariant-loop-other : goal.invariant-loop-other
invariant-loop-other l =
    record {
      rows : AreRows l.rows.items;
      times : (a b : ℕ) → a < b →
          time_of l.rows.items a b ≡ time_of l.initial.rows.items a b + cond (joins l.key (take l.other-index l.others) a b) l.time 0;
      few : vec_len l.rows ≤ vec_len l.initial.rows + l.other-index;
      capacity : vec_capacity l.initial.rows ≤ vec_capacity l.rows;
    }
