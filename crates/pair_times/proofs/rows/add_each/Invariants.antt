use Rattle.std.proofs.Common.{◌≡◌, ℕ, ◌+◌, ◌<◌, ◌≤◌, cond, take, vec_len, vec_capacity}
use Rattle.std.specs.Prelude.{◌&&◌}
use Rattle.pair_times.specs.Pairs.{AreRows, time_of, pairs_among}
use Rattle.pair_times.specs.Added.{has}
use Rattle.pair_times.proofs.rows.add_each.Given as goal

abbrev pub invariant-loop-index : goal.invariant-loop-index
invariant-loop-index l =
    record {
      rows : AreRows l.rows.items;
      times : (a b : ℕ) → a < b →
          time_of l.rows.items a b ≡ time_of l.initial.rows.items a b + cond (has a (take l.index l.keys) && has b (take l.index l.keys)) l.time 0;
      few : vec_len l.rows ≤ vec_len l.initial.rows + pairs_among l.index;
      capacity : vec_capacity l.initial.rows ≤ vec_capacity l.rows;
    }
