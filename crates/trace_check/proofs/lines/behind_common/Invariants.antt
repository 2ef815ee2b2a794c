use Rattle.std.proofs.Common.{◌≡◌, ◌+◌, ◌≤◌, ◌++◌, length, take}
use Rattle.trace_check.specs.Lines.{lines_of}
use Rattle.trace_check.proofs.lines.behind_common.Given as goal

abbrev pub invariant-loop-line : goal.invariant-loop-line
invariant-loop-line l =
    record {
      bytes : l.count + length l.behind_one ≤ length l.one;
      count : l.count ≤ length (lines_of l.one);
      one : lines_of l.one ≡ take l.count (lines_of l.one) ++ lines_of l.behind_one;
      other : lines_of l.other ≡ take l.count (lines_of l.one) ++ lines_of l.behind_other;
    }

abbrev pub decreases-loop-line : goal.decreases-loop-line
decreases-loop-line l = length l.behind_one
