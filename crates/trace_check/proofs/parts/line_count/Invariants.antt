use Rattle.std.proofs.Common.{◌≡◌, ◌+◌, ◌≤◌, length}
use Rattle.trace_check.specs.Lines.{lines_of}
use Rattle.trace_check.proofs.parts.line_count.Given as goal

abbrev pub invariant-loop-more : goal.invariant-loop-more
invariant-loop-more l =
    record {
      bytes : l.count + length l.rest ≤ length l.text;
      lines : l.count + length (lines_of l.rest) ≡ length (lines_of l.text);
    }

abbrev pub decreases-loop-more : goal.decreases-loop-more
decreases-loop-more l = length l.rest
