use Rattle.std.proofs.Common.{◌≡◌, take}
use Rattle.run_summary.specs.Replies.{replies_of}
use Rattle.run_summary.proofs.replies.ReplyCounts.of.Given as goal

abbrev pub invariant-loop-place : goal.invariant-loop-place
invariant-loop-place g l = l.counts ≡ replies_of (take l.place (g.R.Room.history l.room))
