use Rattle.std.proofs.Common.{◌≡◌, take}
use Rattle.room_drill.specs.Summary.{tally_of}
use Rattle.room_drill.proofs.tally.count.Given as goal

abbrev pub invariant-loop-place : goal.invariant-loop-place
invariant-loop-place g l = l.tally ≡ tally_of (take l.place (g.R.Room.history l.room))
