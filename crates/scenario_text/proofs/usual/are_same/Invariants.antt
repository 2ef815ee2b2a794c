use Rattle.std.proofs.Common.{◌≡◌, take}
use Rattle.scenario_text.proofs.usual.are_same.Given as goal

abbrev pub invariant-loop-place : goal.invariant-loop-place
invariant-loop-place l = take l.place l.bytes ≡ take l.place l.word
