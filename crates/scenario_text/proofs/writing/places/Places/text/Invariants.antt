use Rattle.std.proofs.Common.{◌≡◌, ◌+◌, ◌++◌, take}
use Rattle.scenario_text.proofs.writing.places.Places.text.Given as goal

abbrev pub invariant-loop-index : goal.invariant-loop-index
invariant-loop-index l = take (l.at + l.index) l.self.bytes ≡ take l.at l.initial.self.bytes ++ take l.index l.text
