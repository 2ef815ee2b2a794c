use Rattle.std.proofs.Common.{◌≡◌, ◌≤◌, false, ◌++◌, length, take}
use Rattle.std.specs.List.{list_any}
use Rattle.scenario_text.specs.Faults.{words_in}
use Rattle.scenario_text.specs.Reading.{texts}
use Rattle.scenario_text.proofs.Cuts.{is_empty}
use Rattle.scenario_text.proofs.words.words_of.Given as goal

abbrev pub invariant-loop-word : goal.invariant-loop-word
invariant-loop-word l =
    (words_in l.line ≡ texts (take l.count l.slots) ++ words_in l.rest)
    × (l.count ≤ 15)
    × (list_any is_empty (texts (take l.count l.slots)) ≡ false)
    × (length (take l.count l.slots) ≡ l.count)

abbrev pub decreases-loop-word : goal.decreases-loop-word
decreases-loop-word l = length l.rest
