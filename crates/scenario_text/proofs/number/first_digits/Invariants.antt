use Rattle.std.proofs.Common.{◌≡◌, ◌≤◌, ◌<◌, ◌-◌, ◌^◌, true, take, get_or}
use Rattle.std.specs.Str.{all_ascii_digits}
use Rattle.scenario_text.specs.Grammar.{value}
use Rattle.scenario_text.proofs.number.first_digits.Given as goal

abbrev pub invariant-loop-count : goal.invariant-loop-count
invariant-loop-count l =
    (1 ≤ l.count)
    × (l.count ≤ 19)
    × (all_ascii_digits (take l.count l.text) ≡ true)
    × (l.number ≡ value (take l.count l.text))
    × (get_or l.text 0 0 - 48 ≤ l.number)
    × (l.number < 10 ^ l.count)

abbrev pub decreases-loop-count : goal.decreases-loop-count
decreases-loop-count l = 19 - l.count
