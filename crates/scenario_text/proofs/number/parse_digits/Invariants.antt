use Rattle.std.proofs.Common.{◌≡◌, ◌^◌, ◌<◌, true, take}
use Rattle.std.specs.Str.{all_ascii_digits}
use Rattle.scenario_text.specs.Grammar.{value}
use Rattle.scenario_text.proofs.number.parse_digits.Given as goal

abbrev pub invariant-loop-digit : goal.invariant-loop-digit
invariant-loop-digit l =
    (l.number ≡ value (take l.digit-index l.digits)) × (all_ascii_digits (take l.digit-index l.digits) ≡ true) × (l.number < 2 ^ 64)
