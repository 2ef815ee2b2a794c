use Rattle.std.proofs.Common.{◌+◌, ◌++◌, ◌∙◌, List, ℕ, length, take, sym, ap, arith}
use Rattle.std.proofs.lemmas.Fmt.{decimal_digit}
use Rattle.std.proofs.lemmas.List.{take_more_set}
use Rattle.scenario_text.proofs.writing.places.Places.digit.Goals as goal

pub returns-clause-text : goal.returns-clause-text
returns-clause-text c =
    take_more_set c.args.self.now.bytes c.args.at (48 + c.args.digit) (omega arith)
    ∙ ap (λ (digits : List ℕ). take c.args.at c.args.self.now.bytes ++ digits) (sym (decimal_digit c.args.digit c.requires.0))

pub returns-clause-end : goal.returns-clause-end
returns-clause-end c = omega (arith, ap length (decimal_digit c.args.digit c.requires.0))
