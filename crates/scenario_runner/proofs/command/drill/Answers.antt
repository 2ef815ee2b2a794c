use Rattle.scenario_runner.proofs.Asked.{drill_words}
use Rattle.scenario_runner.proofs.command.drill.Goals as goal

pub returns-in-Some-clause-bad_words : goal.returns-in-Some-clause-bad_words
returns-in-Some-clause-bad_words g c =
    (λ bad. absurd (drill_words _ _ _ c.drilled.ensures bad), λ none. absurd (none c.in-Some.seed ((c.drill_seed.ensures c.in-Some.seed).0 c.in-Some.is)))
