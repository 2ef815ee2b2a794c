use Rattle.scenario_runner.proofs.command.check.Goals as goal

pub returns-in-Some-clause-bad_words : goal.returns-in-Some-clause-bad_words
returns-in-Some-clause-bad_words g c =
    (λ bad. absurd (c.checked.ensures.devices.good_words bad), λ none. absurd (none c.in-Some.json ((c.check_json.ensures c.in-Some.json).0 c.in-Some.is)))
