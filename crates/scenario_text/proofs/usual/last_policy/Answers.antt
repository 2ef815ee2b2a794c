use Rattle.std.proofs.Common.{◌∙◌, sym}
use Rattle.scenario_text.proofs.UsualLines.{last_policy_is}
use Rattle.scenario_text.proofs.usual.last_policy.Goals as goal

pub returns : goal.returns
returns c =
    last_policy_is c.args.text.now c.in_ok-word.word.now c.in_ok-word.rest.now c.parse_policy.result c.in_ok-policy.policy
    c.in_ok-word.ensures.pieces c.parse_policy.ensures (sym c.ok.ensures.value ∙ c.in_ok-policy.was)
