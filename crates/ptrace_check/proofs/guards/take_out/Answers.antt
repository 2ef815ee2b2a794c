use Rattle.std.proofs.Common.{rules, not}
use Rattle.std.specs.Prelude.{◌==◌}
use Rattle.std.proofs.lemmas.Fn.{filter_same}
use Rattle.ptrace_check.proofs.guards.take_out.Goals as goal

pub returns-clause-others : goal.returns-clause-others
returns-clause-others c = filter_same _ (λ other. not (other == c.args.index)) _ (λ x b f t. search rules) _ _ c.retain.ensures.filtered
