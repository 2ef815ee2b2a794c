use Rattle.std.proofs.Common.{◌∙◌, not, sym, rules}
use Rattle.std.specs.Prelude.{◌==◌}
use Rattle.std.proofs.lemmas.Bool.{cond-true}
use Rattle.std.proofs.lemmas.Fn.{filter_same}
use Rattle.cookie_refs.specs.declared.refs.CookieCount.{CookieCount}
use Rattle.cookie_refs.proofs.refs.take_out_ended.Goals as goal

-- the closure tells whether one has a reference
pub returns-then-is_full-clause-items : goal.returns-then-is_full-clause-items
returns-then-is_full-clause-items c =
    filter_same _ (λ (one : CookieCount). not (one.count == 0)) _ (λ x b f t. search rules) _ _ c.retain.ensures.filtered
    ∙ sym (cond-true _ _ _ (sym c.if-is_full.ensures.full))
