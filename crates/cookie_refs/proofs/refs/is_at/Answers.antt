use Rattle.std.proofs.Common.{length, sym, ap, ◌∙◌}
use Rattle.std.proofs.lemmas.Bool.{ltb-true, eqb-true}
use Rattle.cookie_refs.specs.declared.refs.CookieCount.{CookieCount}
use Rattle.cookie_refs.proofs.Counts.{at_index}
use Rattle.cookie_refs.proofs.refs.is_at.Goals as goal

pub returns-in-Some : goal.returns-in-Some
returns-in-Some c same =
    let live = c.args.cookies.now in
    let there = c.in-Some.ensures.lookup in
    at_index live c.requires c.args.cookie c.args.index (ltb-true c.args.index (length live) (sym there.0))
    (λ d. ap (λ (one : CookieCount). one.cookie) (sym (there.3.1 d)) ∙ eqb-true _ c.args.cookie same)
