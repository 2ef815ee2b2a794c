use Rattle.std.proofs.Common.{◌∙◌, sym, ap}
use Rattle.cookie_refs.specs.declared.refs.CookieCount.{CookieCount}
use Rattle.cookie_refs.specs.Inside.{IsAt}
use Rattle.cookie_refs.proofs.Counts.{count-entries}
use Rattle.cookie_refs.proofs.refs.CookieRefs.count.Goals as goal

pub returns-in-Some-clause-count : goal.returns-in-Some-clause-count
returns-in-Some-clause-count c =
    let live = c.self.inside.cookies.items in
    let at : IsAt live c.args.cookie c.in-Some.index = rw (← c.deref.ensures.value) c.in-Some.ensures.found in
    rw (← c.self.view_is)
    (ap (λ (one : CookieCount). one.count) c.index.ensures
    ∙ at.count_there c.index.result.now
    ∙ sym (count-entries live c.self.invariant.rising c.args.cookie))

pub returns-in-None-clause-count : goal.returns-in-None-clause-count
returns-in-None-clause-count c =
    let none = rw c.deref.ensures.value at c.in-None.ensures.none in
    rw (← c.self.view_is) (sym (count-entries c.self.inside.cookies.items c.self.invariant.rising c.args.cookie ∙ none))
