use Rattle.std.proofs.Common.{◌+◌, ◌∙◌, sym, inl, inr, arith}
use Rattle.std.proofs.lemmas.Bool.{cases_eq}
use Rattle.std.proofs.lemmas.Bool.Decides.{nat_tests}
use Rattle.cookie_refs.proofs.Changes.{IsSound-changed, count_of-changed, found_count}
use Rattle.cookie_refs.proofs.Counts.{count-entries}
use Rattle.cookie_refs.proofs.LiveCookies.{live_count-counted}
use Rattle.cookie_refs.proofs.refs.CookieRefs.get.Goals as goal

pub overflow_add-index_mut : goal.overflow_add-index_mut
overflow_add-index_mut c =
    let live = rw (← c.self.view_is) at c.requires.live in
    let count = found_count c.self.inside c.self.invariant c.args.cookie c.in-Some.index (rw (← c.deref.ensures.value) c.in-Some.ensures.found)
    c.index_mut.result.now c.index_mut.ensures.value live in
    omega (arith, count, rw (← c.self.view_is) at c.requires.few)

-- as many are live as before
pub invariant_of-self : goal.invariant_of-self
invariant_of-self c =
    let live = rw (← c.self.view_is) at c.requires.live in
    IsSound-changed c.self.inside c.self.invariant c.args.cookie c.in-Some.index (rw (← c.deref.ensures.value) c.in-Some.ensures.found)
    c.index_mut.result.now c.index_mut.ensures.value live (c.index_mut.result.now.count + 1) c.find.new.places c.self.inside.live
    (grind (arith, nat_tests))

pub returns-in-Some-clause-counts : goal.returns-in-Some-clause-counts
returns-in-Some-clause-counts c other =
    let live = rw (← c.self.view_is) at c.requires.live in
    let counts = count_of-changed c.self.inside c.self.invariant c.args.cookie c.in-Some.index (rw (← c.deref.ensures.value) c.in-Some.ensures.found)
    c.index_mut.result.now c.index_mut.ensures.value live (c.index_mut.result.now.count + 1) c.find.new.places c.self.inside.live other in
    rw (← c.self.view_is) (grind (arith, nat_tests, counts))

pub returns-in-Some-clause-live : goal.returns-in-Some-clause-live
returns-in-Some-clause-live c =
    rw (← c.self.view_is) (live_count-counted _ (invariant_of-self c) ∙ sym (live_count-counted c.self.inside c.self.invariant))

pub returns-in_default-clause-counts : goal.returns-in_default-clause-counts
returns-in_default-clause-counts c other =
    let none = count-entries c.self.inside.cookies.items c.self.invariant.rising c.args.cookie ∙ rw c.deref.ensures.value at c.in_default.ensures.none in
    let there = rw (← c.self.view_is) at c.requires.live in
    rw (← c.self.view_is) (elim (cases_eq c.args.cookie 0) [
      | inl no_cookie ↦ grind (arith, nat_tests)
      | inr cookie ↦ absurd (omega (arith, there cookie, none))
    ])
