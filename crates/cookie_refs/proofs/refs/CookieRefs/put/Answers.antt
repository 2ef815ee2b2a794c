use Rattle.std.proofs.Common.{◌-◌, ◌∙◌, inl, inr, arith}
use Rattle.std.proofs.lemmas.Bool.{cases_eq}
use Rattle.std.proofs.lemmas.Bool.Decides.{nat_tests}
use Rattle.cookie_refs.proofs.Changes.{IsSound-changed, count_of-changed, found_above_0, found_count, live_above_0}
use Rattle.cookie_refs.proofs.Counts.{count-entries}
use Rattle.cookie_refs.proofs.LiveCookies.{live_count-counted}
use Rattle.cookie_refs.proofs.refs.CookieRefs.put.Goals as goal

pub overflow_sub-counted : goal.overflow_sub-counted
overflow_sub-counted c =
    found_above_0 c.self.inside c.self.invariant c.args.cookie c.in-Some.index (rw (← c.deref.ensures.value) c.in-Some.ensures.found)
    c.index_mut-counted.result.now c.index_mut-counted.ensures.value (rw (← c.self.view_is) at c.requires)

pub overflow_sub-self : goal.overflow_sub-self
overflow_sub-self c =
    live_above_0 c.self.inside c.self.invariant c.args.cookie c.in-Some.index (rw (← c.deref.ensures.value) c.in-Some.ensures.found)
    c.index_mut-counted.result.now c.index_mut-counted.ensures.value (rw (← c.self.view_is) at c.requires)

-- the last reference ends the cookie
pub invariant_of-self : goal.invariant_of-self
invariant_of-self c =
    let some = live_above_0 c.self.inside c.self.invariant c.args.cookie c.in-Some.index (rw (← c.deref.ensures.value) c.in-Some.ensures.found)
    c.index_mut-counted.result.now c.index_mut-counted.ensures.value (rw (← c.self.view_is) at c.requires) in
    IsSound-changed c.self.inside c.self.invariant c.args.cookie c.in-Some.index (rw (← c.deref.ensures.value) c.in-Some.ensures.found)
    c.index_mut-counted.result.now c.index_mut-counted.ensures.value (rw (← c.self.view_is) at c.requires) (c.index_mut-counted.result.now.count - 1) c.find.new.places (c.self.inside.live - 1)
    (grind (arith, nat_tests, some))

pub invariant_of-self-else-counted-eq0 : goal.invariant_of-self-else-counted-eq0
invariant_of-self-else-counted-eq0 c =
    IsSound-changed c.self.inside c.self.invariant c.args.cookie c.in-Some.index (rw (← c.deref.ensures.value) c.in-Some.ensures.found)
    c.index_mut-counted.result.now c.index_mut-counted.ensures.value (rw (← c.self.view_is) at c.requires) (c.index_mut-counted.result.now.count - 1) c.find.new.places c.self.inside.live
    (grind (arith, nat_tests))

pub returns-then-counted-eq0-clause-counts : goal.returns-then-counted-eq0-clause-counts
returns-then-counted-eq0-clause-counts c other =
    let above = found_above_0 c.self.inside c.self.invariant c.args.cookie c.in-Some.index (rw (← c.deref.ensures.value) c.in-Some.ensures.found)
    c.index_mut-counted.result.now c.index_mut-counted.ensures.value (rw (← c.self.view_is) at c.requires) in
    let counts = count_of-changed c.self.inside c.self.invariant c.args.cookie c.in-Some.index (rw (← c.deref.ensures.value) c.in-Some.ensures.found)
    c.index_mut-counted.result.now c.index_mut-counted.ensures.value (rw (← c.self.view_is) at c.requires) (c.index_mut-counted.result.now.count - 1) c.find.new.places (c.self.inside.live - 1) other in
    rw (← c.self.view_is) (grind (arith, nat_tests, counts, above))

pub returns-then-counted-eq0-clause-live : goal.returns-then-counted-eq0-clause-live
returns-then-counted-eq0-clause-live c =
    let count = found_count c.self.inside c.self.invariant c.args.cookie c.in-Some.index (rw (← c.deref.ensures.value) c.in-Some.ensures.found)
    c.index_mut-counted.result.now c.index_mut-counted.ensures.value (rw (← c.self.view_is) at c.requires) in
    let some = live_above_0 c.self.inside c.self.invariant c.args.cookie c.in-Some.index (rw (← c.deref.ensures.value) c.in-Some.ensures.found)
    c.index_mut-counted.result.now c.index_mut-counted.ensures.value (rw (← c.self.view_is) at c.requires) in
    let above = found_above_0 c.self.inside c.self.invariant c.args.cookie c.in-Some.index (rw (← c.deref.ensures.value) c.in-Some.ensures.found)
    c.index_mut-counted.result.now c.index_mut-counted.ensures.value (rw (← c.self.view_is) at c.requires) in
    rw (← c.self.view_is)
    (grind (arith, nat_tests, count, some, above, live_count-counted _ (invariant_of-self c), live_count-counted c.self.inside c.self.invariant))

pub returns-else-counted-eq0-clause-counts : goal.returns-else-counted-eq0-clause-counts
returns-else-counted-eq0-clause-counts c other =
    let counts = count_of-changed c.self.inside c.self.invariant c.args.cookie c.in-Some.index (rw (← c.deref.ensures.value) c.in-Some.ensures.found)
    c.index_mut-counted.result.now c.index_mut-counted.ensures.value (rw (← c.self.view_is) at c.requires) (c.index_mut-counted.result.now.count - 1) c.find.new.places c.self.inside.live other in
    rw (← c.self.view_is) (grind (arith, nat_tests, counts))

pub returns-else-counted-eq0-clause-live : goal.returns-else-counted-eq0-clause-live
returns-else-counted-eq0-clause-live c =
    let count = found_count c.self.inside c.self.invariant c.args.cookie c.in-Some.index (rw (← c.deref.ensures.value) c.in-Some.ensures.found)
    c.index_mut-counted.result.now c.index_mut-counted.ensures.value (rw (← c.self.view_is) at c.requires) in
    rw (← c.self.view_is)
    (grind (arith, nat_tests, count, live_count-counted _ (invariant_of-self-else-counted-eq0 c), live_count-counted c.self.inside c.self.invariant))

pub returns-in_default-clause-counts : goal.returns-in_default-clause-counts
returns-in_default-clause-counts c other =
    let none = count-entries c.self.inside.cookies.items c.self.invariant.rising c.args.cookie ∙ rw c.deref.ensures.value at c.in_default.ensures.none in
    let there = rw (← c.self.view_is) at c.requires in
    rw (← c.self.view_is) (elim (cases_eq c.args.cookie 0) [
      | inl no_cookie ↦ grind (arith, nat_tests)
      | inr cookie ↦ absurd (omega (arith, there cookie, none))
    ])

pub returns-in_default-clause-live : goal.returns-in_default-clause-live
returns-in_default-clause-live c =
    let none = count-entries c.self.inside.cookies.items c.self.invariant.rising c.args.cookie ∙ rw c.deref.ensures.value at c.in_default.ensures.none in
    rw (← c.self.view_is) (grind (arith, nat_tests, none))
