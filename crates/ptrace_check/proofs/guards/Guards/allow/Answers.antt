use Rattle.std.proofs.Common.{◌≡◌, ◌<◌, ◌∙◌, ap, sym, subst, ℕ, [], ◌∷◌, length, take, take_all, arith}
use Rattle.std.specs.Prelude.{not}
use Rattle.std.proofs.lemmas.Bool.{not-false}
use Rattle.cs_types.specs.Guards.{GuardState, GuardList, guard_of, is_active, refuses, asked_once, asked_each}
use Rattle.ptrace_check.specs.Inside.{guards_in}
use Rattle.ptrace_check.proofs.Askings.{active_at, unasked_at, asked_next, asked_below, refused_at, allowed_next, AreKept-asked_each, asked_until-all}
use Rattle.ptrace_check.proofs.guards.Guards.allow.Goals as goal

pub ask-requires-clause-active : goal.ask-requires-clause-active
ask-requires-clause-active g c =
    let first = guards_in c.self.inside.seats.items c.self.inside.active.items in
    let position = c.loop-position.position in
    let index = c.index-index.result.now in
    let within : position < length c.self.inside.active.items = omega arith in
    let is = rw c.loop-position.invariant.active at c.index-index.ensures in
    let same = ap (λ (guards : GuardList). guard_of guards index) c.loop-position.invariant.asked ∙ unasked_at first _ position index c.self.invariant within is in
    ap (λ (guard : GuardState). is_active guard.place) same ∙ active_at first _ position index c.self.invariant within is

pub ask-requires-clause-count : goal.ask-requires-clause-count
ask-requires-clause-count g c =
    let first = guards_in c.self.inside.seats.items c.self.inside.active.items in
    let position = c.loop-position.position in
    let index = c.index-index.result.now in
    let within : position < length c.self.inside.active.items = omega arith in
    let is = rw c.loop-position.invariant.active at c.index-index.ensures in
    let same = ap (λ (guards : GuardList). guard_of guards index) c.loop-position.invariant.asked ∙ unasked_at first _ position index c.self.invariant within is in
    let few = rw (← c.self.view_is) at c.requires.asked in
    subst (λ (guard : GuardState). guard.asked < 9223372036854775808) (sym same) (asked_below first index 9223372036854775808 (omega arith) few)

pub loop-position-preserved : goal.loop-position-preserved
loop-position-preserved g c =
    let active = c.self.inside.active.items in
    let first = guards_in c.self.inside.seats.items active in
    let position = c.loop-position.position in
    let index = c.index-index.result.now in
    let pair : ℕ × ℕ = (c.args.from, c.args.to) in
    let within : position < length active = omega arith in
    let is = rw c.loop-position.invariant.active at c.index-index.ensures in
    let same = ap (λ (guards : GuardList). guard_of guards index) c.loop-position.invariant.asked ∙ unasked_at first _ position index c.self.invariant within is in
    let allows = ap (λ (guard : GuardState). not (refuses guard pair)) (sym same) ∙ sym c.ask.ensures.decision ∙ c.if-not-ask.false in
    record {
      active = c.loop-position.invariant.active;
      asked =
          ap (λ (guards : GuardList). record guards { active = active }) c.ask.ensures.asked
          ∙ ap (λ (guards : GuardList). asked_once guards index) c.loop-position.invariant.asked
          ∙ asked_next first position index within is;
      caps = c.ask.ensures.caps ∙ c.loop-position.invariant.caps;
      allowed = allowed_next first pair position index within is c.loop-position.invariant.allowed allows;
    }

pub invariant_of-self : goal.invariant_of-self
invariant_of-self g c =
    let active = c.self.inside.active.items in
    rw (c.loop-position.invariant.active, c.loop-position.invariant.asked)
    (AreKept-asked_each (guards_in c.self.inside.seats.items active) _ (take c.loop-position.position active) c.self.invariant)

pub invariant_of-self-then-not-ask : goal.invariant_of-self-then-not-ask
invariant_of-self-then-not-ask g c =
    let active = c.self.inside.active.items in
    let first = guards_in c.self.inside.seats.items active in
    let asked = take c.loop-position.position active in
    let now = ap (λ (guards : GuardList). record guards { active = active }) c.ask.ensures.asked
    ∙ ap (λ (guards : GuardList). asked_once guards c.index-index.result.now) c.loop-position.invariant.asked in
    rw (c.loop-position.invariant.active, now)
    (AreKept-asked_each (asked_each first asked) _ (c.index-index.result.now ∷ []) (AreKept-asked_each first _ asked c.self.invariant))

pub returns-then-not-ask-clause-decision : goal.returns-then-not-ask-clause-decision
returns-then-not-ask-clause-decision g c =
    let active = c.self.inside.active.items in
    let first = guards_in c.self.inside.seats.items active in
    let position = c.loop-position.position in
    let index = c.index-index.result.now in
    let pair : ℕ × ℕ = (c.args.from, c.args.to) in
    let within : position < length active = omega arith in
    let is = rw c.loop-position.invariant.active at c.index-index.ensures in
    let same = ap (λ (guards : GuardList). guard_of guards index) c.loop-position.invariant.asked ∙ unasked_at first _ position index c.self.invariant within is in
    let refused = not-false (refuses (guard_of first index) pair) (ap (λ (guard : GuardState). not (refuses guard pair)) (sym same) ∙ sym c.if-not-ask.ensures.decision) in
    rw (← c.self.view_is) (sym (refused_at first pair position index within is c.loop-position.invariant.allowed refused).0)

pub returns-then-not-ask-clause-asked : goal.returns-then-not-ask-clause-asked
returns-then-not-ask-clause-asked g c =
    let active = c.self.inside.active.items in
    let first = guards_in c.self.inside.seats.items active in
    let position = c.loop-position.position in
    let index = c.index-index.result.now in
    let pair : ℕ × ℕ = (c.args.from, c.args.to) in
    let within : position < length active = omega arith in
    let is = rw c.loop-position.invariant.active at c.index-index.ensures in
    let same = ap (λ (guards : GuardList). guard_of guards index) c.loop-position.invariant.asked ∙ unasked_at first _ position index c.self.invariant within is in
    let refused = not-false (refuses (guard_of first index) pair) (ap (λ (guard : GuardState). not (refuses guard pair)) (sym same) ∙ sym c.if-not-ask.ensures.decision) in
    rw (← c.self.view_is, c.loop-position.invariant.active)
    (ap (λ (guards : GuardList). record guards { active = active }) c.ask.ensures.asked
    ∙ ap (λ (guards : GuardList). asked_once guards index) c.loop-position.invariant.asked
    ∙ asked_next first position index within is
    ∙ ap (asked_each first) (sym (refused_at first pair position index within is c.loop-position.invariant.allowed refused).1))

pub returns-clause-asked : goal.returns-clause-asked
returns-clause-asked g c =
    let active = c.self.inside.active.items in
    let first = guards_in c.self.inside.seats.items active in
    let pair : ℕ × ℕ = (c.args.from, c.args.to) in
    let all : take c.loop-position.position active ≡ active = take_all c.loop-position.position active (omega arith) in
    let allowed = rw all at c.loop-position.invariant.allowed in
    rw (← c.self.view_is, c.loop-position.invariant.active)
    (c.loop-position.invariant.asked
    ∙ ap (asked_each first) (all ∙ sym (asked_until-all (λ (index : ℕ). refuses (guard_of first index) pair) active allowed)))

pub returns-then-not-ask-clause-caps : goal.returns-then-not-ask-clause-caps
returns-then-not-ask-clause-caps g c = rw (← c.self.view_is) (c.ask.ensures.caps ∙ c.loop-position.invariant.caps)

pub returns-clause-decision : goal.returns-clause-decision
returns-clause-decision g c =
    let all = take_all c.loop-position.position c.self.inside.active.items (omega arith) in
    rw (← c.self.view_is) (sym (rw all at c.loop-position.invariant.allowed))

pub returns-clause-caps : goal.returns-clause-caps
returns-clause-caps g c = rw (← c.self.view_is) c.loop-position.invariant.caps
