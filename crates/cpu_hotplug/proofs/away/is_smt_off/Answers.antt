use Rattle.std.proofs.Common.{◌≡◌, ◌+◌, ◌<◌, ◌≤◌, ◌∙◌, ℕ, zero, suc, Bool, true, false, cond, List, [], ◌∷◌, length, take, get_or, refl, ap, sym, subst, arith}
use mir.Val.{bool_byte}
use Rattle.std.specs.Prelude.{filter}
use Rattle.std.proofs.lemmas.List.{take_all}
use Rattle.std.proofs.lemmas.Bool.{lt-ltb, le-ltb}
use Rattle.core_lanes.specs.declared.lane.Lane.{Lane}
use Rattle.core_lanes.proofs.Onlines.{length-online}
use Rattle.cpu_hotplug.proofs.away.is_smt_off.Goals as goal

-- a test as a number
as_number : (b : Bool) → bool_byte b ≡ cond b 1 0
as_number true = refl
as_number false = refl

-- those up to one, and that one, are no more than all
module _ {Q : Type 0} where
  here : (lane : Lane Q) (lanes : List (Lane Q)) (b : Bool) → 0 + cond b 1 0 ≤ length (cond b (lane ∷ lanes) lanes)
  here lane lanes true = omega arith
  here lane lanes false = omega arith

  further : (lane : Lane Q) (some all : List (Lane Q)) (n : ℕ) (b : Bool) → length some + n ≤ length all →
      length (cond b (lane ∷ some) some) + n ≤ length (cond b (lane ∷ all) all)
  further lane some all n true few = omega (arith, few)
  further lane some all n false few = few

  with_one : (lanes : List (Lane Q)) (i : ℕ) (lane : Lane Q) → i < length lanes → lane ≡ get_or lanes i lane →
      length (filter (λ lane. lane.online) (take i lanes)) + cond lane.online 1 0 ≤ length (filter (λ lane. lane.online) lanes)
  with_one [] i lane within is = absurd (omega arith)
  with_one (first ∷ lanes) zero lane within is =
      subst (λ (one : Lane Q). 0 + cond one.online 1 0 ≤ length (filter (λ lane. lane.online) (first ∷ lanes))) (sym is) (here first (filter (λ lane. lane.online) lanes) first.online)
  with_one (first ∷ lanes) (suc i) lane within is =
      further first (filter (λ lane. lane.online) (take i lanes)) (filter (λ lane. lane.online) lanes) (cond lane.online 1 0) first.online (with_one lanes i lane (omega arith) is)

pub returns-then-count-eq2 : goal.returns-then-count-eq2
returns-then-count-eq2 g c beside table =
    let lanes = c.args.core.now.lanes.items in
    let all = length-online beside (c.args.core.now, table) in
    let some = with_one lanes c.loop-lane.lane-index c.lane-item.result (omega (arith, c.loop-lane-test.true, ap length c.deref-lane-items.ensures.value))
    (c.lane-item.is ∙ ap (λ (ls : List (Lane g.row.Q.Denot)). get_or ls c.loop-lane.lane-index c.lane-item.result) c.deref-lane-items.ensures.value) in
    sym (le-ltb _ _ (omega (arith, some, all, c.loop-lane.invariant.counted, c.if-count-eq2.true, c.from-count.ensures, as_number c.lane-item.result.online)))

pub returns : goal.returns
returns g c beside table =
    let lanes = c.args.core.now.lanes.items in
    let past : length lanes ≤ c.loop-lane.lane-index = omega (arith, c.loop-lane-test.false, ap length c.deref-lane-items.ensures.value) in
    let all =
    c.loop-lane.invariant.counted
    ∙ ap (λ (ls : List (Lane g.row.Q.Denot)). length (filter (λ lane. lane.online) ls)) (take_all c.loop-lane.lane-index lanes past)
    ∙ length-online beside (c.args.core.now, table) in
    sym (lt-ltb _ _ (omega (arith, all, c.loop-lane.invariant.few)))
