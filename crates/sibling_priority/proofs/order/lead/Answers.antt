use Rattle.std.proofs.Common.{◌≡◌, ℕ, length, sym, ◌∙◌, arith, subst}
use Rattle.std.specs.List.{IsFirstBest}
use Rattle.sibling_priority.specs.declared.offer.Offer.{Offer}
use Rattle.sibling_priority.specs.Offers.{is_higher_offer}
use Rattle.sibling_priority.proofs.Ranks.{is_higher_offer_is_order}
use Rattle.sibling_priority.proofs.Leads.{first_best_takes, first_best_keeps, position-first_best}
use Rattle.sibling_priority.proofs.Firsts.{foremost-offers}
use Rattle.sibling_priority.proofs.order.lead.Goals as goal
use Rattle.sibling_priority.proofs.order.lead.Goals.{then-higher, else-higher}

-- what a read past the end would give
abbrev blank : Offer
blank = record { cpu = 0; pid = 0; class = 0; rank = 0; snapshot = 0 }

pub loop-index-preserved : goal.loop-index-preserved
loop-index-preserved c =
    let so_far = c.loop-index.invariant in
    let within = c.loop-index-test.true in
    elim c.if-higher.branch [
      | then-higher w ↦ rw w.best-is (first_best_takes is_higher_offer_is_order c.args.offers.now blank c.loop-index.index c.loop-index.best
          so_far within (sym c.higher.ensures.order ∙ w.if-higher.true))
      | else-higher w ↦ rw w.best-is (first_best_keeps is_higher_offer_is_order c.args.offers.now blank c.loop-index.index c.loop-index.best
          so_far within (sym c.higher.ensures.order ∙ w.if-higher.false))
    ]

-- at the end the scan has seen every offer
seen : (c : goal.After-loop-index) → IsFirstBest is_higher_offer c.args.offers.now (length c.args.offers.now) c.loop-index.best
seen c =
    let same : c.loop-index.index ≡ length c.args.offers.now = omega arith in
    subst (λ (n : ℕ). IsFirstBest is_higher_offer c.args.offers.now n c.loop-index.best) same c.loop-index.invariant

pub returns-clause-first : goal.returns-clause-first
returns-clause-first c = position-first_best is_higher_offer c.args.offers.now c.loop-index.best blank (seen c)

pub returns-clause-model : goal.returns-clause-model
returns-clause-model c snapshot firsts are = foremost-offers snapshot firsts c.args.offers.now are c.loop-index.best (seen c)
