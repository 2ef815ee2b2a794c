use Rattle.std.specs.List.{IsFirstBest}
use Rattle.sibling_priority.specs.Offers.{is_higher_offer}
use Rattle.sibling_priority.proofs.order.lead.Given as goal

abbrev pub invariant-loop-index : goal.invariant-loop-index
invariant-loop-index l = IsFirstBest is_higher_offer l.offers l.index l.best
