use Rattle.std.proofs.Common.{rules, ◌≡◌, ◌∙◌, ◌≤◌, ap, get_or, sym, subst}
use Rattle.std.proofs.lemmas.List.{get_or_default}
use Rattle.cs_types.specs.Time.{weights, weight_index, weight_of}
use Rattle.cs_types.proofs.Growth.{weight_of-ge}
use Rattle.fair_queue.proofs.weights.weight.Goals as goal

pub returns-clause-weight : goal.returns-clause-weight
unfolding weight_of
returns-clause-weight c =
    let place : c.weight_index.result ≡ weight_index c.args.nice = search rules in
    get_or_default weights c.weight_index.result 0 1024 c.weight_index.ensures.below ∙ ap (λ n. get_or weights n 1024) place

pub returns-clause-least : goal.returns-clause-least
returns-clause-least c = subst (λ n. 15 ≤ n) (sym (returns-clause-weight c)) (weight_of-ge c.args.nice)
