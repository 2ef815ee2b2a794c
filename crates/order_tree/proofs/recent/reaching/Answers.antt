use Rattle.std.proofs.Common.{Some, None, sym, ap, ◌∙◌, arith}
use Rattle.std.proofs.lemmas.Bool.{cond-true, cond-false}
use Rattle.order_tree.specs.Branch.{reaches}
use Rattle.order_tree.specs.Order.{Entry, key_cmp}
use Rattle.order_tree.specs.Recent.{reaching}
use Rattle.order_tree.proofs.recent.reaching.Goals as goal

pub returns-in_default-clause-reaching : goal.returns-in_default-clause-reaching
returns-in_default-clause-reaching g c = sym (ap (reaching c.args.at c.args.key.now) c.in_default.is)

pub returns-then-reaches-clause-reaching : goal.returns-then-reaches-clause-reaching
returns-then-reaches-clause-reaching g c =
    let entry : Entry = (c.in-Some.other, c.in-Some.field-0-1) in
    let passes = ap (reaches c.args.at) (sym c.cmp.ensures) ∙ sym c.reaches.ensures ∙ c.if-reaches.true in
    c.in-Some.is ∙ sym (cond-true (reaches c.args.at (key_cmp entry.0 c.args.key.now)) (Some entry) None passes)
    ∙ sym (ap (reaching c.args.at c.args.key.now) c.in-Some.is)

pub returns-then-reaches-clause-counted : goal.returns-then-reaches-clause-counted
returns-then-reaches-clause-counted g c = omega (arith, c.tick.ensures)

pub returns-else-reaches-clause-reaching : goal.returns-else-reaches-clause-reaching
returns-else-reaches-clause-reaching g c =
    let entry : Entry = (c.in-Some.other, c.in-Some.field-0-1) in
    let fails = ap (reaches c.args.at) (sym c.cmp.ensures) ∙ sym c.reaches.ensures ∙ c.if-reaches.false in
    sym (cond-false (reaches c.args.at (key_cmp entry.0 c.args.key.now)) (Some entry) None fails)
    ∙ sym (ap (reaching c.args.at c.args.key.now) c.in-Some.is)

pub returns-else-reaches-clause-counted : goal.returns-else-reaches-clause-counted
returns-else-reaches-clause-counted g c = omega (arith, c.tick.ensures)
