use Rattle.std.proofs.Common.{Option, sym, ap, ◌∙◌, arith}
use Rattle.std.specs.Ordering.{is_eq}
use Rattle.order_tree.specs.Order.{Entry}
use Rattle.order_tree.specs.Recent.{is_at}
use Rattle.order_tree.proofs.recent.is_at.Goals as goal

pub returns-in_default-clause-at : goal.returns-in_default-clause-at
returns-in_default-clause-at g c = sym (ap (λ (o : Option Entry). is_at o c.args.key.now) c.in_default.is)

pub returns-clause-at : goal.returns-clause-at
returns-clause-at g c = c.is_eq.ensures ∙ ap is_eq c.cmp.ensures ∙ sym (ap (λ (o : Option Entry). is_at o c.args.key.now) c.in-Some.is)

pub returns-clause-counted : goal.returns-clause-counted
returns-clause-counted g c = omega (arith, c.tick.ensures)
