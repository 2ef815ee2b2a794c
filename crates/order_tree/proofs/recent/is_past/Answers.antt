use Rattle.std.proofs.Common.{Option, sym, ap, ◌∙◌, arith}
use Rattle.std.specs.Prelude.{not}
use Rattle.order_tree.specs.Order.{Entry}
use Rattle.order_tree.specs.Recent.{is_past}
use Rattle.order_tree.proofs.recent.is_past.Goals as goal

pub returns-in_default-clause-past : goal.returns-in_default-clause-past
returns-in_default-clause-past g c = sym (ap (λ (o : Option Entry). is_past o c.args.key.now) c.in_default.is)

pub returns-clause-past : goal.returns-clause-past
returns-clause-past g c = ap not c.is_below.ensures ∙ sym (ap (λ (o : Option Entry). is_past o c.args.key.now) c.in-Some.is)

pub returns-clause-counted : goal.returns-clause-counted
returns-clause-counted g c = omega (arith, c.tick.ensures)
