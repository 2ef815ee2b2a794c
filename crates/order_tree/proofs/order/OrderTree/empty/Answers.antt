use Rattle.std.proofs.Common.{[], ◌∙◌, ap, refl}
use Rattle.std.specs.FinMap.{empty_of_len, from_sorted}
use Rattle.cs_types.proofs.Queues.{len-from_sorted}
use Rattle.order_tree.specs.Order.{key_cmp}
use Rattle.order_tree.proofs.order.OrderTree.empty.Goals as goal

pub returns-clause-members : goal.returns-clause-members
returns-clause-members c = ap (from_sorted {R = key_cmp}) c.empty.ensures.entries ∙ empty_of_len _ (len-from_sorted key_cmp [] refl)
