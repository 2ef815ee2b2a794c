use Rattle.std.proofs.Common.{◌+◌, [], refl, sym, ap, ◌∙◌}
use Rattle.std.specs.FinMap.{empty_of_len, from_sorted}
use Rattle.cs_types.proofs.Queues.{len-from_sorted}
use Rattle.order_tree.specs.Order.{key_cmp}
use Rattle.order_tree.specs.Branch.{Branch}
use Rattle.order_tree.proofs.order.OrderTree.clear.Goals as goal

pub returns-clause-members : goal.returns-clause-members
returns-clause-members g c =
    ap (λ (b : Branch). from_sorted {R = key_cmp} b.entries) c.replace.ensures.after ∙ ap (from_sorted {R = key_cmp}) c.empty.ensures.entries ∙ empty_of_len _ (len-from_sorted key_cmp [] refl)

pub returns-clause-spare : goal.returns-clause-spare
returns-clause-spare g c =
    rw (← c.self.view_is)
    (c.free_all.ensures.spare
    ∙ ap (λ n. c.self.inside.spare + n) (sym (len-from_sorted key_cmp c.self.inside.tree.entries c.self.invariant.rising ∙ c.self.invariant.counted)))
