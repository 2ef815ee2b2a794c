use Rattle.std.proofs.Common.{◌++◌, List, map, sym, ap, ◌∙◌, arith}
use Rattle.std.specs.FinMap.{entries-from_sorted, len}
use Rattle.cs_types.proofs.Queues.{said, len-from_sorted}
use Rattle.order_tree.specs.Order.{Entry, Ordered, key_cmp, stamped}
use Rattle.order_tree.proofs.order.OrderTree.tell_into.Goals as goal

pub tell-requires : goal.tell-requires
tell-requires g c =
    let es = c.self.inside.tree.entries in
    record { fits = omega (arith, len-from_sorted key_cmp es c.self.invariant.rising, ap (λ (tree : Ordered). len tree.members) c.self.view_is, c.requires.fits) }

pub returns : goal.returns
returns g c =
    let old = g.M.Movers.told c.args.movers.now in
    record {
      told = rw (← c.self.view_is)
          (c.tell.ensures.told
          ∙ ap (λ (es : List Entry). old ++ map stamped es) (sym (entries-from_sorted key_cmp c.self.inside.tree.entries (said c.self.invariant.rising))));
    }
