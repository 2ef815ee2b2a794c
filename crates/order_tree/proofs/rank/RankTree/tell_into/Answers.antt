use Rattle.std.proofs.Common.{ℕ, List, ◌++◌, sym, ap, subst, arith}
use Rattle.std.specs.FinMap.{len}
use Rattle.std.specs.List.Sorted.{IsPermutation}
use Rattle.cs_types.specs.Queue.{Ranked}
use Rattle.order_tree.proofs.Ranks.{len-ranked, told-ranked}
use Rattle.order_tree.proofs.rank.RankTree.tell_into.Goals as goal

pub returns : goal.returns
returns g c =
    let old = g.M.Movers.told c.args.movers.now in
    let new = g.M.Movers.told c.tell_into.new.movers in
    record {
      told = rw (← c.self.view_is)
          (subst (λ (told : List (ℕ × ℕ)). IsPermutation (old ++ told) new)
          (sym (told-ranked c.self.inside.tree.members c.self.invariant)) c.tell_into.ensures.told);
    }

pub tell_into-requires : goal.tell_into-requires
tell_into-requires g c =
    let tree = c.self.inside.tree in
    record { fits = omega (arith, len-ranked tree.members c.self.invariant, ap (λ (queue : Ranked). len queue.members) c.self.view_is, c.requires.fits) }
