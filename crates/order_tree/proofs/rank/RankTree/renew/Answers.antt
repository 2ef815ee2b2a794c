use Rattle.std.proofs.Common.{◌≡◌, true, map, sym, subst}
use Rattle.std.specs.FinMap.{entries, is_sorted}
use Rattle.cs_types.specs.Queue.{Ranked}
use Rattle.cs_types.specs.Queue as queue
use Rattle.order_tree.specs.Anew.{reranked}
use Rattle.order_tree.proofs.Ranks.{len-ranked, IsOfClass-anew, rising-anew, ranked-anew}
use Rattle.order_tree.proofs.rank.RankTree.renew.Goals as goal

pub renew-requires : goal.renew-requires
renew-requires g c = record {
  rising =
      rising-anew c.self.inside.tree.members c.self.invariant (g.R.Renewal.at c.args.renewal.now)
      (subst (λ (q : Ranked). is_sorted queue.key_cmp (map (reranked (g.R.Renewal.at c.args.renewal.now)) (entries q.members)) ≡ true) (sym c.self.view_is) c.requires.rising);
}

pub invariant_of-self : goal.invariant_of-self
invariant_of-self g c =
    IsOfClass-anew c.self.inside.tree.members c.self.invariant (g.R.Renewal.at c.args.renewal.now) c.renew.new.self.members c.renew.ensures.entries

pub returns-clause-entries : goal.returns-clause-entries
returns-clause-entries g c =
    rw (← c.self.view_is)
    (ranked-anew c.self.inside.tree.members c.self.invariant (g.R.Renewal.at c.args.renewal.now) c.renew.new.self.members c.renew.ensures.entries)

pub returns-clause-counted : goal.returns-clause-counted
returns-clause-counted g c =
    rw (← c.self.view_is, len-ranked c.self.inside.tree.members c.self.invariant) c.renew.ensures.counted
