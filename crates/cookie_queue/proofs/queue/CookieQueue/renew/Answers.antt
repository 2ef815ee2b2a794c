use Rattle.std.proofs.Common.{◌≡◌, true, map, sym, subst}
use Rattle.std.specs.FinMap.{entries, is_sorted}
use Rattle.cs_types.specs.Queue.{Spotted, spot_cmp}
use Rattle.cookie_queue.specs.Anew.{respotted}
use Rattle.cookie_queue.proofs.Cookies.{rising-anew, tasks_of-anew, len-tasks_of}
use Rattle.cookie_queue.proofs.queue.CookieQueue.renew.Goals as goal

pub renew-requires : goal.renew-requires
renew-requires g c = record {
  rising =
      rising-anew c.self.inside.tree.members (g.R.Renewal.at c.args.renewal.now)
      (subst (λ (q : Spotted). is_sorted spot_cmp (map (respotted (g.R.Renewal.at c.args.renewal.now)) (entries q.tasks)) ≡ true) (sym c.self.view_is) c.requires.rising);
}

pub returns-clause-entries : goal.returns-clause-entries
returns-clause-entries g c =
    rw (← c.self.view_is)
    (tasks_of-anew c.self.inside.tree.members (g.R.Renewal.at c.args.renewal.now) c.renew.new.self.members c.renew.ensures.entries)

pub returns-clause-counted : goal.returns-clause-counted
returns-clause-counted g c = rw (← c.self.view_is, len-tasks_of c.self.inside.tree.members) c.renew.ensures.counted
