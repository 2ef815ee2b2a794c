use Rattle.std.proofs.Common.{◌∙◌, sym}
use Rattle.cookie_refs.proofs.LiveCookies.{live_count-agreed, live_count-counted}
use Rattle.cookie_refs.proofs.refs.CookieRefs.live.Goals as goal

pub returns-clause-count : goal.returns-clause-count
returns-clause-count c = rw (← c.self.view_is) (sym (live_count-counted c.self.inside c.self.invariant))

pub returns-clause-tasks : goal.returns-clause-tasks
returns-clause-tasks c tasks =
    rw (← c.self.view_is)
    (λ agree. sym (live_count-counted c.self.inside c.self.invariant) ∙ live_count-agreed c.self.inside c.self.invariant tasks agree)
