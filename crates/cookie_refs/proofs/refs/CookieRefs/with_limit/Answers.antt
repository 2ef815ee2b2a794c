use Rattle.std.proofs.Common.{[], ◌∙◌, ap, arith}
use Rattle.std.specs.Prelude.{unwrap_or}
use Rattle.std.specs.Ordering.{nat_cmp}
use Rattle.std.specs.FinMap.{from_sorted, get, len}
use Rattle.cookie_refs.specs.Inside.{IsRising, entries_of, live_of}
use Rattle.cookie_refs.proofs.Counts.{count-entries, len-entries}
use Rattle.cookie_refs.proofs.refs.CookieRefs.with_limit.Goals as goal

rising-none : IsRising []
rising-none i j d lt in_range = absurd (omega arith)

pub returns-clause-counts : goal.returns-clause-counts
returns-clause-counts c cookie =
    ap (λ cookies. unwrap_or (get (from_sorted {R = nat_cmp} (entries_of (live_of cookies))) cookie) 0) c.in_ok-cookies.ensures.items ∙ count-entries [] rising-none cookie

pub returns-clause-live : goal.returns-clause-live
returns-clause-live c = ap (λ cookies. len (from_sorted {R = nat_cmp} (entries_of (live_of cookies)))) c.in_ok-cookies.ensures.items ∙ len-entries [] rising-none
