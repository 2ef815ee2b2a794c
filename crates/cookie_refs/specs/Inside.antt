-- Inside: how the counts are stored, and what always holds of them.
use Rattle.std.specs.Prelude.{◌≡◌, ℕ, ◌*◌, ◌^◌, ◌<◌, ◌≤◌, ◌==◌, not, if◌then◌else◌, List, map, length, slice_index_or, sum_by, All, AllPairs}
use Rattle.std.specs.List.{filter}
use Rattle.std.specs.FinMap.{from_sorted}
use Rattle.cookie_refs.specs.declared.refs.CookieCount.{CookieCount}
use Rattle.cookie_refs.specs.declared.refs.CookieRefs.TheInside.{Inside}
use Rattle.cookie_refs.specs.Refs.{Refs}

-- the live ones of the cookies that are kept: those with a reference
abbrev pub live_of : List CookieCount → List CookieCount
live_of cookies = filter (λ one. not (one.count == 0)) cookies

-- cookies with their counts, as the entries of a map
abbrev pub entries_of : List CookieCount → List (ℕ × ℕ)
entries_of cookies = map (λ one. (one.cookie, one.count)) cookies

-- what contracts see of it
abbrev pub refs_of : Inside → Refs
refs_of refs = record { counts = from_sorted (entries_of (live_of refs.cookies.items)); next = refs.next; limit = refs.limit }

-- The serials rise.
abbrev pub IsRising : List CookieCount → Type 0
IsRising cookies = AllPairs (λ one other. one.cookie < other.cookie) cookies

-- None of them is 0.
abbrev pub AreCookies : List CookieCount → Type 0
AreCookies cookies = All (λ one. 0 < one.cookie) cookies

-- The serials rise from 1 up to the next. The live ones are counted, and there are at most as many as the limit.
pub record IsSound (refs : Inside) : Type 0 where
  pub rising : IsRising refs.cookies.items
  pub above_0 : AreCookies refs.cookies.items
  pub below_next : All (λ one. one.cookie < refs.next) refs.cookies.items
  pub next_above_0 : 0 < refs.next
  pub counted : refs.live ≡ length (live_of refs.cookies.items)
  pub few : refs.live ≤ refs.limit
  pub limit_fits : refs.limit < 2 ^ 16
  -- so one more can be made, if those that ended are taken out
  pub room : 2 * refs.limit ≤ refs.cookies.room

-- how many references a cookie has among these
abbrev pub count_in : List CookieCount → ℕ → ℕ
count_in cookies cookie = sum_by (λ one. if one.cookie == cookie then one.count else 0) cookies

-- the index of a cookie among these
pub record IsAt (cookies : List CookieCount) (cookie index : ℕ) : Type 0 where
  pub in_range : index < length cookies
  pub cookie_there : (d : CookieCount) → (slice_index_or cookies index d).cookie ≡ cookie
  pub count_there : (d : CookieCount) → (slice_index_or cookies index d).count ≡ count_in cookies cookie
