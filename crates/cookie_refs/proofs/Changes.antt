-- One count changes, as by `get` and `put`: what becomes of the counts, and that what always holds does so still.
use Rattle.std.proofs.Common.{◌≡◌, ◌≢◌, ℕ, ◌+◌, ◌<◌, cond, get_or, sym, ap, ◌∙◌, arith}
use Rattle.std.specs.Prelude.{◌==◌}
use Rattle.bounded_list.specs.Bounded.{with_item}
use Rattle.std.proofs.lemmas.Bool.Decides.{nat_tests}
use Rattle.std.proofs.lemmas.List.Elements.{All-set}
use Rattle.std.proofs.lemmas.List.Sums.{get_or-le-sum_by, length-filter}
use Rattle.cookie_refs.specs.declared.places.Places.{Places}
use Rattle.cookie_refs.specs.declared.refs.CookieCount.{CookieCount}
use Rattle.cookie_refs.specs.declared.refs.CookieRefs.TheInside.{Inside}
use Rattle.cookie_refs.specs.Inside.{IsAt, IsSound, count_in, refs_of}
use Rattle.cookie_refs.specs.Refs.{count_of}
use Rattle.cookie_refs.proofs.Counts.{count-entries, count-set, is_live, length-live_set, rising-set}

module _ (refs : Inside) (sound : IsSound refs) (cookie index : ℕ) (at : IsAt refs.cookies.items cookie index)
    (one : CookieCount) (is : one ≡ get_or refs.cookies.items index one) (live : cookie ≢ 0 → 0 < count_of (refs_of refs) cookie) where
  same : one.cookie ≡ cookie
  same = ap (λ (one : CookieCount). one.cookie) is ∙ at.cookie_there one

  own : one.count ≡ count_in refs.cookies.items cookie
  own = ap (λ (one : CookieCount). one.count) is ∙ at.count_there one

  -- the entry that is found has the count of its cookie
  pub found_count : one.count ≡ count_of (refs_of refs) cookie
  found_count = own ∙ sym (count-entries refs.cookies.items sound.rising cookie)

  -- which has a reference
  pub found_above_0 : 0 < one.count
  found_above_0 =
      let above = sound.above_0 index one at.in_range in
      omega (arith, found_count, live (λ zero. omega (arith, above, at.cookie_there one, zero)))

  -- so one is live
  pub live_above_0 : 0 < refs.live
  live_above_0 =
      let term = get_or-le-sum_by (λ one. cond (is_live one) 1 0) refs.cookies.items index one at.in_range in
      let here = ap (λ (one : CookieCount). one.count) is in
      grind (arith, nat_tests, term, here, found_above_0, length-filter is_live refs.cookies.items, sound.counted)

  module _ (count : ℕ) (places : Places) (number : ℕ) where
    abbrev changed : Inside
    changed = record refs { cookies = with_item refs.cookies index (record { cookie = one.cookie; count = count }); places = places; live = number }

    -- no other count changes
    pub count_of-changed : (other : ℕ) →
        count_of (refs_of changed) other + cond (other == cookie) one.count 0 ≡ count_of (refs_of refs) other + cond (other == cookie) count 0
    count_of-changed other =
        let counts = count-set refs.cookies.items sound.rising cookie index at (record { cookie = one.cookie; count = count }) same other in
        grind (arith, nat_tests, counts, own)

    -- the live ones are still counted
    pub IsSound-changed : number + 1 ≡ refs.live + cond (count == 0) 0 1 → IsSound changed
    IsSound-changed counts =
        let kept = refs.cookies.items in
        let new : CookieCount = record { cookie = one.cookie; count = count } in
        let length_now = length-live_set kept sound.rising cookie index at new same in
        record {
          rising = rising-set kept sound.rising cookie index at new same;
          above_0 = All-set (λ one. 0 < one.cookie) kept index new (omega (arith, same, sound.above_0 index one at.in_range, at.cookie_there one)) sound.above_0;
          below_next =
              All-set (λ one. one.cookie < refs.next) kept index new (omega (arith, same, sound.below_next index one at.in_range, at.cookie_there one)) sound.below_next;
          next_above_0 = sound.next_above_0;
          counted = grind (arith, nat_tests, length_now, counts, own, found_above_0, sound.counted);
          few = grind (arith, nat_tests, counts, sound.few);
          limit_fits = sound.limit_fits;
          room = sound.room;
        }
