use Rattle.std.proofs.Common.{◌+◌, ◌<◌, ◌∙◌, length, sym, ap, cond, inl, inr, arith}
use Rattle.std.proofs.lemmas.Bool.{cases_Bool, eqb-false, cond-false}
use Rattle.cookie_refs.specs.Inside.{live_of}
use Rattle.std.specs.Prelude.{◌==◌}
use Rattle.std.proofs.lemmas.List.Elements.{All-push, All-weaker}
use Rattle.std.proofs.lemmas.List.Quantifiers.{all_pairs_push}
use Rattle.cookie_refs.specs.declared.refs.CookieCount.{CookieCount}
use Rattle.cookie_refs.proofs.Counts.{All-kept, count-entries, count_in-next, count_in-kept, count_in-push, length-live_push, live_of-kept, kept, rising-kept}
use Rattle.cookie_refs.proofs.LiveCookies.{live_count-agreed, live_count-counted}
use Rattle.cookie_refs.proofs.refs.CookieRefs.make.Goals as goal

pub returns-then-self-clause-full : goal.returns-then-self-clause-full
returns-then-self-clause-full c =
    let count = live_count-counted c.self.inside c.self.invariant in
    rw (← c.self.view_is) (grind (arith, count))

pub returns-clause-full : goal.returns-clause-full
returns-clause-full c =
    let count = live_count-counted c.self.inside c.self.invariant in
    rw (← c.self.view_is) (grind (arith, count))

pub returns-then-self-clause-unused : goal.returns-then-self-clause-unused
returns-then-self-clause-unused c =
    let sound = c.self.invariant in
    rw (← c.self.view_is)
    (count-entries c.self.inside.cookies.items sound.rising c.self.inside.next ∙ count_in-next c.self.inside.cookies.items c.self.inside.next sound.below_next)

pub returns-then-self-clause-tasks : goal.returns-then-self-clause-tasks
returns-then-self-clause-tasks c = rw (← c.self.view_is) (live_count-agreed c.self.inside c.self.invariant)

pub returns-clause-tasks : goal.returns-clause-tasks
returns-clause-tasks c = rw (← c.self.view_is) (live_count-agreed c.self.inside c.self.invariant)

-- as those that are live are fewer than the room, there is room once those that ended are taken out
pub push-requires : goal.push-requires
push-requires c =
    let sound = c.self.invariant in
    let cookies = c.self.inside.cookies in
    let live : length (live_of cookies.items) < cookies.room = omega (arith, sound.counted, sound.few, sound.room, c.if-self.false) in
    record {
      room = elim (cases_Bool (length cookies.items == cookies.room)) [
        | inl full ↦ rw (c.take_out_ended.ensures.items, c.take_out_ended.ensures.room, full) live
        | inr spare ↦ omega (arith, c.take_out_ended.ensures.fits, c.take_out_ended.ensures.room, eqb-false _ _ spare, ap length (c.take_out_ended.ensures.items ∙ cond-false _ _ _ spare))
      ];
    }

-- the new serial is above all others
pub invariant_of-self : goal.invariant_of-self
invariant_of-self c =
    let sound = c.self.invariant in
    let next = c.self.inside.next in
    let full = length c.self.inside.cookies.items == c.self.inside.cookies.room in
    let cookies = c.self.inside.cookies.items in
    let left = kept full cookies in
    let more = rw c.take_out_ended.ensures.items at c.push.ensures.items in
    let lower : (one : CookieCount) → one.cookie < next → one.cookie < next + 1 = λ one lt. omega arith in
    let below = All-kept full cookies (λ one. one.cookie < next) sound.below_next in
    let new : CookieCount = record { cookie = next; count = 1 } in
    record {
      rising = rw more (all_pairs_push (λ one other. one.cookie < other.cookie) left new (rising-kept full cookies sound.rising) below);
      above_0 = rw more (All-push (λ one. 0 < one.cookie) left new (All-kept full cookies (λ one. 0 < one.cookie) sound.above_0) sound.next_above_0);
      below_next = rw more (All-push (λ one. one.cookie < next + 1) left new (All-weaker (λ one. one.cookie < next) _ lower left below) (omega arith));
      next_above_0 = omega arith;
      counted = rw more (omega (arith, length-live_push left next, ap length (live_of-kept full cookies), sound.counted));
      few = omega arith;
      limit_fits = sound.limit_fits;
      room = omega arith;
    }

pub returns-clause-unused : goal.returns-clause-unused
returns-clause-unused c =
    let sound = c.self.invariant in
    rw (← c.self.view_is)
    (count-entries c.self.inside.cookies.items sound.rising c.self.inside.next ∙ count_in-next c.self.inside.cookies.items c.self.inside.next sound.below_next)

pub returns-clause-counts : goal.returns-clause-counts
returns-clause-counts c cookie =
    let sound = c.self.invariant in
    let next = c.self.inside.next in
    let full = length c.self.inside.cookies.items == c.self.inside.cookies.room in
    let cookies = c.self.inside.cookies.items in
    let left = kept full cookies in
    let new : CookieCount = record { cookie = next; count = 1 } in
    let below = All-kept full cookies (λ one. one.cookie < next) sound.below_next in
    let rising = all_pairs_push (λ (one other : CookieCount). one.cookie < other.cookie) left new (rising-kept full cookies sound.rising) below in
    rw (c.push.ensures.items, c.take_out_ended.ensures.items, ← c.self.view_is)
    (count-entries _ rising cookie
    ∙ count_in-push left next cookie (count_in-next left next below)
    ∙ ap (cond (cookie == next) 1) (count_in-kept full cookies cookie ∙ sym (count-entries cookies sound.rising cookie)))

pub returns-clause-live : goal.returns-clause-live
returns-clause-live c =
    rw (← c.self.view_is)
    (live_count-counted _ (invariant_of-self c) ∙ ap (λ n. n + 1) (sym (live_count-counted c.self.inside c.self.invariant)))
