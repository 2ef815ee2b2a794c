-- Steps: how what is kept goes on by one span, sibling by sibling.
use Rattle.std.proofs.Common.{◌≡◌, ◌≢◌, ℕ, suc, ◌+◌, ◌<◌, Bool, true, false, cond, ltb, List, [], ◌∷◌, ◌++◌, map, get_or, length, refl, sym, ap, ◌∙◌, append_assoc, zero-add, inl, inr, arith, Option, Some, None}
use Rattle.std.specs.Prelude.{filter, not}
use Rattle.std.specs.List.{range_with_len}
use Rattle.std.proofs.lemmas.Bool.{cond-true, cond-false, cond_both, lt-ltb, le-ltb, false_from_ne_true, cases_lt, cases_order}
use Rattle.std.proofs.lemmas.List.{append-nil, map-append}
use Rattle.std.proofs.lemmas.List.FromFn.{map-range_with_len_more}
use Rattle.std.proofs.lemmas.List.Elements.{filter-append}
use Rattle.std.proofs.lemmas.List.Sums.{sum_by-append}
use Rattle.cs_types.specs.Room.{RoomState}
use Rattle.run_times.specs.declared.doing.Doing.{Doing}
use Rattle.run_times.specs.Doing.{doing_of, is_pending}
use Rattle.run_times.specs.Times.{Span, total_time}
use Rattle.run_segments.specs.declared.segments.Segment.{Segment}
use Rattle.run_segments.specs.Segments.{pid_run, group_run, begins, segment_in}
use Rattle.run_segments.specs.Kept.{Kept, goes_on_with, last_goes_on, kept_with, Follow, last_span, ArePlaced, AreKept}
use Rattle.run_segments.proofs.Extended.{extended, segments_in-push}
use Rattle.run_segments.proofs.Placed.{map-same, alike, other_sibling, moved, kept_with-segments, placed_with, placed-alike}

-- up to which clock a sibling is kept, where those below a number have gone on over a span, and its last span
abbrev pub clock_at : Span → ℕ → ℕ → ℕ
clock_at span count cpu = cond (ltb cpu count) (span.room.clock + span.time) span.room.clock

abbrev pub past_at : Option Span → Span → ℕ → ℕ → Option Span
past_at last span count cpu = cond (ltb cpu count) (Some span) last

-- a segment then
abbrev pub extended_below : Span → ℕ → Segment → Segment
extended_below span count segment = cond (ltb segment.cpu count) (extended span segment) segment

-- what is kept then
pub record IsAt (siblings : ℕ) (last : Option Span) (span : Span) (old : List Segment) (count : ℕ) (kept : Kept) : Type 0 where
  pub segments : kept.segments ≡ map (extended_below span count) old ++ map (segment_in span) (filter (begins last span) (range_with_len 0 count))
  pub placed : ArePlaced siblings (clock_at span count) (past_at last span count) kept

-- ---- at the begin

pub at_start : (siblings : ℕ) (spans : List Span) (span : Span) (kept : Kept) → span.room.clock ≡ total_time spans → AreKept siblings spans kept →
    IsAt siblings (last_span None spans) span kept.segments 0 kept
at_start siblings spans span kept now are =
    record {
      segments =
          sym (append-nil (map (extended_below span 0) kept.segments)
          ∙ map-same (extended_below span 0) kept.segments (λ i d few. let s = get_or kept.segments i d in cond-false (ltb s.cpu 0) (extended span s) s (le-ltb s.cpu 0 (omega arith))));
      placed =
          placed-alike siblings (λ _. total_time spans) (clock_at span 0) (λ _. last_span None spans) (past_at (last_span None spans) span 0) kept
          (λ cpu below. (
            cond-false (ltb cpu 0) (span.room.clock + span.time) span.room.clock (le-ltb cpu 0 (omega arith)) ∙ now,
            cond-false (ltb cpu 0) (Some span) (last_span None spans) (le-ltb cpu 0 (omega arith)),
          )) are.placed;
    }

-- ---- at the next sibling

-- the segment that a sibling begins with a span
pub begun_is : (span : Span) (room : RoomState) (cpu from to pid group : ℕ) (doing : Doing) (pending : Bool) → span.room ≡ room → span.room.clock ≡ from → from + span.time ≡ to →
    pid ≡ pid_run room cpu → group ≡ group_run room cpu → doing ≡ doing_of room cpu → pending ≡ is_pending room cpu →
    record { from = from; to = to; cpu = cpu; pid = pid; group = group; doing = doing; pending = pending } ≡ segment_in span cpu
begun_is span room cpu from to pid group doing pending same now ends runs leads does waits =
    let to_is : to ≡ (segment_in span cpu).to = omega (arith, ends, now) in
    let pid_is : pid ≡ pid_run span.room cpu = runs ∙ ap (λ (r : RoomState). pid_run r cpu) (sym same) in
    let group_is : group ≡ group_run span.room cpu = leads ∙ ap (λ (r : RoomState). group_run r cpu) (sym same) in
    let doing_is : doing ≡ doing_of span.room cpu = does ∙ ap (λ (r : RoomState). doing_of r cpu) (sym same) in
    let pending_is : pending ≡ is_pending span.room cpu = waits ∙ ap (λ (r : RoomState). is_pending r cpu) (sym same) in
    λ i. record { from = sym now i; to = to_is i; cpu = cpu; pid = pid_is i; group = group_is i; doing = doing_is i; pending = pending_is i }

same_below : (cpu count : ℕ) → cpu ≢ count → ltb cpu (count + 1) ≡ ltb cpu count
same_below cpu count other =
    elim (cases_lt cpu count) [
      | inl less ↦ lt-ltb cpu (count + 1) (omega (arith, less)) ∙ sym (lt-ltb cpu count less)
      | inr more ↦ le-ltb cpu (count + 1) (omega (arith, more, other)) ∙ sym (le-ltb cpu count more)
    ]

cpu-extended : (span : Span) (segment : Segment) → (extended span segment).cpu ≡ segment.cpu
cpu-extended span segment =
    cond_both (goes_on_with segment (segment_in span segment.cpu)) (record segment { to = span.room.clock + span.time }) segment (λ (s : Segment). s.cpu ≡ segment.cpu) (λ _. refl) (λ _. refl)

moved_below : (span : Span) (count : ℕ) (segment : Segment) → moved (segment_in span count) (extended_below span count segment) ≡ extended_below span (count + 1) segment
moved_below span count segment =
    let next = segment_in span count in
    elim (cases_order segment.cpu count) [
      | inl here ↦
          ap (moved next) (cond-false (ltb segment.cpu count) (extended span segment) segment (le-ltb segment.cpu count (omega (arith, here))))
          ∙ ap (λ n. cond (goes_on_with segment (segment_in span n)) (record segment { to = (segment_in span n).to }) segment) (sym here)
          ∙ sym (cond-true (ltb segment.cpu (count + 1)) (extended span segment) segment (lt-ltb segment.cpu (count + 1) (omega (arith, here))))
      | inr (inl less) ↦
          ap (moved next) (cond-true (ltb segment.cpu count) (extended span segment) segment (lt-ltb segment.cpu count less))
          ∙ cond-false (goes_on_with (extended span segment) next) _ _ (other_sibling (extended span segment) next (λ same. absurd (omega (arith, less, same, cpu-extended span segment))))
          ∙ sym (cond-true (ltb segment.cpu (count + 1)) (extended span segment) segment (lt-ltb segment.cpu (count + 1) (omega (arith, less))))
      | inr (inr more) ↦
          ap (moved next) (cond-false (ltb segment.cpu count) (extended span segment) segment (le-ltb segment.cpu count (omega (arith, more))))
          ∙ cond-false (goes_on_with segment next) _ _ (other_sibling segment next (λ same. absurd (omega (arith, more, same))))
          ∙ sym (cond-false (ltb segment.cpu (count + 1)) (extended span segment) segment (le-ltb segment.cpu (count + 1) (omega (arith, more))))
    ]

moved_each : (span : Span) (count : ℕ) (old : List Segment) → map (moved (segment_in span count)) (map (extended_below span count) old) ≡ map (extended_below span (count + 1)) old
moved_each span count [] = refl
moved_each span count (segment ∷ old) = cc (moved_below span count segment, moved_each span count old)

-- the segments that begin with the span are there already
moved_new : (span : Span) (count : ℕ) (cpus : List ℕ) → 0 < span.time → map (moved (segment_in span count)) (map (segment_in span) cpus) ≡ map (segment_in span) cpus
moved_new span count [] lasts = refl
moved_new span count (cpu ∷ cpus) lasts =
    let next = segment_in span count in
    let still : moved next (segment_in span cpu) ≡ segment_in span cpu =
    cond-false (goes_on_with (segment_in span cpu) next) _ _
    (false_from_ne_true _ (λ goes. absurd (omega (arith, lasts, (alike (segment_in span cpu) next goes).to)))) in
    cc (still, moved_new span count cpus lasts)

pub range-more : (n : ℕ) → range_with_len 0 (n + 1) ≡ range_with_len 0 n ++ n ∷ []
range-more n =
    sym (map-same same (range_with_len 0 (n + 1)) (λ i d few. refl))
    ∙ map-range_with_len_more same 0 n n (zero-add n)
    ∙ ap (λ (ns : List ℕ). ns ++ n ∷ []) (map-same same (range_with_len 0 n) (λ i d few. refl)) where
      same : ℕ → ℕ
      same = λ k. k

begun-more : (last : Option Span) (span : Span) (count : ℕ) → map (segment_in span) (filter (begins last span) (range_with_len 0 (count + 1)))
    ≡ map (segment_in span) (filter (begins last span) (range_with_len 0 count)) ++ cond (begins last span count) (segment_in span count ∷ []) []
begun-more last span count =
    ap (λ (cpus : List ℕ). map (segment_in span) (filter (begins last span) cpus)) (range-more count)
    ∙ ap (map (segment_in span)) (filter-append (begins last span) (range_with_len 0 count) (count ∷ []))
    ∙ map-append (segment_in span) (filter (begins last span) (range_with_len 0 count)) (cond (begins last span count) (count ∷ []) [])
    ∙ ap (λ (new : List Segment). map (segment_in span) (filter (begins last span) (range_with_len 0 count)) ++ new) (by_test (begins last span count)) where
      by_test : (test : Bool) → map (segment_in span) (cond test (count ∷ []) []) ≡ cond test (segment_in span count ∷ []) []
      by_test true = refl
      by_test false = refl

pub at_next : (siblings : ℕ) (last : Option Span) (span : Span) (old : List Segment) (count : ℕ) (kept : Kept) → count < siblings → 0 < span.time →
    IsAt siblings last span old count kept → IsAt siblings last span old (count + 1) (kept_with (segment_in span count) kept)
at_next siblings last span old count kept below lasts so_far =
    record {
      segments =
          kept_with-segments siblings (clock_at span count) (past_at last span count) kept next so_far.placed (sym here)
          ∙ ap (λ (xs : List Segment). map (moved next) xs ++ cond (last_goes_on kept next) [] (next ∷ [])) so_far.segments
          ∙ ap (λ (xs : List Segment). xs ++ cond (last_goes_on kept next) [] (next ∷ []))
          (map-append (moved next) (map (extended_below span count) old) begun
          ∙ ap (λ (xs : List Segment). xs ++ map (moved next) begun) (moved_each span count old)
          ∙ ap (λ (xs : List Segment). map (extended_below span (count + 1)) old ++ xs) (moved_new span count (filter (begins last span) (range_with_len 0 count)) lasts))
          ∙ append_assoc (map (extended_below span (count + 1)) old) begun (cond (last_goes_on kept next) [] (next ∷ []))
          ∙ ap (λ (xs : List Segment). map (extended_below span (count + 1)) old ++ xs)
          (ap (λ (b : Bool). begun ++ cond b [] (next ∷ [])) (so_far.placed.goes_on count span below (sym here) ∙ ap (λ (o : Option Span). not (begins o span count)) (cond-false (ltb count count) (Some span) last (le-ltb count count (omega arith))))
          ∙ ap (λ (xs : List Segment). begun ++ xs) (turned (begins last span count))
          ∙ sym (begun-more last span count));
      placed =
          placed_with siblings count span (clock_at span count) (clock_at span (count + 1)) (past_at last span count) (past_at last span (count + 1)) kept next
          so_far.placed below (sym here) lasts
          (record {
            to = there ∙ ap (λ n. n + span.time) (sym here);
            took = cond-true (ltb count (count + 1)) (Some span) last (lt-ltb count (count + 1) (omega arith));
            others = λ other apart. (
              ap (λ b. cond b (span.room.clock + span.time) span.room.clock) (same_below other count apart),
              ap (λ b. cond b (Some span) last) (same_below other count apart),
            );
          }) refl (sym there);
    } where
      next : Segment
      next = segment_in span count

      begun : List Segment
      begun = map (segment_in span) (filter (begins last span) (range_with_len 0 count))

      here : clock_at span count count ≡ span.room.clock
      here = cond-false (ltb count count) (span.room.clock + span.time) span.room.clock (le-ltb count count (omega arith))

      there : clock_at span (count + 1) count ≡ span.room.clock + span.time
      there = cond-true (ltb count (count + 1)) (span.room.clock + span.time) span.room.clock (lt-ltb count (count + 1) (omega arith))

      turned : (b : Bool) → cond (not b) [] (next ∷ []) ≡ cond b (next ∷ []) []
      turned true = refl
      turned false = refl

-- ---- at the end

follow-push : (clock : ℕ) (spans : List Span) (span : Span) → Follow clock spans → span.room.clock ≡ clock + total_time spans → 0 < span.time → Follow clock (spans ++ span ∷ [])
follow-push clock [] span follow now lasts = (omega (arith, now), lasts, tt)
follow-push clock (first ∷ spans) span follow now lasts =
    (follow.0, follow.1, follow-push (clock + first.time) spans span follow.2 (now ∙ ap (λ n. clock + n) (sum_by-append (λ (s : Span). s.time) (first ∷ []) spans) ∙ omega (arith, zero-add first.time)) lasts)

last-push : (past : Option Span) (spans : List Span) (span : Span) → last_span past (spans ++ span ∷ []) ≡ Some span
last-push past [] span = refl
last-push past (first ∷ spans) span = last-push (Some first) spans span

pub at_end : (siblings : ℕ) (spans : List Span) (span : Span) (before kept : Kept) → span.room.clock ≡ total_time spans → 0 < span.time →
    AreKept siblings spans before → IsAt siblings (last_span None spans) span before.segments siblings kept → AreKept siblings (spans ++ span ∷ []) kept
at_end siblings spans span before kept now lasts are ended =
    let last = last_span None spans in
    let begun = map (segment_in span) (filter (begins last span) (range_with_len 0 siblings)) in
    record {
      follow = follow-push 0 spans span are.follow (omega (arith, now)) lasts;
      segments =
          ended.segments
          ∙ ap (λ (xs : List Segment). xs ++ begun) (each_extended before.segments (λ i d few. (are.placed.last i d few).cpu) ∙ ap (map (extended span)) are.segments)
          ∙ sym (segments_in-push siblings 0 None spans span are.follow (omega (arith, now)));
      placed =
          placed-alike siblings (clock_at span siblings) (λ _. total_time (spans ++ span ∷ [])) (past_at last span siblings) (λ _. last_span None (spans ++ span ∷ [])) kept
          (λ cpu below. (
            sum_by-append (λ (s : Span). s.time) spans (span ∷ []) ∙ omega (arith, now, zero-add span.time)
                ∙ sym (cond-true (ltb cpu siblings) (span.room.clock + span.time) span.room.clock (lt-ltb cpu siblings below)),
            last-push None spans span ∙ sym (cond-true (ltb cpu siblings) (Some span) last (lt-ltb cpu siblings below)),
          )) ended.placed;
    } where
      each_extended : (xs : List Segment) → ((i : ℕ) (d : Segment) → i < length xs → (get_or xs i d).cpu < siblings) → map (extended_below span siblings) xs ≡ map (extended span) xs
      each_extended [] below = refl
      each_extended (x ∷ xs) below =
          cc (cond-true (ltb x.cpu siblings) (extended span x) x (lt-ltb x.cpu siblings (below 0 x (omega arith))), each_extended xs (λ i d few. below (suc i) d (omega arith)))
