-- Spans: how the times go on by one entry, and what they add up to.
use Rattle.std.proofs.Common.{◌≡◌, ℕ, ◌+◌, ◌*◌, ◌≤◌, Bool, true, false, cond, List, [], ◌∷◌, ◌++◌, map, take, refl, sym, ap, ◌∙◌, append_assoc, zero-add, arith, length, Option, Some, None}
use Rattle.std.specs.Prelude.{filter, fold, reverse, max, not, ◌==◌}
use Rattle.std.specs.List.{AllByRecursion, range_with_len, take_while, prefix_len}
use Rattle.std.specs.Option.{option_map, option_to_list}
use Rattle.std.proofs.lemmas.Bool.{cond-true, cond-false, both_ways}
use Rattle.std.proofs.Math.Nat.{add_comm}
use Rattle.std.proofs.Math.Seq.{take-append-add}
use Rattle.std.proofs.lemmas.List.{append-nil, reverse-append, length-append, take-append-le}
use Rattle.std.proofs.lemmas.List.FromFn.{fill_by_all, get_or-map-range_with_len, length-map-range_with_len, map-range_with_len_more}
use Rattle.std.proofs.lemmas.List.Elements.{filter-append}
use Rattle.std.proofs.lemmas.List.Sums.{sum_by-append, sum_by-cons, sum_by-take-le, take_while-cons, fold-append}
use Rattle.cs_types.specs.declared.event.Event.{Event}
use Rattle.cs_types.specs.declared.event.Event.TheVariants.{Advance}
use Rattle.cs_types.specs.Scenario.{IsEvent}
use Rattle.cs_types.specs.declared.reply.Entry.{Entry}
use Rattle.cs_types.specs.Room.{Opening, RoomState}
use Rattle.cs_types.specs.History.{History, Moment, beginning, next, after, fold_of}
use Rattle.run_times.specs.declared.doing.Doing.{Doing}
use Rattle.run_times.specs.declared.doing.Doing.TheVariants.{Offline, Runs, Idles, ForcedIdle}
use Rattle.run_times.specs.Doing.{doing_of, is_pending}
use Rattle.run_times.specs.Times.{Span, advance_of, span_of, spans_from, spans_of, total_time, time_in, lasting, longest}
use Rattle.run_times.specs.Sums.{is_offline, runs, idles, is_forced_by_cookie, is_forced_by_none, sibling_times, did, with_span}

-- ---- more entries

pub spans_from-append : (moment : Moment) (entries more : List Entry) →
    spans_from moment (entries ++ more) ≡ spans_from moment entries ++ spans_from (after moment entries) more
spans_from-append moment [] more = refl
spans_from-append moment (entry ∷ entries) more =
    ap (λ (spans : List Span). span_of moment.room entry.event ++ spans) (spans_from-append (next moment entry) entries more)
    ∙ sym (append_assoc (span_of moment.room entry.event) (spans_from (next moment entry) entries) (spans_from (after (next moment entry) entries) more))

-- one more entry is one span more, or none
spans_of-push : (opening : Opening) (history : History) (entry : Entry) →
    spans_of opening (history ++ entry ∷ []) ≡ spans_of opening history ++ span_of (fold_of opening history) entry.event
spans_of-push opening history entry =
    spans_from-append (beginning opening) history (entry ∷ [])
    ∙ ap (λ (spans : List Span). spans_of opening history ++ spans) (append-nil (span_of (fold_of opening history) entry.event))

abbrev pub one_span : RoomState → ℕ → List Span
one_span room time = record { room = room; time = time } ∷ []

-- an advance is one span more
pub spans_of-advance : (opening : Opening) (history : History) (entry : Entry) (time : ℕ) → advance_of entry.event ≡ Some time →
    spans_of opening (history ++ entry ∷ []) ≡ spans_of opening history ++ one_span (fold_of opening history) time
spans_of-advance opening history entry time is =
    spans_of-push opening history entry
    ∙ ap (λ (o : Option ℕ). spans_of opening history ++ option_to_list (option_map (λ n. record { room = fold_of opening history; time = n }) o)) is

-- any other entry is none
pub spans_of-still : (opening : Opening) (history : History) (entry : Entry) → advance_of entry.event ≡ None →
    spans_of opening (history ++ entry ∷ []) ≡ spans_of opening history
spans_of-still opening history entry is =
    spans_of-push opening history entry
    ∙ ap (λ (o : Option ℕ). spans_of opening history ++ option_to_list (option_map (λ n. record { room = fold_of opening history; time = n }) o)) is
    ∙ append-nil (spans_of opening history)

-- ---- how long they are

-- an advance is of one second at most
pub advance_of-le : (siblings : ℕ) (event : Event) (time : ℕ) → IsEvent siblings event → advance_of event ≡ Some time → time ≤ 1000000000
advance_of-le siblings (Advance delta) time limits is = let same : delta ≡ time = cc in omega (arith, limits.1, same)
advance_of-le siblings event time limits is = absurd cc

span_time-le : (siblings : ℕ) (room : RoomState) (event : Event) → IsEvent siblings event → total_time (span_of room event) ≤ 1000000000
span_time-le siblings room event limits = go (advance_of event) refl where
  go : (advance : Option ℕ) → advance_of event ≡ advance → total_time (option_to_list (option_map (λ n. record { room = room; time = n }) advance)) ≤ 1000000000
  go None is = omega arith
  go (Some time) is = omega (arith, advance_of-le siblings event time limits is)

-- So all time is at most a second for each entry.
pub total_time-le : (siblings : ℕ) (moment : Moment) (entries : List Entry) → AllByRecursion (λ entry. IsEvent siblings entry.event) entries →
    total_time (spans_from moment entries) ≤ 1000000000 * length entries
total_time-le siblings moment [] limits = omega arith
total_time-le siblings moment (entry ∷ entries) limits =
    omega (
      arith,
      sum_by-append (λ (span : Span). span.time) (span_of moment.room entry.event) (spans_from (next moment entry) entries),
      span_time-le siblings moment.room entry.event limits.0,
      total_time-le siblings (next moment entry) entries limits.1,
    )

-- ---- one more span

-- a span more is its time more
pub total_time-push : (spans : List Span) (room : RoomState) (time : ℕ) → total_time (spans ++ one_span room time) ≡ total_time spans + time
total_time-push spans room time =
    sum_by-append (λ (span : Span). span.time) spans (one_span room time) ∙ ap (λ n. total_time spans + n) (zero-add time)

-- where the fact holds in its room, and none where it does not
pub time_in-push : (fact : RoomState → Bool) (spans : List Span) (room : RoomState) (time : ℕ) →
    time_in fact (spans ++ one_span room time) ≡ cond (fact room) (time_in fact spans + time) (time_in fact spans)
time_in-push fact spans room time =
    ap total_time (filter-append (λ (span : Span). fact span.room) spans (one_span room time)) ∙ by_test (fact room) where
      by_test : (test : Bool) →
          total_time (filter (λ (span : Span). fact span.room) spans ++ cond test (one_span room time) [])
          ≡ cond test (time_in fact spans + time) (time_in fact spans)
      by_test true = total_time-push (filter (λ (span : Span). fact span.room) spans) room time
      by_test false = ap total_time (append-nil (filter (λ (span : Span). fact span.room) spans))

-- for how long it has lasted is its time more, or it ends
pub lasting-push : (fact : RoomState → Bool) (spans : List Span) (room : RoomState) (time : ℕ) →
    lasting fact (spans ++ one_span room time) ≡ cond (fact room) (lasting fact spans + time) 0
lasting-push fact spans room time =
    ap (λ (back : List Span). total_time (take_while p back)) (reverse-append spans (one_span room time))
    ∙ ap total_time (take_while-cons p (record { room = room; time = time }) (reverse spans)) ∙ by_test (fact room) where
      p : Span → Bool
      p = λ span. fact span.room

      by_test : (test : Bool) →
          total_time (cond test (record { room = room; time = time } ∷ take_while p (reverse spans)) []) ≡ cond test (lasting fact spans + time) 0
      by_test true =
          sum_by-cons (λ (span : Span). span.time) (record { room = room; time = time }) (take_while p (reverse spans))
          ∙ add_comm time (lasting fact spans)
      by_test false = refl

-- the longest is that, where it is longer than before
pub longest-push : (fact : RoomState → Bool) (spans : List Span) (room : RoomState) (time : ℕ) →
    longest fact (spans ++ one_span room time) ≡ max (longest fact spans) (lasting fact (spans ++ one_span room time))
longest-push fact spans room time =
    ap (λ m. fold max 0 (map now (range_with_len 0 (m + 1)))) (length-append spans (one_span room time))
    ∙ ap (fold max 0) (map-range_with_len_more now 0 (length spans + 1) (length spans + 1) (zero-add (length spans + 1)) ∙ (λ i. same i ++ last i ∷ []))
    ∙ fold-append max 0 (map before (range_with_len 0 (length spans + 1))) (lasting fact (spans ++ one_span room time) ∷ []) where
      before : ℕ → ℕ
      before = λ n. lasting fact (take n spans)

      now : ℕ → ℕ
      now = λ n. lasting fact (take n (spans ++ one_span room time))

      last : now (length spans + 1) ≡ lasting fact (spans ++ one_span room time)
      last = ap (lasting fact) (take-append-add spans (one_span room time) 1)

      same : map now (range_with_len 0 (length spans + 1)) ≡ map before (range_with_len 0 (length spans + 1))
      same =
          fill_by_all before (map now (range_with_len 0 (length spans + 1))) (length spans + 1) 0 (length-map-range_with_len now 0 (length spans + 1))
          (λ k below.
          get_or-map-range_with_len now 0 (length spans + 1) k k 0 below (zero-add k)
          ∙ ap (lasting fact) (take-append-le k spans (one_span room time) (omega (arith, below))))

-- the times of a sibling go on by what it does in that room
pub sibling_times-push : (spans : List Span) (room : RoomState) (time cpu : ℕ) →
    sibling_times (spans ++ one_span room time) cpu ≡ with_span (doing_of room cpu) (is_pending room cpu) time (sibling_times spans cpu)
sibling_times-push spans room time cpu =
    let more = λ (fact : RoomState → Bool). time_in-push fact spans room time in
    λ i. record {
      ran = more (λ r. runs (doing_of r cpu)) i;
      idled = more (λ r. idles (doing_of r cpu)) i;
      forced_by_cookie = more (λ r. is_forced_by_cookie (doing_of r cpu)) i;
      forced_by_none = more (λ r. is_forced_by_none (doing_of r cpu)) i;
      offline = more (λ r. is_offline (doing_of r cpu)) i;
      pending = more (λ r. is_pending r cpu) i;
    }

-- ---- what they add up to

pub time_in-cons : (fact : RoomState → Bool) (span : Span) (spans : List Span) → (test : Bool) → fact span.room ≡ test →
    time_in fact (span ∷ spans) ≡ cond test (span.time + time_in fact spans) (time_in fact spans)
time_in-cons fact span spans true is =
    ap total_time (cond-true (fact span.room) (span ∷ filter (λ (s : Span). fact s.room) spans) (filter (λ (s : Span). fact s.room) spans) is)
    ∙ sum_by-cons (λ (s : Span). s.time) span (filter (λ (s : Span). fact s.room) spans)
time_in-cons fact span spans false is =
    ap total_time (cond-false (fact span.room) (span ∷ filter (λ (s : Span). fact s.room) spans) (filter (λ (s : Span). fact s.room) spans) is)

-- What holds wherever another does holds for as long at least.
pub time_in-le : (narrow wide : RoomState → Bool) (spans : List Span) → AllByRecursion (λ span. narrow span.room ≡ true → wide span.room ≡ true) spans →
    time_in narrow spans ≤ time_in wide spans
time_in-le narrow wide [] all = omega arith
time_in-le narrow wide (span ∷ spans) all =
    by_tests (narrow span.room) (wide span.room) refl refl (time_in-le narrow wide spans all.1) where
      by_tests : (less more : Bool) → narrow span.room ≡ less → wide span.room ≡ more → time_in narrow spans ≤ time_in wide spans →
          time_in narrow (span ∷ spans) ≤ time_in wide (span ∷ spans)
      by_tests true true is its rest = omega (arith, rest, time_in-cons narrow span spans true is, time_in-cons wide span spans true its)
      by_tests true false is its rest = absurd (both_ways (wide span.room) its (all.0 is))
      by_tests false true is its rest = omega (arith, rest, time_in-cons narrow span spans false is, time_in-cons wide span spans true its)
      by_tests false false is its rest = omega (arith, rest, time_in-cons narrow span spans false is, time_in-cons wide span spans false its)

-- nothing lasts longer than all time
pub time_in-most : (fact : RoomState → Bool) (spans : List Span) → time_in fact spans ≤ total_time spans
time_in-most fact [] = omega arith
time_in-most fact (span ∷ spans) =
    by_test (fact span.room) refl (time_in-most fact spans) (sum_by-cons (λ (s : Span). s.time) span spans) where
      by_test : (test : Bool) → fact span.room ≡ test → time_in fact spans ≤ total_time spans → total_time (span ∷ spans) ≡ span.time + total_time spans →
          time_in fact (span ∷ spans) ≤ total_time (span ∷ spans)
      by_test true is rest all = omega (arith, rest, all, time_in-cons fact span spans true is)
      by_test false is rest all = omega (arith, rest, all, time_in-cons fact span spans false is)

total_time-reverse : (spans : List Span) → total_time (reverse spans) ≡ total_time spans
total_time-reverse [] = refl
total_time-reverse (span ∷ spans) =
    ap total_time (reverse-append (span ∷ []) spans)
    ∙ total_time-push (reverse spans) span.room span.time
    ∙ ap (λ n. n + span.time) (total_time-reverse spans)
    ∙ add_comm (total_time spans) span.time
    ∙ sym (sum_by-cons (λ (s : Span). s.time) span spans)

pub lasting-most : (fact : RoomState → Bool) (spans : List Span) → lasting fact spans ≤ total_time spans
lasting-most fact spans =
    omega (arith, sum_by-take-le (λ (s : Span). s.time) (reverse spans) (prefix_len (λ span. fact span.room) (reverse spans)), total_time-reverse spans)

-- a sibling does one thing at each moment
adds_up : (doing : Doing) (time a b c d e : ℕ) →
    cond (runs doing) (time + a) a + cond (idles doing) (time + b) b + cond (is_forced_by_cookie doing) (time + c) c
    + cond (is_forced_by_none doing) (time + d) d + cond (is_offline doing) (time + e) e
    ≡ time + (a + b + c + d + e)
adds_up Offline time a b c d e = omega arith
adds_up (Runs cookie) time a b c d e = omega arith
adds_up Idles time a b c d e = omega arith
adds_up (ForcedIdle cookie) time a b c d e = by_test (cookie == 0) where
  by_test : (none : Bool) → a + b + cond (not none) (time + c) c + cond none (time + d) d + e ≡ time + (a + b + c + d + e)
  by_test true = omega arith
  by_test false = omega arith

-- What a sibling ran, idled, was forced idle and was offline adds up to all time.
pub did-sibling_times : (spans : List Span) (cpu : ℕ) → did (sibling_times spans cpu) ≡ total_time spans
did-sibling_times [] cpu = refl
did-sibling_times (span ∷ spans) cpu =
    let one = λ (fact : RoomState → Bool). time_in-cons fact span spans (fact span.room) refl in
    (λ i. one (λ r. runs (doing_of r cpu)) i + one (λ r. idles (doing_of r cpu)) i + one (λ r. is_forced_by_cookie (doing_of r cpu)) i
    + one (λ r. is_forced_by_none (doing_of r cpu)) i + one (λ r. is_offline (doing_of r cpu)) i)
    ∙ adds_up (doing_of span.room cpu) span.time _ _ _ _ _
    ∙ ap (λ n. span.time + n) (did-sibling_times spans cpu)
    ∙ sym (sum_by-cons (λ (s : Span). s.time) span spans)
