-- Extended: how the segments go on by one span.
use Rattle.std.proofs.Common.{◌≡◌, ℕ, ◌+◌, ◌<◌, ◌≢◌, Bool, true, false, cond, List, [], ◌∷◌, ◌++◌, map, refl, sym, ap, ◌∙◌, append_assoc, zero-add, arith, Option, Some}
use Rattle.std.specs.Prelude.{filter, ◌==◌, ◌&&◌}
use Rattle.std.specs.List.{range_with_len, take_while}
use Rattle.std.proofs.lemmas.Bool.{cond-true, cond-false, and_from, and_left, and_right, eqb-true, eq-eqb, both_ways, ne_eqb}
use Rattle.std.proofs.lemmas.List.{append-nil, map-append}
use Rattle.std.proofs.lemmas.List.Sums.{sum_by-cons, take_while-cons}
use Rattle.run_times.specs.Times.{Span, total_time}
use Rattle.run_segments.specs.declared.segments.Segment.{Segment}
use Rattle.run_segments.specs.Segments.{goes_on, begins, segment_in, segment_from, segments_in}
use Rattle.run_segments.specs.Kept.{goes_on_with, Follow, last_span}

-- ---- one segment

abbrev time_of : Span → ℕ
time_of span = span.time

-- the time of the spans that pass a test from the first on, with one span more: it is longer where all pass and the last does too
time_while-push : (p : Span → Bool) (clock : ℕ) (later : List Span) (next : Span) → Follow clock later →
    total_time (take_while p (later ++ next ∷ []))
    ≡ total_time (take_while p later) + cond (total_time (take_while p later) == total_time later) (cond (p next) next.time 0) 0
time_while-push p clock [] next follow =
    ap total_time (take_while-cons p next []) ∙ by_test (p next) where
      by_test : (test : Bool) → total_time (cond test (next ∷ []) []) ≡ 0 + cond test next.time 0
      by_test true = omega arith
      by_test false = refl
time_while-push p clock (span ∷ later) next follow =
    ap total_time (take_while-cons p span (later ++ next ∷ []))
    ∙ by_test (p span) (time_while-push p (clock + span.time) later next follow.2)
    ∙ sym (ap (λ (spans : List Span). total_time spans + cond (total_time spans == total_time (span ∷ later)) (cond (p next) next.time 0) 0) (take_while-cons p span later)) where
      more : ℕ
      more = cond (p next) next.time 0

      rest : List Span
      rest = take_while p later

      shifted : (same : Bool) → (total_time rest == total_time later) ≡ same →
          span.time + (total_time rest + cond same more 0) ≡ span.time + total_time rest + cond (span.time + total_time rest == span.time + total_time later) more 0
      shifted true is =
          let e : total_time rest ≡ total_time later = eqb-true (total_time rest) (total_time later) is in
          omega (arith, cond-true (span.time + total_time rest == span.time + total_time later) more 0 (eq-eqb (span.time + total_time rest) (span.time + total_time later) (ap (λ n. span.time + n) e)))
      shifted false is =
          let e : total_time rest ≢ total_time later = λ same. both_ways (total_time rest == total_time later) is (eq-eqb (total_time rest) (total_time later) same) in
          omega (arith, cond-false (span.time + total_time rest == span.time + total_time later) more 0 (ne_eqb (span.time + total_time rest) (span.time + total_time later) (λ same. e (omega arith))))

      by_test : (test : Bool) → total_time (take_while p (later ++ next ∷ [])) ≡ total_time rest + cond (total_time rest == total_time later) more 0 →
          total_time (cond test (span ∷ take_while p (later ++ next ∷ [])) [])
          ≡ total_time (cond test (span ∷ rest) []) + cond (total_time (cond test (span ∷ rest) []) == total_time (span ∷ later)) more 0
      by_test true so_far =
          rw (sum_by-cons time_of span rest, sum_by-cons time_of span later)
          (sum_by-cons time_of span (take_while p (later ++ next ∷ []))
          ∙ ap (λ n. span.time + n) so_far
          ∙ shifted (total_time rest == total_time later) refl)
      by_test false so_far =
          let some : 0 < total_time (span ∷ later) = omega (arith, follow.1, sum_by-cons time_of span later) in
          sym (zero-add (cond (0 == total_time (span ∷ later)) more 0) ∙ cond-false (0 == total_time (span ∷ later)) more 0 (ne_eqb 0 (total_time (span ∷ later)) (omega arith)))

-- a segment with one span more: it lasts longer where it lasts up to that, and its sibling goes on
abbrev pub extended : Span → Segment → Segment
extended next segment = cond (goes_on_with segment (segment_in next segment.cpu)) (record segment { to = next.room.clock + next.time }) segment

segment_from-push : (clock : ℕ) (span : Span) (later : List Span) (next : Span) (cpu : ℕ) → Follow clock (span ∷ later) →
    next.room.clock ≡ clock + total_time (span ∷ later) → segment_from span (later ++ next ∷ []) cpu ≡ extended next (segment_from span later cpu)
segment_from-push clock span later next cpu follow at =
    ap (λ n. with_end (span.room.clock + span.time + n)) (time_while-push goes (clock + span.time) later next follow.2)
    ∙ by_tests (lasted == total_time later) (goes next) refl refl where
      goes : Span → Bool
      goes = goes_on cpu span

      lasted : ℕ
      lasted = total_time (take_while goes later)

      with_end : ℕ → Segment
      with_end to = record (segment_from span later cpu) { to = to }

      ends : Bool
      ends = (segment_from span later cpu).to == next.room.clock

      both_tests : Bool
      both_tests = (cpu == cpu) && ends

      test : Bool
      test = goes_on_with (segment_from span later cpu) (segment_in next cpu)

      by_tests : (same on : Bool) → (lasted == total_time later) ≡ same → goes next ≡ on →
          with_end (span.room.clock + span.time + (lasted + cond same (cond on next.time 0) 0)) ≡ extended next (segment_from span later cpu)
      by_tests true true is on =
          let e : lasted ≡ total_time later = eqb-true lasted (total_time later) is in
          let both : (segment_from span later cpu).to ≡ next.room.clock = omega (arith, at, e, follow.0, sum_by-cons time_of span later) in
          ap with_end (omega (arith, both))
          ∙ sym (cond-true test _ _
          (and_from both_tests (goes next) (and_from (cpu == cpu) ends (eq-eqb cpu cpu refl) (eq-eqb (segment_from span later cpu).to next.room.clock both)) on))
      by_tests true false is on =
          ap with_end (omega arith)
          ∙ sym (cond-false test _ _ (and_right both_tests (goes next) on))
      by_tests false on is on_is =
          let e : lasted ≢ total_time later = λ same. both_ways (lasted == total_time later) is (eq-eqb lasted (total_time later) same) in
          let apart : (segment_from span later cpu).to ≢ next.room.clock = λ same. e (omega (arith, at, follow.0, same, sum_by-cons time_of span later)) in
          ap with_end (omega arith)
          ∙ sym (cond-false test _ _ (and_left both_tests (goes next) (and_right (cpu == cpu) ends (ne_eqb (segment_from span later cpu).to next.room.clock apart))))

-- ---- all of them

each-push : (clock : ℕ) (span : Span) (later : List Span) (next : Span) (cpus : List ℕ) → Follow clock (span ∷ later) →
    next.room.clock ≡ clock + total_time (span ∷ later) → map (segment_from span (later ++ next ∷ [])) cpus ≡ map (extended next) (map (segment_from span later) cpus)
each-push clock span later next [] follow at = refl
each-push clock span later next (cpu ∷ cpus) follow at =
    cc (segment_from-push clock span later next cpu follow at, each-push clock span later next cpus follow at)

-- where no span comes after it, a segment is that of its span alone
each_alone : (span : Span) (cpus : List ℕ) → map (segment_from span []) cpus ≡ map (segment_in span) cpus
each_alone span [] = refl
each_alone span (cpu ∷ cpus) =
    let alone : segment_from span [] cpu ≡ segment_in span cpu = ap (λ n. record (segment_in span cpu) { to = n }) (omega arith) in
    cc (alone, each_alone span cpus)

-- one span more
pub segments_in-push : (siblings clock : ℕ) (past : Option Span) (spans : List Span) (next : Span) → Follow clock spans → next.room.clock ≡ clock + total_time spans →
    segments_in siblings past (spans ++ next ∷ [])
    ≡ map (extended next) (segments_in siblings past spans) ++ map (segment_in next) (filter (begins (last_span past spans) next) (range_with_len 0 siblings))
segments_in-push siblings clock past [] next follow at =
    let begun = filter (begins past next) (range_with_len 0 siblings) in
    append-nil (map (segment_from next []) begun) ∙ each_alone next begun
segments_in-push siblings clock past (span ∷ later) next follow at =
    let begun = filter (begins past span) (range_with_len 0 siblings) in
    let new = map (segment_in next) (filter (begins (last_span (Some span) later) next) (range_with_len 0 siblings)) in
    let rest = segments_in siblings (Some span) later in
    ap (λ (first : List Segment). first ++ segments_in siblings (Some span) (later ++ next ∷ [])) (each-push clock span later next begun follow at)
    ∙ ap (λ (more : List Segment). map (extended next) (map (segment_from span later) begun) ++ more)
    (segments_in-push siblings (clock + span.time) (Some span) later next follow.2 (at ∙ ap (λ n. clock + n) (sum_by-cons time_of span later) ∙ omega arith))
    ∙ sym (append_assoc (map (extended next) (map (segment_from span later) begun)) (map (extended next) rest) new)
    ∙ ap (λ (first : List Segment). first ++ new) (sym (map-append (extended next) (map (segment_from span later) begun) rest))
