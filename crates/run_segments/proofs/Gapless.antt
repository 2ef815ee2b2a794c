-- Gapless: the segments of a sibling follow one another from 0 to the end of all time.
use Rattle.std.proofs.Common.{◌≡◌, ◌≢◌, ℕ, zero, suc, ◌+◌, ◌<◌, Bool, true, false, cond, ltb, List, [], ◌∷◌, ◌++◌, map, refl, sym, ap, ◌∙◌, subst, zero-add, inl, inr, arith, Option, Some, None}
use Rattle.std.specs.Prelude.{filter, not, ◌==◌}
use Rattle.std.specs.List.{range_with_len, take_while}
use Rattle.std.proofs.lemmas.Bool.{cond-true, cond-false, eq-eqb, ne_eqb, lt-ltb, le-ltb, cases_order}
use Rattle.std.proofs.lemmas.List.{append-nil, map-append}
use Rattle.std.proofs.lemmas.List.Elements.{filter-append}
use Rattle.std.proofs.lemmas.List.Sums.{sum_by-cons, take_while-cons}
use Rattle.run_times.specs.Times.{Span, total_time}
use Rattle.run_segments.specs.declared.segments.Segment.{Segment}
use Rattle.run_segments.specs.Segments.{goes_on, begins, segment_in, segment_from, segments_in, IsGapless, segments_on}
use Rattle.run_segments.specs.Kept.{Follow}
use Rattle.run_segments.proofs.Placed.{does_the_same, alike_after}
use Rattle.run_segments.proofs.Steps.{range-more}

-- ---- those that begin with one span

module _ (span : Span) (later : List Span) (begun : ℕ → Bool) (cpu : ℕ) where
  abbrev at : ℕ → List Segment
  at n = segments_on cpu (map (segment_from span later) (cond (begun n) (n ∷ []) []))

  at_other : (n : ℕ) → n ≢ cpu → at n ≡ []
  at_other n other = by_test (begun n) where
    by_test : (test : Bool) → segments_on cpu (map (segment_from span later) (cond test (n ∷ []) [])) ≡ []
    by_test true = cond-false (n == cpu) (segment_from span later n ∷ []) [] (ne_eqb n cpu other)
    by_test false = refl

  at_own : at cpu ≡ cond (begun cpu) (segment_from span later cpu ∷ []) []
  at_own = by_test (begun cpu) where
    by_test : (test : Bool) → segments_on cpu (map (segment_from span later) (cond test (cpu ∷ []) [])) ≡ cond test (segment_from span later cpu ∷ []) []
    by_test true = cond-true (cpu == cpu) (segment_from span later cpu ∷ []) [] (eq-eqb cpu cpu refl)
    by_test false = refl

  abbrev those : ℕ → List Segment
  those n = segments_on cpu (map (segment_from span later) (filter begun (range_with_len 0 n)))

  those-more : (n : ℕ) → those (suc n) ≡ those n ++ at n
  those-more n =
      let on = λ (segment : Segment). segment.cpu == cpu in
      let next : suc n ≡ n + 1 = omega arith in
      ap those next
      ∙ ap (λ (cpus : List ℕ). segments_on cpu (map (segment_from span later) (filter begun cpus))) (range-more n)
      ∙ ap (λ (cpus : List ℕ). segments_on cpu (map (segment_from span later) cpus)) (filter-append begun (range_with_len 0 n) (n ∷ []))
      ∙ ap (segments_on cpu) (map-append (segment_from span later) (filter begun (range_with_len 0 n)) (cond (begun n) (n ∷ []) []))
      ∙ filter-append on (map (segment_from span later) (filter begun (range_with_len 0 n))) (map (segment_from span later) (cond (begun n) (n ∷ []) []))

  -- the sibling has one of them, where one of its begins
  on_one : (n : ℕ) → those n ≡ cond (ltb cpu n) (cond (begun cpu) (segment_from span later cpu ∷ []) []) []
  on_one zero = sym (cond-false (ltb cpu zero) (cond (begun cpu) (segment_from span later cpu ∷ []) []) [] (le-ltb cpu zero (omega arith)))
  on_one (suc n) =
      let one = cond (begun cpu) (segment_from span later cpu ∷ []) [] in
      those-more n ∙ ap (λ (xs : List Segment). xs ++ at n) (on_one n)
      ∙ elim (cases_order cpu n) [
        | inl here ↦
            ap (λ (xs : List Segment). xs ++ at n) (cond-false (ltb cpu n) one [] (le-ltb cpu n (omega (arith, here)))) ∙ ap at (sym here) ∙ at_own
            ∙ sym (cond-true (ltb cpu (suc n)) one [] (lt-ltb cpu (suc n) (omega (arith, here))))
        | inr (inl less) ↦
            ap (λ (xs : List Segment). cond (ltb cpu n) one [] ++ xs) (at_other n (λ same. absurd (omega (arith, less, same)))) ∙ append-nil (cond (ltb cpu n) one [])
            ∙ cond-true (ltb cpu n) one [] (lt-ltb cpu n less) ∙ sym (cond-true (ltb cpu (suc n)) one [] (lt-ltb cpu (suc n) (omega (arith, less))))
        | inr (inr more) ↦
            ap (λ (xs : List Segment). xs ++ at n) (cond-false (ltb cpu n) one [] (le-ltb cpu n (omega (arith, more)))) ∙ at_other n (λ same. absurd (omega (arith, more, same)))
            ∙ sym (cond-false (ltb cpu (suc n)) one [] (le-ltb cpu (suc n) (omega (arith, more))))
      ]

-- ---- from one span on

module _ (siblings cpu : ℕ) (below : cpu < siblings) where
  -- those of a sibling that begin with a span, and then those that begin later
  split : (past : Option Span) (span : Span) (later : List Span) → segments_on cpu (segments_in siblings past (span ∷ later))
      ≡ cond (begins past span cpu) (segment_from span later cpu ∷ []) [] ++ segments_on cpu (segments_in siblings (Some span) later)
  split past span later =
      let on = λ (segment : Segment). segment.cpu == cpu in
      let rest = segments_in siblings (Some span) later in
      filter-append on (map (segment_from span later) (filter (begins past span) (range_with_len 0 siblings))) rest
      ∙ ap (λ (first : List Segment). first ++ segments_on cpu rest)
      (on_one span later (begins past span) cpu siblings ∙ cond-true (ltb cpu siblings) _ [] (lt-ltb cpu siblings below))

  -- where one begins
  begun_here : (clock : ℕ) (past : Option Span) (span : Span) (later : List Span) → begins past span cpu ≡ true → span.room.clock ≡ clock → 0 < span.time →
      IsGapless (clock + span.time + total_time (take_while (goes_on cpu span) later)) (segments_on cpu (segments_in siblings (Some span) later)) (clock + span.time + total_time later) →
      IsGapless clock (segments_on cpu (segments_in siblings past (span ∷ later))) (clock + total_time (span ∷ later))
  begun_here clock past span later begun now lasts rest =
      let segment = segment_from span later cpu in
      let lasted = total_time (take_while (goes_on cpu span) later) in
      let others = segments_on cpu (segments_in siblings (Some span) later) in
      let end : clock + span.time + total_time later ≡ clock + total_time (span ∷ later) = omega (arith, sum_by-cons (λ (s : Span). s.time) span later) in
      let lasting : clock < segment.to = omega (arith, now, lasts) in
      subst (λ (xs : List Segment). IsGapless clock xs (clock + total_time (span ∷ later)))
      (sym (split past span later ∙ ap (λ (b : Bool). cond b (segment ∷ []) [] ++ others) begun)) (
        now,
        lasting,
        subst (IsGapless segment.to others) end
            (subst (λ n. IsGapless (n + span.time + lasted) others (clock + span.time + total_time later)) (sym now) rest),
      )

  gapless_after : (clock : ℕ) (past : Span) (spans : List Span) → Follow clock spans →
      IsGapless (clock + total_time (take_while (goes_on cpu past) spans)) (segments_on cpu (segments_in siblings (Some past) spans)) (clock + total_time spans)
  gapless_after clock past [] follow = refl
  gapless_after clock past (span ∷ later) follow =
      by_test (goes_on cpu past span) refl (gapless_after (clock + span.time) span later follow.2) where
        by_test : (test : Bool) → goes_on cpu past span ≡ test →
            IsGapless (clock + span.time + total_time (take_while (goes_on cpu span) later)) (segments_on cpu (segments_in siblings (Some span) later)) (clock + span.time + total_time later) →
            IsGapless (clock + total_time (take_while (goes_on cpu past) (span ∷ later))) (segments_on cpu (segments_in siblings (Some past) (span ∷ later))) (clock + total_time (span ∷ later))
        by_test true is rest =
            let same = does_the_same (segment_in past cpu) (segment_in span cpu) is in
            let alike : goes_on cpu past ≡ goes_on cpu span = λ i other. alike_after (segment_in past cpu) (segment_in span cpu) (segment_in other cpu) same i in
            let on : total_time (take_while (goes_on cpu past) (span ∷ later)) ≡ span.time + total_time (take_while (goes_on cpu span) later) =
            ap total_time (take_while-cons (goes_on cpu past) span later ∙ cond-true (goes_on cpu past span) (span ∷ take_while (goes_on cpu past) later) [] is)
            ∙ sum_by-cons (λ (s : Span). s.time) span (take_while (goes_on cpu past) later)
            ∙ ap (λ (p : Span → Bool). span.time + total_time (take_while p later)) alike in
            let from : clock + span.time + total_time (take_while (goes_on cpu span) later) ≡ clock + total_time (take_while (goes_on cpu past) (span ∷ later)) = omega (arith, on) in
            let end : clock + span.time + total_time later ≡ clock + total_time (span ∷ later) = omega (arith, sum_by-cons (λ (s : Span). s.time) span later) in
            let none : segments_on cpu (segments_in siblings (Some past) (span ∷ later)) ≡ segments_on cpu (segments_in siblings (Some span) later) =
            split (Some past) span later ∙ ap (λ (b : Bool). cond (not b) (segment_from span later cpu ∷ []) [] ++ segments_on cpu (segments_in siblings (Some span) later)) is in
            let begun = clock + span.time + total_time (take_while (goes_on cpu span) later) in
            let all = segments_on cpu (segments_in siblings (Some past) (span ∷ later)) in
            subst (λ n. IsGapless n all (clock + total_time (span ∷ later))) from
            (subst (IsGapless begun all) end (subst (λ (xs : List Segment). IsGapless begun xs (clock + span.time + total_time later)) (sym none) rest))
        by_test false is rest =
            let from : clock ≡ clock + total_time (take_while (goes_on cpu past) (span ∷ later)) =
            sym (ap (λ n. clock + n) (ap total_time (take_while-cons (goes_on cpu past) span later ∙ cond-false (goes_on cpu past span) (span ∷ take_while (goes_on cpu past) later) [] is)) ∙ omega arith) in
            subst (λ n. IsGapless n (segments_on cpu (segments_in siblings (Some past) (span ∷ later))) (clock + total_time (span ∷ later))) from
            (begun_here clock (Some past) span later (ap not is) follow.0 follow.1 rest)

  -- from the first span on
  pub gapless_in : (spans : List Span) → Follow 0 spans → IsGapless 0 (segments_on cpu (segments_in siblings None spans)) (total_time spans)
  gapless_in [] follow = refl
  gapless_in (span ∷ later) follow =
      let whole = begun_here 0 None span later refl follow.0 follow.1 (gapless_after (0 + span.time) span later follow.2) in
      subst (IsGapless 0 (segments_on cpu (segments_in siblings None (span ∷ later)))) (zero-add (total_time (span ∷ later))) whole
