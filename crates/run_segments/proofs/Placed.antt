-- Placed: how what is kept goes on by the next segment of one sibling.
use Rattle.std.proofs.Common.{◌≡◌, ◌≢◌, ℕ, zero, suc, ◌+◌, ◌<◌, ◌≤◌, Bool, true, false, cond, ltb, List, [], ◌∷◌, ◌++◌, map, set, get_or, length, refl, sym, ap, ◌∙◌, subst, inl, inr, arith, Option, Some}
use Rattle.std.specs.Prelude.{not, ◌==◌, ◌&&◌}
use Rattle.std.proofs.lemmas.Bool.{cond-true, cond-false, and_parts, and_from, and_left, eqb-true, eq-eqb, ne_eqb, lt-ltb, le-ltb, ltb-true, both_ways, false_from_ne_true, cases_eq, cases_lt}
use Rattle.std.proofs.lemmas.List.{append-nil, length-set, length-append, get_or_default, get_or-set_same, get_or-set_other, get_or_append_left}
use Rattle.std.proofs.Math.Seq.{get_or-append_seam}
use Rattle.run_times.specs.declared.doing.Doing.{Doing}
use Rattle.run_times.specs.declared.doing.Doing.TheVariants.{Offline, Runs, Idles, ForcedIdle}
use Rattle.run_times.specs.Times.{Span}
use Rattle.run_segments.specs.declared.segments.Segment.{Segment}
use Rattle.run_segments.specs.Segments.{is_same, is_alike, begins, segment_in}
use Rattle.run_segments.specs.Kept.{Kept, goes_on_with, place_of, last_before, last_goes_on, longer, with_one, kept_with, IsPlaced, ArePlaced}

-- ---- lists

-- a function that changes none
pub map-same : {X : Type 0} (f : X → X) (xs : List X) → ((i : ℕ) (d : X) → i < length xs → f (get_or xs i d) ≡ get_or xs i d) → map f xs ≡ xs
map-same f [] keeps = refl
map-same f (x ∷ xs) keeps = cc (keeps 0 x (omega arith), map-same f xs (λ i d few. keeps (suc i) d (omega arith)))

-- a function that changes one
set-map : {X : Type 0} (f : X → X) (xs : List X) (i : ℕ) (d y : X) → i < length xs → f (get_or xs i d) ≡ y →
    ((j : ℕ) (e : X) → j < length xs → j ≢ i → f (get_or xs j e) ≡ get_or xs j e) → set xs i y ≡ map f xs
set-map f [] i d y few at keeps = absurd (omega arith)
set-map f (x ∷ xs) zero d y few at keeps = cc (at, map-same f xs (λ j e less. keeps (suc j) e (omega arith) (omega arith)))
set-map f (x ∷ xs) (suc i) d y few at keeps =
    cc (keeps 0 x (omega arith) (omega arith), set-map f xs i d y (omega arith) at (λ j e less other. keeps (suc j) e (omega arith) (λ same. other (omega arith))))

-- ---- what goes on

-- a sibling that does the same does one thing
is_same_is : (a b : Doing) → is_same a b ≡ true → a ≡ b
is_same_is Offline Offline is = refl
is_same_is (Runs a) (Runs b) is = ap Runs (eqb-true a b is)
is_same_is Idles Idles is = refl
is_same_is (ForcedIdle a) (ForcedIdle b) is = ap ForcedIdle (eqb-true a b is)
is_same_is one other is = absurd cc

same_flag : (a b : Bool) → cond a b (not b) ≡ true → a ≡ b
same_flag true true is = refl
same_flag false false is = refl
same_flag true false is = absurd cc
same_flag false true is = absurd cc

-- in two segments a sibling does the same
pub record DoesTheSame (one other : Segment) : Type 0 where
  pub pid : one.pid ≡ other.pid
  pub doing : one.doing ≡ other.doing
  pub pending : one.pending ≡ other.pending

pub does_the_same : (one other : Segment) → is_alike one other ≡ true → DoesTheSame one other
does_the_same one other is =
    let does = and_parts _ (cond one.pending other.pending (not other.pending)) is in
    let runs = and_parts (one.pid == other.pid) (is_same one.doing other.doing) does.0 in
    record {
      pid = eqb-true one.pid other.pid runs.0;
      doing = is_same_is one.doing other.doing runs.1;
      pending = same_flag one.pending other.pending does.1;
    }

-- so they are alike to the same others
pub alike_after : (one other next : Segment) → DoesTheSame one other → is_alike one next ≡ is_alike other next
alike_after one other next same = λ i.
    (same.pid i == next.pid) && is_same (same.doing i) next.doing && cond (same.pending i) next.pending (not next.pending)

-- what a segment has of the next one, where it goes on with that
pub record IsAlike (one other : Segment) : Type 0 where
  pub cpu : one.cpu ≡ other.cpu
  pub to : one.to ≡ other.from
  pub does : DoesTheSame one other

pub alike : (segment next : Segment) → goes_on_with segment next ≡ true → IsAlike segment next
alike segment next is =
    let ends = and_parts _ (is_alike segment next) is in
    let place = and_parts (segment.cpu == next.cpu) (segment.to == next.from) ends.0 in
    record {
      cpu = eqb-true segment.cpu next.cpu place.0;
      to = eqb-true segment.to next.from place.1;
      does = does_the_same segment next ends.1;
    }

-- a segment of another sibling does not go on
pub other_sibling : (segment next : Segment) → segment.cpu ≢ next.cpu → goes_on_with segment next ≡ false
other_sibling segment next other =
    and_left _ (is_alike segment next) (and_left (segment.cpu == next.cpu) (segment.to == next.from) (ne_eqb segment.cpu next.cpu other))

-- a segment that goes on with the next one lasts longer
abbrev pub moved : Segment → Segment → Segment
moved next segment = cond (goes_on_with segment next) (record segment { to = next.to }) segment

-- ---- one step

module _ (siblings : ℕ) (clock : ℕ → ℕ) (past : ℕ → Option Span) (kept : Kept) where
  -- only the one at the place of the sibling goes on
  only_last : (next : Segment) → ArePlaced siblings clock past kept → next.from ≡ clock next.cpu → (i : ℕ) (d : Segment) → i < length kept.segments →
      goes_on_with (get_or kept.segments i d) next ≡ true → (place_of kept next.cpu ≡ i) × (last_goes_on kept next ≡ true)
  only_last next placed at i d few goes =
      let segment = get_or kept.segments i d in
      let is = alike segment next goes in
      let here : place_of kept next.cpu ≡ i =
      ap (place_of kept) (sym is.cpu) ∙ (placed.last i d few).last (is.to ∙ at ∙ ap clock (sym is.cpu)) in
      let within : place_of kept next.cpu < length kept.segments = omega (arith, here, few) in (
        here,
        and_from _ _ (lt-ltb (place_of kept next.cpu) (length kept.segments) within)
            (ap (λ (s : Segment). goes_on_with s next) (ap (λ n. get_or kept.segments n next) here ∙ get_or_default kept.segments i next d few) ∙ goes),
      )

  -- So each that goes on lasts longer, and where none does, the next one is one more.
  pub kept_with-segments : (next : Segment) → ArePlaced siblings clock past kept → next.from ≡ clock next.cpu →
      (kept_with next kept).segments ≡ map (moved next) kept.segments ++ cond (last_goes_on kept next) [] (next ∷ [])
  kept_with-segments next placed at = by_test (last_goes_on kept next) refl where
    place : ℕ
    place = place_of kept next.cpu

    by_test : (test : Bool) → last_goes_on kept next ≡ test →
        (cond test (longer next kept) (with_one next kept)).segments ≡ map (moved next) kept.segments ++ cond test [] (next ∷ [])
    by_test true is =
        let parts = and_parts _ _ is in
        let within : place < length kept.segments = ltb-true place (length kept.segments) parts.0 in
        set-map (moved next) kept.segments place next (record (last_before next kept) { to = next.to }) within
        (cond-true (goes_on_with (last_before next kept) next) _ _ parts.1)
        (λ i d few other. cond-false (goes_on_with (get_or kept.segments i d) next) _ _
        (false_from_ne_true _ (λ goes. other (sym (only_last next placed at i d few goes).0))))
        ∙ sym (append-nil (map (moved next) kept.segments))
    by_test false is =
        ap (λ (xs : List Segment). xs ++ next ∷ [])
        (sym (map-same (moved next) kept.segments
        (λ i d few. cond-false (goes_on_with (get_or kept.segments i d) next) _ _
        (false_from_ne_true _ (λ goes. both_ways (last_goes_on kept next) is (only_last next placed at i d few goes).1)))))

-- what goes on with the next segment of a sibling after this one
goes_like : (segment : Segment) (span next : Span) (cpu : ℕ) → segment.cpu ≡ cpu → segment.to ≡ next.room.clock → DoesTheSame segment (segment_in span cpu) →
    goes_on_with segment (segment_in next cpu) ≡ not (begins (Some span) next cpu)
goes_like segment span next cpu same to does =
    let after = segment_in next cpu in
    by_test (segment.cpu == cpu) (segment.to == next.room.clock) (is_alike segment after) (is_alike (segment_in span cpu) after)
    (eq-eqb segment.cpu cpu same) (eq-eqb segment.to next.room.clock to) (alike_after segment (segment_in span cpu) after does) where
      twice : (b : Bool) → b ≡ not (not b)
      twice true = refl
      twice false = refl

      by_test : (a b c d : Bool) → a ≡ true → b ≡ true → c ≡ d → (a && b && c) ≡ not (not d)
      by_test true true c d is_a is_b is = is ∙ twice d
      by_test true false c d is_a is_b is = absurd cc
      by_test false b c d is_a is_b is = absurd cc

-- whether the segment that stands at the place of the next one's sibling goes on with that
last_goes_on-at : (kept : Kept) (next : Segment) (i : ℕ) (segment : Segment) → place_of kept next.cpu ≡ i → i < length kept.segments → get_or kept.segments i next ≡ segment →
    last_goes_on kept next ≡ goes_on_with segment next
last_goes_on-at kept next i segment place few is =
    let within : place_of kept next.cpu < length kept.segments = omega (arith, place, few) in
    ap (λ (b : Bool). b && goes_on_with (last_before next kept) next) (lt-ltb (place_of kept next.cpu) (length kept.segments) within)
    ∙ first (goes_on_with (last_before next kept) next)
    ∙ ap (λ (s : Segment). goes_on_with s next) (ap (λ n. get_or kept.segments n next) place ∙ is) where
      first : (b : Bool) → (true && b) ≡ b
      first true = refl
      first false = refl

-- none stands there
pub none_goes_on : (kept : Kept) (next : Segment) → length kept.segments ≤ place_of kept next.cpu → last_goes_on kept next ≡ false
none_goes_on kept next past = and_left _ _ (le-ltb (place_of kept next.cpu) (length kept.segments) past)

-- the sibling of the next segment has gone on to its end, and the others are where they were
pub record GoOn (cpu time : ℕ) (span : Span) (clock clock_after : ℕ → ℕ) (past past_after : ℕ → Option Span) : Type 0 where
  pub to : clock_after cpu ≡ clock cpu + time
  pub took : past_after cpu ≡ Some span
  pub others : (other : ℕ) → other ≢ cpu → (clock_after other ≡ clock other) × (past_after other ≡ past other)

module _ (siblings cpu : ℕ) (span : Span) (clock clock_after : ℕ → ℕ) (past past_after : ℕ → Option Span) (kept : Kept) (next : Segment)
    (placed : ArePlaced siblings clock past kept) (below : cpu < siblings) (at : span.room.clock ≡ clock cpu) (lasts : 0 < span.time)
    (on : GoOn cpu span.time span clock clock_after past past_after) (is : next ≡ segment_in span cpu) (ends : next.to ≡ clock_after cpu) where
  same : next.cpu ≡ cpu
  same = ap (λ (s : Segment). s.cpu) is

  -- a segment that was there, at a place that stays
  stays : (kept_after : Kept) (i : ℕ) (segment : Segment) → IsPlaced siblings clock kept i segment →
      (segment.cpu ≢ cpu → place_of kept_after segment.cpu ≡ place_of kept segment.cpu) → IsPlaced siblings clock_after kept_after i segment
  stays kept_after i segment was stay =
      elim (cases_eq segment.cpu cpu) [
        | inl here ↦
            let less : segment.to < clock_after segment.cpu = omega (arith, was.ended, ap clock here, ap clock_after here, on.to, lasts) in
            record { cpu = was.cpu; ended = omega arith; last = λ late. absurd (omega (arith, less, late)) }
        | inr other ↦
            let alike = (on.others segment.cpu other).0 in
            record { cpu = was.cpu; ended = omega (arith, was.ended, alike); last = λ late. stay other ∙ was.last (late ∙ alike) }
      ]

  -- the segment with which the sibling has gone on
  is_last : (kept_after : Kept) (segment : Segment) → segment.cpu ≡ cpu → segment.to ≡ next.to → IsPlaced siblings clock_after kept_after (place_of kept_after cpu) segment
  is_last kept_after segment here to =
      record {
        cpu = omega (arith, here, below);
        ended = omega (arith, to, ends, ap clock_after here);
        last = λ _. ap (place_of kept_after) here;
      }

  -- what goes on next: at this sibling, and at the others as before
  goes_next : (after : Kept) →
      ((y : Span) → y.room.clock ≡ clock_after cpu → last_goes_on after (segment_in y cpu) ≡ not (begins (past_after cpu) y cpu)) →
      ((c : ℕ) (y : Span) → c ≢ cpu → last_goes_on after (segment_in y c) ≡ last_goes_on kept (segment_in y c)) →
      (c : ℕ) (y : Span) → c < siblings → y.room.clock ≡ clock_after c → last_goes_on after (segment_in y c) ≡ not (begins (past_after c) y c)
  goes_next after goes_here goes_there c y few now =
      elim (cases_eq c cpu) [
        | inl here ↦ subst (λ (n : ℕ). last_goes_on after (segment_in y n) ≡ not (begins (past_after n) y n)) (sym here) (goes_here y (now ∙ ap clock_after here))
        | inr other ↦
            goes_there c y other ∙ placed.goes_on c y few (now ∙ (on.others c other).0)
            ∙ ap (λ (o : Option Span). not (begins o y c)) (sym (on.others c other).1)
      ]

  -- it lasts longer
  placed_longer : last_goes_on kept next ≡ true → ArePlaced siblings clock_after past_after (longer next kept)
  placed_longer goes =
      record {
        each = placed.each;
        last = λ i d few.
            let before : i < length kept.segments = omega (arith, few, length-set kept.segments place moved_on) in
            elim (cases_eq i place) [
              | inl here ↦
                  subst (IsPlaced siblings clock_after after i) (sym (ap (λ n. get_or (set kept.segments place moved_on) n d) here ∙ get_or-set_same kept.segments place moved_on d within))
                  (subst (λ (n : ℕ). IsPlaced siblings clock_after after n moved_on) (sym (here ∙ ap (place_of kept) same)) (is_last after moved_on (was.cpu ∙ same) refl))
              | inr other ↦
                  subst (IsPlaced siblings clock_after after i) (sym (get_or-set_other kept.segments place i moved_on d other))
                  (stays after i (get_or kept.segments i d) (placed.last i d before) (λ _. refl))
            ];
        goes_on = goes_next after goes_here goes_there;
      } where
        place : ℕ
        place = place_of kept next.cpu

        segment : Segment
        segment = last_before next kept

        moved_on : Segment
        moved_on = record segment { to = next.to }

        after : Kept
        after = longer next kept

        within : place < length kept.segments
        within = ltb-true place (length kept.segments) (and_parts (ltb place (length kept.segments)) (goes_on_with segment next) goes).0

        was : IsAlike segment next
        was = alike segment next (and_parts (ltb place (length kept.segments)) (goes_on_with segment next) goes).1

        goes_here : (y : Span) → y.room.clock ≡ clock_after cpu → last_goes_on after (segment_in y cpu) ≡ not (begins (past_after cpu) y cpu)
        goes_here y now =
            last_goes_on-at after (segment_in y cpu) place moved_on (ap (place_of kept) (sym same)) (omega (arith, within, length-set kept.segments place moved_on))
            (get_or-set_same kept.segments place moved_on (segment_in y cpu) within)
            ∙ goes_like moved_on span y cpu (was.cpu ∙ same) (ends ∙ sym now) (subst (DoesTheSame moved_on) is (record { pid = was.does.pid; doing = was.does.doing; pending = was.does.pending }))
            ∙ ap (λ (o : Option Span). not (begins o y cpu)) (sym on.took)

        goes_there : (c : ℕ) (y : Span) → c ≢ cpu → last_goes_on after (segment_in y c) ≡ last_goes_on kept (segment_in y c)
        goes_there c y other =
            elim (cases_lt (place_of kept c) (length kept.segments)) [
              | inl few ↦
                  last_goes_on-at after (segment_in y c) (place_of kept c) _ refl (omega (arith, few, length-set kept.segments place moved_on)) refl
                  ∙ elim (cases_eq (place_of kept c) place) [
                    | inl here ↦
                        ap (λ (s : Segment). goes_on_with s (segment_in y c)) (ap (λ n. get_or (set kept.segments place moved_on) n (segment_in y c)) here ∙ get_or-set_same kept.segments place moved_on (segment_in y c) within)
                        ∙ other_sibling moved_on (segment_in y c) (λ e. other (sym e ∙ was.cpu ∙ same))
                        ∙ sym (last_goes_on-at kept (segment_in y c) place segment here within (get_or_default kept.segments place (segment_in y c) next within)
                        ∙ other_sibling segment (segment_in y c) (λ e. other (sym e ∙ was.cpu ∙ same)))
                    | inr apart ↦
                        ap (λ (s : Segment). goes_on_with s (segment_in y c)) (get_or-set_other kept.segments place (place_of kept c) moved_on (segment_in y c) apart)
                        ∙ sym (last_goes_on-at kept (segment_in y c) (place_of kept c) _ refl few refl)
                  ]
              | inr past ↦
                  none_goes_on after (segment_in y c) (omega (arith, past, length-set kept.segments place moved_on)) ∙ sym (none_goes_on kept (segment_in y c) past)
            ]

  -- the next one is one more
  placed_with_one : ArePlaced siblings clock_after past_after (with_one next kept)
  placed_with_one =
      record {
        each = length-set kept.places next.cpu count ∙ placed.each;
        last = λ i d few.
            elim (cases_lt i count) [
              | inl before ↦
                  subst (IsPlaced siblings clock_after after i) (sym (get_or_append_left kept.segments (next ∷ []) d i before))
                  (stays after i (get_or kept.segments i d) (placed.last i d before) (λ other. place_there (get_or kept.segments i d).cpu other))
              | inr past ↦
                  let here : i ≡ count = omega (arith, past, few, length-append kept.segments (next ∷ [])) in
                  subst (IsPlaced siblings clock_after after i) (sym (ap (λ n. get_or (kept.segments ++ next ∷ []) n d) here ∙ get_or-append_seam kept.segments next [] d))
                  (subst (λ (n : ℕ). IsPlaced siblings clock_after after n next) (place_here ∙ sym here) (is_last after next same refl))
            ];
        goes_on = goes_next after goes_here goes_there;
      } where
        count : ℕ
        count = length kept.segments

        after : Kept
        after = with_one next kept

        place_here : place_of after cpu ≡ count
        place_here =
            ap (λ n. get_or (set kept.places n count) cpu 0) same ∙ get_or-set_same kept.places cpu count 0 (omega (arith, below, placed.each))

        place_there : (c : ℕ) → c ≢ cpu → place_of after c ≡ place_of kept c
        place_there c other = get_or-set_other kept.places next.cpu c count 0 (λ e. other (e ∙ same))

        goes_here : (y : Span) → y.room.clock ≡ clock_after cpu → last_goes_on after (segment_in y cpu) ≡ not (begins (past_after cpu) y cpu)
        goes_here y now =
            last_goes_on-at after (segment_in y cpu) count next place_here (omega (arith, length-append kept.segments (next ∷ [])))
            (get_or-append_seam kept.segments next [] (segment_in y cpu))
            ∙ goes_like next span y cpu same (ends ∙ sym now) (subst (DoesTheSame next) is (record { pid = refl; doing = refl; pending = refl }))
            ∙ ap (λ (o : Option Span). not (begins o y cpu)) (sym on.took)

        goes_there : (c : ℕ) (y : Span) → c ≢ cpu → last_goes_on after (segment_in y c) ≡ last_goes_on kept (segment_in y c)
        goes_there c y other =
            elim (cases_lt (place_of kept c) count) [
              | inl few ↦
                  last_goes_on-at after (segment_in y c) (place_of kept c) _ (place_there c other) (omega (arith, few, length-append kept.segments (next ∷ [])))
                  (get_or_append_left kept.segments (next ∷ []) (segment_in y c) (place_of kept c) few)
                  ∙ sym (last_goes_on-at kept (segment_in y c) (place_of kept c) _ refl few refl)
              | inr past ↦
                  elim (cases_eq (place_of kept c) count) [
                    | inl here ↦
                        last_goes_on-at after (segment_in y c) count next (place_there c other ∙ here) (omega (arith, length-append kept.segments (next ∷ [])))
                        (get_or-append_seam kept.segments next [] (segment_in y c))
                        ∙ other_sibling next (segment_in y c) (λ e. other (sym e ∙ same))
                    | inr apart ↦ none_goes_on after (segment_in y c) (omega (arith, past, apart, place_there c other, length-append kept.segments (next ∷ [])))
                  ]
                  ∙ sym (none_goes_on kept (segment_in y c) past)
            ]

  -- Each segment stands at its place again.
  pub placed_with : ArePlaced siblings clock_after past_after (kept_with next kept)
  placed_with = by_test (last_goes_on kept next) refl where
    by_test : (test : Bool) → last_goes_on kept next ≡ test → ArePlaced siblings clock_after past_after (cond test (longer next kept) (with_one next kept))
    by_test true goes = placed_longer goes
    by_test false goes = placed_with_one

-- the places stay as many
pub length-kept_with : (next : Segment) (kept : Kept) → length (kept_with next kept).places ≡ length kept.places
length-kept_with next kept = by_test (last_goes_on kept next) where
  by_test : (test : Bool) → length (cond test (longer next kept) (with_one next kept)).places ≡ length kept.places
  by_test true = refl
  by_test false = length-set kept.places next.cpu (length kept.segments)

-- with what is so at each sibling written in another way
pub placed-alike : (siblings : ℕ) (clock other_clock : ℕ → ℕ) (past other_past : ℕ → Option Span) (kept : Kept) →
    ((cpu : ℕ) → cpu < siblings → (other_clock cpu ≡ clock cpu) × (other_past cpu ≡ past cpu)) →
    ArePlaced siblings clock past kept → ArePlaced siblings other_clock other_past kept
placed-alike siblings clock other_clock past other_past kept alike placed =
    record {
      each = placed.each;
      last = λ i d few.
          let was = placed.last i d few in
          let same = (alike (get_or kept.segments i d).cpu was.cpu).0 in
          record { cpu = was.cpu; ended = omega (arith, was.ended, same); last = λ late. was.last (late ∙ same) };
      goes_on = λ cpu next below now.
          placed.goes_on cpu next below (now ∙ (alike cpu below).0) ∙ ap (λ (o : Option Span). not (begins o next cpu)) (sym (alike cpu below).1);
    }
