-- Seats: what a write to one of them makes of the guards, and that they stay kept.
use Rattle.std.proofs.Common.{◌≡◌, ◌≢◌, ℕ, ◌<◌, ◌≤◌, Bool, true, false, cond, List, [], ◌∷◌, ◌++◌, length, map, get_or, length-set, length-append, refl, sym, ◌∙◌, ap, subst, inl, inr, Option, Some, None, arith}
use Rattle.std.specs.Prelude.{◌==◌, not, filter, sum, option_map}
use Rattle.std.proofs.Math.ListN.{set}
use Rattle.std.proofs.lemmas.Bool.{cases_Bool, cases_lt, both_ways, eqb-true, eqb-false, cond_both, cond-false}
use Rattle.std.proofs.lemmas.List.{get_or-map, get_or_past, length-map, map-set, get_or-set_same, get_or-set_other, set-get_or}
use Rattle.std.proofs.lemmas.List.Sums.{sum_by_push, sum_by-set, sum-map}
use Rattle.std.proofs.lemmas.Option.{slice_get-map, slice_get_past, slice_get_read}
use Rattle.std.proofs.lemmas.List.Filters.{sum_by-filter_both, length-filter_both}
use Rattle.cs_types.specs.declared.view.GuardPlace.{GuardPlace}
use Rattle.cs_types.specs.declared.view.GuardView.{GuardView}
use Rattle.cs_types.specs.View.{guard_view}
use Rattle.cs_types.specs.declared.view.GuardPlace.TheVariants.{Bench, Active, Dropped}
use Rattle.cs_types.specs.Guards.{GuardState, GuardList, no_guard, guard_of, with_guard, is_bench, is_active}
use Rattle.cs_types.proofs.Lists.{get_or-set_alike, map-set_alike}
use Rattle.ptrace_check.specs.Guards.{Seated, cap_of}
use Rattle.ptrace_check.specs.declared.answer.TeachAnswer.{TeachAnswer}
use Rattle.ptrace_check.specs.declared.answer.TeachAnswer.TheVariants.{Taught, NoGuard, Full, OutOfMemory}
use Rattle.ptrace_check.specs.Answers.{IsTeachAnswer, with_answer}
use Rattle.ptrace_check.specs.Inside.{guards_in, bench_count, turns_of, most_turns, AreKept}

-- ---- one seat

-- the guard in a seat is that of its number
pub guard_in : (seats : List Seated) (active : List ℕ) (i : ℕ) (seat : Seated) → i < length seats → seat ≡ get_or seats i seat → guard_of (guards_in seats active) i ≡ seat.guard
guard_in seats active i seat within is =
    get_or-map (λ (s : Seated). s.guard) seats i seat no_guard within ∙ ap (λ (s : Seated). s.guard) (sym is)

-- and so is what it can be taught
pub cap_in : (seats : List Seated) (i : ℕ) (seat : Seated) → i < length seats → seat ≡ get_or seats i seat → cap_of (map (λ (s : Seated). s.cap) seats) i ≡ seat.cap
cap_in seats i seat within is =
    get_or-map (λ (s : Seated). s.cap) seats i seat 0 within ∙ ap (λ (s : Seated). s.cap) (sym is)

-- no guard is past the last seat
pub guard_past : (seats : List Seated) (active : List ℕ) (i : ℕ) → length seats ≤ i → guard_of (guards_in seats active) i ≡ no_guard
guard_past seats active i past =
    get_or_past (map (λ (s : Seated). s.guard) seats) i no_guard (omega (arith, past, length-map seats (λ (s : Seated). s.guard)))

-- where a seat that is asked for is none, its number is past the last
pub past_from : (i count long : ℕ) → count ≡ long → (i < count → false ≡ true) → long ≤ i
past_from i count long same never = elim (cases_lt i count) [
  | inl within ↦ absurd (both_ways false refl (never within))
  | inr past ↦ omega (arith, past, same)
]

-- a write to a seat is one to the guard of its number
pub guards_in-set : (seats : List Seated) (active : List ℕ) (i : ℕ) (seat : Seated) → guards_in (set seats i seat) active ≡ with_guard (guards_in seats active) i seat.guard
guards_in-set seats active i seat =
    let with_all : List GuardState → GuardList = λ all. record { all = all; active = active } in
    ap with_all (map-set (λ (s : Seated). s.guard) seats i seat)

-- ---- what is kept

-- how many guards stand on the bench, where a write leaves a guard in its place
bench_count-set_alike : (guards : List GuardState) (i : ℕ) (guard : GuardState) → guard.place ≡ (get_or guards i no_guard).place → bench_count (set guards i guard) ≡ bench_count guards
bench_count-set_alike guards i guard same =
    let f : GuardState → ℕ = λ g. cond (is_bench g.place) 1 0 in
    let alike : f guard ≡ f (get_or guards i no_guard) = ap (λ (place : GuardPlace). cond (is_bench place) 1 0) same in
    sym (sum-map f (set guards i guard)) ∙ ap sum (map-set_alike f guards i guard no_guard alike) ∙ sum-map f guards

-- a guard that is written in its place
pub AreKept-with_guard : (guards : GuardList) (places i : ℕ) (guard : GuardState) → guard.place ≡ (guard_of guards i).place → AreKept guards places → AreKept (with_guard guards i guard) places
AreKept-with_guard guards places i guard same are =
    let long = length-set guards.all i guard in
    record {
      once = λ index. omega (arith, are.once index, get_or-set_alike most_turns guards.all i guard index no_guard (ap (λ (place : GuardPlace). cond (is_active place) 1 0) same));
      parts = omega (arith, are.parts, long, bench_count-set_alike guards.all i guard same);
      fits = omega (arith, are.fits, long);
      few = omega (arith, are.few, long);
    }

-- a guard that is loaded
pub AreKept-load : (guards : GuardList) (places i : ℕ) (guard : GuardState) → i < length guards.all → (guard_of guards i).place ≡ Bench → guard.place ≡ Active → AreKept guards places →
    AreKept (record (with_guard guards i guard) { active = guards.active ++ i ∷ [] }) places
AreKept-load guards places i guard within was is are =
    let long = length-set guards.all i guard in
    let bench : GuardState → ℕ = λ g. cond (is_bench g.place) 1 0 in
    let before : bench (guard_of guards i) ≡ 1 = ap (λ (place : GuardPlace). cond (is_bench place) 1 0) was in
    let after : bench guard ≡ 0 = ap (λ (place : GuardPlace). cond (is_bench place) 1 0) is in
    let idle : most_turns (guard_of guards i) ≡ 0 = ap (λ (place : GuardPlace). cond (is_active place) 1 0) was in
    let busy : most_turns guard ≡ 1 = ap (λ (place : GuardPlace). cond (is_active place) 1 0) is in
    record {
      once = λ index. elim (cases_Bool (i == index)) [
        | inl there ↦
            let same : i ≡ index = eqb-true i index there in
            subst (λ (index : ℕ). turns_of (guards.active ++ i ∷ []) index ≤ most_turns (get_or (set guards.all i guard) index no_guard)) same
            (omega (
              arith,
              are.once i,
              sum_by_push (λ (other : ℕ). cond (other == i) 1 0) guards.active i,
              cond_both (i == i) 1 0 (λ (n : ℕ). n ≤ 1) (λ _. omega arith) (λ _. omega arith),
              ap most_turns (get_or-set_same guards.all i guard no_guard within),
            ))
        | inr apart ↦
            let other : index ≢ i = λ same. eqb-false i index apart (sym same) in
            omega (
              arith,
              are.once index,
              sum_by_push (λ (other : ℕ). cond (other == index) 1 0) guards.active i,
              cond-false {A = ℕ} (i == index) 1 0 apart,
              ap most_turns (get_or-set_other guards.all i index guard no_guard other),
            )
      ];
      parts = omega (arith, are.parts, long, sum_by-set bench guards.all i guard no_guard within, length-append guards.active (i ∷ []));
      fits = omega (arith, are.fits, long);
      few = omega (arith, are.few, long);
    }

-- a number does not stand in a list without it
turns_of-filter : (active : List ℕ) (i : ℕ) → turns_of (filter (λ other. not (other == i)) active) i ≡ 0
turns_of-filter [] i = refl
turns_of-filter (x ∷ xs) i =
    elim (cases_Bool (x == i)) [
      | inl there ↦ simp (there, turns_of-filter xs i)
      | inr apart ↦ simp (apart, turns_of-filter xs i)
    ]

-- a guard that is dropped
pub AreKept-unload : (guards : GuardList) (places i : ℕ) (guard : GuardState) → i < length guards.all → (guard_of guards i).place ≡ Active → guard.place ≡ Dropped → AreKept guards places →
    AreKept (record (with_guard guards i guard) { active = filter (λ other. not (other == i)) guards.active }) places
AreKept-unload guards places i guard within was is are =
    let long = length-set guards.all i guard in
    let bench : GuardState → ℕ = λ g. cond (is_bench g.place) 1 0 in
    let before : bench (guard_of guards i) ≡ 0 = ap (λ (place : GuardPlace). cond (is_bench place) 1 0) was in
    let after : bench guard ≡ 0 = ap (λ (place : GuardPlace). cond (is_bench place) 1 0) is in
    let stays : ℕ → Bool = λ other. not (other == i) in
    record {
      once = λ index. elim (cases_Bool (i == index)) [
        | inl there ↦
            let same : i ≡ index = eqb-true i index there in
            subst (λ (index : ℕ). turns_of (filter stays guards.active) index ≤ most_turns (get_or (set guards.all i guard) index no_guard)) same
            (omega (arith, turns_of-filter guards.active i))
        | inr apart ↦
            let other : index ≢ i = λ same. eqb-false i index apart (sym same) in
            omega (
              arith,
              are.once index,
              sum_by-filter_both stays (λ other. not (stays other)) (λ _. refl) (λ (other : ℕ). cond (other == index) 1 0) guards.active,
              ap most_turns (get_or-set_other guards.all i index guard no_guard other),
            )
      ];
      parts = omega (arith, are.parts, long, sum_by-set bench guards.all i guard no_guard within, length-filter_both stays (λ other. not (stays other)) (λ _. refl) guards.active);
      fits = omega (arith, are.fits, long);
      few = omega (arith, are.few, long);
    }

-- ---- the calls

-- a pair that is taught leaves a guard in its place
pub place-with_answer : (answer : TeachAnswer) (pair : ℕ × ℕ) (guard : GuardState) → (with_answer answer pair guard).place ≡ guard.place
place-with_answer Taught pair guard = refl
place-with_answer NoGuard pair guard = refl
place-with_answer (Full named) pair guard = refl
place-with_answer OutOfMemory pair guard = refl

-- a guard that is written as it is
pub with_guard-same : (guards : GuardList) (i : ℕ) → guards ≡ with_guard guards i (guard_of guards i)
with_guard-same guards i = ap (λ (all : List GuardState). record guards { all = all }) (sym (set-get_or guards.all i no_guard))

-- what the answer of a seat says of the guard of its number
pub teach_answer-in : (seats : List Seated) (active : List ℕ) (i : ℕ) (seat : Seated) (answer : TeachAnswer) → i < length seats → seat ≡ get_or seats i seat →
    IsTeachAnswer seat.guard seat.cap answer → IsTeachAnswer (guard_of (guards_in seats active) i) (cap_of (map (λ (s : Seated). s.cap) seats) i) answer
teach_answer-in seats active i seat answer within is says =
    subst (λ (guard : GuardState). IsTeachAnswer guard (cap_of (map (λ (s : Seated). s.cap) seats) i) answer) (sym (guard_in seats active i seat within is))
    (subst (λ (cap : ℕ). IsTeachAnswer seat.guard cap answer) (sym (cap_in seats i seat within is)) says)

-- what a write that leaves the caps makes of them
pub caps-set_alike : (seats : List Seated) (i : ℕ) (seat now : Seated) → seat ≡ get_or seats i seat → now.cap ≡ seat.cap → map (λ (s : Seated). s.cap) (set seats i now) ≡ map (λ (s : Seated). s.cap) seats
caps-set_alike seats i seat now is same =
    map-set_alike (λ (s : Seated). s.cap) seats i now seat (same ∙ ap (λ (s : Seated). s.cap) is)

-- ---- what is shown

abbrev shown : GuardState → GuardView
shown guard = record { place = guard.place; asked = guard.asked }

-- what is shown of the guard in a seat
pub guard_view-in : (seats : List Seated) (active : List ℕ) (i : ℕ) (seat : Seated) → i < length seats → seat ≡ get_or seats i seat →
    Some (record { place = seat.guard.place; asked = seat.guard.asked }) ≡ guard_view (guards_in seats active) i
guard_view-in seats active i seat within is =
    sym (
    ap (option_map shown) (slice_get-map (λ (s : Seated). s.guard) seats i)
    ∙ ap (λ (found : Option Seated). option_map shown (option_map (λ (s : Seated). s.guard) found)) (slice_get_read seats (length seats) i seat refl within is)
    )

-- and where there is no seat
pub guard_view-past : (seats : List Seated) (active : List ℕ) (i : ℕ) → length seats ≤ i → None ≡ guard_view (guards_in seats active) i
guard_view-past seats active i past =
    sym (ap (option_map shown) (slice_get-map (λ (s : Seated). s.guard) seats i)
    ∙ ap (λ (found : Option Seated). option_map shown (option_map (λ (s : Seated). s.guard) found)) (slice_get_past seats i past))
