-- Loads: what loading a guard and dropping one make of the seats.
use Rattle.std.proofs.Common.{◌≡◌, ℕ, ◌<◌, ◌≤◌, false, cond, List, [], ◌∷◌, ◌++◌, length, map, get_or, refl, sym, ◌∙◌, ap, subst, arith}
use Rattle.std.specs.Prelude.{◌==◌, not, filter}
use Rattle.std.proofs.Math.ListN.{set}
use Rattle.std.proofs.lemmas.Bool.{cond-true, cond-false}
use Rattle.std.proofs.lemmas.List.{set-get_or, set_past, map-set, length-map}
use Rattle.std.proofs.lemmas.List.Sums.{get_or-le-sum_by}
use Rattle.cs_types.specs.declared.view.GuardPlace.{GuardPlace}
use Rattle.cs_types.specs.declared.view.GuardPlace.TheVariants.{Bench, Active, Dropped}
use Rattle.cs_types.specs.Guards.{GuardState, GuardList, no_guard, guard_of, with_guard, is_bench, is_active, load, unload}
use Rattle.ptrace_check.specs.declared.answer.LoadAnswer.TheVariants as load_with
use Rattle.ptrace_check.specs.declared.answer.UnloadAnswer.TheVariants as unload_with
use Rattle.ptrace_check.specs.Guards.{Seated, cap_of}
use Rattle.ptrace_check.specs.Answers.{load_answer, loaded, unload_answer, unloaded, cap_without}
use Rattle.ptrace_check.specs.Inside.{guards_in, AreKept}
use Rattle.ptrace_check.proofs.Seats.{guard_in, guard_past, cap_in, guards_in-set, AreKept-load, AreKept-unload}

-- ---- what an answer says of a guard

bench_from : (place : GuardPlace) → load_with.Loaded ≡ cond (is_bench place) load_with.Loaded load_with.NoGuard → place ≡ Bench
bench_from Bench h = refl
bench_from Active h = absurd cc
bench_from Dropped h = absurd cc

not_bench_from : (place : GuardPlace) → load_with.NoGuard ≡ cond (is_bench place) load_with.Loaded load_with.NoGuard → is_bench place ≡ false
not_bench_from Bench h = absurd cc
not_bench_from Active h = refl
not_bench_from Dropped h = refl

active_from : (place : GuardPlace) → unload_with.Dropped ≡ cond (is_active place) unload_with.Dropped unload_with.NoGuard → place ≡ Active
active_from Bench h = absurd cc
active_from Active h = refl
active_from Dropped h = absurd cc

not_active_from : (place : GuardPlace) → unload_with.NoGuard ≡ cond (is_active place) unload_with.Dropped unload_with.NoGuard → is_active place ≡ false
not_active_from Bench h = refl
not_active_from Active h = absurd cc
not_active_from Dropped h = refl

-- ---- a guard that stays

-- what a guard that is written as it was makes of the guards
guards_in-same : (seats : List Seated) (active : List ℕ) (i : ℕ) (seat now : Seated) → i < length seats → seat ≡ get_or seats i seat → now.guard ≡ seat.guard →
    guards_in (set seats i now) active ≡ guards_in seats active
guards_in-same seats active i seat now within is same =
    let guards = guards_in seats active in
    guards_in-set seats active i now
    ∙ ap (λ (guard : GuardState). with_guard guards i guard) (same ∙ sym (guard_in seats active i seat within is))
    ∙ ap (λ (all : List GuardState). record guards { all = all }) (set-get_or guards.all i no_guard)

-- ---- loading

pub load_stays : (seats : List Seated) (active : List ℕ) (i : ℕ) (seat now : Seated) → i < length seats → seat ≡ get_or seats i seat →
    load_with.NoGuard ≡ load_answer seat.guard → now.guard ≡ loaded seat.guard → guards_in (set seats i now) active ≡ guards_in seats active
load_stays seats active i seat now within is answer is_now =
    guards_in-same seats active i seat now within is (is_now ∙ cond-false (is_bench seat.guard.place) _ _ (not_bench_from seat.guard.place answer))

pub load_refused : (seats : List Seated) (active : List ℕ) (i : ℕ) (seat : Seated) → i < length seats → seat ≡ get_or seats i seat →
    load_with.NoGuard ≡ load_answer seat.guard → load (guards_in seats active) i ≡ guards_in seats active
load_refused seats active i seat within is answer =
    let was = guard_in seats active i seat within is in
    cond-false (is_bench (guard_of (guards_in seats active) i).place) _ _ (ap (λ (guard : GuardState). is_bench guard.place) was ∙ not_bench_from seat.guard.place answer)

loaded_on_bench : (seat : Seated) (now : GuardState) → seat.guard.place ≡ Bench → now ≡ loaded seat.guard → now ≡ record seat.guard { place = Active }
loaded_on_bench seat now bench is_now = is_now ∙ cond-true (is_bench seat.guard.place) _ _ (ap is_bench bench)

pub load_adds : (seats : List Seated) (active : List ℕ) (i : ℕ) (seat now : Seated) → i < length seats → seat ≡ get_or seats i seat →
    load_with.Loaded ≡ load_answer seat.guard → now.guard ≡ loaded seat.guard → guards_in (set seats i now) (active ++ i ∷ []) ≡ load (guards_in seats active) i
load_adds seats active i seat now within is answer is_now =
    let guards = guards_in seats active in
    let was = guard_in seats active i seat within is in
    let bench = bench_from seat.guard.place answer in
    let with_it : GuardState → GuardList = λ guard. record (with_guard guards i guard) { active = active ++ i ∷ [] } in
    let active_now : GuardState → GuardState = λ guard. record guard { place = Active } in
    guards_in-set seats (active ++ i ∷ []) i now
    ∙ ap with_it (loaded_on_bench seat now.guard bench is_now ∙ ap active_now (sym was))
    ∙ sym (cond-true (is_bench (guard_of guards i).place) _ _ (ap (λ (guard : GuardState). is_bench guard.place) was ∙ ap is_bench bench))

pub load_keeps : (seats : List Seated) (active : List ℕ) (places i : ℕ) (seat now : Seated) → i < length seats → seat ≡ get_or seats i seat →
    load_with.Loaded ≡ load_answer seat.guard → now.guard ≡ loaded seat.guard → AreKept (guards_in seats active) places →
    AreKept (guards_in (set seats i now) (active ++ i ∷ [])) places
load_keeps seats active places i seat now within is answer is_now are =
    let place_of : GuardState → GuardPlace = λ guard. guard.place in
    let bench = bench_from seat.guard.place answer in
    subst (λ (guards : GuardList). AreKept guards places) (sym (guards_in-set seats (active ++ i ∷ []) i now))
    (AreKept-load (guards_in seats active) places i now.guard (omega (arith, length-map seats (λ (s : Seated). s.guard)))
    (ap place_of (guard_in seats active i seat within is) ∙ bench)
    (ap place_of (loaded_on_bench seat now.guard bench is_now)) are)

-- ---- dropping

pub unload_stays : (seats : List Seated) (active : List ℕ) (i : ℕ) (seat now : Seated) → i < length seats → seat ≡ get_or seats i seat →
    unload_with.NoGuard ≡ unload_answer seat.guard → now.guard ≡ unloaded seat.guard → guards_in (set seats i now) active ≡ guards_in seats active
unload_stays seats active i seat now within is answer is_now =
    guards_in-same seats active i seat now within is (is_now ∙ cond-false (is_active seat.guard.place) _ _ (not_active_from seat.guard.place answer))

pub unload_refused : (seats : List Seated) (active : List ℕ) (i : ℕ) (seat : Seated) → i < length seats → seat ≡ get_or seats i seat →
    unload_with.NoGuard ≡ unload_answer seat.guard → unload (guards_in seats active) i ≡ guards_in seats active
unload_refused seats active i seat within is answer =
    let was = guard_in seats active i seat within is in
    cond-false (is_active (guard_of (guards_in seats active) i).place) _ _ (ap (λ (guard : GuardState). is_active guard.place) was ∙ not_active_from seat.guard.place answer)

unloaded_active : (seat : Seated) (now : GuardState) → seat.guard.place ≡ Active → now ≡ unloaded seat.guard → now ≡ record seat.guard { place = Dropped; pairs = [] }
unloaded_active seat now active is_now = is_now ∙ cond-true (is_active seat.guard.place) _ _ (ap is_active active)

pub unload_drops : (seats : List Seated) (active : List ℕ) (i : ℕ) (seat now : Seated) → i < length seats → seat ≡ get_or seats i seat →
    unload_with.Dropped ≡ unload_answer seat.guard → now.guard ≡ unloaded seat.guard →
    guards_in (set seats i now) (filter (λ other. not (other == i)) active) ≡ unload (guards_in seats active) i
unload_drops seats active i seat now within is answer is_now =
    let guards = guards_in seats active in
    let others = filter (λ (other : ℕ). not (other == i)) active in
    let was = guard_in seats active i seat within is in
    let is_there = active_from seat.guard.place answer in
    let with_it : GuardState → GuardList = λ guard. record (with_guard guards i guard) { active = others } in
    let dropped_now : GuardState → GuardState = λ guard. record guard { place = Dropped; pairs = [] } in
    guards_in-set seats others i now
    ∙ ap with_it (unloaded_active seat now.guard is_there is_now ∙ ap dropped_now (sym was))
    ∙ sym (cond-true (is_active (guard_of guards i).place) _ _ (ap (λ (guard : GuardState). is_active guard.place) was ∙ ap is_active is_there))

pub unload_keeps : (seats : List Seated) (active : List ℕ) (places i : ℕ) (seat now : Seated) → i < length seats → seat ≡ get_or seats i seat →
    unload_with.Dropped ≡ unload_answer seat.guard → now.guard ≡ unloaded seat.guard → AreKept (guards_in seats active) places →
    AreKept (guards_in (set seats i now) (filter (λ other. not (other == i)) active)) places
unload_keeps seats active places i seat now within is answer is_now are =
    let place_of : GuardState → GuardPlace = λ guard. guard.place in
    let is_there = active_from seat.guard.place answer in
    subst (λ (guards : GuardList). AreKept guards places) (sym (guards_in-set seats (filter (λ (other : ℕ). not (other == i)) active) i now))
    (AreKept-unload (guards_in seats active) places i now.guard (omega (arith, length-map seats (λ (s : Seated). s.guard)))
    (ap place_of (guard_in seats active i seat within is) ∙ is_there)
    (ap place_of (unloaded_active seat now.guard is_there is_now)) are)

-- what a seat that is written makes of the caps, where a guard may be dropped
pub caps-unload : (seats : List Seated) (active : List ℕ) (i : ℕ) (seat now : Seated) → i < length seats → seat ≡ get_or seats i seat → now.cap ≡ cap_without seat.guard seat.cap →
    map (λ (s : Seated). s.cap) (set seats i now)
    ≡ set (map (λ (s : Seated). s.cap) seats) i (cap_without (guard_of (guards_in seats active) i) (cap_of (map (λ (s : Seated). s.cap) seats) i))
caps-unload seats active i seat now within is is_cap =
    let caps = map (λ (s : Seated). s.cap) seats in
    map-set (λ (s : Seated). s.cap) seats i now
    ∙ ap (λ (cap : ℕ). set caps i cap) (
    is_cap
    ∙ ap (λ (guard : GuardState). cap_without guard seat.cap) (sym (guard_in seats active i seat within is))
    ∙ ap (cap_without (guard_of (guards_in seats active) i)) (sym (cap_in seats i seat within is))
    )

-- ---- where there is no seat

pub load_answer-past : (seats : List Seated) (active : List ℕ) (i : ℕ) → length seats ≤ i → load_with.NoGuard ≡ load_answer (guard_of (guards_in seats active) i)
load_answer-past seats active i past = ap load_answer (sym (guard_past seats active i past))

pub load-past : (seats : List Seated) (active : List ℕ) (i : ℕ) → length seats ≤ i → guards_in seats active ≡ load (guards_in seats active) i
load-past seats active i past =
    sym (cond-false (is_bench (guard_of (guards_in seats active) i).place) _ _ (ap (λ (guard : GuardState). is_bench guard.place) (guard_past seats active i past)))

pub unload_answer-past : (seats : List Seated) (active : List ℕ) (i : ℕ) → length seats ≤ i → unload_with.NoGuard ≡ unload_answer (guard_of (guards_in seats active) i)
unload_answer-past seats active i past = ap unload_answer (sym (guard_past seats active i past))

pub unload-past : (seats : List Seated) (active : List ℕ) (i : ℕ) → length seats ≤ i → guards_in seats active ≡ unload (guards_in seats active) i
unload-past seats active i past =
    sym (cond-false (is_active (guard_of (guards_in seats active) i).place) _ _ (ap (λ (guard : GuardState). is_active guard.place) (guard_past seats active i past)))

pub caps-past : (seats : List Seated) (i cap : ℕ) → length seats ≤ i → map (λ (s : Seated). s.cap) seats ≡ set (map (λ (s : Seated). s.cap) seats) i cap
caps-past seats i cap past =
    sym (set_past (map (λ (s : Seated). s.cap) seats) i cap (omega (arith, past, length-map seats (λ (s : Seated). s.cap))))

-- ---- room

-- there is room for a guard that is loaded
pub room_to_load : (seats : List Seated) (active : List ℕ) (places i : ℕ) (seat : Seated) → i < length seats → seat ≡ get_or seats i seat →
    load_with.Loaded ≡ load_answer seat.guard → AreKept (guards_in seats active) places → length active < places
room_to_load seats active places i seat within is answer are =
    let guards = guards_in seats active in
    let bench : GuardState → ℕ = λ g. cond (is_bench g.place) 1 0 in
    let there : bench (guard_of guards i) ≡ 1 = ap bench (guard_in seats active i seat within is) ∙ ap (λ (place : GuardPlace). cond (is_bench place) 1 0) (bench_from seat.guard.place answer) in
    omega (arith, are.parts, are.fits, get_or-le-sum_by bench guards.all i no_guard (omega (arith, length-map seats (λ (s : Seated). s.guard))))
