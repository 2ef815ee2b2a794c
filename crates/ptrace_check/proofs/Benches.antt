-- Benches: what it makes that guards are seated one after another.
use Rattle.std.proofs.Common.{◌≡◌, ℕ, ◌+◌, ◌≤◌, List, [], ◌∷◌, ◌++◌, map, length, refl, ap, ◌∙◌, sym, append-nil, append_assoc, subst, arith}
use Rattle.std.specs.List.{range_with_len, AllByRecursion}
use Rattle.std.proofs.lemmas.List.{length-map, map-append}
use Rattle.std.proofs.lemmas.List.Sums.{count_by-le-length}
use Rattle.std.proofs.lemmas.List.Elements.{recursion_from_All}
use Rattle.cs_types.specs.declared.view.GuardPlace.TheVariants.{Bench}
use Rattle.cs_types.specs.Guards.{GuardState, GuardList, is_bench, on_bench, guards_on_bench}
use Rattle.ptrace_check.specs.Guards.{Seated, most_guards, AreFresh}
use Rattle.ptrace_check.specs.Inside.{guards_in, AreKept}

-- a guard that is seated on the bench
abbrev pub seated : {G : Type 0} → (G → List (ℕ × ℕ)) → (G → ℕ) → (G → ℕ) → G → Seated
seated pairs asked cap guard = record { guard = record { place = Bench; pairs = pairs guard; asked = asked guard }; cap = cap guard }

bench_from : {G : Type 0} (pairs : G → List (ℕ × ℕ)) (asked cap : G → ℕ) (at : ℕ) (list : List G) → AllByRecursion (λ guard. pairs guard ≡ []) list → AllByRecursion (λ guard. asked guard ≡ 0) list →
    map (λ (seat : Seated). seat.guard) (map (seated pairs asked cap) list) ≡ map (on_bench []) (range_with_len at (length list))
bench_from pairs asked cap at [] untaught unasked = refl
bench_from pairs asked cap at (guard ∷ list) untaught unasked =
    let rest = map (λ (seat : Seated). seat.guard) (map (seated pairs asked cap) list) in
    let taught_so : List (ℕ × ℕ) → List GuardState = λ pairs. record { place = Bench; pairs = pairs; asked = asked guard } ∷ rest in
    let asked_so : ℕ → List GuardState = λ asked. record { place = Bench; pairs = []; asked = asked } ∷ rest in
    ap taught_so untaught.0 ∙ ap asked_so unasked.0
    ∙ ap (λ (guards : List GuardState). on_bench [] at ∷ guards) (bench_from pairs asked cap (at + 1) list untaught.1 unasked.1)

-- fresh guards, each seated on the bench
pub guards_in-seated : {G : Type 0} (pairs : G → List (ℕ × ℕ)) (asked cap : G → ℕ) (list : List G) → AreFresh pairs asked list →
    guards_in (map (seated pairs asked cap) list) [] ≡ guards_on_bench [] (length list)
guards_in-seated {G} pairs asked cap list fresh =
    let on_it : List GuardState → GuardList = λ all. record { all = all; active = [] } in
    ap on_it (bench_from pairs asked cap 0 list (recursion_from_All (λ (guard : G). pairs guard ≡ []) list fresh.untaught) (recursion_from_All (λ (guard : G). asked guard ≡ 0) list fresh.unasked))

-- what they can be taught
pub caps-seated : {G : Type 0} (pairs : G → List (ℕ × ℕ)) (asked cap : G → ℕ) (list : List G) → map (λ (seat : Seated). seat.cap) (map (seated pairs asked cap) list) ≡ map cap list
caps-seated pairs asked cap [] = refl
caps-seated pairs asked cap (guard ∷ list) = ap (λ (caps : List ℕ). cap guard ∷ caps) (caps-seated pairs asked cap list)

-- what was taken of a list is all of it, where nothing is left
pub none_left : {X : Type 0} (taken rest list : List X) → taken ++ rest ≡ list → length rest ≡ 0 → taken ≡ list
none_left taken [] list whole none = sym (append-nil taken) ∙ whole
none_left taken (x ∷ rest) list whole none = absurd (omega arith)

-- one more is seated
pub seated-more : {G : Type 0} (pairs : G → List (ℕ × ℕ)) (asked cap : G → ℕ) (taken : List G) (guard : G) (seats : List Seated) (seat : Seated) (now : List Seated) →
    seats ≡ map (seated pairs asked cap) taken → seat ≡ seated pairs asked cap guard → now ≡ seats ++ seat ∷ [] → now ≡ map (seated pairs asked cap) (taken ++ guard ∷ [])
seated-more pairs asked cap taken guard seats seat now are is pushed =
    pushed
    ∙ ap (λ (before : List Seated). before ++ seat ∷ []) are
    ∙ ap (λ (last : Seated). map (seated pairs asked cap) taken ++ last ∷ []) is
    ∙ sym (map-append (seated pairs asked cap) taken (guard ∷ []))

-- guards none of which is active are kept
pub AreKept-idle : (seats : List Seated) (active : List ℕ) (places : ℕ) → active ≡ [] → length seats ≤ places → length seats ≤ most_guards → AreKept (guards_in seats active) places
AreKept-idle seats active places none fits few =
    let all = map (λ (seat : Seated). seat.guard) seats in
    let long = length-map seats (λ (seat : Seated). seat.guard) in
    subst (λ (active : List ℕ). AreKept (guards_in seats active) places) (sym none)
    (record {
      once = λ index. omega arith;
      parts = omega (arith, count_by-le-length (λ (guard : GuardState). is_bench guard.place) all);
      fits = omega (arith, fits, long);
      few = omega (arith, few, long);
    })

-- one more is taken of a list
pub taken-more : {X : Type 0} (taken : List X) (x : X) (rest before list : List X) → before ≡ x ∷ rest → taken ++ before ≡ list → (taken ++ x ∷ []) ++ rest ≡ list
taken-more {X} taken x rest before list is whole = append_assoc taken (x ∷ []) rest ∙ ap (λ (rest : List X). taken ++ rest) (sym is) ∙ whole
