-- FirstBad: the first bad teach line is the one at which a walk over the lines stops.
use Rattle.std.proofs.Common.{◌≡◌, ℕ, ◌+◌, List, [], ◌∷◌, ◌++◌, take, take_at, length, sym, ap, ◌∙◌, refl, Option, Some, None, arith}
use Rattle.std.specs.Prelude.{slice_get}
use Rattle.std.specs.List.{enumerate_from, filter_map, cons_option}
use Rattle.std.specs.Option.{option_or}
use Rattle.std.proofs.lemmas.List.{append_assoc, length-append}
use Rattle.cs_types.specs.declared.scenario.Teach.{Teach}
use Rattle.scenario_input.specs.Teaching.{BadTeach, bad_line, first_bad}

-- the first bad one of the later lines, after the earlier ones
abbrev pub first_bad_after : List ℕ → List Teach → List Teach → Option BadTeach
first_bad_after caps earlier [] = None
first_bad_after caps earlier (teach ∷ rest) =
    option_or (bad_line caps earlier teach) (first_bad_after caps (earlier ++ teach ∷ []) rest)

first_of_cons : (one : Option BadTeach) (others : List BadTeach) → slice_get (cons_option one others) 0 ≡ option_or one (slice_get others 0)
first_of_cons None others = refl
first_of_cons (Some bad) others = refl

-- of the lines from a place on
bad_from : (caps : List ℕ) (all earlier rest : List Teach) → all ≡ earlier ++ rest →
    slice_get (filter_map (λ (numbered : ℕ × Teach). bad_line caps (take numbered.0 all) numbered.1) (enumerate_from (length earlier) rest)) 0
    ≡ first_bad_after caps earlier rest
bad_from caps all earlier [] is = refl
bad_from caps all earlier (teach ∷ rest) is =
    let found : ℕ → Option BadTeach = λ place.
    slice_get (filter_map (λ (numbered : ℕ × Teach). bad_line caps (take numbered.0 all) numbered.1) (enumerate_from place rest)) 0 in
    let before : take (length earlier) all ≡ earlier = ap (take (length earlier)) is ∙ take_at earlier (teach ∷ rest) (length earlier) refl in
    let next : length earlier + 1 ≡ length (earlier ++ teach ∷ []) = omega (arith, length-append earlier (teach ∷ [])) in
    first_of_cons (bad_line caps (take (length earlier) all) teach) _
    ∙ (λ i. option_or (bad_line caps (before i) teach) (found (next i)))
    ∙ ap (option_or (bad_line caps earlier teach)) (bad_from caps all (earlier ++ teach ∷ []) rest (is ∙ sym (append_assoc earlier (teach ∷ []) rest)))

pub first_bad_is : (caps : List ℕ) (teaches : List Teach) → first_bad caps teaches ≡ first_bad_after caps [] teaches
first_bad_is caps teaches = bad_from caps teaches [] teaches refl
