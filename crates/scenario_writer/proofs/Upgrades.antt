-- Upgrades: what a scenario of version 2 keeps that was made of another.
use Rattle.std.proofs.Common.{◌≡◌, ℕ, suc, ◌+◌, ◌<◌, ◌≤◌, eqb, List, [], ◌∷◌, ◌++◌, length, map, get_or, take, take_all, drop, refl, sym, ap, ◌∙◌, arith}
use Rattle.std.specs.List.{AllByRecursion, range_with_len}
use Rattle.std.proofs.Math.Seq.{drop-cons}
use Rattle.std.proofs.lemmas.Bool.{cond_both}
use Rattle.std.proofs.lemmas.List.{append-nil, drop_all}
use Rattle.std.proofs.lemmas.List.Elements.{All-from_recursion, recursion_from_All}
use Rattle.cs_types.specs.declared.scenario.Teach.{Teach}
use Rattle.cs_types.specs.declared.scenario.Scenario.{Scenario}
use Rattle.cs_types.specs.Scenario.{most_siblings, user_lines, IsTeach, IsValid}
use Rattle.scenario_text.specs.Upgrade.{renumbered, upgraded}

-- one teach more, after the others
pub renumbered_push : (first : ℕ) (teaches : List Teach) (teach : Teach) → renumbered first (teaches ++ teach ∷ []) ≡ renumbered first teaches ++ record teach { line = first + length teaches } ∷ []
renumbered_push first [] teach = ap (λ n. let one : Teach = record teach { line = n } in one ∷ []) (omega arith)
renumbered_push first (other ∷ teaches) teach =
    let one : Teach = record other { line = first } in
    ap (λ (ts : List Teach). one ∷ ts)
    (renumbered_push (first + 1) teaches teach ∙ ap (λ n. let last : Teach = record teach { line = n } in renumbered (first + 1) teaches ++ last ∷ []) (omega arith))

-- lists that go on alike from a place on
pub same_rest : {X : Type 0} (xs ys : List X) (k : ℕ) (d : X) → k < length xs → k < length ys → drop k xs ≡ drop k ys → (get_or xs k d ≡ get_or ys k d) × (drop (k + 1) xs ≡ drop (k + 1) ys)
same_rest {X = X} xs ys k d below below' same =
    let e : get_or xs k d ∷ drop (suc k) xs ≡ get_or ys k d ∷ drop (suc k) ys = sym (drop-cons xs k d below) ∙ same ∙ drop-cons ys k d below' in
    let next : k + 1 ≡ suc k = omega arith in
    let rest : drop (suc k) xs ≡ drop (suc k) ys = cc in
    ((cc), ap (λ n. drop n xs) next ∙ rest ∙ ap (λ n. drop n ys) (sym next))

pub length-renumbered : (first : ℕ) (teaches : List Teach) → length (renumbered first teaches) ≡ length teaches
length-renumbered first [] = refl
length-renumbered first (teach ∷ teaches) = ap suc (length-renumbered (first + 1) teaches)

-- what was lent whole is all that is there afterwards
pub written_back : (old new : List Teach) → length new ≡ length old → take (length old) (new ++ drop (length new) old) ≡ new
written_back old new same =
    ap (λ (ts : List Teach). take (length old) (new ++ ts)) (drop_all (length new) old (omega arith))
    ∙ ap (take (length old)) (append-nil new)
    ∙ take_all (length old) new (omega arith)

lines_are : (first : ℕ) (teaches : List Teach) → map (λ teach. teach.line) (renumbered first teaches) ≡ range_with_len first (length teaches)
lines_are first [] = refl
lines_are first (teach ∷ teaches) = ap (λ (ns : List ℕ). first ∷ ns) (lines_are (first + 1) teaches)

are_taught : (first : ℕ) (teaches : List Teach) → AllByRecursion IsTeach teaches → AllByRecursion IsTeach (renumbered first teaches)
are_taught first [] are = tt
are_taught first (teach ∷ teaches) are = (record { guard = are.0.guard; from = are.0.from; to = are.0.to }, are_taught (first + 1) teaches are.1)

most_few : (version : ℕ) → most_siblings version ≤ 16
most_few version = cond_both (eqb version 2) 16 8 (λ n. n ≤ 16) (λ _. omega arith) (λ _. omega arith)

-- it is valid
pub valid_upgraded : (s : Scenario) → IsValid s → IsValid (upgraded s)
valid_upgraded s valid =
    let first = user_lines 2 s.tasks + length s.tasks + 4 in
    record {
      version = (omega arith, omega arith);
      siblings = (valid.siblings.0, omega (arith, valid.siblings.1, most_few s.version));
      task_limit = valid.task_limit;
      cookie_limit = valid.cookie_limit;
      user_top = valid.user_top;
      tasks = valid.tasks;
      distinct = valid.distinct;
      led = valid.led;
      few_tasks = valid.few_tasks;
      teaches = All-from_recursion IsTeach (renumbered first s.teaches) (are_taught first s.teaches (recursion_from_All IsTeach s.teaches valid.teaches));
      numbered = lines_are first s.teaches ∙ ap (range_with_len first) (sym (length-renumbered first s.teaches));
      few_teaches = omega (arith, valid.few_teaches, length-renumbered first s.teaches);
      steps = valid.steps;
      few_steps = valid.few_steps;
    }
