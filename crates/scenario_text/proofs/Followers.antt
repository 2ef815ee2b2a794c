-- Followers: which task may follow others, by the tests and by what a scenario keeps.
use Rattle.std.proofs.Common.{◌≡◌, ◌≢◌, ℕ, suc, ◌+◌, Bool, true, false, eqb, List, [], ◌∷◌, ◌++◌, length, get_or, take, refl, sym, ap, subst, ◌∙◌, arith, inl, inr}
use Rattle.std.specs.Prelude.{◌&&◌, All}
use Rattle.std.specs.List.{list_any, range_with_len}
use Rattle.std.proofs.lemmas.Bool.{cases_lt, false_from_ne_true, both_ways, not-true, not_from_false, or_cases, or_left, or_right, eqb-true, eqb-false, eq-eqb, ne_eqb}
use Rattle.std.proofs.lemmas.List.{length_push, length-append, take_at, get_or_at, take-append-le, get_or_append_left, map-append, map-id, get_or-map}
use Rattle.std.proofs.lemmas.List.FromFn.{map-range_with_len_more, get_or-range_with_len}
use Rattle.std.proofs.lemmas.Bool.Decides.{nat_tests}
use Rattle.std.proofs.lemmas.List.Folds.{list_any_at, list_any_none, list_any-from_Any, Any-from_list_any}
use Rattle.std.proofs.lemmas.List.Quantifiers.{all_pairs_push}
use Rattle.cs_types.specs.declared.task.TaskSpec.{TaskSpec}
use Rattle.cs_types.specs.declared.scenario.Teach.{Teach}
use Rattle.cs_types.specs.Scenario.{AreDistinct, IsLed, AreLed, AreNumbered}
use Rattle.scenario_text.specs.Reading.{has_fresh_pid, has_leader}

-- no element passes a test that not any does
pub any_fails : {X : Type 0} (p : X → Bool) (xs : List X) → list_any p xs ≡ false → All (λ x. p x ≡ false) xs
any_fails p xs none k d lt =
    false_from_ne_true (p (get_or xs k d)) (λ passes. both_ways (list_any p xs) none (list_any_at p xs k d lt passes))

-- ---- distinct pids

pub distinct_push : (tasks : List TaskSpec) (task : TaskSpec) → AreDistinct tasks → has_fresh_pid tasks task ≡ true → AreDistinct (tasks ++ task ∷ [])
unfolding has_fresh_pid
distinct_push tasks task distinct fresh =
    all_pairs_push (λ a b. a.pid ≢ b.pid) tasks task distinct (λ k d lt.
    eqb-false _ _ (any_fails (λ other. eqb other.pid task.pid) tasks (not-true _ fresh) k d lt))

pub distinct_fresh : (all tasks more : List TaskSpec) (task : TaskSpec) → all ≡ tasks ++ task ∷ more → AreDistinct all → has_fresh_pid tasks task ≡ true
unfolding has_fresh_pid
distinct_fresh all tasks more task is distinct =
    not_from_false _ (list_any_none (λ other. eqb other.pid task.pid) tasks (λ k d lt.
    let len : length all ≡ length tasks + suc (length more) = ap length is ∙ length-append tasks (task ∷ more) in
    let ne = distinct k (length tasks) d lt (omega arith) in
    let here : get_or all k d ≡ get_or tasks k d = ap (λ (l : List TaskSpec). get_or l k d) is ∙ get_or_append_left tasks (task ∷ more) d k lt in
    let there : get_or all (length tasks) d ≡ task = ap (λ (l : List TaskSpec). get_or l (length tasks) d) is ∙ get_or_at tasks task more d (length tasks) refl in
    ne_eqb _ _ (λ e. ne (ap (λ (t : TaskSpec). t.pid) here ∙ e ∙ ap (λ (t : TaskSpec). t.pid) (sym there)))))

-- ---- tasks led

-- whether a task leads the thread group of another, in the same process group
abbrev leads : TaskSpec → TaskSpec → Bool
leads task leader = eqb leader.pid task.tgid && eqb leader.tgid leader.pid && eqb leader.pgid task.pgid

leads_parts : (task leader : TaskSpec) → leads task leader ≡ true → (leader.pid ≡ task.tgid) × (leader.tgid ≡ leader.pid) × (leader.pgid ≡ task.pgid)
leads_parts task leader h = grind (arith, nat_tests)

leads_whole : (task leader : TaskSpec) → (leader.pid ≡ task.tgid) × (leader.tgid ≡ leader.pid) × (leader.pgid ≡ task.pgid) → leads task leader ≡ true
leads_whole task leader h = grind (arith, nat_tests)

IsLed-from_test : (tasks : List TaskSpec) (task : TaskSpec) → has_leader tasks task ≡ true → IsLed tasks task
unfolding has_leader
IsLed-from_test tasks task h =
    elim (or_cases (eqb task.tgid task.pid) (list_any (leads task) tasks) h) [
      | inl own ↦ inl (eqb-true _ _ own)
      | inr other ↦
          let found = Any-from_list_any (leads task) tasks other in
          inr (found.0, found.1, found.2, found.3, leads_parts task found.1 found.4)
    ]

test_from_IsLed : (tasks : List TaskSpec) (task : TaskSpec) → IsLed tasks task → has_leader tasks task ≡ true
unfolding has_leader
test_from_IsLed tasks task (inl own) = or_left (eqb task.tgid task.pid) (list_any (leads task) tasks) (eq-eqb _ _ own)
test_from_IsLed tasks task (inr found) =
    or_right (eqb task.tgid task.pid) (list_any (leads task) tasks)
    (list_any-from_Any (leads task) tasks (found.0, found.1, found.2, found.3, leads_whole task found.1 found.4))

pub led_push : (tasks : List TaskSpec) (task : TaskSpec) → AreLed tasks → has_leader tasks task ≡ true → AreLed (tasks ++ task ∷ [])
led_push tasks task led test k d lt =
    elim (cases_lt k (length tasks)) [
      | inl below ↦
          rw (take-append-le k tasks (task ∷ []) (omega arith), get_or_append_left tasks (task ∷ []) d k below) (led k d below)
      | inr past ↦
          let at : k ≡ length tasks = omega (arith, length_push tasks task) in
          rw (at, take_at tasks (task ∷ []) (length tasks) refl, get_or_at tasks task [] d (length tasks) refl) (IsLed-from_test tasks task test)
    ]

pub led_test : (all tasks more : List TaskSpec) (task : TaskSpec) → all ≡ tasks ++ task ∷ more → AreLed all → has_leader tasks task ≡ true
led_test all tasks more task is led =
    let len : length all ≡ length tasks + suc (length more) = ap length is ∙ length-append tasks (task ∷ more) in
    let prefix : take (length tasks) all ≡ tasks = ap (take (length tasks)) is ∙ take_at tasks (task ∷ more) (length tasks) refl in
    let there : get_or all (length tasks) task ≡ task = ap (λ (l : List TaskSpec). get_or l (length tasks) task) is ∙ get_or_at tasks task more task (length tasks) refl in
    let at = led (length tasks) task (omega arith) in
    let whole : IsLed tasks task = subst (λ (p : List TaskSpec × TaskSpec). IsLed p.0 p.1) (λ i. (prefix i, there i)) at in
    test_from_IsLed tasks task whole

-- ---- the lines of teaches

range_more : (a n : ℕ) → range_with_len a (n + 1) ≡ range_with_len a n ++ (a + n) ∷ []
range_more a n =
    sym (map-id (range_with_len a (n + 1))) ∙ map-range_with_len_more (λ k. k) a n (a + n) refl
    ∙ ap (λ (lines : List ℕ). lines ++ (a + n) ∷ []) (map-id (range_with_len a n))

-- one more teach line, with its number

pub numbered_push : (tasks : ℕ) (teaches : List Teach) (teach : Teach) → AreNumbered tasks teaches → teach.line ≡ tasks + 4 + length teaches → AreNumbered tasks (teaches ++ teach ∷ [])
numbered_push tasks teaches teach are line =
    let lines = range_with_len (tasks + 4) (length teaches) in
    let len : length (teaches ++ teach ∷ []) ≡ length teaches + 1 = omega (arith, length_push teaches teach) in
    map-append (λ (t : Teach). t.line) teaches (teach ∷ [])
    ∙ ap (λ (ls : List ℕ). ls ++ teach.line ∷ []) are
    ∙ ap (λ (n : ℕ). lines ++ n ∷ []) line
    ∙ sym (range_more (tasks + 4) (length teaches))
    ∙ ap (range_with_len (tasks + 4)) (sym len)

-- the number of the line after the first so many teach lines
pub numbered_at : (tasks : ℕ) (all teaches more : List Teach) (teach : Teach) → all ≡ teaches ++ teach ∷ more → AreNumbered tasks all → teach.line ≡ tasks + 4 + length teaches
numbered_at tasks all teaches more teach is are =
    let k = length teaches in
    let len : length all ≡ k + suc (length more) = ap length is ∙ length-append teaches (teach ∷ more) in
    let at : get_or all k teach ≡ teach = ap (λ (l : List Teach). get_or l k teach) is ∙ get_or_at teaches teach more teach k refl in
    ap (λ (t : Teach). t.line) (sym at)
    ∙ sym (get_or-map (λ (t : Teach). t.line) all k teach 0 (omega arith))
    ∙ ap (λ (lines : List ℕ). get_or lines k 0) are
    ∙ get_or-range_with_len (tasks + 4) (length all) k 0 (omega arith)
