-- What keeps the counts in agreement with the tasks, and what follows from it.
use Rattle.std.proofs.Common.{◌≡◌, ℕ, ◌+◌, ◌<◌, ◌≤◌, Bool, false, not, cond, List, [], ◌∷◌, map, length, Some, None, refl, sym, ap, ◌∙◌, inl, inr, subst, arith}
use Rattle.std.specs.Prelude.{◌≢◌, ◌==◌}
use Rattle.std.specs.List.{All, AllPairs, filter, find, sum_by}
use Rattle.std.proofs.lemmas.Bool.{cases_Bool, cond-true, cond-false, eqb-true}
use Rattle.std.proofs.lemmas.Bool.Decides.{nat_tests}
use Rattle.std.proofs.lemmas.List.Elements.{All-head, All-tail}
use Rattle.std.proofs.lemmas.List.Filters.{sum_by-filter_both}
use Rattle.std.proofs.lemmas.List.Sums.{sum_by-cons, sum_by-le}
use Rattle.cs_types.specs.declared.task.Task.{Task}
use Rattle.cs_types.specs.Room.{has_pid, inserted}
use Rattle.cs_types.proofs.Foremost.{find_passes}
use Rattle.cs_types.proofs.Inserted.{sum_by-inserted}
use Rattle.cookie_refs.specs.Refs.{Refs, count_of, references, Agree, AgreeBut}
use Rattle.cookie_refs.proofs.Counts.{AllPairs-head, AllPairs-tail, sum_by_none}

-- ---- lists in which one element changes

-- where no element passes the test, none changes
map_none : {X : Type 0} (p : X → Bool) (y : X) (xs : List X) → All (λ x. p x ≡ false) xs → map (λ x. cond (p x) y x) xs ≡ xs
map_none p y [] none = refl
map_none p y (x ∷ xs) none =
    rw (cond-false (p x) y x (All-head (λ x. p x ≡ false) x xs none), map_none p y xs (All-tail (λ x. p x ≡ false) x xs none)) refl

module _ {X : Type 0} (key : X → ℕ) (f : X → ℕ) (wanted : ℕ) (new : X) where
  -- one element, found by its key among rising keys, is replaced: the sum loses its term, and gains that of the new one
  sum_by-replaced : (xs : List X) (old : X) → AllPairs (λ x y. key x < key y) xs → find (λ x. key x == wanted) xs ≡ Some old →
      sum_by f (map (λ x. cond (key x == wanted) new x) xs) + f old ≡ sum_by f xs + f new
  sum_by-replaced [] old rising found = absurd cc
  sum_by-replaced (x ∷ xs) old rising found =
      elim (cases_Bool (key x == wanted)) [
        | inl here ↦
            let same : Some x ≡ Some old = sym (cond-true _ (Some x) (find (λ x. key x == wanted) xs) here) ∙ found in
            let is : x ≡ old = cc in
            let others = map_none (λ x. key x == wanted) new xs (λ k d lt.
            let up = AllPairs-head (λ x y. key x < key y) x xs rising k d lt in
            let is_wanted = eqb-true (key x) wanted here in
            grind (arith, nat_tests)) in
            rw (cond-true _ new x here, others, sum_by-cons f new xs, sum_by-cons f x xs, is) (omega arith)
        | inr past ↦
            let rest = sum_by-replaced xs old (AllPairs-tail (λ x y. key x < key y) x xs rising)
            (sym (cond-false _ (Some x) (find (λ x. key x == wanted) xs) past) ∙ found) in
            rw (cond-false _ new x past, sum_by-cons f x (map (λ x. cond (key x == wanted) new x) xs), sum_by-cons f x xs) (omega (arith, rest))
      ]

  -- its term is no more than the sum
  term-le : (xs : List X) (old : X) → find (λ x. key x == wanted) xs ≡ Some old → f old ≤ sum_by f xs
  term-le [] old found = absurd cc
  term-le (x ∷ xs) old found =
      elim (cases_Bool (key x == wanted)) [
        | inl here ↦
            let same : Some x ≡ Some old = sym (cond-true _ (Some x) (find (λ x. key x == wanted) xs) here) ∙ found in
            let is : x ≡ old = cc in
            omega (arith, sum_by-cons f x xs, ap f is)
        | inr past ↦ omega (arith, sum_by-cons f x xs, term-le xs old (sym (cond-false _ (Some x) (find (λ x. key x == wanted) xs) past) ∙ found))
      ]

-- ---- agreements

-- a reference to the own cookie
references_own : (cookie : ℕ) → cookie ≢ 0 → references cookie cookie ≡ 1
references_own cookie is = grind (arith, nat_tests)

-- who has no cookie refers to none
references_none : (cookie : ℕ) → references 0 cookie ≡ 0
references_none cookie = grind (arith, nat_tests)

-- nor does anyone refer to a cookie twice
references-le : (own cookie : ℕ) → references own cookie ≤ 1
references-le own cookie = grind (arith, nat_tests)

-- Tasks without a cookie agree with counts of nothing.
pub Agree-none : (refs : Refs) (tasks : List Task) → ((cookie : ℕ) → count_of refs cookie ≡ 0) → All (λ task. task.cookie ≡ 0) tasks → Agree refs tasks
Agree-none refs tasks nothing without cookie =
    let none = sum_by_none (λ (task : Task). references task.cookie cookie) tasks (λ k d lt. let is = without k d lt in grind (arith, nat_tests)) in
    omega (arith, nothing cookie, none, references_none cookie)

-- A cookie that was made is held beside the tasks, none of which has it.
pub AgreeBut-make : (refs made : Refs) (tasks : List Task) (cookie : ℕ) → 0 < cookie → count_of refs cookie ≡ 0 →
    ((other : ℕ) → count_of made other ≡ (cond (other == cookie) 1 (count_of refs other))) → Agree refs tasks → AgreeBut made tasks cookie
AgreeBut-make refs made tasks cookie above unused counts agree other =
    let before = agree other in
    let here = agree cookie in
    let now = counts other in
    grind (arith, nat_tests)

-- Once the held cookie is put, the counts are those of the tasks.
pub Agree-put : (refs put : Refs) (tasks : List Task) (held : ℕ) →
    ((other : ℕ) → count_of put other + references held other ≡ count_of refs other) → AgreeBut refs tasks held → Agree put tasks
Agree-put refs put tasks held counts agree other = omega (arith, counts other, agree other, references_none other)

-- A task's cookie changes: its reference goes from the old one to the new one.
pub AgreeBut-with_cookie : (refs now : Refs) (tasks : List Task) (held pid cookie : ℕ) (task : Task) →
    AllPairs (λ one other. one.spec.pid < other.spec.pid) tasks → find (λ other. other.spec.pid == pid) tasks ≡ Some task →
    ((other : ℕ) → count_of now other + references task.cookie other ≡ count_of refs other + references cookie other) →
    AgreeBut refs tasks held →
    AgreeBut now (map (λ other. cond (other.spec.pid == task.spec.pid) (record task { cookie = cookie }) other) tasks) held
AgreeBut-with_cookie refs now tasks held pid cookie task rising found moved agree other =
    let pid_is : task.spec.pid ≡ pid = eqb-true task.spec.pid pid (find_passes (λ (other : Task). other.spec.pid == pid) tasks task found) in
    let replaced = sum_by-replaced (λ (task : Task). task.spec.pid) (λ (task : Task). references task.cookie other) task.spec.pid (record task { cookie = cookie }) tasks task rising
    (subst (λ n. find (λ (other : Task). other.spec.pid == n) tasks ≡ Some task) (sym pid_is) found) in
    omega (arith, moved other, agree other, replaced)

-- A task is put in its place, where no other has its pid, and its cookie got.
pub AgreeBut-inserted : (refs got : Refs) (tasks : List Task) (held : ℕ) (task : Task) → find (has_pid task.spec.pid) tasks ≡ None →
    ((other : ℕ) → count_of got other ≡ count_of refs other + references task.cookie other) →
    AgreeBut refs tasks held → AgreeBut got (inserted task tasks) held
AgreeBut-inserted refs got tasks held task none gets agree other =
    omega (arith, gets other, agree other, sum_by-inserted (λ (task : Task). references task.cookie other) task tasks none)

-- The one task with a pid goes, and its cookie is put.
pub AgreeBut-without : (refs put : Refs) (tasks : List Task) (held pid : ℕ) (task : Task) → filter (has_pid pid) tasks ≡ task ∷ [] →
    ((other : ℕ) → count_of put other + references task.cookie other ≡ count_of refs other) →
    AgreeBut refs tasks held → AgreeBut put (filter (λ other. not (has_pid pid other)) tasks) held
AgreeBut-without refs put tasks held pid task alone puts agree other =
    let own : Task → ℕ = λ task. references task.cookie other in
    let parts = sum_by-filter_both (has_pid pid) (λ other. not (has_pid pid other)) (λ other. refl) own tasks in
    omega (arith, puts other, agree other, parts, ap (sum_by own) alone, sum_by-cons own task [])

-- A task's own cookie is live.
pub own_cookie_is_live : (refs : Refs) (tasks : List Task) (held pid : ℕ) (task : Task) → find (λ other. other.spec.pid == pid) tasks ≡ Some task →
    AgreeBut refs tasks held → task.cookie ≢ 0 → 0 < count_of refs task.cookie
own_cookie_is_live refs tasks held pid task found agree is =
    let least = term-le (λ (task : Task). task.spec.pid) (λ (other : Task). references other.cookie task.cookie) pid task tasks task found in
    omega (arith, agree task.cookie, least, references_own task.cookie is)

-- So is the one that is held.
pub held_cookie_is_live : (refs : Refs) (tasks : List Task) (held : ℕ) → AgreeBut refs tasks held → held ≢ 0 → 0 < count_of refs held
held_cookie_is_live refs tasks held agree is = omega (arith, agree held, references_own held is)

-- No count is above the number of the tasks and one.
pub count_of-le : (refs : Refs) (tasks : List Task) (held : ℕ) → AgreeBut refs tasks held → (cookie : ℕ) → count_of refs cookie ≤ length tasks + 1
count_of-le refs tasks held agree cookie =
    let most = sum_by-le (λ (task : Task). references task.cookie cookie) 1 tasks (λ k d lt. references-le _ cookie) in
    omega (arith, agree cookie, most, references-le held cookie)
