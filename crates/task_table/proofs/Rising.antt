-- Tasks that rise by pid: what a search, a filter and an edit at a position give.
use Rattle.std.proofs.Common.{◌≡◌, ℕ, zero, suc, ◌+◌, ◌-◌, ◌<◌, ◌≤◌, Bool, true, false, not, cond, eqb, ltb, leb, List, [], ◌∷◌, map, length, get_or, set, drop, Option, Some, None, Result, Ok, Err, MatchResult, MatchOption, inl, inr, refl, sym, ap, ◌∙◌, subst, arith, eq-eqb}
use Rattle.std.specs.Prelude.{◌&&◌, find, filter, insert, remove, slice_get}
use Rattle.std.specs.List.{AllByRecursion}
use Rattle.std.specs.List.Sorted.{IsSearchInRange, IsBinarySearchResult, IsNonDecreasingBy, IsPartitionedBy, IsPartitionPoint}
use Rattle.std.specs.Ordering.{nat_cmp, ordering_index}
use Rattle.std.proofs.lemmas.Cmp.{ranked}
use Rattle.std.proofs.lemmas.List.{get_or_default}
use Rattle.std.proofs.lemmas.List.Sorted.{IsPartitionedBy-leb}
use Rattle.std.proofs.lemmas.Bool.{ne_eqb, lt-ltb, le-ltb, ltb-true, cases_Bool, cond-true, cond-false}
use Rattle.std.proofs.lemmas.Bool.Decides.{nat_tests}
use Rattle.cs_types.specs.declared.task.Task.{Task}
use Rattle.cs_types.specs.Room.{has_pid, inserted}
use Rattle.task_table.specs.declared.entry.Entry.{Entry}
use Rattle.cs_types.proofs.Inserted.{inserted-first, inserted-past}
use Rattle.task_table.specs.Table.{pid_of, RisesFrom, Rises}
use Rattle.task_table.specs.Positions.{IsIndexOf, IsAt, IsSplit, IsGap, IsAbove}

-- ---- tests

and_true : (a b : Bool) → b ≡ true → (a && b) ≡ a
and_true true b h = h
and_true false b h = refl

and_false : (a b : Bool) → b ≡ false → (a && b) ≡ false
and_false true b h = h
and_false false b h = refl

-- ---- the order

pub weaker : {X : Type 0} (P Q : X → Type 0) → ((x : X) → P x → Q x) → (xs : List X) → AllByRecursion P xs → AllByRecursion Q xs
weaker P Q step [] all = tt
weaker P Q step (x ∷ xs) all = (step x all.0, weaker P Q step xs all.1)

-- no pid is below the start of those that rise from it
pub above_all : (low : ℕ) (tasks : List Task) → RisesFrom low tasks → AllByRecursion (λ task. low ≤ task.spec.pid) tasks
above_all low [] rises = tt
above_all low (task ∷ tasks) rises = (
  rises.0,
  weaker (λ other. task.spec.pid + 1 ≤ other.spec.pid) (λ other. low ≤ other.spec.pid) (λ other above. omega (arith, rises.0, above)) tasks
      (above_all (task.spec.pid + 1) tasks rises.1),
)

lower_start : (high low : ℕ) (tasks : List Task) → low ≤ high → RisesFrom high tasks → RisesFrom low tasks
lower_start high low [] le rises = tt
lower_start high low (task ∷ rest) le rises = (omega (arith, rises.0), rises.1)

-- the task at a position has no lower pid than the start
at_start : (low pid position : ℕ) (tasks : List Task) → RisesFrom low tasks → IsAt pid position tasks → low ≤ pid
at_start low pid position [] rises at = absurd at
at_start low pid zero (task ∷ rest) rises at = omega (arith, rises.0, at.0)
at_start low pid (suc position) (task ∷ rest) rises at = omega (arith, rises.0, at.0)

-- ---- a binary search in the index

lowest : (low : ℕ) (entries : List Entry) (tasks : List Task) → IsIndexOf entries tasks → RisesFrom low tasks →
    (j : ℕ) (d : Entry) → j < length entries → low ≤ (get_or entries j d).pid
lowest low [] tasks index rises j d within = absurd (omega arith)
lowest low (entry ∷ entries) [] index rises j d within = absurd cc
lowest low (entry ∷ entries) (task ∷ tasks) index rises zero d within =
    let same : entry.pid ≡ task.spec.pid = cc in omega (arith, rises.0)
lowest low (entry ∷ entries) (task ∷ tasks) index rises (suc j) d within =
    omega (arith, rises.0, lowest (task.spec.pid + 1) entries tasks (cc) rises.1 j d (omega arith))

rising_entries : (low : ℕ) (entries : List Entry) (tasks : List Task) → IsIndexOf entries tasks → RisesFrom low tasks →
    (i j : ℕ) (d : Entry) → i ≤ j → j < length entries → (get_or entries i d).pid ≤ (get_or entries j d).pid
rising_entries low [] tasks index rises i j d le within = absurd (omega arith)
rising_entries low (entry ∷ entries) [] index rises i j d le within = absurd cc
rising_entries low (entry ∷ entries) (task ∷ tasks) index rises zero zero d le within = omega arith
rising_entries low (entry ∷ entries) (task ∷ tasks) index rises zero (suc j) d le within =
    let same : entry.pid ≡ task.spec.pid = cc in
    omega (arith, lowest (task.spec.pid + 1) entries tasks (cc) rises.1 j d (omega arith))
rising_entries low (entry ∷ entries) (task ∷ tasks) index rises (suc i) zero d le within = absurd (omega arith)
rising_entries low (entry ∷ entries) (task ∷ tasks) index rises (suc i) (suc j) d le within =
    rising_entries (task.spec.pid + 1) entries tasks (cc) rises.1 i j d (omega arith) (omega arith)

pub at_from : (low pid : ℕ) (entries : List Entry) (tasks : List Task) → IsIndexOf entries tasks → RisesFrom low tasks →
    (position : ℕ) → position < length entries → ((d : Entry) → (get_or entries position d).pid ≡ pid) → IsAt pid position tasks
at_from low pid [] tasks index rises position within here = absurd (omega arith)
at_from low pid (entry ∷ entries) [] index rises position within here = absurd cc
at_from low pid (entry ∷ entries) (task ∷ tasks) index rises zero within here =
    let same : task.spec.pid ≡ pid = (let e : task.spec.pid ≡ entry.pid = cc in e ∙ here entry) in
    (same, subst (λ p. RisesFrom (p + 1) tasks) same rises.1)
at_from low pid (entry ∷ entries) (task ∷ tasks) index rises (suc position) within here =
    let later = at_from (task.spec.pid + 1) pid entries tasks (cc) rises.1 position (omega arith) here in
    (omega (arith, at_start (task.spec.pid + 1) pid position tasks rises.1 later), later)

split_from : (low below from : ℕ) (entries : List Entry) (tasks : List Task) → IsIndexOf entries tasks → RisesFrom low tasks →
    (position : ℕ) → position ≤ length entries → ((k : ℕ) (d : Entry) → k < position → (get_or entries k d).pid < below) →
    ((k : ℕ) (d : Entry) → position ≤ k → k < length entries → from ≤ (get_or entries k d).pid) → IsSplit below from position tasks
split_from low below from [] [] index rises zero within before behind = tt
split_from low below from [] [] index rises (suc position) within before behind = absurd (omega arith)
split_from low below from [] (task ∷ tasks) index rises position within before behind = absurd cc
split_from low below from (entry ∷ entries) [] index rises position within before behind = absurd cc
split_from low below from (entry ∷ entries) (task ∷ tasks) index rises zero within before behind =
    let same : entry.pid ≡ task.spec.pid = cc in
    (omega (arith, behind 0 entry (omega arith) (omega arith)), rises.1)
split_from low below from (entry ∷ entries) (task ∷ tasks) index rises (suc position) within before behind =
    let same : entry.pid ≡ task.spec.pid = cc in (
      omega (arith, before 0 entry (omega arith)),
      split_from (task.spec.pid + 1) below from entries tasks (cc) rises.1 position (omega arith) (λ k d lt. before (suc k) d (omega arith))
          (λ k d le lt. behind (suc k) d (omega arith) (omega arith)),
    )

-- a pid above the last one has its gap at the end
pub gap_at_end : (entries : List Entry) (tasks : List Task) (pid : ℕ) → IsIndexOf entries tasks → Rises tasks → (last : Entry) → 0 < length entries →
    (get_or entries (length entries - 1) last).pid < pid → IsGap pid (length entries) tasks
gap_at_end entries tasks pid index rises last some above =
    split_from 0 pid (pid + 1) entries tasks index rises (length entries) (omega arith)
    (λ k d lt. omega (arith, lt, rising_entries 0 entries tasks index rises k (length entries - 1) d (omega arith) (omega arith), last_alike d))
    (λ k d le lt. absurd (omega arith)) where
      last_alike : (d : Entry) → (get_or entries (length entries - 1) d).pid < pid
      last_alike d = omega (arith, above, ap (λ (e : Entry). e.pid) (get_or_default entries (length entries - 1) d last (omega arith)))

-- a pid below the first one has all above it
pub all_above : (entries : List Entry) (tasks : List Task) (pid : ℕ) → IsIndexOf entries tasks → Rises tasks → (first : Entry) →
    pid < (get_or entries 0 first).pid → RisesFrom (pid + 1) tasks
all_above entries [] pid index rises first below = tt
all_above [] (task ∷ tasks) pid index rises first below = absurd cc
all_above (entry ∷ entries) (task ∷ tasks) pid index rises first below =
    let head : entry.pid ≡ task.spec.pid = cc in (omega (arith, head, below), rises.1)

-- a binary search by pid ends at the position of the pid, or at the gap for it
pub searched : (entries : List Entry) (tasks : List Task) (pid : ℕ) → IsIndexOf entries tasks → Rises tasks → (r : Result ℕ ℕ) →
    IsSearchInRange r (length entries) → IsBinarySearchResult (λ entry. nat_cmp entry.pid pid) entries r →
    MatchResult r (λ position. IsAt pid position tasks) (λ position. IsGap pid position tasks)
searched entries tasks pid index rises (Ok position) within equal =
    at_from 0 pid entries tasks index rises position within (λ d. ranked _ pid _ (sym (equal d)))
searched entries tasks pid index rises (Err position) within parted =
    let order : IsNonDecreasingBy (λ (entry : Entry). ordering_index (nat_cmp entry.pid pid)) entries =
    λ i j d le lt. by_number (get_or entries i d).pid (get_or entries j d).pid pid (rising_entries 0 entries tasks index rises i j d le lt) in
    split_from 0 pid (pid + 1) entries tasks index rises position within (λ k d lt. ranked _ pid _ (sym ((parted order).0 k d (omega arith) lt)))
    (λ k d le lt. let higher : pid < (get_or entries k d).pid = ranked _ pid _ (sym ((parted order).1 k d le lt)) in omega arith)
  where
    by_number : (m n pid : ℕ) → m ≤ n → ordering_index (nat_cmp m pid) ≤ ordering_index (nat_cmp n pid)
    by_number m n pid le = grind (arith, nat_tests)

-- the entries with no greater pid come first
pub no_greater_first : (entries : List Entry) (tasks : List Task) (pid : ℕ) → IsIndexOf entries tasks → Rises tasks →
    IsPartitionedBy (λ entry. leb entry.pid pid) entries
no_greater_first entries tasks pid index rises =
    IsPartitionedBy-leb (λ (entry : Entry). entry.pid) entries pid (rising_entries 0 entries tasks index rises)

-- a search for the first greater pid ends behind those that are no greater
pub parted : (entries : List Entry) (tasks : List Task) (pid position : ℕ) → IsIndexOf entries tasks → Rises tasks → position ≤ length entries →
    IsPartitionPoint (λ (entry : Entry). leb entry.pid pid ≡ true) (λ (entry : Entry). leb entry.pid pid ≡ false) entries position →
    IsAbove pid position tasks
parted entries tasks pid position index rises within parts =
    split_from 0 (pid + 1) (pid + 1) entries tasks index rises position within (λ k d lt. no_greater (get_or entries k d).pid pid (parts.0 k d (omega arith) lt))
    (λ k d le lt. greater (get_or entries k d).pid pid (parts.1 k d le lt))
  where
    no_greater : (m n : ℕ) → leb m n ≡ true → m < n + 1
    no_greater m n h = grind (arith, nat_tests)

    greater : (m n : ℕ) → leb m n ≡ false → n + 1 ≤ m
    greater m n h = grind (arith, nat_tests)

-- ---- tasks above a pid

-- none of the tasks has the pid
abbrev pub NoneHas : ℕ → List Task → Type 0
NoneHas pid tasks = AllByRecursion (λ task. has_pid pid task ≡ false) tasks

none_above : (pid low : ℕ) (tasks : List Task) → pid < low → RisesFrom low tasks → NoneHas pid tasks
none_above pid low [] lt rises = tt
none_above pid low (task ∷ rest) lt rises =
    (ne_eqb task.spec.pid pid (λ same. omega (arith, rises.0)), none_above pid (task.spec.pid + 1) rest (omega (arith, rises.0)) rises.1)

pub none_gap : (pid position : ℕ) (tasks : List Task) → IsGap pid position tasks → NoneHas pid tasks
none_gap pid zero tasks gap = none_above pid (pid + 1) tasks (omega arith) gap
none_gap pid (suc position) [] gap = absurd gap
none_gap pid (suc position) (task ∷ rest) gap = (ne_eqb task.spec.pid pid (λ same. omega (arith, gap.0)), none_gap pid position rest gap.1)

pub find_none : (pid : ℕ) (tasks : List Task) → NoneHas pid tasks → find (has_pid pid) tasks ≡ None
find_none pid [] none = refl
find_none pid (task ∷ rest) none = cond-false (has_pid pid task) _ _ none.0 ∙ find_none pid rest none.1

pub without_none : (pid : ℕ) (tasks : List Task) → NoneHas pid tasks → filter (λ task. not (has_pid pid task)) tasks ≡ tasks
without_none pid [] none = refl
without_none pid (task ∷ rest) none =
    cond-true (not (has_pid pid task)) _ _ (ap not none.0) ∙ ap (λ (ts : List Task). task ∷ ts) (without_none pid rest none.1)

-- once those with a pid are gone, none has it
pub find-without : (pid : ℕ) (tasks : List Task) → find (has_pid pid) (filter (λ task. not (has_pid pid task)) tasks) ≡ None
find-without pid [] = refl
find-without pid (task ∷ rest) =
    elim (cases_Bool (has_pid pid task)) [
      | inl here ↦ rw here (find-without pid rest)
      | inr past ↦ rw (past, past) (find-without pid rest)
    ]

pub changed_none : (change : Task → Task) (pid : ℕ) (tasks : List Task) → NoneHas pid tasks →
    map (λ (task : Task). cond (has_pid pid task) (change task) task) tasks ≡ tasks
changed_none change pid [] none = refl
changed_none change pid (task ∷ rest) none =
    let head : cond (has_pid pid task) (change task) task ≡ task = cond-false (has_pid pid task) (change task) task none.0 in
    let tail = changed_none change pid rest none.1 in
    cc

-- above a pid below them all pass those that pass
pub filter_above : (p : Task → Bool) (pid low : ℕ) (tasks : List Task) → pid < low → RisesFrom low tasks →
    filter (λ task. p task && ltb pid task.spec.pid) tasks ≡ filter p tasks
filter_above p pid low [] lt rises = refl
filter_above p pid low (task ∷ rest) lt rises =
    let later = filter_above p pid (task.spec.pid + 1) rest (omega (arith, rises.0)) rises.1 in
    ap (λ b. cond b (task ∷ filter (λ t. p t && ltb pid t.spec.pid) rest) (filter (λ t. p t && ltb pid t.spec.pid) rest))
    (and_true (p task) (ltb pid task.spec.pid) (lt-ltb pid task.spec.pid (omega (arith, rises.0))))
    ∙ ap (λ (ts : List Task). cond (p task) (task ∷ ts) ts) later

-- ---- at the position of a pid

pub find_at : (pid position : ℕ) (tasks : List Task) → IsAt pid position tasks → find (has_pid pid) tasks ≡ slice_get tasks position
find_at pid position [] at = absurd at
find_at pid zero (task ∷ rest) at = cond-true (eqb task.spec.pid pid) _ _ (eq-eqb task.spec.pid pid at.0)
find_at pid (suc position) (task ∷ rest) at =
    cond-false (eqb task.spec.pid pid) _ _ (ne_eqb task.spec.pid pid (λ same. omega (arith, at.0))) ∙ find_at pid position rest at.1

pub without_at : (pid position : ℕ) (tasks : List Task) → IsAt pid position tasks → filter (λ task. not (has_pid pid task)) tasks ≡ remove tasks position
without_at pid position [] at = absurd at
without_at pid zero (task ∷ rest) at =
    cond-false (not (eqb task.spec.pid pid)) _ _ (ap not (eq-eqb task.spec.pid pid at.0)) ∙ without_none pid rest (none_above pid (pid + 1) rest (omega arith) at.1)
without_at pid (suc position) (task ∷ rest) at =
    cond-true (not (eqb task.spec.pid pid)) _ _ (ap not (ne_eqb task.spec.pid pid (λ same. omega (arith, at.0))))
    ∙ ap (λ (ts : List Task). task ∷ ts) (without_at pid position rest at.1)

pub with_at : (new : Task) (position : ℕ) (tasks : List Task) → IsAt new.spec.pid position tasks →
    map (λ other. cond (has_pid new.spec.pid other) new other) tasks ≡ set tasks position new
with_at new position [] at = absurd at
with_at new zero (task ∷ rest) at =
    ap (λ (t : Task). t ∷ map (λ other. cond (has_pid new.spec.pid other) new other) rest)
    (cond-true (eqb task.spec.pid new.spec.pid) new task (eq-eqb task.spec.pid new.spec.pid at.0))
    ∙ ap (λ (ts : List Task). new ∷ ts) (changed_none (λ _. new) new.spec.pid rest (none_above new.spec.pid (new.spec.pid + 1) rest (omega arith) at.1))
with_at new (suc position) (task ∷ rest) at =
    ap (λ (t : Task). t ∷ map (λ other. cond (has_pid new.spec.pid other) new other) rest)
    (cond-false (eqb task.spec.pid new.spec.pid) new task (ne_eqb task.spec.pid new.spec.pid (λ same. omega (arith, at.0))))
    ∙ ap (λ (ts : List Task). task ∷ ts) (with_at new position rest at.1)

pub rises_set : (new : Task) (low position : ℕ) (tasks : List Task) → RisesFrom low tasks → IsAt new.spec.pid position tasks → RisesFrom low (set tasks position new)
rises_set new low position [] rises at = absurd at
rises_set new low zero (task ∷ rest) rises at = (omega (arith, rises.0, at.0), at.1)
rises_set new low (suc position) (task ∷ rest) rises at = (rises.0, rises_set new (task.spec.pid + 1) position rest rises.1 at.1)

pub rises_remove : (pid low position : ℕ) (tasks : List Task) → RisesFrom low tasks → IsAt pid position tasks → RisesFrom low (remove tasks position)
rises_remove pid low position [] rises at = absurd at
rises_remove pid low zero (task ∷ rest) rises at = lower_start (task.spec.pid + 1) low rest (omega (arith, rises.0)) rises.1
rises_remove pid low (suc position) (task ∷ rest) rises at = (rises.0, rises_remove pid (task.spec.pid + 1) position rest rises.1 at.1)

-- a task in the position of the one with its pid leaves the pids
pub pids_set : (new : Task) (position : ℕ) (tasks : List Task) → IsAt new.spec.pid position tasks → map pid_of (set tasks position new) ≡ map pid_of tasks
pids_set new position [] at = absurd at
pids_set new zero (task ∷ rest) at = ap (λ n. n ∷ map pid_of rest) (sym at.0)
pids_set new (suc position) (task ∷ rest) at = ap (λ (ns : List ℕ). task.spec.pid ∷ ns) (pids_set new position rest at.1)

pub at_within : (pid position : ℕ) (tasks : List Task) → IsAt pid position tasks → position < length tasks
at_within pid position [] at = absurd at
at_within pid zero (task ∷ rest) at = omega arith
at_within pid (suc position) (task ∷ rest) at = omega (arith, at_within pid position rest at.1)

-- ---- at the gap for a pid

-- the members above a pid are the members from the first task above it on
pub filter_split : (p : Task → Bool) (pid position : ℕ) (tasks : List Task) → IsAbove pid position tasks →
    filter (λ task. p task && ltb pid task.spec.pid) tasks ≡ filter p (drop position tasks)
filter_split p pid zero tasks above = filter_above p pid (pid + 1) tasks (omega arith) above
filter_split p pid (suc position) [] above = absurd above
filter_split p pid (suc position) (task ∷ rest) above =
    cond-false (p task && ltb pid task.spec.pid) _ _ (and_false (p task) _ (le-ltb pid task.spec.pid (omega (arith, above.0))))
    ∙ filter_split p pid position rest above.1

pub inserted_gap : (new : Task) (position : ℕ) (tasks : List Task) → IsGap new.spec.pid position tasks → inserted new tasks ≡ insert tasks position new
inserted_gap new zero tasks gap =
    inserted-first new tasks
    (weaker (λ other. new.spec.pid + 1 ≤ other.spec.pid) (λ other. new.spec.pid < other.spec.pid) (λ other above. omega (arith, above)) tasks
    (above_all (new.spec.pid + 1) tasks gap))
inserted_gap new (suc position) [] gap = absurd gap
inserted_gap new (suc position) (task ∷ rest) gap =
    inserted-past new task rest (omega (arith, gap.0)) ∙ ap (λ (ts : List Task). task ∷ ts) (inserted_gap new position rest gap.1)

pub rises_insert : (new : Task) (low position : ℕ) (tasks : List Task) → RisesFrom low tasks → low ≤ new.spec.pid → IsGap new.spec.pid position tasks →
    RisesFrom low (insert tasks position new)
rises_insert new low zero tasks rises le gap = (le, gap)
rises_insert new low (suc position) [] rises le gap = absurd gap
rises_insert new low (suc position) (task ∷ rest) rises le gap =
    (rises.0, rises_insert new (task.spec.pid + 1) position rest rises.1 (omega (arith, gap.0)) gap.1)

pub split_within : (below from position : ℕ) (tasks : List Task) → IsSplit below from position tasks → position ≤ length tasks
split_within below from zero tasks split = omega arith
split_within below from (suc position) [] split = absurd split
split_within below from (suc position) (task ∷ rest) split = omega (arith, split_within below from position rest split.1)

-- ---- a walk by pid

-- the first that a filter keeps has no lower pid than the start
kept_start : (q : Task → Bool) (low : ℕ) (tasks : List Task) (first : Task) (rest : List Task) → RisesFrom low tasks →
    filter q tasks ≡ first ∷ rest → low ≤ first.spec.pid
kept_start q low [] first rest rises kept = absurd cc
kept_start q low (task ∷ tasks) first rest rises kept =
    elim (cases_Bool (q task)) [
      | inl pass ↦
          let same = sym (cond-true (q task) (task ∷ filter q tasks) (filter q tasks) pass) ∙ kept in
          let head : task ≡ first = cc in subst (λ (t : Task). low ≤ t.spec.pid) head rises.0
      | inr fail ↦
          omega (
            arith,
            rises.0,
            kept_start q (task.spec.pid + 1) tasks first rest rises.1
                (sym (cond-false (q task) (task ∷ filter q tasks) (filter q tasks) fail) ∙ kept),
          )
    ]

-- behind the first member above a pid come the members above its pid
pub filter_next : (p : Task → Bool) (pid low : ℕ) (tasks : List Task) (first : Task) (rest : List Task) → RisesFrom low tasks →
    filter (λ task. p task && ltb pid task.spec.pid) tasks ≡ first ∷ rest →
    filter (λ task. p task && ltb first.spec.pid task.spec.pid) tasks ≡ rest
filter_next p pid low [] first rest rises kept = absurd cc
filter_next p pid low (task ∷ tasks) first rest rises kept =
    let q : ℕ → Task → Bool = λ after t. p t && ltb after t.spec.pid in
    elim (cases_Bool (p task && ltb pid task.spec.pid)) [
      | inl pass ↦
          let same = sym (cond-true (q pid task) (task ∷ filter (q pid) tasks) (filter (q pid) tasks) pass) ∙ kept in
          let head : task ≡ first = cc in
          let tail : filter (q pid) tasks ≡ rest = cc in
          let above : pid < task.spec.pid = passed_above (p task) pid task.spec.pid pass in
          subst (λ (t : Task). filter (q t.spec.pid) (task ∷ tasks) ≡ rest) head
          (cond-false (q task.spec.pid task) _ _ (and_false (p task) _ (le-ltb task.spec.pid task.spec.pid (omega arith)))
          ∙ filter_above p task.spec.pid (task.spec.pid + 1) tasks (omega arith) rises.1
          ∙ sym (filter_above p pid (task.spec.pid + 1) tasks (omega arith) rises.1)
          ∙ tail)
      | inr fail ↦
          let later = sym (cond-false (q pid task) (task ∷ filter (q pid) tasks) (filter (q pid) tasks) fail) ∙ kept in
          let above = kept_start (q pid) (task.spec.pid + 1) tasks first rest rises.1 later in
          cond-false (q first.spec.pid task) _ _ (and_false (p task) _ (le-ltb first.spec.pid task.spec.pid (omega arith)))
          ∙ filter_next p pid (task.spec.pid + 1) tasks first rest rises.1 later
    ]
  where
    passed_above : (a : Bool) (m n : ℕ) → (a && ltb m n) ≡ true → m < n
    passed_above true m n pass = ltb-true m n pass
    passed_above false m n pass = absurd cc

-- a search finds the first that a filter keeps
pub find_first : (q : Task → Bool) (tasks : List Task) → find q tasks ≡ slice_get (filter q tasks) 0
find_first q [] = refl
find_first q (task ∷ rest) =
    elim (q task) as (λ b. cond b (Some task) (find q rest) ≡ slice_get (cond b (task ∷ filter q rest) (filter q rest)) 0) [
      | true ↦ refl
      | false ↦ find_first q rest
    ]

-- the members above a pid are the first of them and those above its pid
pub walked_on : (p : Task → Bool) (pid : ℕ) (tasks : List Task) → Rises tasks → (first : Option Task) →
    first ≡ find (λ task. p task && ltb pid task.spec.pid) tasks →
    MatchOption first (filter (λ task. p task && ltb pid task.spec.pid) tasks ≡ [])
    (λ task. filter (λ t. p t && ltb pid t.spec.pid) tasks ≡ task ∷ filter (λ t. p t && ltb task.spec.pid t.spec.pid) tasks)
walked_on p pid tasks rises first is =
    by_kept (filter (λ t. p t && ltb pid t.spec.pid) tasks) refl first (is ∙ find_first (λ t. p t && ltb pid t.spec.pid) tasks)
  where
    by_kept : (kept : List Task) → filter (λ t. p t && ltb pid t.spec.pid) tasks ≡ kept → (first : Option Task) → first ≡ slice_get kept 0 →
        MatchOption first (filter (λ t. p t && ltb pid t.spec.pid) tasks ≡ [])
        (λ task. filter (λ t. p t && ltb pid t.spec.pid) tasks ≡ task ∷ filter (λ t. p t && ltb task.spec.pid t.spec.pid) tasks)
    by_kept [] kept None is = kept
    by_kept [] kept (Some task) is = absurd cc
    by_kept (task ∷ rest) kept None is = absurd cc
    by_kept (task ∷ rest) kept (Some other) is =
        let same : task ≡ other = cc in
        subst (λ (o : Task). filter (λ t. p t && ltb pid t.spec.pid) tasks ≡ o ∷ filter (λ t. p t && ltb o.spec.pid t.spec.pid) tasks) same
        (kept ∙ ap (λ (ts : List Task). task ∷ ts) (sym (filter_next p pid 0 tasks task rest rises kept)))

-- ---- a member found again by its pid

found_start : (q : Task → Bool) (low : ℕ) (tasks : List Task) (found : Task) → RisesFrom low tasks → find q tasks ≡ Some found → low ≤ found.spec.pid
found_start q low [] found rises is = absurd cc
found_start q low (task ∷ rest) found rises is =
    elim (cases_Bool (q task)) [
      | inl pass ↦
          let both = sym (cond-true (q task) (Some task) (find q rest) pass) ∙ is in
          let same : task ≡ found = cc in subst (λ (t : Task). low ≤ t.spec.pid) same rises.0
      | inr fail ↦
          omega (arith, rises.0, found_start q (task.spec.pid + 1) rest found rises.1 (sym (cond-false (q task) (Some task) (find q rest) fail) ∙ is))
    ]

-- a task that a search finds is the one with its pid
pub find_again : (q : Task → Bool) (low : ℕ) (tasks : List Task) (found : Task) → RisesFrom low tasks → find q tasks ≡ Some found →
    find (has_pid found.spec.pid) tasks ≡ Some found
find_again q low [] found rises is = absurd cc
find_again q low (task ∷ rest) found rises is =
    elim (cases_Bool (q task)) [
      | inl pass ↦
          let both = sym (cond-true (q task) (Some task) (find q rest) pass) ∙ is in
          let same : task ≡ found = cc in
          cond-true (has_pid found.spec.pid task) _ _ (eq-eqb task.spec.pid found.spec.pid (ap pid_of same)) ∙ ap Some same
      | inr fail ↦
          let later = sym (cond-false (q task) (Some task) (find q rest) fail) ∙ is in
          let above = found_start q (task.spec.pid + 1) rest found rises.1 later in
          cond-false (has_pid found.spec.pid task) _ _ (ne_eqb task.spec.pid found.spec.pid (λ same. omega arith))
          ∙ find_again q (task.spec.pid + 1) rest found rises.1 later
    ]
