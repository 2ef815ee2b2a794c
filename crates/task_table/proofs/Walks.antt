-- A walk over a group: how the entries tell where its next task is.
use Rattle.std.proofs.Common.{Bor, ◌≡◌, ℕ, zero, suc, ◌+◌, ◌<◌, ◌≤◌, Bool, true, false, List, [], ◌∷◌, map, length, get_or, drop, Option, Some, None, inl, inr, refl, sym, ap, ◌∙◌, subst, arith}
use Rattle.std.specs.Prelude.{◌==◌, ◌&&◌, nat_lt, filter, find, slice_get, option_copied, MatchOption, IfSome}
use Rattle.std.specs.Iterator.{YieldsFirstRef}
use Rattle.std.specs.List.{position, position_from}
use Rattle.std.proofs.lemmas.Bool.{cond-true, cond-false, cases_Bool}
use Rattle.std.proofs.lemmas.Iterator.Adapters.{position_from-zero}
use Rattle.std.proofs.lemmas.List.{drop-map}
use Rattle.std.proofs.lemmas.List.Quantifiers.{position-Some}
use Rattle.task_table.specs.Slots.{Slotted, get}
use Rattle.cs_types.specs.declared.task.Task.{Task}
use Rattle.cs_types.specs.Room.{has_pid}
use Rattle.task_table.specs.declared.entry.Entry.{Entry}
use Rattle.task_table.specs.declared.group.Group.{Group}
use Rattle.task_table.specs.declared.group.Group.TheVariants.{All, Threads, Process}
use Rattle.task_table.specs.Group.{is_in_group, group_above}
use Rattle.task_table.specs.Table.{Rises}
use Rattle.task_table.specs.Positions.{IsAt, IsAbove}
use Rattle.task_table.specs.Inside.{tasks_at, groups_of, groups_told, tells_group, TellGroups, IsWalk}
use Rattle.task_table.proofs.Rising.{find_first, filter_split, walked_on, find_again}
use Rattle.task_table.proofs.Held.{listed, filled, holds_drop, slot_at}

-- ---- the first of a group

-- an entry tells of which groups its task is
told : (group : Group) (entry : Entry) (task : Task) → groups_told entry ≡ groups_of task → tells_group group entry ≡ is_in_group group task
told All entry task same = refl
told (Threads leader) entry task same = ap (λ (groups : ℕ × ℕ). groups.0 == leader) same
told (Process number) entry task same = ap (λ (groups : ℕ × ℕ). groups.1 == number) same

told_each : (group : Group) (entries : List Entry) (tasks : List Task) → TellGroups entries tasks →
    map (tells_group group) entries ≡ map (is_in_group group) tasks
told_each group [] [] tell = refl
told_each group [] (task ∷ tasks) tell = absurd cc
told_each group (entry ∷ entries) [] tell = absurd cc
told_each group (entry ∷ entries) (task ∷ tasks) tell =
    let head = told group entry task cc in
    let rest = told_each group entries tasks cc in
    λ i. head i ∷ rest i

module _ {X Y : Type 0} (p : X → Bool) (q : Y → Bool) where
  -- the first that passes, of two lists whose elements are told alike
  first_passes : (i : ℕ) (xs : List X) (ys : List Y) (d : X) → map p xs ≡ map q ys → i < length xs → p (get_or xs i d) ≡ true →
      ((k : ℕ) → k < i → p (get_or xs k d) ≡ false) → (y : Y) × (slice_get ys i ≡ Some y) × (filter q ys ≡ y ∷ filter q (drop (suc i) ys))
  first_passes i [] ys d alike within passes before = absurd (omega arith)
  first_passes i (x ∷ xs) [] d alike within passes before = absurd cc
  first_passes zero (x ∷ xs) (y ∷ ys) d alike within passes before =
      let head : p x ≡ q y = cc in
      (y, refl, cond-true (q y) (y ∷ filter q ys) (filter q ys) (sym head ∙ passes))
  first_passes (suc i) (x ∷ xs) (y ∷ ys) d alike within passes before =
      let head : p x ≡ q y = cc in
      let later = first_passes i xs ys d (cc) (omega arith) passes (λ k lt. before (suc k) (omega arith)) in
      (later.0, later.1, cond-false (q y) (y ∷ filter q ys) (filter q ys) (sym head ∙ before 0 (omega arith)) ∙ later.2)

  -- where none passes, none is kept
  none_passes : (n : ℕ) (xs : List X) (ys : List Y) → map p xs ≡ map q ys → position_from p n xs ≡ None → filter q ys ≡ []
  none_passes n [] [] alike none = refl
  none_passes n [] (y ∷ ys) alike none = absurd cc
  none_passes n (x ∷ xs) [] alike none = absurd cc
  none_passes n (x ∷ xs) (y ∷ ys) alike none =
      let head : p x ≡ q y = cc in
      elim (cases_Bool (p x)) [
        | inl passes ↦ let some = sym (cond-true (p x) (Some n) (position_from p (n + 1) xs) passes) ∙ none in absurd cc
        | inr fails ↦
            cond-false (q y) (y ∷ filter q ys) (filter q ys) (sym head ∙ fails)
            ∙ none_passes (n + 1) xs ys (cc) (sym (cond-false (p x) (Some n) (position_from p (n + 1) xs) fails) ∙ none)
      ]

-- ---- a walk

module _ (slots : Slotted) (entries : List Entry) {of : Group} {most : ℕ} (walk : IsWalk slots entries of most) where
  abbrev held : List Task
  held = tasks_at slots entries

  -- the tasks in the slots of the entries from a place on
  pub seen_from : (place : ℕ) → tasks_at slots (drop place entries) ≡ drop place held
  seen_from place = listed slots (drop place entries) _ (holds_drop slots entries held place walk.filled)

  -- from there on it goes on
  pub walk_from : (place less : ℕ) → length (filter (is_in_group of) (tasks_at slots (drop place entries))) ≤ less → IsWalk slots (drop place entries) of less
  walk_from place less bound = record {
    filled = filled slots (drop place entries) _ (holds_drop slots entries held place walk.filled);
    told = sym (drop-map groups_told place entries) ∙ ap (drop place) walk.told ∙ drop-map groups_of place held
        ∙ ap (map groups_of) (sym (seen_from place));
    bound = bound;
  }

  -- the first entry of the group has the first task of it, and those behind it have the others
  pub walked_to : (group : Group) (i : ℕ) (d : Entry) → position (tells_group group) entries ≡ Some i →
      (task : Task) × (get slots (get_or entries i d).key ≡ Some task)
      × (filter (is_in_group group) held ≡ task ∷ filter (is_in_group group) (tasks_at slots (drop (i + 1) entries)))
  walked_to group i d first =
      let at = position-Some (tells_group group) entries i d first in
      let next : suc i ≡ i + 1 = omega arith in
      let found = first_passes (tells_group group) (is_in_group group) i entries held d (told_each group entries held walk.told) at.0 at.1 at.2 in (
        found.0,
        slot_at slots entries held walk.filled i d at.0 ∙ found.1,
        found.2
            ∙ ap (λ n. found.0 ∷ filter (is_in_group group) (drop n held)) next
            ∙ ap (λ (ts : List Task). found.0 ∷ filter (is_in_group group) ts) (sym (seen_from (i + 1))),
      )

  -- where no entry is of the group, it has no task
  pub walked_out : (group : Group) → position (tells_group group) entries ≡ None → filter (is_in_group group) held ≡ []
  walked_out group none =
      none_passes (tells_group group) (is_in_group group) 0 entries held (told_each group entries held walk.told)
      (sym (position_from-zero (tells_group group) entries) ∙ none)

-- each task is one of all
pub all_members : (tasks : List Task) → filter (is_in_group All) tasks ≡ tasks
all_members [] = refl
all_members (task ∷ tasks) = ap (λ (ts : List Task). task ∷ ts) (all_members tasks)

-- ---- the next of a group

-- behind the task with a pid stand those above it
pub above_at : (pid place : ℕ) (tasks : List Task) → IsAt pid place tasks → IsAbove pid (place + 1) tasks
above_at pid place tasks at = let next : suc place ≡ place + 1 = omega arith in subst (λ n. IsAbove pid n tasks) next (behind place tasks at) where
  behind : (place : ℕ) (tasks : List Task) → IsAt pid place tasks → IsAbove pid (suc place) tasks
  behind place [] at = absurd at
  behind zero (task ∷ rest) at = (omega (arith, at.0), at.1)
  behind (suc place) (task ∷ rest) at = (omega (arith, at.0), behind place rest at.1)

-- a walk yields the first of those that it has left
yielded : (left : List Task) (found : Option (Bor Task)) (rest : List Task) → YieldsFirstRef (λ (ts : List Task). ts) left found rest →
    option_copied found ≡ slice_get left 0
yielded left None rest steps = ap (λ (ts : List Task). slice_get ts 0) (sym steps.0)
yielded left (Some at) rest steps = ap (λ (ts : List Task). slice_get ts 0) (sym steps)

-- the first from the position above a pid is the next above it
pub next_is : (group : Group) (after place : ℕ) (tasks left : List Task) → IsAbove after place tasks →
    left ≡ filter (is_in_group group) (drop place tasks) → (found : Option (Bor Task)) (rest : List Task) →
    YieldsFirstRef (λ (ts : List Task). ts) left found rest →
    option_copied found ≡ find (λ task. is_in_group group task && nat_lt after task.spec.pid) tasks
next_is group after place tasks left above is found rest steps =
    yielded left found rest steps
    ∙ ap (λ (ts : List Task). slice_get ts 0) (is ∙ sym (filter_split (is_in_group group) after place tasks above))
    ∙ sym (find_first (λ task. is_in_group group task && nat_lt after task.spec.pid) tasks)

-- behind the next stand those above its pid
pub next_rest : (group : Group) (after : ℕ) (tasks : List Task) → Rises tasks → (found : Option (Bor Task)) →
    option_copied found ≡ find (λ task. is_in_group group task && nat_lt after task.spec.pid) tasks →
    MatchOption found (group_above group after tasks ≡ []) (λ next. group_above group after tasks ≡ next.now ∷ group_above group next.now.spec.pid tasks)
next_rest group after tasks rises None is = walked_on (is_in_group group) after tasks rises None is
next_rest group after tasks rises (Some next) is = walked_on (is_in_group group) after tasks rises (Some next.now) is

-- it is found by its pid
pub next_there : (group : Group) (after : ℕ) (tasks : List Task) → Rises tasks → (found : Option (Bor Task)) →
    option_copied found ≡ find (λ task. is_in_group group task && nat_lt after task.spec.pid) tasks →
    IfSome found (λ next. find (has_pid next.now.spec.pid) tasks ≡ Some next.now)
next_there group after tasks rises None is = tt
next_there group after tasks rises (Some next) is =
    find_again (λ task. is_in_group group task && nat_lt after task.spec.pid) 0 tasks next.now rises (sym is)
