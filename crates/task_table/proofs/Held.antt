-- What the slots of the entries hold, after a write, an insert and a removal.
use Rattle.std.proofs.Common.{Bor, ◌≡◌, ◌≢◌, ℕ, zero, suc, ◌+◌, ◌<◌, List, [], ◌∷◌, map, length, get_or, set, drop, Option, Some, None, refl, sym, ap, ◌∙◌, subst, arith}
use Rattle.std.specs.Prelude.{insert, remove, slice_get, option_copied}
use Rattle.std.specs.Iterator.{YieldsFirstRef, MakesProgress, item_count}
use Rattle.std.specs.List.{AllByRecursion}
use Rattle.std.proofs.lemmas.List.{length-map, drop-map}
use Rattle.task_table.specs.Slots.{Slotted, get, Updates}
use Rattle.cs_types.specs.declared.task.Task.{Task}
use Rattle.task_table.specs.declared.entry.Entry.{Entry}
use Rattle.task_table.specs.Table.{pid_of, RisesFrom}
use Rattle.task_table.specs.Positions.{IsAt}
use Rattle.task_table.specs.Inside.{slot_of, tasks_at, Holds, EachFilled}

-- ---- lists that are alike position by position

pub insert_both : {X Y Z : Type 0} (f : X → Z) (g : Y → Z) (xs : List X) (ys : List Y) (i : ℕ) (x : X) (y : Y) →
    map f xs ≡ map g ys → f x ≡ g y → map f (insert xs i x) ≡ map g (insert ys i y)
insert_both f g xs ys zero x y alike same = cc
insert_both f g [] [] (suc i) x y alike same = cc
insert_both f g [] (y' ∷ ys) (suc i) x y alike same = absurd cc
insert_both f g (x' ∷ xs) [] (suc i) x y alike same = absurd cc
insert_both f g (x' ∷ xs) (y' ∷ ys) (suc i) x y alike same =
    let head : f x' ≡ g y' = cc in
    let rest = insert_both f g xs ys i x y (cc) same in
    cc

pub remove_both : {X Y Z : Type 0} (f : X → Z) (g : Y → Z) (xs : List X) (ys : List Y) (i : ℕ) →
    map f xs ≡ map g ys → map f (remove xs i) ≡ map g (remove ys i)
remove_both f g [] [] i alike = remove_none f g i
  where
    remove_none : {X Y Z : Type 0} (f : X → Z) (g : Y → Z) (i : ℕ) → map f (remove [] i) ≡ map g (remove [] i)
    remove_none f g zero = refl
    remove_none f g (suc i) = refl
remove_both f g [] (y ∷ ys) i alike = absurd cc
remove_both f g (x ∷ xs) [] i alike = absurd cc
remove_both f g (x ∷ xs) (y ∷ ys) zero alike = cc
remove_both f g (x ∷ xs) (y ∷ ys) (suc i) alike =
    let head : f x ≡ g y = cc in
    let rest = remove_both f g xs ys i cc in
    cc

-- there are as many entries as tasks
pub length_both : {X Y Z : Type 0} (f : X → Z) (g : Y → Z) (xs : List X) (ys : List Y) → map f xs ≡ map g ys → length xs ≡ length ys
length_both f g xs ys alike = sym (length-map xs f) ∙ ap length alike ∙ length-map ys g

-- ---- what the entries hold

-- the tasks that the slots have are the tasks in the slots
pub listed : (slots : Slotted) (entries : List Entry) (tasks : List Task) → Holds slots entries tasks → tasks_at slots entries ≡ tasks
listed slots [] [] holds = refl
listed slots [] (task ∷ tasks) holds = absurd cc
listed slots (entry ∷ entries) [] holds = absurd cc
listed slots (entry ∷ entries) (task ∷ tasks) holds =
    let head : slot_of slots entry ≡ Some task = cc in
    rw head (ap (λ (ts : List Task). task ∷ ts) (listed slots entries tasks cc))

-- and each entry has one of them
pub filled : (slots : Slotted) (entries : List Entry) (tasks : List Task) → Holds slots entries tasks → EachFilled slots entries
filled slots entries tasks holds = subst (Holds slots entries) (sym (listed slots entries tasks holds)) holds

-- the entries from a position on hold the tasks from there on
pub holds_drop : (slots : Slotted) (entries : List Entry) (tasks : List Task) (position : ℕ) → Holds slots entries tasks →
    Holds slots (drop position entries) (drop position tasks)
holds_drop slots entries tasks position holds =
    sym (drop-map (slot_of slots) position entries) ∙ ap (drop position) holds ∙ drop-map Some position tasks

-- a walk yields the task that it found
pub steps_from : (left : List Task) (found : Option (Bor Task)) (rest : List Task) (task : Task) → option_copied found ≡ Some task →
    left ≡ task ∷ rest → YieldsFirstRef (λ (ts : List Task). ts) left found rest
steps_from left None rest task is lefts = absurd cc
steps_from left (Some at) rest task is lefts = let same : at.now ≡ task = cc in lefts ∙ ap (λ (t : Task). t ∷ rest) (sym same)

-- and at the end nothing
pub steps_out : (left : List Task) (found : Option (Bor Task)) → found ≡ None → left ≡ [] → YieldsFirstRef (λ (ts : List Task). ts) left found left
steps_out left None is none = (none, none)
steps_out left (Some at) is none = absurd cc

-- so it goes on to its end
pub goes_on : {can : List Task → Type 0} → ((left : List Task) → can left) → (left : List Task) (found : Option (Bor Task)) (rest : List Task) →
    YieldsFirstRef (λ (ts : List Task). ts) left found rest → MakesProgress can (item_count (λ (ts : List Task). ts)) left found rest
goes_on may left None rest steps = record { on = λ _. tt; keeps = tt; rests = λ _. tt }
goes_on may left (Some at) rest steps = record { on = λ _. (may rest, tt, omega (arith, ap length steps)); keeps = may rest; rests = λ _. tt }

-- the task at a position is in the slot of the entry there
pub slot_at : (slots : Slotted) (entries : List Entry) (tasks : List Task) → Holds slots entries tasks → (i : ℕ) (d : Entry) →
    i < length entries → slot_of slots (get_or entries i d) ≡ slice_get tasks i
slot_at slots [] tasks holds i d within = absurd (omega arith)
slot_at slots (entry ∷ entries) [] holds i d within = absurd cc
slot_at slots (entry ∷ entries) (task ∷ tasks) holds zero d within = cc
slot_at slots (entry ∷ entries) (task ∷ tasks) holds (suc i) d within = slot_at slots entries tasks (cc) i d (omega arith)

-- ---- other slots

-- the entries have another slot
abbrev pub Elsewhere : ℕ → List Entry → Type 0
Elsewhere key entries = AllByRecursion (λ entry. entry.key ≢ key) entries

pub same_elsewhere : (old new : Slotted) (key : ℕ) (slot : Option Task) → Updates old new key slot → (entries : List Entry) →
    Elsewhere key entries → map (slot_of new) entries ≡ map (slot_of old) entries
same_elsewhere old new key slot updates [] apart = refl
same_elsewhere old new key slot updates (entry ∷ entries) apart =
    let head = updates.others entry.key apart.0 in
    let rest = same_elsewhere old new key slot updates entries apart.1 in
    cc

-- an empty slot is no entry's
pub empty_elsewhere : (slots : Slotted) (key : ℕ) → get slots key ≡ None → (entries : List Entry) (tasks : List Task) →
    Holds slots entries tasks → Elsewhere key entries
empty_elsewhere slots key empty [] tasks holds = tt
empty_elsewhere slots key empty (entry ∷ entries) [] holds = absurd cc
empty_elsewhere slots key empty (entry ∷ entries) (task ∷ tasks) holds =
    let head : get slots entry.key ≡ Some task = cc in
    (λ same. let found = sym (ap (get slots) same) ∙ head in absurd cc, empty_elsewhere slots key empty entries tasks cc)

-- a slot with a pid below them all is none of theirs
pub above_elsewhere : (slots : Slotted) (key : ℕ) (at : Task) → get slots key ≡ Some at → (low : ℕ) → at.spec.pid < low →
    (entries : List Entry) (tasks : List Task) → Holds slots entries tasks → RisesFrom low tasks → Elsewhere key entries
above_elsewhere slots key at here low lt [] tasks holds rises = tt
above_elsewhere slots key at here low lt (entry ∷ entries) [] holds rises = absurd cc
above_elsewhere slots key at here low lt (entry ∷ entries) (task ∷ tasks) holds rises =
    let head : get slots entry.key ≡ Some task = cc in (
      λ same. let found : at ≡ task = (let both = sym here ∙ ap (get slots) (sym same) ∙ head in cc) in
          absurd (omega (arith, ap pid_of found, rises.0)),
      above_elsewhere slots key at here (task.spec.pid + 1) (omega (arith, rises.0)) entries tasks (cc) rises.1,
    )

-- the slot of a position is no other entry's
pub others_elsewhere : (slots : Slotted) (key : ℕ) (at : Task) → get slots key ≡ Some at → (position : ℕ) (entries : List Entry)
    (tasks : List Task) → Holds slots entries tasks → IsAt at.spec.pid position tasks → Elsewhere key (remove entries position)
others_elsewhere slots key at here position entries [] holds is_at = absurd is_at
others_elsewhere slots key at here position [] (task ∷ tasks) holds is_at = absurd cc
others_elsewhere slots key at here zero (entry ∷ entries) (task ∷ tasks) holds is_at =
    above_elsewhere slots key at here (at.spec.pid + 1) (omega arith) entries tasks (cc) is_at.1
others_elsewhere slots key at here (suc position) (entry ∷ entries) (task ∷ tasks) holds is_at =
    let head : get slots entry.key ≡ Some task = cc in (
      λ same. let found : at ≡ task = (let both = sym here ∙ ap (get slots) (sym same) ∙ head in cc) in
          absurd (omega (arith, ap pid_of found, is_at.0)),
      others_elsewhere slots key at here position entries tasks (cc) is_at.1,
    )

-- ---- edits

-- a task goes into an empty slot
pub holds_insert : (old new : Slotted) (key : ℕ) (task : Task) → get old key ≡ None → Updates old new key (Some task) →
    (entries : List Entry) (tasks : List Task) (position : ℕ) (entry : Entry) → entry.key ≡ key → Holds old entries tasks →
    Holds new (insert entries position entry) (insert tasks position task)
holds_insert old new key task empty updates entries tasks position entry at holds =
    insert_both (slot_of new) Some entries tasks position entry task
    (same_elsewhere old new key (Some task) updates entries (empty_elsewhere old key empty entries tasks holds) ∙ holds)
    (ap (get new) at ∙ updates.changed)

-- the task at a position leaves its slot
pub holds_remove : (old new : Slotted) (key : ℕ) (at : Task) → get old key ≡ Some at → Updates old new key None →
    (entries : List Entry) (tasks : List Task) (position : ℕ) → IsAt at.spec.pid position tasks → Holds old entries tasks →
    Holds new (remove entries position) (remove tasks position)
holds_remove old new key at here updates entries tasks position is_at holds =
    same_elsewhere old new key None updates (remove entries position) (others_elsewhere old key at here position entries tasks holds is_at)
    ∙ remove_both (slot_of old) Some entries tasks position holds

-- the slot of a position gets another task
pub holds_set : (old new : Slotted) (key : ℕ) (task : Task) → Updates old new key (Some task) →
    (entries : List Entry) (tasks : List Task) (position : ℕ) (d : Entry) → position < length entries → (get_or entries position d).key ≡ key →
    Elsewhere key (remove entries position) → Holds old entries tasks → Holds new entries (set tasks position task)
holds_set old new key task updates [] tasks position d within at apart holds = absurd (omega arith)
holds_set old new key task updates (entry ∷ entries) [] position d within at apart holds = absurd cc
holds_set old new key task updates (entry ∷ entries) (other ∷ tasks) zero d within at apart holds =
    let head = ap (get new) at ∙ updates.changed in
    let rest = same_elsewhere old new key (Some task) updates entries apart in
    cc
holds_set old new key task updates (entry ∷ entries) (other ∷ tasks) (suc position) d within at apart holds =
    let head = updates.others entry.key apart.0 in
    let rest = holds_set old new key task updates entries tasks position d (omega arith) at apart.1 cc in
    cc
