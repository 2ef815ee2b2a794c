-- Links: each call on the slots keeps them linked.
use Rattle.std.proofs.Common.{◌≡◌, ◌≢◌, ◌⊎◌, ℕ, zero, suc, ◌+◌, ◌<◌, List, [], ◌∷◌, ◌++◌, map, length, get_or, set, Some, None, is_some, IsSome, count_by, cond, slice_get, refl, sym, ap, subst, ◌∙◌, inl, inr, arith, length-set, true≢false}
use Rattle.std.proofs.lemmas.List.{map-set, map_push, length-map, length_push, get_or-map, get_or-set_same, get_or-set_other, get_or_past}
use Rattle.std.proofs.lemmas.List.Sums.{sum_by-set, sum_by_push}
use Rattle.std.proofs.lemmas.Option.{slice_get_within, slice_get-get_or, slice_get_read, get_or_from_slice_get}
use Rattle.cs_types.specs.declared.task.Task.{Task}
use Rattle.task_table.specs.declared.slots.Slot.{Slot}
use Rattle.task_table.specs.declared.slots.Slot.TheVariants.{Empty, Filled}
use Rattle.task_table.specs.Links.{task_of, AreChained, AreLinked}

-- ---- the empty slots

-- a slot begins a chain of one length at most
one_length : (slots : List Slot) (m n key : ℕ) → AreChained slots m key → AreChained slots n key → m ≡ n
one_length slots zero zero key p q = refl
one_length slots zero (suc n) key p q = absurd (omega (arith, slice_get_within slots key _ q.1))
one_length slots (suc m) zero key p q = absurd (omega (arith, slice_get_within slots key _ p.1))
one_length slots (suc m) (suc n) key p q =
    let first = p.1 in
    let second = q.1 in
    let same : q.0 ≡ p.0 = cc in
    ap suc (one_length slots m n p.0 p.2 (subst (AreChained slots n) same q.2))

-- a write in a slot that no part of the chain begins with keeps it
chained_set : (slots : List Slot) (key : ℕ) (slot : Slot) (n from : ℕ) → ((m : ℕ) → m < n → AreChained slots (suc m) key → ⊥) → AreChained slots n from → AreChained (set slots key slot) n from
chained_set slots key slot zero from off p = p ∙ sym (length-set slots key slot)
chained_set slots key slot (suc n) from off p =
    let other : from ≢ key = λ same. off n (omega arith) (subst (AreChained slots (suc n)) same p) in
    let within = slice_get_within slots from _ p.1 in
    let kept : slice_get (set slots key slot) from ≡ Some (Empty p.0) =
    slice_get-get_or (set slots key slot) from slot (omega (arith, length-set slots key slot))
    ∙ ap Some (get_or-set_other slots key from slot slot other ∙ get_or_from_slice_get slots from _ slot p.1) in
    (p.0, kept, chained_set slots key slot n p.0 (λ m below. off m (omega arith)) p.2)

-- a slot that has a task begins none
filled_off : (slots : List Slot) (key : ℕ) (task : Task) → slice_get slots key ≡ Some (Filled task) → (m : ℕ) → AreChained slots (suc m) key → ⊥
filled_off slots key task found m p = let chained = p.1 in cc

-- how many slots have a task after a write of one
count-set : (slots : List Slot) (key : ℕ) (old new : Slot) → slice_get slots key ≡ Some old →
    count_by is_some (map task_of (set slots key new)) + cond (is_some (task_of old)) 1 0 ≡ count_by is_some (map task_of slots) + cond (is_some (task_of new)) 1 0
count-set slots key old new found =
    let within = slice_get_within slots key old found in
    let read : get_or (map task_of slots) key None ≡ task_of old =
    get_or-map task_of slots key old None within ∙ ap task_of (get_or_from_slice_get slots key old old found) in
    let counted = sum_by-set (λ task. cond (is_some task) 1 0) (map task_of slots) key (task_of new) None (omega (arith, length-map slots task_of)) in
    rw (map-set task_of slots key new, ← read) counted

-- ---- what is at a slot

-- a slot that has a task is filled
pub filled_at : (slots : List Slot) (key : ℕ) → IsSome (get_or (map task_of slots) key None) → (task : Task) × (slice_get slots key ≡ Some (Filled task))
filled_at slots key present =
    let inside : key < length (map task_of slots) = grind (arith, get_or_past) in
    let within : key < length slots = omega (arith, length-map slots task_of) in
    by_slot (get_or slots key (Empty 0)) (slice_get-get_or slots key (Empty 0) within) (subst IsSome (get_or-map task_of slots key (Empty 0) None within) present)
  where
    by_slot : (slot : Slot) → slice_get slots key ≡ Some slot → IsSome (task_of slot) → (task : Task) × (slice_get slots key ≡ Some (Filled task))
    by_slot (Empty _) found some = absurd (true≢false (sym some))
    by_slot (Filled task) found some = (task, found)

-- the first empty slot is the end of slots that are all filled, or an empty one
first_cases : (slots : List Slot) (first : ℕ) → AreLinked slots first →
    ((first ≡ length slots) × (count_by is_some (map task_of slots) ≡ length slots)) ⊎ ((next : ℕ) × (slice_get slots first ≡ Some (Empty next)))
first_cases slots first linked = by_count linked.count linked.total linked.chained
  where
    by_count : (n : ℕ) → count_by is_some (map task_of slots) + n ≡ length slots → AreChained slots n first →
        ((first ≡ length slots) × (count_by is_some (map task_of slots) ≡ length slots)) ⊎ ((next : ℕ) × (slice_get slots first ≡ Some (Empty next)))
    by_count zero total chained = inl (chained, omega arith)
    by_count (suc n) total chained = inr (chained.0, chained.1)

-- it has no task
pub first_is_empty : (slots : List Slot) (first : ℕ) → AreLinked slots first → get_or (map task_of slots) first None ≡ None
first_is_empty slots first linked =
    elim (first_cases slots first linked) [
      | inl full ↦ get_or_past (map task_of slots) first None (omega (arith, length-map slots task_of))
      | inr found ↦ get_or-map task_of slots first (Empty 0) None (slice_get_within slots first _ found.1) ∙ ap task_of (get_or_from_slice_get slots first _ (Empty 0) found.1)
    ]

-- where it is the end, all are filled
pub full_at_end : (slots : List Slot) (first : ℕ) → AreLinked slots first → first ≡ length slots → count_by is_some (map task_of slots) ≡ length slots
full_at_end slots first linked at_end =
    elim (first_cases slots first linked) [
      | inl full ↦ full.1
      | inr found ↦ absurd (omega (arith, slice_get_within slots first _ found.1))
    ]

-- and else it is one of them
pub first_within : (slots : List Slot) (first : ℕ) → AreLinked slots first → first ≢ length slots → first < length slots
first_within slots first linked inside =
    elim (first_cases slots first linked) [
      | inl full ↦ absurd (inside full.0)
      | inr found ↦ slice_get_within slots first _ found.1
    ]

-- and what is read there is in it
pub read_at_first : (slots : List Slot) (first : ℕ) (slot : Slot) → AreLinked slots first → first ≢ length slots → slot ≡ get_or slots first slot → slice_get slots first ≡ Some slot
read_at_first slots first slot linked inside read = slice_get_read slots (length slots) first slot refl (first_within slots first linked inside) read

-- which is not filled
pub first_is_not_filled : (slots : List Slot) (first : ℕ) (task : Task) → AreLinked slots first → slice_get slots first ≡ Some (Filled task) → ⊥
first_is_not_filled slots first task linked found =
    let none = first_is_empty slots first linked in
    let some = get_or-map task_of slots first (Filled task) None (slice_get_within slots first _ found) ∙ ap task_of (get_or_from_slice_get slots first _ (Filled task) found) in
    cc

-- ---- what the calls do

-- a task comes behind slots that are all filled
pub count_push : (slots : List Slot) (task : Task) → count_by is_some (map task_of (slots ++ Filled task ∷ [])) ≡ count_by is_some (map task_of slots) + 1
count_push slots task = rw (map_push task_of slots (Filled task)) (sum_by_push (λ task. cond (is_some task) 1 0) (map task_of slots) (Some task))

pub linked_push : (slots : List Slot) (first : ℕ) (task : Task) → AreLinked slots first → first ≡ length slots →
    AreLinked (slots ++ Filled task ∷ []) (length (slots ++ Filled task ∷ []))
linked_push slots first task linked at_end = record {
  count = zero;
  total = omega (arith, count_push slots task, full_at_end slots first linked at_end, length_push slots (Filled task));
  chained = refl;
}

-- a task comes into the first empty slot
pub linked_fill : (slots : List Slot) (first next : ℕ) (task : Task) → AreLinked slots first → slice_get slots first ≡ Some (Empty next) → AreLinked (set slots first (Filled task)) next
linked_fill slots first next task linked found = by_count linked.count linked.total linked.chained
  where
    by_count : (n : ℕ) → count_by is_some (map task_of slots) + n ≡ length slots → AreChained slots n first → AreLinked (set slots first (Filled task)) next
    by_count zero total chained = absurd (omega (arith, slice_get_within slots first _ found))
    by_count (suc n) total chained =
        let head = chained.1 in
        let same : chained.0 ≡ next = cc in
        record {
          count = n;
          total = omega (arith, total, count-set slots first (Empty next) (Filled task) found, length-set slots first (Filled task));
          chained = subst (AreChained (set slots first (Filled task)) n) same
              (chained_set slots first (Filled task) n chained.0 (λ m below again. omega (arith, one_length slots (suc m) (suc n) first again chained)) chained.2);
        }

pub count_fill : (slots : List Slot) (first next : ℕ) (task : Task) → slice_get slots first ≡ Some (Empty next) →
    count_by is_some (map task_of (set slots first (Filled task))) ≡ count_by is_some (map task_of slots) + 1
count_fill slots first next task found = omega (arith, count-set slots first (Empty next) (Filled task) found)

-- a task goes, and its slot becomes the first empty one
pub linked_remove : (slots : List Slot) (first key : ℕ) (task : Task) → AreLinked slots first → slice_get slots key ≡ Some (Filled task) → AreLinked (set slots key (Empty first)) key
linked_remove slots first key task linked found =
    let within = slice_get_within slots key _ found in
    let written : slice_get (set slots key (Empty first)) key ≡ Some (Empty first) =
    slice_get-get_or (set slots key (Empty first)) key (Empty 0) (omega (arith, length-set slots key (Empty first)))
    ∙ ap Some (get_or-set_same slots key (Empty first) (Empty 0) within) in
    record {
      count = suc linked.count;
      total = omega (arith, linked.total, count-set slots key (Filled task) (Empty first) found, length-set slots key (Empty first));
      chained = (first, written, chained_set slots key (Empty first) linked.count first (λ m below. filled_off slots key task found m) linked.chained);
    }

pub count_remove : (slots : List Slot) (first key : ℕ) (task : Task) → slice_get slots key ≡ Some (Filled task) →
    count_by is_some (map task_of (set slots key (Empty first))) + 1 ≡ count_by is_some (map task_of slots)
count_remove slots first key task found = omega (arith, count-set slots key (Filled task) (Empty first) found)

-- a slot that has a task gets another
pub linked_write : (slots : List Slot) (first key : ℕ) (old new : Task) → AreLinked slots first → slice_get slots key ≡ Some (Filled old) → AreLinked (set slots key (Filled new)) first
linked_write slots first key old new linked found = record {
  count = linked.count;
  total = omega (arith, linked.total, count-set slots key (Filled old) (Filled new) found, length-set slots key (Filled new));
  chained = chained_set slots key (Filled new) linked.count first (λ m below. filled_off slots key old found m) linked.chained;
}
