-- Past: how tasks move off past one that stays on the other sibling: it sleeps meanwhile, and is queued again as it was.
use Rattle.std.proofs.Common.{◌≡◌, ◌≢◌, ℕ, suc, ◌+◌, ◌<◌, Bool, true, false, cond, ltb, List, [], ◌∷◌, map, Option, None, Some, inl, inr, refl, sym, subst, ap, ◌∙◌, length, arith}
use Rattle.std.specs.Prelude.{find, count_by, Contains, IsTrue, ◌&&◌, ◌==◌}
use Rattle.std.specs.List.{AllByRecursion}
use Rattle.std.specs.Option.{option_map}
use Rattle.std.proofs.lemmas.Bool.{cases_Bool, cond-true, cond-false, eqb-true, eq-eqb, and_parts, ne_eqb}
use Rattle.std.proofs.lemmas.List.Elements.{All-contains_itself, recursion_from_All}
use Rattle.cs_types.specs.declared.task.Task.{Task}
use Rattle.cs_types.specs.Room.{RoomState, has_pid, with_task, queued_on}
use Rattle.cs_types.specs.Order.{goes_before, first_of}
use Rattle.cs_types.specs.Queueing.{moved_to}
use Rattle.cs_types.specs.Hotplug.{lowest_other, moved_off, move_off}
use Rattle.cs_types.proofs.Foremost.{foremost_none}
use Rattle.cs_laws.proofs.First.{goes_before_is_order}
use Rattle.cs_types.proofs.Filtered.{each_found, Contains-filter_parts}
use Rattle.cs_laws.proofs.Spots.{find-map, replaced_by}
use Rattle.task_table.specs.Table.{Rises, RisesFrom}
use Rattle.core_lanes.specs.Queued.{queued_among, IsOf, HasOwnStamp, AreStamped}
use Rattle.core_lanes.proofs.Queues.{is_of, is_on}
use Rattle.core_lanes.proofs.Replaced.{was_of}
use Rattle.core_lanes.proofs.Stays.{found_in}
use Rattle.cpu_hotplug.specs.Leaves.{IsQueuedAt}
use Rattle.cpu_hotplug.proofs.Ranks.{each_of}
use Rattle.cpu_hotplug.proofs.Leaving.{stays, keeps_pid}

-- ---- the first that is queued

pub first_queued : (cpu : ℕ) (tasks : List Task) → Rises tasks → queued_among tasks cpu ≢ [] →
    (task : Task) × (first_of (queued_among tasks cpu) ≡ Some task) × IsQueuedAt cpu tasks task
first_queued cpu tasks rises some = by_first (first_of queued) refl where
  queued : List Task
  queued = queued_among tasks cpu

  by_first : (first : Option Task) → first_of queued ≡ first → (task : Task) × (first_of queued ≡ Some task) × IsQueuedAt cpu tasks task
  by_first None none = absurd (some (foremost_none goes_before goes_before_is_order queued none))
  by_first (Some task) is =
      let there : Contains queued task = each_found (Contains queued) _ queued task is (recursion_from_All (Contains queued) queued (All-contains_itself queued)) in
      let one = Contains-filter_parts (λ (t : Task). t.queued && (t.home == cpu)) tasks task there in
      let on = and_parts task.queued (task.home == cpu) one.1 in
      (task, is, record { there = is_of tasks task rises one.0; queued = on.0; home = eqb-true task.home cpu on.1 })

-- ---- one that sleeps

abbrev pub asleep : Task → Task
asleep task = record task { queued = false }

abbrev pub aside : Task → List Task → List Task
aside task tasks = map (replaced_by (asleep task)) tasks

-- behind the place of its pid a task takes none
past : (task : Task) (low : ℕ) (tasks : List Task) → task.spec.pid < low → RisesFrom low tasks → map (replaced_by task) tasks ≡ tasks
past task low [] below rises = refl
past task low (t ∷ tasks) below rises =
    let apart : has_pid task.spec.pid t ≡ false = ne_eqb t.spec.pid task.spec.pid (λ e. omega (arith, e, below, rises.0)) in
    λ i. cond-false (has_pid task.spec.pid t) task t apart i ∷ past task (t.spec.pid + 1) tasks (omega (arith, below, rises.0)) rises.1 i

one_less_by : (b : Bool) (x : Task) (xs ys : List Task) → length xs ≡ suc (length ys) → length (cond b (x ∷ xs) xs) ≡ suc (length (cond b (x ∷ ys) ys))
one_less_by true x xs ys less = ap suc less
one_less_by false x xs ys less = less

module _ (task : Task) (tasks : List Task) (rises : Rises tasks) (there : IsOf tasks task) where
  -- another with its pid is the same
  is_it : (other : Task) → IsOf tasks other → has_pid task.spec.pid other ≡ true → other ≡ task
  is_it other found same =
      let both : Some other ≡ Some task = sym found ∙ ap (λ n. find (has_pid n) tasks) (eqb-true other.spec.pid task.spec.pid same) ∙ there in
      cc

  -- on a sibling where it is not queued the same are
  pub same_queued : (cpu : ℕ) → is_on cpu task ≡ false → queued_among (aside task tasks) cpu ≡ queued_among tasks cpu
  same_queued cpu off = go tasks (each_of tasks rises) where
    go : (ts : List Task) → AllByRecursion (IsOf tasks) ts → queued_among (aside task ts) cpu ≡ queued_among ts cpu
    go [] each = refl
    go (t ∷ ts) each =
        let now = queued_among (aside task ts) cpu in
        let before = queued_among ts cpu in
        elim (cases_Bool (has_pid task.spec.pid t)) [
          | inl same ↦
              ap (λ (x : Task). cond (is_on cpu x) (x ∷ now) now) (cond-true (has_pid task.spec.pid t) (asleep task) t same)
              ∙ go ts each.1
              ∙ sym (cond-false (is_on cpu t) (t ∷ before) before (ap (is_on cpu) (is_it t each.0 same) ∙ off))
          | inr other ↦
              ap (λ (x : Task). cond (is_on cpu x) (x ∷ now) now) (cond-false (has_pid task.spec.pid t) (asleep task) t other)
              ∙ ap (λ (qs : List Task). cond (is_on cpu t) (t ∷ qs) qs) (go ts each.1)
        ]

  -- and where it is, one less is
  pub one_less : (cpu : ℕ) → is_on cpu task ≡ true → length (queued_among tasks cpu) ≡ suc (length (queued_among (aside task tasks) cpu))
  one_less cpu on = go 0 tasks rises there where
    go : (low : ℕ) (ts : List Task) → RisesFrom low ts → find (has_pid task.spec.pid) ts ≡ Some task →
        length (queued_among ts cpu) ≡ suc (length (queued_among (aside task ts) cpu))
    go low [] rises found = absurd cc
    go low (t ∷ ts) rises found =
        let now = queued_among (aside task ts) cpu in
        let before = queued_among ts cpu in
        elim (cases_Bool (has_pid task.spec.pid t)) [
          | inl same ↦
              let both : Some t ≡ Some task = sym (cond-true (has_pid task.spec.pid t) (Some t) (find (has_pid task.spec.pid) ts) same) ∙ found in
              let is : t ≡ task = cc in
              let at : t.spec.pid ≡ task.spec.pid = eqb-true t.spec.pid task.spec.pid same in
              ap length (cond-true (is_on cpu t) (t ∷ before) before (ap (is_on cpu) is ∙ on))
              ∙ ap (λ (qs : List Task). suc (length (queued_among qs cpu))) (sym (past (asleep task) (t.spec.pid + 1) ts (omega (arith, at)) rises.1))
              ∙ ap (λ (x : Task). suc (length (cond (is_on cpu x) (x ∷ now) now))) (sym (cond-true (has_pid task.spec.pid t) (asleep task) t same))
          | inr other ↦
              let rest = go (t.spec.pid + 1) ts rises.1 (sym (cond-false _ (Some t) (find (has_pid task.spec.pid) ts) other) ∙ found) in
              one_less_by (is_on cpu t) t before now rest
              ∙ ap (λ (x : Task). suc (length (cond (is_on cpu x) (x ∷ now) now))) (sym (cond-false (has_pid task.spec.pid t) (asleep task) t other))
        ]

-- ---- once the others moved

-- a task that moves off, by those that are queued on its sibling
abbrev moved_among : RoomState → ℕ → List Task → Task → Task
moved_among room cpu queued task =
    cond (is_on cpu task) (record (moved_to room (lowest_other room cpu) task) { stamp = room.next_stamp + count_by (λ (other : Task). ltb other.stamp task.stamp) queued }) task

module _ (room : RoomState) (cpu : ℕ) (task : Task) (rises : Rises room.tasks) (there : IsOf room.tasks task) (off : is_on cpu task ≡ false) where
  abbrev sleeping : RoomState
  sleeping = with_task room (asleep task)

  pub as_queued : queued_on sleeping cpu ≡ queued_on room cpu
  as_queued = same_queued task room.tasks rises there cpu off

  one_back : (t : Task) → IsOf room.tasks t → replaced_by task (moved_off sleeping cpu (replaced_by (asleep task) t)) ≡ moved_off room cpu t
  one_back t found =
      let pid = task.spec.pid in
      let moved = moved_off sleeping cpu t in
      elim (cases_Bool (has_pid pid t)) [
        | inl same ↦
            ap (λ (x : Task). replaced_by task (moved_off sleeping cpu x)) (cond-true (has_pid pid t) (asleep task) t same)
            ∙ cond-true (has_pid pid (asleep task)) task (asleep task) (eq-eqb pid pid refl)
            ∙ sym (ap (moved_off room cpu) (is_it task room.tasks rises there t found same) ∙ stays room cpu task off)
        | inr other ↦
            ap (λ (x : Task). replaced_by task (moved_off sleeping cpu x)) (cond-false (has_pid pid t) (asleep task) t other)
            ∙ cond-false (has_pid pid moved) task moved (ap (λ n. n == pid) (keeps_pid sleeping cpu t) ∙ other)
            ∙ ap (λ (qs : List Task). moved_among room cpu qs t) as_queued
      ]

  each_back : (ts : List Task) → AllByRecursion (IsOf room.tasks) ts → map (replaced_by task) (map (moved_off sleeping cpu) (aside task ts)) ≡ map (moved_off room cpu) ts
  each_back [] each = refl
  each_back (t ∷ ts) each = λ i. one_back t each.0 i ∷ each_back ts each.1 i

  -- it is put back, and the room is the one in which they moved past it
  pub moved_past : with_task (move_off sleeping cpu) task ≡ move_off room cpu
  moved_past =
      let back = each_back room.tasks (each_of room.tasks rises) in
      λ i. let after : RoomState = record room { tasks = back i; next_stamp = room.next_stamp + length (as_queued i) } in after

  -- it sleeps there still
  pub sleeps : find (has_pid task.spec.pid) (move_off sleeping cpu).tasks ≡ Some (asleep task)
  sleeps =
      find-map (moved_off sleeping cpu) (keeps_pid sleeping cpu) task.spec.pid sleeping.tasks
      ∙ ap (option_map (moved_off sleeping cpu)) (asleep_there room.tasks there) where
        asleep_there : (ts : List Task) → find (has_pid task.spec.pid) ts ≡ Some task → find (has_pid task.spec.pid) (aside task ts) ≡ Some (asleep task)
        asleep_there ts found = Rattle.core_lanes.proofs.Replaced.is_of (asleep task) task ts found

  -- and no other has its stamp
  pub own_still : AreStamped room.next_stamp room.tasks → IsTrue task.queued → HasOwnStamp (move_off sleeping cpu).tasks task
  own_still stamped queued other found other_queued same =
      by_old (find (has_pid other.spec.pid) sleeping.tasks) (sym (find-map (moved_off sleeping cpu) (keeps_pid sleeping cpu) other.spec.pid sleeping.tasks) ∙ found) refl where
        below : task.stamp < room.next_stamp
        below = found_in (λ (t : Task). IsTrue t.queued → t.stamp < room.next_stamp) task.spec.pid room.tasks task stamped.below there queued

        unmoved : (old : Task) → IsOf sleeping.tasks old → IsTrue old.queued → old.stamp ≡ task.stamp → old.spec.pid ≡ task.spec.pid
        unmoved old was old_queued at =
            elim (was_of (asleep task) task room.tasks there old was) [
              | inl is ↦ ap (λ (t : Task). t.spec.pid) is
              | inr before ↦ stamped.distinct task there queued old before old_queued at
            ]

        by_old : (o : Option Task) → option_map (moved_off sleeping cpu) o ≡ Some other → find (has_pid other.spec.pid) sleeping.tasks ≡ o → other.spec.pid ≡ task.spec.pid
        by_old None is at = absurd cc
        by_old (Some old) is at =
            let one : moved_off sleeping cpu old ≡ other = cc in
            let pid : old.spec.pid ≡ other.spec.pid = sym (keeps_pid sleeping cpu old) ∙ ap (λ (t : Task). t.spec.pid) one in
            elim (cases_Bool (is_on cpu old)) [
              | inl on ↦
                  let stamp = ap (λ (t : Task). t.stamp) (sym one ∙ cond-true (is_on cpu old) _ old on) in
                  absurd (omega (arith, stamp, same, below))
              | inr away ↦
                  let is_old : other ≡ old = sym one ∙ stays sleeping cpu old away in
                  sym pid ∙ unmoved old (ap (λ n. find (has_pid n) sleeping.tasks) pid ∙ at) (subst (λ (t : Task). IsTrue t.queued) is_old other_queued) (ap (λ (t : Task). t.stamp) (sym is_old) ∙ same)
            ]
