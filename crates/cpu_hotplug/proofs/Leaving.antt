-- Leaving: the tasks of a sibling move off it one after another, by rising stamp.
use Rattle.std.proofs.Common.{◌≡◌, inl, inr, ℕ, ◌+◌, ◌<◌, ◌≤◌, Bool, true, false, cond, ltb, List, [], ◌∷◌, map, refl, sym, ap, ◌∙◌, length, get_or, arith, Some, ne_eqb, option_map}
use Rattle.std.specs.Prelude.{find, ◌&&◌, ◌==◌, Contains}
use Rattle.std.specs.List.{AllByRecursion}
use Rattle.std.proofs.Math.Bool.{and-false}
use Rattle.std.proofs.lemmas.Bool.{cond-true, cond-false, cases_Bool, eqb-true, eqb-false, and_parts, lt-ltb}
use Rattle.std.proofs.lemmas.Bool.Decides.{nat_tests}
use Rattle.std.proofs.lemmas.List.{length-map, get_or-map}
use Rattle.std.proofs.lemmas.List.Elements.{All-contains_itself, recursion_from_All}
use Rattle.cs_types.specs.declared.task.Task.{Task}
use Rattle.cs_types.specs.Room.{RoomState, SiblingState, has_pid, queued_on}
use Rattle.cs_types.specs.Queueing.{moved_to}
use Rattle.cs_types.specs.Hotplug.{lowest_other, moved_off}
use Rattle.cs_types.proofs.Filtered.{Contains-filter, each_found}
use Rattle.task_table.specs.Table.{Rises}
use Rattle.core_lanes.specs.Queued.{queued_among, mover_of, AreTold, count_before, IsOf, AreStamped}
use Rattle.core_lanes.proofs.Queues.{is_on}
use Rattle.core_lanes.proofs.Counted.{few_queued}
use Rattle.cpu_hotplug.proofs.Ranks.{fewer_before, same_stamp, length-movers, mover_at, rank_at}
use Rattle.cs_laws.proofs.Spots.{find-map}

-- ---- how many move

-- there are places for all
pub enough : (tasks : List Task) (cpu limit count : ℕ) → count ≡ length (queued_among tasks cpu) → length tasks ≤ limit → limit ≤ 256 → count ≤ 256
enough tasks cpu limit count is within most = omega (arith, is, within, most, few_queued tasks cpu)

-- ---- the task that moves

-- it is the model's
pub moved_is : (old now : RoomState) (cpu to stamp : ℕ) (task moved : Task) → now.siblings ≡ old.siblings →
    to ≡ lowest_other old cpu → moved ≡ moved_to now to task → is_on cpu task ≡ true →
    stamp ≡ old.next_stamp + count_before (queued_among old.tasks cpu) task.stamp → record moved { stamp = stamp } ≡ moved_off old cpu task
moved_is old now cpu to stamp task moved same to_is is on stamp_is =
    ap (λ (t : Task). let m : Task = record t { stamp = stamp } in m) is
    ∙ ap (λ (siblings : List SiblingState). let m : Task = record (moved_to (record old { siblings = siblings }) to task) { stamp = stamp } in m) same
    ∙ (λ i. let m : Task = record (moved_to old (to_is i) task) { stamp = stamp_is i } in m)
    ∙ sym (cond-true (is_on cpu task) _ task on)

-- and what is not there does not move
pub stays : (room : RoomState) (cpu : ℕ) (task : Task) → is_on cpu task ≡ false → moved_off room cpu task ≡ task
stays room cpu task off = cond-false (is_on cpu task) _ task off

pub keeps_pid : (room : RoomState) (cpu : ℕ) (task : Task) → (moved_off room cpu task).spec.pid ≡ task.spec.pid
keeps_pid room cpu task = elim (cases_Bool (is_on cpu task)) [
  | inl on ↦ ap (λ (t : Task). t.spec.pid) (cond-true (is_on cpu task) _ task on)
  | inr off ↦ ap (λ (t : Task). t.spec.pid) (stays room cpu task off)
]

-- ---- the tasks where so many moved

-- a task where the tasks moved that have fewer than so many before them
abbrev pub after_some : RoomState → ℕ → ℕ → Task → Task
after_some room cpu count task = cond (ltb (count_before (queued_on room cpu) task.stamp) count) (moved_off room cpu task) task

-- the room then
abbrev pub so_far : RoomState → ℕ → ℕ → RoomState
so_far room cpu count = record room { tasks = map (after_some room cpu count) room.tasks; next_stamp = room.next_stamp + count }

never_below_0 : (n : ℕ) → ltb n 0 ≡ false
never_below_0 n = grind (arith, nat_tests)

not_below_itself : (n : ℕ) → ltb n n ≡ false
not_below_itself n = grind (arith, nat_tests)

below_one_more : (n count : ℕ) → (n ≡ count → ⊥) → ltb n count ≡ ltb n (count + 1)
below_one_more n count other = grind (arith, nat_tests, other)

-- none at first
pub none_moved : (room : RoomState) (cpu : ℕ) (tasks : List Task) → map (after_some room cpu 0) tasks ≡ tasks
none_moved room cpu [] = refl
none_moved room cpu (task ∷ tasks) =
    λ i. cond-false _ (moved_off room cpu task) task (never_below_0 (count_before (queued_on room cpu) task.stamp)) i ∷ none_moved room cpu tasks i

some_keep_pid : (room : RoomState) (cpu count : ℕ) (task : Task) → (after_some room cpu count task).spec.pid ≡ task.spec.pid
some_keep_pid room cpu count task =
    let some = ltb (count_before (queued_on room cpu) task.stamp) count in
    elim some as (λ b. (cond b (moved_off room cpu task) task).spec.pid ≡ task.spec.pid) [
      | true ↦ keeps_pid room cpu task
      | false ↦ refl
    ]

-- a task is found by its pid as it is then
pub found_then : (room : RoomState) (cpu count pid : ℕ) (tasks : List Task) (task : Task) → find (has_pid pid) tasks ≡ Some task →
    find (has_pid pid) (map (after_some room cpu count) tasks) ≡ Some (after_some room cpu count task)
found_then room cpu count pid tasks task found =
    find-map (after_some room cpu count) (some_keep_pid room cpu count) pid tasks ∙ ap (option_map (after_some room cpu count)) found

module _ (room : RoomState) (cpu : ℕ) where
  abbrev rank : Task → ℕ
  rank task = count_before (queued_on room cpu) task.stamp

  -- a task of the sibling is one of its queued ones
  is_queued : (task : Task) → IsOf room.tasks task → is_on cpu task ≡ true → Contains (queued_on room cpu) task
  is_queued task found on = Contains-filter (λ (t : Task). t.queued && (t.home == cpu)) room.tasks task (is_in room.tasks task found) on where
    is_in : (tasks : List Task) (task : Task) → IsOf tasks task → Contains tasks task
    is_in tasks task found = each_found (Contains tasks) (has_pid task.spec.pid) tasks task found (recursion_from_All (Contains tasks) tasks (All-contains_itself tasks))

  -- all at the end
  pub all_moved : (tasks : List Task) → AllByRecursion (IsOf room.tasks) tasks → map (after_some room cpu (length (queued_on room cpu))) tasks ≡ map (moved_off room cpu) tasks
  all_moved [] each = refl
  all_moved (task ∷ tasks) each =
      let rest = all_moved tasks each.1 in
      elim (cases_Bool (is_on cpu task)) [
        | inl on ↦
            let before = lt-ltb (rank task) (length (queued_on room cpu)) (fewer_before (queued_on room cpu) task (is_queued task each.0 on)) in
            λ i. cond-true _ (moved_off room cpu task) task before i ∷ rest i
        | inr off ↦ λ i. either task (length (queued_on room cpu)) off i ∷ rest i
      ] where
        either : (task : Task) (count : ℕ) → is_on cpu task ≡ false → after_some room cpu count task ≡ moved_off room cpu task
        either task count off =
            elim (ltb (rank task) count) as (λ b. cond b (moved_off room cpu task) task ≡ moved_off room cpu task) [
              | true ↦ refl
              | false ↦ sym (stays room cpu task off)
            ]

  -- the next one moves
  module _ (stamped : AreStamped room.next_stamp room.tasks) (count : ℕ) (task : Task) (there : IsOf room.tasks task) (on : is_on cpu task ≡ true) (at : rank task ≡ count) where
    pub not_yet : after_some room cpu count task ≡ task
    not_yet = cond-false _ (moved_off room cpu task) task (ap (λ n. ltb n count) at ∙ not_below_itself count)

    -- another task does not
    another : (other : Task) → IsOf room.tasks other → (other.spec.pid ≡ task.spec.pid → ⊥) → after_some room cpu count other ≡ after_some room cpu (count + 1) other
    another other found apart =
        elim (cases_Bool (is_on cpu other)) [
          | inl here ↦
              ap (λ b. cond b (moved_off room cpu other) other) (below_one_more (rank other) count (λ same.
              let one = same_stamp (queued_on room cpu) other task (is_queued other found here) (is_queued task there on) (same ∙ sym at) in
              apart (stamped.distinct task there (and_parts task.queued (task.home == cpu) on).0 other found (and_parts other.queued (other.home == cpu) here).0 one)))
          | inr off ↦ both (ltb (rank other) count) (ltb (rank other) (count + 1)) off
        ] where
          both : (a b : Bool) → is_on cpu other ≡ false → cond a (moved_off room cpu other) other ≡ cond b (moved_off room cpu other) other
          both true true off = refl
          both true false off = stays room cpu other off
          both false true off = sym (stays room cpu other off)
          both false false off = refl

    itself : (other : Task) → IsOf room.tasks other → other.spec.pid ≡ task.spec.pid → moved_off room cpu task ≡ after_some room cpu (count + 1) other
    itself other found same =
        let one : Some other ≡ Some task = sym found ∙ ap (λ n. find (has_pid n) room.tasks) same ∙ there in
        let is : task ≡ other = cc in
        ap (moved_off room cpu) is ∙ sym (cond-true _ (moved_off room cpu other) other (lt-ltb (rank other) (count + 1) (omega (arith, at, ap rank is))))

    pub one_more : (done : Task) → done ≡ moved_off room cpu task → (tasks : List Task) → AllByRecursion (IsOf room.tasks) tasks →
        map (λ other. cond (has_pid done.spec.pid other) done other) (map (after_some room cpu count) tasks) ≡ map (after_some room cpu (count + 1)) tasks
    one_more done is [] each = refl
    one_more done is (other ∷ tasks) each =
        let rest = one_more done is tasks each.1 in
        let then = after_some room cpu count other in
        let pid : done.spec.pid ≡ task.spec.pid = ap (λ (t : Task). t.spec.pid) is ∙ keeps_pid room cpu task in
        let pid_then = some_keep_pid room cpu count other in
        elim (cases_Bool (has_pid done.spec.pid then)) [
          | inl here ↦
              let same : other.spec.pid ≡ task.spec.pid = sym pid_then ∙ eqb-true then.spec.pid done.spec.pid here ∙ pid in
              λ i. (cond-true (has_pid done.spec.pid then) done then here ∙ is ∙ itself other each.0 same) i ∷ rest i
          | inr past ↦
              let apart : other.spec.pid ≡ task.spec.pid → ⊥ = λ same. eqb-false then.spec.pid done.spec.pid past (pid_then ∙ same ∙ sym pid) in
              λ i. (cond-false (has_pid done.spec.pid then) done then past ∙ another other each.0 apart) i ∷ rest i
        ]

-- ---- the next one of those that are told by rising stamp

-- the task is the next one that moves, where so many moved, and stands among these tasks now
pub record IsNext (room : RoomState) (cpu count : ℕ) (now : List Task) (task : Task) : Type 0 where
  pub there : IsOf room.tasks task
  pub on : is_on cpu task ≡ true
  pub rank : count_before (queued_on room cpu) task.stamp ≡ count
  pub found : find (has_pid task.spec.pid) now ≡ Some task

module _ (room : RoomState) (cpu : ℕ) (rises : Rises room.tasks) (stamped : AreStamped room.next_stamp room.tasks) (pids : List ℕ)
    (told : AreTold (map mover_of (queued_on room cpu)) pids) where
  -- there are as many
  pub length-told : length pids ≡ length (queued_on room cpu)
  length-told = ap length told.are ∙ length-map told.movers (λ (mover : ℕ × ℕ). mover.1) ∙ length-movers room.tasks rises cpu room.next_stamp stamped told.movers told.same

  module _ (count : ℕ) (within : count < length pids) (now : List Task) (are : now ≡ map (after_some room cpu count) room.tasks) where
    -- it is found by its pid
    pub next_found : (task : Task) × (find (has_pid (get_or pids count 0)) now ≡ Some task) × IsNext room cpu count now task
    next_found =
        let movers = told.movers in
        let mover = get_or movers count (0, 0) in
        let below : count < length movers = omega (arith, within, ap length told.are, length-map movers (λ (mover : ℕ × ℕ). mover.1)) in
        let pid : mover.1 ≡ get_or pids count 0 = sym (ap (λ (pids : List ℕ). get_or pids count 0) told.are ∙ get_or-map (λ (mover : ℕ × ℕ). mover.1) movers count (0, 0) 0 below) in
        let is = mover_at room.tasks rises cpu room.next_stamp stamped movers told.same count (0, 0) below in
        let task = is.task in
        let rank = ap (λ (m : ℕ × ℕ). count_before (queued_on room cpu) m.0) is.is
        ∙ rank_at room.tasks rises cpu room.next_stamp stamped movers told.same told.rising count (0, 0) below in
        let found = ap (find (has_pid task.spec.pid)) are ∙ found_then room cpu count task.spec.pid room.tasks task is.there
        ∙ ap Some (not_yet room cpu stamped count task is.there is.on rank) in (
          task,
          ap (λ n. find (has_pid n) now) (sym (ap (λ (m : ℕ × ℕ). m.1) is.is ∙ pid)) ∙ found,
          record { there = is.there; on = is.on; rank = rank; found = found },
        )

-- ---- those that are left

-- where none is queued on the sibling, none moves
pub nobody_moves : (room : RoomState) (cpu : ℕ) (tasks : List Task) → length (queued_among tasks cpu) ≡ 0 → map (moved_off room cpu) tasks ≡ tasks
nobody_moves room cpu [] none = refl
nobody_moves room cpu (task ∷ tasks) none =
    let on = is_on cpu task in
    elim (cases_Bool on) [
      | inl there ↦
          let some = ap length (cond-true on (task ∷ queued_among tasks cpu) (queued_among tasks cpu) there) in
          absurd (omega (arith, some, none))
      | inr off ↦
          let rest = nobody_moves room cpu tasks (sym (ap length (cond-false on (task ∷ queued_among tasks cpu) (queued_among tasks cpu) off)) ∙ none) in
          λ i. stays room cpu task off i ∷ rest i
    ]

-- and where all moved to another, none is left
pub none_left : (room : RoomState) (cpu : ℕ) (tasks : List Task) → (lowest_other room cpu ≡ cpu → ⊥) → queued_among (map (moved_off room cpu) tasks) cpu ≡ []
none_left room cpu [] other = refl
none_left room cpu (task ∷ tasks) other =
    let on = is_on cpu task in
    let moved = moved_off room cpu task in
    let gone : is_on cpu moved ≡ false = elim (cases_Bool on) [
      | inl there ↦
          ap (is_on cpu) (cond-true on _ task there)
          ∙ ap (λ b. task.queued && b) (ne_eqb (lowest_other room cpu) cpu other) ∙ and-false task.queued
      | inr off ↦ ap (is_on cpu) (stays room cpu task off) ∙ off
    ] in
    cond-false (is_on cpu moved) (moved ∷ queued_among (map (moved_off room cpu) tasks) cpu) (queued_among (map (moved_off room cpu) tasks) cpu) gone
    ∙ none_left room cpu tasks other
