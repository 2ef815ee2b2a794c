-- What a table keeps, and how a search, an insert, a removal and a write find and leave it.
use Rattle.std.proofs.Common.{eq-eqb, ◌≡◌, ◌≢◌, ℕ, zero, suc, ◌+◌, ◌^◌, ◌<◌, ◌≤◌, not, cond, replicate, List, [], ◌∷◌, map, length, get_or, set, Some, None, Ok, Err, is_some, refl, sym, ap, ◌∙◌, subst, arith}
use Rattle.std.specs.Prelude.{find, filter, insert, remove, slice_get}
use Rattle.std.proofs.lemmas.List.Edits.{length-insert, length-remove}
use Rattle.std.proofs.lemmas.Bool.{ne_eqb}
use Rattle.task_table.specs.Slots.{Slotted, get, filled_count, Updates, with_task}
use Rattle.task_table.proofs.Writes.{filled_within, Updates-with_task}
use Rattle.std.proofs.lemmas.List.Sums.{sum_by-set}
use Rattle.std.proofs.lemmas.List.{length-set, length-map, map-set, set-get_or}
use Rattle.std.proofs.Math.Seq.{map-set_same}
use Rattle.cs_types.specs.declared.task.Task.{Task}
use Rattle.cs_types.specs.declared.task.TaskSpec.{TaskSpec}
use Rattle.cs_types.specs.Room.{has_pid, inserted}
use Rattle.task_table.specs.declared.entry.Entry.{Entry}
use Rattle.task_table.specs.declared.group.Group.{Group}
use Rattle.task_table.specs.declared.spans.Span.{Span}
use Rattle.task_table.specs.Group.{is_in_group}
use Rattle.task_table.specs.Grouping.{no_span, span_at, AreSpans, HasMember, Counts, AreGrouped, thread_of, process_of}
use Rattle.std.proofs.lemmas.List.Sums.{length-filter, count_by-le-length}
use Rattle.task_table.proofs.Grouping.{no_spans, few_of}
use Rattle.task_table.proofs.Grouped.{has_member, grouped_alike}
use Rattle.task_table.specs.Table.{pid_of, Table, Rises, add_answer}
use Rattle.task_table.specs.declared.fault.AddFault.TheVariants.{Full}
use Rattle.task_table.specs.Positions.{IsAt, IsGap}
use Rattle.task_table.specs.Inside.{slot_of, tasks_at, totals_of, groups_of, groups_told, IsSlotOf, IsWalk, IsKept}
use Rattle.task_table.proofs.Rising.{find_at, find_none, none_gap, without_at, with_at, inserted_gap, rises_insert, rises_remove, rises_set, pids_set, at_within, split_within}
use Rattle.task_table.proofs.Tables.{changed_each}
use Rattle.task_table.proofs.Totals.{total-none}
use Rattle.task_table.proofs.Held.{insert_both, remove_both, length_both, listed, filled, slot_at, others_elsewhere, holds_insert, holds_remove, holds_set}

-- the task at the position of a pid has it
pub at_some : (pid position : ℕ) (tasks : List Task) → IsAt pid position tasks →
    (task : Task) × (slice_get tasks position ≡ Some task) × (task.spec.pid ≡ pid)
at_some pid position [] at = absurd at
at_some pid zero (task ∷ rest) at = (task, refl, at.0)
at_some pid (suc position) (task ∷ rest) at = at_some pid position rest at.1

-- the entry with the groups of this task
abbrev pub with_groups : Task → Entry → Entry
with_groups task entry = record entry { tgid = task.spec.tgid; pgid = task.spec.pgid }

-- what lists that are told alike tell at a position
both_at : {X Y Z : Type 0} (f : X → Z) (g : Y → Z) (xs : List X) (ys : List Y) → map f xs ≡ map g ys → (position : ℕ) (d : X) (y : Y) →
    position < length xs → slice_get ys position ≡ Some y → f (get_or xs position d) ≡ g y
both_at f g [] ys alike position d y within is = absurd (omega arith)
both_at f g (x ∷ xs) [] alike position d y within is = absurd cc
both_at f g (x ∷ xs) (first ∷ ys) alike zero d y within is =
    let same : first ≡ y = cc in
    let head : f x ≡ g first = cc in
    head ∙ ap g same
both_at f g (x ∷ xs) (first ∷ ys) alike (suc position) d y within is = both_at f g xs ys (cc) position d y (omega arith) is

-- a write in a slot that has a task leaves how many there are
pub filled_count-with_task : (slots : Slotted) (key : ℕ) (old new : Task) → get slots key ≡ Some old → filled_count (with_task slots key new) ≡ filled_count slots
filled_count-with_task slots key old new has =
    let inside = filled_within slots key (rw has refl) in
    let counts = sum_by-set (λ slot. cond (is_some slot) 1 0) slots.slots key (Some new) None inside in
    let one : ◌≡◌ {A = ℕ} (cond (is_some (get_or slots.slots key None)) 1 0) 1 = rw has refl in
    omega (arith, counts, one)

module _ {slots : Slotted} {entries : List Entry} {threads processes : List Span} {room limit : ℕ} {tasks : List Task} (kept : IsKept slots entries threads processes room limit tasks) where
  -- what is kept is what the slots hold
  pub kept_view : tasks_at slots entries ≡ tasks
  kept_view = listed slots entries tasks kept.holds

  pub kept_again : IsKept slots entries threads processes room limit (tasks_at slots entries)
  kept_again = subst (IsKept slots entries threads processes room limit) (sym kept_view) kept

  -- a walk over all entries
  pub kept_walk : (group : Group) → IsWalk slots entries group (length entries)
  kept_walk group = record {
    filled = filled slots entries tasks kept.holds;
    told = kept.groups ∙ ap (map groups_of) (sym kept_view);
    bound = omega (
      arith,
      length-filter (is_in_group group) (tasks_at slots entries),
      count_by-le-length (is_in_group group) (tasks_at slots entries),
      ap length kept_view,
      length_both (λ entry. entry.pid) pid_of entries tasks kept.index,
    );
  }

  pub kept_length : length entries ≡ length tasks
  kept_length = length_both (λ entry. entry.pid) pid_of entries tasks kept.index

  pub position_within : (pid position : ℕ) → IsAt pid position tasks → position < length entries
  position_within pid position at = omega (arith, kept_length, at_within pid position tasks at)

  pub gap_in_entries : (pid position : ℕ) → IsGap pid position tasks → position ≤ length entries
  gap_in_entries pid position gap = omega (arith, kept_length, split_within pid (pid + 1) position tasks gap)

  -- the slot of the entry at the position of a pid has the task with the pid
  pub found : (pid position : ℕ) (entry : Entry) → IsAt pid position tasks → entry ≡ get_or entries position entry →
      get slots entry.key ≡ find (has_pid pid) tasks
  found pid position entry at is =
      ap (λ (e : Entry). get slots e.key) is ∙ slot_at slots entries tasks kept.holds position entry (position_within pid position at)
      ∙ sym (find_at pid position tasks at)

  pub found_some : (pid position : ℕ) (entry : Entry) → IsAt pid position tasks → entry ≡ get_or entries position entry →
      (task : Task) × (get slots entry.key ≡ Some task) × (task.spec.pid ≡ pid)
  found_some pid position entry at is =
      let there = at_some pid position tasks at in
      (there.0, found pid position entry at is ∙ find_at pid position tasks at ∙ there.1, there.2)

  -- the spans count the task at the position of a pid where its entry tells
  pub member_at : (pid position : ℕ) (entry : Entry) → IsAt pid position tasks → entry ≡ get_or entries position entry →
      HasMember (map thread_of tasks) position (entry.tgid, entry.pid) × HasMember (map process_of tasks) position (entry.pgid, entry.pid)
  member_at pid position entry at is =
      let there = at_some pid position tasks at in
      let within = position_within pid position at in
      let groups = ap groups_told is ∙ both_at groups_told groups_of entries tasks kept.groups position entry there.0 within there.1 in
      let pids = ap (λ (e : Entry). e.pid) is ∙ both_at (λ (e : Entry). e.pid) pid_of entries tasks kept.index position entry there.0 within there.1 in (
        subst (HasMember (map thread_of tasks) position) (λ i. ((sym groups i).0, sym pids i)) (has_member thread_of tasks position there.0 there.1),
        subst (HasMember (map process_of tasks) position) (λ i. ((sym groups i).1, sym pids i)) (has_member process_of tasks position there.0 there.1),
      )

  -- so it can come to other groups
  pub counts_at : (pid position : ℕ) (entry : Entry) → IsAt pid position tasks → entry ≡ get_or entries position entry →
      Counts threads entry.tgid entry.pid × Counts processes entry.pgid entry.pid
  counts_at pid position entry at is =
      let members = member_at pid position entry at is in (
        record {
          members = map thread_of tasks;
          position = position;
          has = members.0;
          are = kept.grouped.by_threads;
          few = omega (arith, length-map tasks thread_of, kept.sound.few, kept.sound.limit);
        },
        record {
          members = map process_of tasks;
          position = position;
          has = members.1;
          are = kept.grouped.by_processes;
          few = omega (arith, length-map tasks process_of, kept.sound.few, kept.sound.limit);
        },
      )

  -- a table that is not full has room for one task more
  pub room_in_slots : length entries ≢ limit → filled_count slots < slots.room
  room_in_slots free = omega (arith, kept_length, kept.sound.few, free, kept.counted, kept.room_for_tasks)

  pub room_in_entries : length entries ≢ limit → length entries < room
  room_in_entries free = omega (arith, kept_length, kept.sound.few, free, kept.room_for_entries)

  pub room_in_threads : length entries ≢ limit → (place : ℕ) → (span_at threads place).count + 1 < 2 ^ 16
  room_in_threads free place =
      omega (
        arith,
        few_of threads (map thread_of tasks) place kept.grouped.by_threads,
        length-map tasks thread_of,
        kept_length,
        kept.sound.few,
        kept.sound.limit,
        free,
      )

  pub room_in_processes : length entries ≢ limit → (place : ℕ) → (span_at processes place).count + 1 < 2 ^ 16
  room_in_processes free place =
      omega (
        arith,
        few_of processes (map process_of tasks) place kept.grouped.by_processes,
        length-map tasks process_of,
        kept_length,
        kept.sound.few,
        kept.sound.limit,
        free,
      )

  -- a task goes into an empty slot, and an entry for it into its gap
  pub kept_insert : (new : Slotted) (after : List Entry) (more key position : ℕ) (task : Task) {by_threads by_processes : List Span} →
      AreGrouped by_threads by_processes (inserted task tasks) → IsGap task.spec.pid position tasks →
      get slots key ≡ None → Updates slots new key (Some task) → filled_count new ≡ filled_count slots + 1 → new.room ≡ slots.room →
      more ≡ room → length entries ≢ limit → after ≡ insert entries position (record { pid = task.spec.pid; tgid = task.spec.tgid; pgid = task.spec.pgid; key = key; forced = 0 }) →
      IsKept new after by_threads by_processes more limit (inserted task tasks)
  kept_insert new after more key position task grouped gap empty updates longer same_room more_room free is =
      let entry : Entry = record { pid = task.spec.pid; tgid = task.spec.tgid; pgid = task.spec.pgid; key = key; forced = 0 } in
      let inside = gap_in_entries task.spec.pid position gap in
      let long : length after ≡ length entries + 1 = ap length is ∙ length-insert entries position entry inside in
      let there = sym (inserted_gap task position tasks gap) in
      let index = ap (map (λ (e : Entry). e.pid)) is ∙ insert_both (λ (e : Entry). e.pid) pid_of entries tasks position entry task kept.index refl
      ∙ ap (map pid_of) there in
      record {
        holds = subst (λ es. map (λ (e : Entry). get new e.key) es ≡ map Some (inserted task tasks)) (sym is)
            (holds_insert slots new key task empty updates entries tasks position entry refl kept.holds ∙ ap (map Some) there);
        index = index;
        grouped = grouped;
        groups = ap (map groups_told) is ∙ insert_both groups_told groups_of entries tasks position entry task kept.groups refl ∙ ap (map groups_of) there;
        sound = record {
          rising = subst Rises there (rises_insert task 0 position tasks kept.sound.rising (omega arith) gap);
          known = λ pid none. total-none pid after (inserted task tasks) index none;
          few = omega (arith, length_both (λ (e : Entry). e.pid) pid_of after (inserted task tasks) index, long, kept_length, kept.sound.few, free);
          limit = kept.sound.limit;
        };
        counted = longer ∙ ap (λ n. n + 1) kept.counted ∙ sym long;
        room_for_entries = omega (arith, kept.room_for_entries, more_room);
        room_for_tasks = omega (arith, kept.room_for_tasks, same_room);
      }

  -- the entry of a pid goes, and its slot becomes empty
  pub kept_remove : (new : Slotted) (after : List Entry) (less pid position : ℕ) (entry : Entry) {by_threads by_processes : List Span} →
      AreGrouped by_threads by_processes (filter (λ task. not (has_pid pid task)) tasks) → IsAt pid position tasks →
      entry ≡ get_or entries position entry → Updates slots new entry.key None → filled_count new + 1 ≡ filled_count slots →
      new.room ≡ slots.room → less ≡ room → after ≡ remove entries position →
      IsKept new after by_threads by_processes less limit (filter (λ task. not (has_pid pid task)) tasks)
  kept_remove new after less pid position entry grouped at here updates shorter same_room room_stays is =
      let there = found_some pid position entry at here in
      let inside = position_within pid position at in
      let long : length after + 1 ≡ length entries = ap (λ (es : List Entry). length es + 1) is ∙ length-remove entries position inside in
      let without = sym (without_at pid position tasks at) in
      let index = ap (map (λ (e : Entry). e.pid)) is ∙ remove_both (λ (e : Entry). e.pid) pid_of entries tasks position kept.index
      ∙ ap (map pid_of) without in
      record {
        holds = ap (map (λ (e : Entry). get new e.key)) is
            ∙ holds_remove slots new entry.key there.0 there.1 updates entries tasks position (subst (λ p. IsAt p position tasks) (sym there.2) at) kept.holds
            ∙ ap (map Some) without;
        index = index;
        grouped = grouped;
        groups = ap (map groups_told) is ∙ remove_both groups_told groups_of entries tasks position kept.groups ∙ ap (map groups_of) without;
        sound = record {
          rising = subst Rises without (rises_remove pid 0 position tasks kept.sound.rising at);
          known = λ other none. total-none other after _ index none;
          few = omega (arith, length_both (λ (e : Entry). e.pid) pid_of after (filter (λ task. not (has_pid pid task)) tasks) index, long, kept_length, kept.sound.few);
          limit = kept.sound.limit;
        };
        counted = omega (arith, long, shorter, kept.counted);
        room_for_entries = omega (arith, kept.room_for_entries, room_stays);
        room_for_tasks = omega (arith, kept.room_for_tasks, same_room);
      }

  -- the entry of a pid gets another total
  pub kept_entry : (position : ℕ) (old new : Entry) → old ≡ get_or entries position old → new.pid ≡ old.pid → new.key ≡ old.key →
      groups_told new ≡ groups_told old → IsKept slots (set entries position new) threads processes room limit tasks
  kept_entry position old new is pid key groups =
      let index = map-set_same (λ (e : Entry). e.pid) entries position new old (pid ∙ ap (λ (e : Entry). e.pid) is) ∙ kept.index in
      record {
        holds = map-set_same (slot_of slots) entries position new old (ap (get slots) key ∙ ap (slot_of slots) is) ∙ kept.holds;
        index = index;
        groups = map-set_same groups_told entries position new old (groups ∙ ap groups_told is) ∙ kept.groups;
        grouped = kept.grouped;
        sound = record {
          rising = kept.sound.rising;
          known = λ pid none. total-none pid (set entries position new) tasks index none;
          few = kept.sound.few;
          limit = kept.sound.limit;
        };
        counted = kept.counted ∙ sym (length-set entries position new);
        room_for_entries = kept.room_for_entries;
        room_for_tasks = kept.room_for_tasks;
      }

  -- the slot of a pid gets another task with the pid, and the entry its groups
  pub kept_set : (new : Slotted) (after : List Entry) (position : ℕ) (entry : Entry) (task : Task) {by_threads by_processes : List Span} →
      AreGrouped by_threads by_processes (map (λ other. cond (has_pid task.spec.pid other) task other) tasks) → IsAt task.spec.pid position tasks →
      entry ≡ get_or entries position entry → Updates slots new entry.key (Some task) → filled_count new ≡ filled_count slots →
      new.room ≡ slots.room → after ≡ set entries position (with_groups task entry) →
      IsKept new after by_threads by_processes room limit (map (λ other. cond (has_pid task.spec.pid other) task other) tasks)
  kept_set new after position entry task grouped at here updates same_length same_room is =
      let now = with_groups task entry in
      let there = found_some task.spec.pid position entry at here in
      let inside = position_within task.spec.pid position at in
      let with = sym (with_at task position tasks at) in
      let index = ap (map (λ (e : Entry). e.pid)) is ∙ map-set_same (λ (e : Entry). e.pid) entries position now entry (ap (λ (e : Entry). e.pid) here)
      ∙ kept.index ∙ sym (pids_set task position tasks at) ∙ ap (map pid_of) with in
      record {
        holds = ap (map (slot_of new)) is
            ∙ map-set_same (slot_of new) entries position now entry (ap (slot_of new) here)
            ∙ holds_set slots new entry.key task updates entries tasks position entry inside (ap (λ (e : Entry). e.key) (sym here))
            (others_elsewhere slots entry.key there.0 there.1 position entries tasks kept.holds (subst (λ p. IsAt p position tasks) (sym there.2) at)) kept.holds
            ∙ ap (map Some) with;
        index = index;
        grouped = grouped;
        groups = ap (map groups_told) is ∙ map-set groups_told entries position now ∙ ap (λ (gs : List (ℕ × ℕ)). set gs position (groups_of task)) kept.groups
            ∙ sym (map-set groups_of tasks position task) ∙ ap (map groups_of) with;
        sound = record {
          rising = subst Rises with (rises_set task 0 position tasks kept.sound.rising at);
          known = λ pid none. total-none pid after _ index none;
          few = omega (arith, length-map tasks (λ other. cond (has_pid task.spec.pid other) task other), kept.sound.few);
          limit = kept.sound.limit;
        };
        counted = same_length ∙ kept.counted ∙ sym (ap length is ∙ length-set entries position now);
        room_for_entries = kept.room_for_entries;
        room_for_tasks = omega (arith, kept.room_for_tasks, same_room);
      }

  -- the totals stay
  pub totals_set : (after : List Entry) (position : ℕ) (entry : Entry) (task : Task) → entry ≡ get_or entries position entry →
      after ≡ set entries position (with_groups task entry) → totals_of after ≡ totals_of entries
  totals_set after position entry task here is =
      let total : Entry → ℕ × ℕ = λ entry. (entry.pid, entry.forced) in
      ap totals_of is ∙ map-set_same total entries position (with_groups task entry) entry (ap total here)

  -- the slot of a pid has its task
  pub task_in : {key pid : ℕ} → IsSlotOf key pid entries tasks → (task : Task) × (get slots key ≡ Some task) × (find (has_pid pid) tasks ≡ Some task) × (task.spec.pid ≡ pid)
  task_in {key} {pid} slot =
      let there = found_some pid slot.position slot.entry slot.at slot.is in
      (there.0, ap (get slots) (sym slot.slot) ∙ there.1, sym (found pid slot.position slot.entry slot.at slot.is) ∙ there.1, there.2)

  -- which is the task in the slot
  pub found_in : {key pid : ℕ} (task : Task) → IsSlotOf key pid entries tasks → get slots key ≡ Some task →
      (find (has_pid pid) tasks ≡ Some task) × (task.spec.pid ≡ pid)
  found_in task slot in_slot =
      let there = task_in slot in
      let both : Some there.0 ≡ Some task = sym there.1 ∙ in_slot in
      let is : there.0 ≡ task = cc in
      (there.2 ∙ ap Some is, ap pid_of (sym is) ∙ there.3)

  -- a task with the same pid and groups comes into its slot
  pub kept_edited : {key pid : ℕ} (old now : Task) → IsSlotOf key pid entries tasks → get slots key ≡ Some old →
      now.spec.pid ≡ old.spec.pid → groups_of now ≡ groups_of old →
      IsKept (with_task slots key now) entries threads processes room limit (map (λ (other : Task). cond (has_pid pid other) now other) tasks)
  kept_edited {key} {pid} old now slot in_slot same_pid same_groups =
      let there = found_in old slot in_slot in
      let entry = slot.entry in
      let position = slot.position in
      let it = sym (find_at pid position tasks slot.at) ∙ there.0 in
      let has_now : now.spec.pid ≡ pid = same_pid ∙ there.1 in
      let told : groups_told entry ≡ groups_of now =
      ap groups_told slot.is
      ∙ both_at groups_told groups_of entries tasks kept.groups position entry old (position_within pid position slot.at) it
      ∙ sym same_groups in
      let same : with_groups now entry ≡ entry = (λ i. record entry { tgid = (sym told i).0; pgid = (sym told i).1 }) in
      let at_now = subst (λ n. IsAt n position tasks) (sym has_now) slot.at in
      subst (λ n. IsKept (with_task slots key now) entries threads processes room limit (map (λ (other : Task). cond (has_pid n other) now other) tasks)) has_now
      (kept_set (with_task slots key now) entries position entry now
      (grouped_alike now position old tasks kept.grouped at_now it (λ i. ((same_groups i).0, same_pid i)) (λ i. ((same_groups i).1, same_pid i)))
      at_now slot.is
      (subst (λ n. Updates slots (with_task slots key now) n (Some now)) (sym slot.slot) (Updates-with_task slots key now (rw in_slot refl)))
      (filled_count-with_task slots key old now in_slot) refl
      (sym (set-get_or entries position entry) ∙ ap (set entries position) (sym slot.is ∙ sym same)))

  -- where a change makes it of the old one, it makes each task with the pid
  pub edited : {key pid : ℕ} (change : Task → Task) (old now : Task) → IsSlotOf key pid entries tasks → get slots key ≡ Some old → now ≡ change old →
      map (λ (other : Task). cond (has_pid pid other) now other) tasks ≡ map (λ (other : Task). cond (has_pid pid other) (change other) other) tasks
  edited change old now slot in_slot is =
      let there = found_in old slot in_slot in
      subst (λ n. map (λ (other : Task). cond (has_pid n other) now other) tasks ≡ map (λ (other : Task). cond (has_pid n other) (change other) other) tasks) there.1
      (ap (λ (t : Task). map (λ (other : Task). cond (has_pid old.spec.pid other) t other) tasks) is
      ∙ changed_each change tasks old kept.sound.rising (subst (λ n. find (has_pid n) tasks ≡ Some old) (sym there.1) there.0))

-- an open table keeps the tasks that it is seen as
pub kept_of : (slots : Slotted) (entries : List Entry) (threads processes : List Span) (room limit : ℕ) (table : Table) →
    record { tasks = tasks_at slots entries; totals = totals_of entries; limit = limit } ≡ table →
    IsKept slots entries threads processes room limit (tasks_at slots entries) → IsKept slots entries threads processes room limit table.tasks
kept_of slots entries threads processes room limit table view kept = subst (λ (t : Table). IsKept slots entries threads processes room limit t.tasks) view kept

-- what a kept table is seen as
pub seen_as : (slots : Slotted) (entries : List Entry) (threads processes : List Span) (room limit : ℕ) (tasks : List Task) (old : ℕ) →
    IsKept slots entries threads processes room limit tasks → limit ≡ old →
    (λ (table : Table). table) (record { tasks = tasks_at slots entries; totals = totals_of entries; limit = limit })
    ≡ record { tasks = tasks; totals = totals_of entries; limit = old }
seen_as slots entries threads processes room limit tasks old kept same =
    let table : List Task → ℕ → Table = λ ts n. record { tasks = ts; totals = totals_of entries; limit = n } in
    ap (λ (ts : List Task). table ts limit) (kept_view kept) ∙ ap (table tasks) same

-- ---- what an addition answers

-- with no task of the pid, a table that has as many tasks as its limit is full
pub full_answer : (table : Table) (spec : TaskSpec) (position limit : ℕ) → IsGap spec.pid position table.tasks → limit ≡ table.limit →
    length table.tasks ≡ limit → Err (Full limit) ≡ add_answer table spec
full_answer table spec position limit gap same full =
    rw (find_none spec.pid table.tasks (none_gap spec.pid position table.tasks gap), eq-eqb (length table.tasks) table.limit (full ∙ same)) (ap (λ n. Err (Full n)) same)

-- and one that has not takes it
pub free_answer : (table : Table) (spec : TaskSpec) (position limit : ℕ) → IsGap spec.pid position table.tasks → limit ≡ table.limit →
    length table.tasks ≢ limit → Ok tt ≡ add_answer table spec
free_answer table spec position limit gap same free =
    rw (find_none spec.pid table.tasks (none_gap spec.pid position table.tasks gap), ne_eqb (length table.tasks) table.limit (λ full. free (full ∙ sym same))) refl

-- ---- a table with no task

no_counts : (spans : List Span) → spans ≡ replicate 8192 no_span → AreSpans spans []
no_counts spans none = record { counts = λ place. ap (λ (s : List Span). (span_at s place).count) none ∙ ap (λ (s : Span). s.count) (no_spans place 8192); leasts = tt }

pub kept_empty : (slots : Slotted) (threads processes : List Span) (room limit : ℕ) → filled_count slots ≡ 0 →
    threads ≡ replicate 8192 no_span → processes ≡ replicate 8192 no_span → limit ≤ room → limit ≤ slots.room → limit < 2 ^ 16 →
    IsKept slots [] threads processes room limit []
kept_empty slots threads processes room limit empty no_threads no_processes entries tasks small = record {
  holds = refl;
  index = refl;
  groups = refl;
  sound = record { rising = tt; known = λ pid none. refl; few = omega arith; limit = small };
  grouped = record { by_threads = no_counts threads no_threads; by_processes = no_counts processes no_processes };
  counted = empty;
  room_for_entries = entries;
  room_for_tasks = tasks;
}
