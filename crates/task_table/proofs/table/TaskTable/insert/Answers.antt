use Rattle.std.proofs.Common.{List, refl, ◌∙◌, sym, ap, subst}
use Rattle.cs_types.specs.Room.{asleep, inserted}
use Rattle.task_table.specs.Table.{Table, IsSound, total_among, total_in}
use Rattle.task_table.specs.Grouping.{place_of}
use Rattle.task_table.specs.Inside.{totals_of, IsKept}
use Rattle.task_table.specs.declared.entry.Entry.{Entry}
use Rattle.task_table.proofs.Totals.{total-insert}
use Rattle.task_table.proofs.Kept.{kept_of, kept_again, kept_length, seen_as, gap_in_entries, kept_insert, full_answer, free_answer, room_in_slots, room_in_entries, room_in_threads, room_in_processes}
use Rattle.task_table.proofs.Grouped.{grouped_insert}
use Rattle.task_table.proofs.table.TaskTable.insert.Goals as goal

pub returns-then-len-self-clause-answer : goal.returns-then-len-self-clause-answer
returns-then-len-self-clause-answer c =
    let kept = kept_of _ _ _ _ _ _ _ c.self.view_is c.self.invariant in
    full_answer c.args.self.now c.args.spec c.args.position c.self.inside.limit c.requires
    (ap (λ (t : Table). t.limit) c.self.view_is) (sym (kept_length kept) ∙ sym c.len.ensures ∙ c.if-len-self.true)

pub insert-requires : goal.insert-requires
insert-requires c =
    let kept = kept_of _ _ _ _ _ _ _ c.self.view_is c.self.invariant in
    record {
      index = gap_in_entries kept c.args.spec.pid c.args.position c.requires;
      room = room_in_entries kept (λ full. c.if-len-self.false (c.len.ensures ∙ full));
    }

after : (c : goal.After-note_slot) → IsKept c.fill-key.new.self c.insert.new.self.items
    c.add.new.self.all.items c.add-2.new.self.all.items c.insert.new.self.room c.self.inside.limit (inserted (asleep c.args.spec) c.args.self.now.tasks)
after c =
    kept_insert (kept_of _ _ _ _ _ _ _ c.self.view_is c.self.invariant) c.fill-key.new.self c.insert.new.self.items _ c.fill-key.result
    c.args.position (asleep c.args.spec)
    (grouped_insert (asleep c.args.spec) c.args.position c.args.self.now.tasks (kept_of _ _ _ _ _ _ _ c.self.view_is c.self.invariant).grouped c.requires c.add.ensures c.add-2.ensures)
    c.requires c.fill-key.ensures.was_empty
    (rw c.asleep.ensures at c.fill-key.ensures.updates) c.fill-key.ensures.count c.fill-key.ensures.room
    c.insert.ensures.room (λ full. c.if-len-self.false (c.len.ensures ∙ full)) (rw c.of.ensures at c.insert.ensures.items)

pub invariant_of-self : goal.invariant_of-self
invariant_of-self c = kept_again (after c)

pub returns-clause-answer : goal.returns-clause-answer
returns-clause-answer c =
    let kept = kept_of _ _ _ _ _ _ _ c.self.view_is c.self.invariant in
    free_answer c.args.self.now c.args.spec c.args.position c.self.inside.limit c.requires
    (ap (λ (t : Table). t.limit) c.self.view_is) (λ full. c.if-len-self.false (c.len.ensures ∙ kept_length kept ∙ full))

pub returns-clause-added : goal.returns-clause-added
returns-clause-added c = seen_as _ _ _ _ _ _ _ _ (after c) (ap (λ (t : Table). t.limit) c.self.view_is)

pub returns-clause-sound : goal.returns-clause-sound
returns-clause-sound c = (kept_again (after c)).sound

pub returns-clause-totals : goal.returns-clause-totals
returns-clause-totals c pid =
    ap (λ (entries : List Entry). total_among (totals_of entries) pid) (rw c.of.ensures at c.insert.ensures.items)
    ∙ total-insert pid c.args.position c.self.inside.entries.items _ refl
    ∙ ap (λ (t : Table). total_in t pid) c.self.view_is

-- ---- the room for it

pub fill-key-requires : goal.fill-key-requires
fill-key-requires c = room_in_slots (kept_of _ _ _ _ _ _ _ c.self.view_is c.self.invariant) (λ full. c.if-len-self.false (c.len.ensures ∙ full))

pub add-requires : goal.add-requires
add-requires c = record { few = room_in_threads (kept_of _ _ _ _ _ _ _ c.self.view_is c.self.invariant) (λ full. c.if-len-self.false (c.len.ensures ∙ full)) (place_of c.args.spec.tgid) }

pub add-requires-2 : goal.add-requires-2
add-requires-2 c = record { few = room_in_processes (kept_of _ _ _ _ _ _ _ c.self.view_is c.self.invariant) (λ full. c.if-len-self.false (c.len.ensures ∙ full)) (place_of c.args.spec.pgid) }

-- ---- a full table is left as it is

pub returns-then-len-self-clause-sound : goal.returns-then-len-self-clause-sound
returns-then-len-self-clause-sound c = subst IsSound c.self.view_is c.self.invariant.sound
