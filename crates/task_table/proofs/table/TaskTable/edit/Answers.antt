use Rattle.std.proofs.Common.{◌≡◌, sym, ap, refl, subst, ◌∙◌, map, if◌then◌else◌}
use Rattle.std.specs.Prelude.{is_some, option_copied, Some}
use Rattle.task_table.specs.Slots.{with_task}
use Rattle.cs_types.specs.Room.{has_pid}
use Rattle.cs_types.specs.declared.task.Task.{Task}
use Rattle.cs_types.specs.declared.task.TaskSpec.{TaskSpec}
use Rattle.task_table.specs.Edit.{edited as edit_task}
use Rattle.task_table.specs.declared.edit.Edit.{Edit}
use Rattle.task_table.specs.declared.edit.Edit.TheVariants.{Occupation, Cookie, Home, Vtime, Used, Asleep, Queued}
use Rattle.task_table.specs.Table.{Table}
use Rattle.task_table.specs.Inside.{tasks_at, totals_of, groups_of, IsSlotOf, IsKept}
use Rattle.task_table.proofs.Rising.{changed_none}
use Rattle.task_table.proofs.Tables.{none_found}
use Rattle.task_table.specs.declared.table.TaskTable.TheInside.{Inside}
use Rattle.task_table.specs.Positions.{IsIndexOf}
use Rattle.task_table.specs.Slots.{get}
use Rattle.task_table.proofs.Noted.{stands}
use Rattle.task_table.proofs.Kept.{kept_of, kept_again, seen_as, task_in, kept_edited, edited}
use Rattle.task_table.proofs.table.TaskTable.edit.Goals as goal
use Rattle.task_table.proofs.table.TaskTable.edit.Goals.{in-Some, in_default+in-Some-searched, in_default-via-in-Some+else-task-pid, in_default-via-in_default}

-- an edit leaves a task's line
line_kept : (edit : Edit) (task : Task) → (edit_task edit task).spec ≡ task.spec
line_kept (Occupation occupation) task = refl
line_kept (Cookie cookie) task = refl
line_kept (Home home from to stamp) task = refl
line_kept (Vtime vtime) task = refl
line_kept (Used used) task = refl
line_kept Asleep task = refl
line_kept (Queued cpu vtime deadline stamp) task = refl

-- nothing is written before the slot is known
same : (c : goal.After-index_mut-arg-1) → c.match-get.self-inside ≡ c.self.inside
same c = elim c.match-get.branch [
  | in-Some w ↦ w.self-inside-is
  | in_default+in-Some-searched w ↦ w.self-inside-is ∙ elim w.in_default.branch [
    | in_default-via-in-Some+else-task-pid w' ↦ w'.self-inside-is
    | in_default-via-in_default w' ↦ w'.self-inside-is
  ]
]

kept : (c : goal.After-index_mut-arg-1) → IsKept c.match-get.self-inside.slots c.match-get.self-inside.entries.items
    c.match-get.self-inside.threads.all.items c.match-get.self-inside.processes.all.items c.match-get.self-inside.entries.room c.match-get.self-inside.limit c.args.self.now.tasks
kept c =
    subst (λ (inside : Inside). IsKept inside.slots inside.entries.items inside.threads.all.items inside.processes.all.items inside.entries.room inside.limit c.args.self.now.tasks)
    (sym (same c)) (kept_of _ _ _ _ _ _ _ c.self.view_is c.self.invariant)

-- the slot that was noted, or was searched for, is that of the task
slot : (c : goal.After-index_mut-arg-1) → IsSlotOf c.match-get.key c.args.pid c.match-get.self-inside.entries.items c.args.self.now.tasks
slot c =
    let tasks = c.args.self.now.tasks in
    let inside = c.match-get.self-inside in
    let entries = inside.entries.items in
    let key = c.match-get.key in
    let it = kept c in
    elim c.match-get.branch [
      | in-Some w ↦
          let has : get inside.slots key ≡ Some w.in-Some.task.now = (λ i. get (same c i).slots (w.key-is i)) ∙ sym c.get.ensures ∙ ap option_copied w.in-Some.is in
          subst (λ pid. IsSlotOf key pid entries tasks) w.if-task-pid.true
          (stands inside.slots 0 entries tasks it.holds it.sound.rising it.counted key w.in-Some.task.now has)
      | in_default+in-Some-searched w ↦
          let seen : w.deref.result.now ≡ entries = w.deref.ensures.value ∙ sym (ap (λ (inside : Inside). inside.entries.items) w.self-inside-is) in
          let told = w.in-Some-searched.ensures tasks (subst (λ es. IsIndexOf es tasks) (sym seen) it.index) it.sound.rising in
          subst (λ key. IsSlotOf key c.args.pid entries tasks) (sym w.key-is) (subst (λ es. IsSlotOf w.in-Some-searched.key c.args.pid es tasks) seen told)
    ]

pub index_mut-requires : goal.index_mut-requires
index_mut-requires c = ap is_some (task_in (kept c) (slot c)).1

-- the table as it was, by what is seen of it where the slot is known
viewed : (c : goal.After-index_mut-arg-1) → (let inside = c.match-get.self-inside in
    let table : Table = record { tasks = tasks_at inside.slots inside.entries.items; totals = totals_of inside.entries.items; limit = inside.limit } in table) ≡ c.args.self.now
viewed c =
    subst (λ (inside : Inside). (let table : Table = record { tasks = tasks_at inside.slots inside.entries.items; totals = totals_of inside.entries.items; limit = inside.limit } in table) ≡ c.args.self.now)
    (sym (same c)) c.self.view_is

after : (c : goal.After-self-1) → IsKept (with_task c.match-get.self-inside.slots c.match-get.key c.write.new.task) c.match-get.self-inside.entries.items
    c.match-get.self-inside.threads.all.items c.match-get.self-inside.processes.all.items c.match-get.self-inside.entries.room c.match-get.self-inside.limit
    (map (λ (task : Task). if has_pid c.args.pid task then c.write.new.task else task) c.args.self.now.tasks)
after c =
    kept_edited (kept c.before.before.before) c.index_mut.result.now c.write.new.task (slot c.before.before.before) c.index_mut.ensures.value
    (ap (λ (task : Task). task.spec.pid) c.write.ensures ∙ ap (λ (spec : TaskSpec). spec.pid) (line_kept c.args.edit c.index_mut.result.now))
    (ap groups_of c.write.ensures ∙ ap (λ (spec : TaskSpec). (spec.tgid, spec.pgid)) (line_kept c.args.edit c.index_mut.result.now))

pub invariant_of-self : goal.invariant_of-self
invariant_of-self c = kept_again (after c)

pub returns-clause-edited : goal.returns-clause-edited
returns-clause-edited c =
    let earlier = c.before.before.before in
    seen_as _ _ _ _ _ _ _ _ (after c) (ap (λ (t : Table). t.limit) (viewed earlier))
    ∙ ap (λ ts. let table : Table = record { tasks = ts; totals = totals_of c.match-get.self-inside.entries.items; limit = c.args.self.now.limit } in table)
    (edited (kept earlier) (edit_task c.args.edit) c.index_mut.result.now c.write.new.task (slot earlier) c.index_mut.ensures.value c.write.ensures)
    ∙ ap (λ (t : Table). let table : Table = record c.args.self.now {
      tasks = map (λ (task : Task). if has_pid c.args.pid task then edit_task c.args.edit task else task) c.args.self.now.tasks;
      totals = t.totals;
    } in table) (viewed earlier)

pub returns-clause-sound : goal.returns-clause-sound
returns-clause-sound c = (kept_again (after c)).sound

pub returns-in-None-clause-edited : goal.returns-in-None-clause-edited
returns-in-None-clause-edited c =
    let tasks = c.args.self.now.tasks in
    let it = kept_of _ _ _ _ _ _ _ c.self.view_is c.self.invariant in
    let unwritten : c.in_default.self-inside ≡ c.self.inside = elim c.in_default.branch [
      | in_default-via-in-Some+else-task-pid w ↦ w.self-inside-is
      | in_default-via-in_default w ↦ w.self-inside-is
    ] in
    let seen : c.deref.result.now ≡ c.self.inside.entries.items = c.deref.ensures.value ∙ ap (λ (inside : Inside). inside.entries.items) unwritten in
    let none = c.in-None.ensures tasks (subst (λ es. IsIndexOf es tasks) (sym seen) it.index) it.sound.rising in
    ap (λ ts. let table : Table = record c.args.self.now { tasks = ts } in table) (sym (changed_none (edit_task c.args.edit) c.args.pid tasks (none_found c.args.pid tasks none)))
