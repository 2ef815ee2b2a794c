use Rattle.std.proofs.Common.{arith, ◌≡◌, ◌+◌, ◌∙◌, ap, sym, subst, refl, set, if◌then◌else◌, Some}
use Rattle.std.specs.Prelude.{find, ◌==◌}
use Rattle.std.specs.Option.{IsSome}
use Rattle.cs_types.specs.Room.{has_pid}
use Rattle.task_table.specs.declared.entry.Entry.{Entry}
use Rattle.task_table.specs.Table.{Table, total_in}
use Rattle.task_table.specs.Inside.{IsKept}
use Rattle.task_table.proofs.Rising.{none_gap, find_none, find_at}
use Rattle.task_table.proofs.Kept.{at_some, kept_of, kept_again, seen_as, position_within, kept_entry}
use Rattle.task_table.proofs.Totals.{total-at, total-set}
use Rattle.task_table.proofs.table.TaskTable.raise.Goals as goal

pub index_mut-requires : goal.index_mut-requires
index_mut-requires c =
    omega (arith, position_within (kept_of _ _ _ _ _ _ _ c.self.view_is c.self.invariant) c.args.pid c.in-Ok.position c.in-Ok.ensures.position)

pub overflow_add-index_mut : goal.overflow_add-index_mut
overflow_add-index_mut c =
    let kept = kept_of _ _ _ _ _ _ _ c.self.view_is c.self.invariant in
    let there = total-at c.args.pid c.in-Ok.position c.self.inside.entries.items c.args.self.now.tasks c.index_mut.result.now kept.index c.in-Ok.ensures.position in
    omega (
      arith,
      ap (λ (entry : Entry). entry.forced) c.index_mut.ensures.value,
      there.1,
      ap (λ (table : Table). total_in table c.args.pid) c.self.view_is,
      c.requires.fits,
    )

after : (c : goal.After-self-1) → IsKept c.self.inside.slots (set c.self.inside.entries.items c.in-Ok.position (record c.index_mut.result.now { forced = c.index_mut.result.now.forced + c.args.share }))
    c.self.inside.threads.all.items c.self.inside.processes.all.items
    c.self.inside.entries.room c.self.inside.limit c.args.self.now.tasks
after c = kept_entry (kept_of _ _ _ _ _ _ _ c.self.view_is c.self.invariant) c.in-Ok.position c.index_mut.result.now _ c.index_mut.ensures.value refl refl refl

pub invariant_of-self : goal.invariant_of-self
invariant_of-self c = kept_again (after c)

pub returns-in-Ok-clause-rest : goal.returns-in-Ok-clause-rest
returns-in-Ok-clause-rest c = seen_as _ _ _ _ _ _ _ _ (after c) (ap (λ (t : Table). t.limit) c.self.view_is)

pub returns-in-Ok-clause-totals : goal.returns-in-Ok-clause-totals
returns-in-Ok-clause-totals c here other =
    let kept = kept_of _ _ _ _ _ _ _ c.self.view_is c.self.invariant in
    let old = c.self.inside.entries.items in
    let there = total-at c.args.pid c.in-Ok.position old c.args.self.now.tasks c.index_mut.result.now kept.index c.in-Ok.ensures.position in
    total-set c.args.pid other c.in-Ok.position c.args.share old _ c.index_mut.result.now (position_within kept c.args.pid c.in-Ok.position c.in-Ok.ensures.position)
    (ap (λ (entry : Entry). entry.pid) c.index_mut.ensures.value ∙ there.0) there.0 (ap (λ (entry : Entry). entry.forced + c.args.share) c.index_mut.ensures.value)
    ∙ ap (λ (table : Table). total_in table other + (if other == c.args.pid then c.args.share else 0)) c.self.view_is

pub returns-in-Ok-clause-sound : goal.returns-in-Ok-clause-sound
returns-in-Ok-clause-sound c = (kept_again (after c)).sound

pub returns-in-Ok-clause-absent : goal.returns-in-Ok-clause-absent
returns-in-Ok-clause-absent c none =
    let there = at_some c.args.pid c.in-Ok.position c.args.self.now.tasks c.in-Ok.ensures.position in
    let found : find (has_pid c.args.pid) c.args.self.now.tasks ≡ Some there.0 =
    find_at c.args.pid c.in-Ok.position c.args.self.now.tasks c.in-Ok.ensures.position ∙ there.1 in
    let bad = sym none ∙ found in
    absurd cc

pub returns-in_default-clause-totals : goal.returns-in_default-clause-totals
returns-in_default-clause-totals c there =
    let none = find_none c.args.pid c.args.self.now.tasks (none_gap c.args.pid _ c.args.self.now.tasks c.in_default.ensures.position) in
    let bad = subst IsSome none there in
    absurd cc
