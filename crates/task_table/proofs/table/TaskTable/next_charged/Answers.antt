use Rattle.std.proofs.Common.{◌∙◌, ℕ, sym, ap, Bor, option_map, arith}
use Rattle.std.specs.Prelude.{option_copied}
use Rattle.cs_types.specs.declared.task.Task.{Task}
use Rattle.task_table.specs.declared.entry.Entry.{Entry}
use Rattle.task_table.specs.Table.{Table, total_in}
use Rattle.task_table.proofs.Charged.{above_first, get_within, at_get}
use Rattle.task_table.proofs.Kept.{kept_of, kept_length}
use Rattle.task_table.proofs.Totals.{total-at}
use Rattle.task_table.proofs.table.TaskTable.next_charged.Goals as goal

pub returns-in_err-task-clause-next : goal.returns-in_err-task-clause-next
returns-in_err-task-clause-next c =
    let first = above_first c.args.after c.position_above-position.result c.args.self.now.tasks c.position_above-position.ensures in
    ap (option_map (λ (next : Bor Task × ℕ). next.0.now)) c.from_residual.ensures
    ∙ ap option_copied (sym c.in_err-task.was) ∙ c.at.ensures.task ∙ first

pub index-requires : goal.index-requires
index-requires c =
    let there = sym c.at.ensures.task ∙ ap option_copied c.in_ok-task.was in
    omega (arith, kept_length (kept_of _ _ _ _ _ _ _ c.self.view_is c.self.invariant), get_within c.args.self.now.tasks c.position_above-position.result _ there)

pub returns-clause-next : goal.returns-clause-next
returns-clause-next c =
    let first = above_first c.args.after c.position_above-position.result c.args.self.now.tasks c.position_above-position.ensures in
    sym (ap option_copied c.in_ok-task.was) ∙ c.at.ensures.task ∙ first

pub returns-clause-total : goal.returns-clause-total
returns-clause-total c =
    let kept = kept_of _ _ _ _ _ _ _ c.self.view_is c.self.invariant in
    let there = sym c.at.ensures.task ∙ ap option_copied c.in_ok-task.was in
    let at = at_get 0 c.position_above-position.result c.args.self.now.tasks c.in_ok-task.task.now kept.sound.rising there in
    let total = total-at c.in_ok-task.task.now.spec.pid c.position_above-position.result c.self.inside.entries.items c.args.self.now.tasks c.index.result.now kept.index at.1 in
    ap (λ (entry : Entry). entry.forced) c.index.ensures ∙ sym total.1
    ∙ ap (λ (table : Table). total_in table c.in_ok-task.task.now.spec.pid) c.self.view_is
