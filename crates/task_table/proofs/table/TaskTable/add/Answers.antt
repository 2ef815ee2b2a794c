use Rattle.std.proofs.Common.{◌∙◌, refl, sym, ap, subst, length}
use Rattle.task_table.specs.Positions.{IsGap}
use Rattle.task_table.proofs.Rising.{find_at}
use Rattle.task_table.proofs.Kept.{at_some, kept_of}
use Rattle.task_table.proofs.table.TaskTable.add.Goals as goal

pub returns-in-Ok-clause-answer : goal.returns-in-Ok-clause-answer
returns-in-Ok-clause-answer c =
    let at = c.in-Ok.ensures.position in
    let there = at_some c.args.spec.pid _ c.args.self.now.tasks at in
    let found = find_at c.args.spec.pid _ c.args.self.now.tasks at ∙ there.1 in
    rw found refl

pub insert-requires : goal.insert-requires
insert-requires c =
    let kept = kept_of _ _ _ _ _ _ _ c.self.view_is c.self.invariant in
    subst (λ n. IsGap c.args.spec.pid n c.args.self.now.tasks) (sym (c.len-behind_all.ensures ∙ ap length (sym c.deref.ensures.value)))
    (c.is_above_all.ensures c.if-is_above_all.true c.args.self.now.tasks (rw c.deref.ensures.value kept.index) kept.sound.rising)
