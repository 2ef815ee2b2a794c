use Rattle.std.proofs.Common.{◌≡◌, refl, sym, subst}
use Rattle.std.proofs.lemmas.Result.{IfOk-at_ok}
use Rattle.cs_types.specs.declared.task.Task.{Task}
use Rattle.cs_types.specs.Room.{asleep}
use Rattle.cs_types.proofs.Inserted.{All-inserted}
use Rattle.task_table.specs.Table.{Table}
use Rattle.part_rows.proofs.NoCookies.{HaveNoCookie}
use Rattle.part_rows.proofs.parts.three_tasks.Goals as goal

pub loop-spec-preserved : goal.loop-spec-preserved
loop-spec-preserved g c =
    subst (λ (table : Table). HaveNoCookie table.tasks × (table.limit ≡ 3)) (sym (IfOk-at_ok _ c.expect.ensures c.add.ensures.added))
    (All-inserted (λ (task : Task). task.cookie ≡ 0) (asleep _) c.loop-spec.table.tasks refl c.loop-spec.invariant.0, c.loop-spec.invariant.1)
