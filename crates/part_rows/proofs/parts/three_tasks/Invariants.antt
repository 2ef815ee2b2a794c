use Rattle.std.proofs.Common.{◌≡◌}
use Rattle.part_rows.proofs.NoCookies.{HaveNoCookie}
use Rattle.part_rows.proofs.parts.three_tasks.Given as goal

abbrev pub invariant-loop-spec : goal.invariant-loop-spec
invariant-loop-spec g l = HaveNoCookie l.table.tasks × (l.table.limit ≡ 3)
