use Rattle.std.proofs.Common.{◌≡◌, ℕ, subst}
use Rattle.std.specs.Prelude.{IfOk}
use Rattle.cookie_refs.specs.Refs.{Refs, count_of}
use Rattle.cookie_refs.proofs.Agreements.{Agree-none}
use Rattle.part_rows.proofs.parts.parts.Goals as goal

pub returns-clause-agree : goal.returns-clause-agree
returns-clause-agree g c =
    Agree-none c.expect-refs.result c.three_tasks-table.result.tasks
    (subst (λ made. IfOk made (λ (refs : Refs). (cookie : ℕ) → count_of refs cookie ≡ 0)) c.expect-refs.ensures c.with_limit.ensures.counts)
    c.three_tasks-table.ensures.cookies
