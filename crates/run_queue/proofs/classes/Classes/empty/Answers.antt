use Rattle.std.proofs.Common.{◌≡◌, ℕ, ap, ◌∙◌, arith}
use Rattle.std.specs.FinMap.{empty, len, len-empty, empty_of_len}
use Rattle.cs_types.specs.Queue.{Members, key_cmp}
use Rattle.run_queue.proofs.Seats.{len-joined}
use Rattle.run_queue.proofs.classes.Classes.empty.Goals as goal

none : (members : Members) → members ≡ empty → len members ≡ 0
none members is = ap len is ∙ len-empty key_cmp ℕ

pub invariant_of-result : goal.invariant_of-result
invariant_of-result c =
    let stop = none c.empty.result.members c.empty.ensures.members in
    let deadline = none c.empty-2.result.members c.empty-2.ensures.members in
    let real_time = none c.empty-3.result.members c.empty-3.ensures.members in
    let fair = none c.empty-4.result.members c.empty-4.ensures.members in record {
      few = omega arith;
      limit_fits = omega arith;
      stop = omega arith;
      deadline = omega arith;
      real_time = omega arith;
      fair = omega arith;
    }

pub returns-clause-tasks : goal.returns-clause-tasks
returns-clause-tasks c =
    let all = len-joined c.empty.result.members c.empty-2.result.members c.empty-3.result.members c.empty-4.result.members in
    let stop = none c.empty.result.members c.empty.ensures.members in
    let deadline = none c.empty-2.result.members c.empty-2.ensures.members in
    let real_time = none c.empty-3.result.members c.empty-3.ensures.members in
    let fair = none c.empty-4.result.members c.empty-4.ensures.members in
    empty_of_len _ (omega arith)
