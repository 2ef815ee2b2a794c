use Rattle.std.proofs.Common.{Bor, List, ◌∙◌, rules, tests}
use Rattle.std.specs.Prelude.{◌&&◌, ◌==◌}
use Rattle.std.proofs.lemmas.Iterator.Consumers.{YieldsList-from_first, count_from_yields_List, YieldsList-from_filter}
use Rattle.cs_types.specs.declared.task.Task.{Task}
use Rattle.plain_room.proofs.walk.WalkSiblingQueue.count.Goals as goal

pub returns : goal.returns
returns c =
    let walk = YieldsList-from_first (λ (x : Bor Task). x.now) (λ (left : List Task). left) {s = c.filter.result.iter} c.args.table.now.tasks (c.filter.ensures.source ∙ c.iter.ensures.tasks) in
    count_from_yields_List c.filter.result c.count.result c.count.ensures.ran
    (YieldsList-from_filter {s = c.filter.result} _ (λ (task : Task). task.queued && (task.home == c.args.cpu)) walk c.filter.ensures.closure (λ x b q k. search (rules, tests)))
