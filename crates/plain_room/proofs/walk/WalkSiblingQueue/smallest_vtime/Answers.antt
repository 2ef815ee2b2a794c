use Rattle.std.proofs.Common.{arith, rules, ◌≡◌, ◌∙◌, ap, sym, cond, ltb, map, List}
use Rattle.std.specs.Prelude.{filter, ◌&&◌, ◌==◌}
use Rattle.std.specs.List.{reduce}
use Rattle.cs_types.specs.declared.task.Task.{Task}
use Rattle.cs_types.specs.Order.{foremost, is_fair}
use Rattle.cs_types.proofs.Foremost.{foremost_reduce}
use Rattle.core_lanes.proofs.Lists.{filter-filter, less_is_order}
use Rattle.plain_room.proofs.walk.WalkSiblingQueue.smallest_vtime.Goals as goal

pub returns : goal.returns
returns g c = record {
  answer =
      let tasks = c.args.table.now.tasks in
      let queued = filter (λ (task : Task). task.queued && (task.home == c.args.cpu) && is_fair task) tasks in
      let scanned : c.reduce.result ≡ reduce (λ smallest vtime. cond (ltb vtime smallest) vtime smallest) (map (λ (task : Task). task.vtime) queued) = search rules in
      scanned ∙ sym (foremost_reduce ltb less_is_order (map (λ (task : Task). task.vtime) queued))
      ∙ ap (λ (ts : List Task). foremost ltb (map (λ (task : Task). task.vtime) ts))
      (sym (filter-filter (λ (task : Task). task.queued && (task.home == c.args.cpu)) is_fair tasks));
  counted = omega arith;
}
