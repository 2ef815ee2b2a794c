use Rattle.std.proofs.Common.{arith, rules, ◌≡◌, ◌∙◌, ap, sym, cond}
use Rattle.std.specs.Prelude.{filter, ◌&&◌, ◌==◌}
use Rattle.std.specs.List.{reduce}
use Rattle.cs_types.specs.Order.{goes_before, first_of}
use Rattle.cs_laws.proofs.First.{first_of_reduce}
use Rattle.core_lanes.proofs.Lists.{filter-filter}
use Rattle.plain_room.proofs.walk.WalkSiblingQueue.next_with.Goals as goal

pub returns : goal.returns
returns g c = record {
  answer =
      let tasks = c.args.table.now.tasks in
      let task = c.args.task.now in
      let queued = filter (λ other. other.queued && (other.home == c.args.cpu) && (other.cookie == task.cookie) && goes_before task other) tasks in
      let scanned : c.reduce.result ≡ reduce (λ first other. cond (goes_before other first) other first) queued = search rules in
      scanned ∙ sym (first_of_reduce queued)
      ∙ ap first_of
      (sym (filter-filter (λ other. other.queued && (other.home == c.args.cpu) && (other.cookie == task.cookie)) (goes_before task) tasks)
      ∙ ap (filter (goes_before task)) (sym (filter-filter (λ other. other.queued && (other.home == c.args.cpu)) (λ other. other.cookie == task.cookie) tasks)));
  counted = omega arith;
}
