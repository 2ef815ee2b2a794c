use Rattle.std.proofs.Common.{arith, rules, ◌≡◌, ◌∙◌, List, Some, ap, sym, cond}
use Rattle.std.specs.Prelude.{filter, ◌&&◌, ◌==◌}
use Rattle.std.specs.List.{reduce}
use Rattle.std.specs.Option.{option_map}
use Rattle.cs_types.specs.declared.task.Task.{Task}
use Rattle.cs_types.specs.Order.{goes_before, first_of}
use Rattle.cs_types.specs.Queue.{queued_of}
use Rattle.cs_laws.proofs.First.{first_of_reduce}
use Rattle.core_lanes.proofs.Lists.{filter-filter}
use Rattle.core_lanes.specs.Queued.{queued_among, with_cookie}
use Rattle.plain_room.proofs.walk.WalkSiblingQueue.first_with.Goals as goal

-- the first of what one walk keeps is the first of those with the cookie
first_kept : (cookie cpu : _) (tasks : List Task) → first_of (filter (λ task. task.queued && (task.home == cpu) && (task.cookie == cookie)) tasks)
    ≡ first_of (with_cookie cookie (queued_among tasks cpu))
first_kept cookie cpu tasks = ap first_of (sym (filter-filter (λ task. task.queued && (task.home == cpu)) (λ task. task.cookie == cookie) tasks))

pub returns-in_err-first : goal.returns-in_err-first
returns-in_err-first g c = record {
  answer =
      let queued = filter (λ task. task.queued && (task.home == c.args.cpu) && (task.cookie == c.args.cookie)) c.args.table.now.tasks in
      let scanned : c.reduce.result ≡ reduce (λ first task. cond (goes_before task first) task first) queued = search rules in
      c.from_residual.ensures
      ∙ ap (option_map queued_of) (sym c.in_err-first.was ∙ scanned ∙ sym (first_of_reduce queued) ∙ first_kept c.args.cookie c.args.cpu c.args.table.now.tasks);
  counted = omega arith;
}

pub returns : goal.returns
returns g c = record {
  answer =
      let queued = filter (λ task. task.queued && (task.home == c.args.cpu) && (task.cookie == c.args.cookie)) c.args.table.now.tasks in
      let scanned : c.reduce.result ≡ reduce (λ first task. cond (goes_before task first) task first) queued = search rules in
      ap Some c.queued_of.ensures
      ∙ ap (option_map queued_of) (sym c.in_ok-first.was ∙ scanned ∙ sym (first_of_reduce queued) ∙ first_kept c.args.cookie c.args.cpu c.args.table.now.tasks);
  counted = omega arith;
}
