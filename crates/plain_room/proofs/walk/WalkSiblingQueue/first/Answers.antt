use Rattle.std.proofs.Common.{arith, rules, ◌≡◌, ◌∙◌, Some, ap, sym, cond}
use Rattle.std.specs.Prelude.{filter, ◌&&◌, ◌==◌}
use Rattle.std.specs.List.{reduce}
use Rattle.std.specs.Option.{option_map}
use Rattle.cs_types.specs.Order.{goes_before}
use Rattle.cs_types.specs.Queue.{queued_of}
use Rattle.cs_laws.proofs.First.{first_of_reduce}
use Rattle.plain_room.proofs.walk.WalkSiblingQueue.first.Goals as goal

pub returns-in_err-first : goal.returns-in_err-first
returns-in_err-first g c = record {
  answer =
      let queued = filter (λ task. task.queued && (task.home == c.args.cpu)) c.args.table.now.tasks in
      let scanned : c.reduce.result ≡ reduce (λ first task. cond (goes_before task first) task first) queued = search rules in
      c.from_residual.ensures ∙ ap (option_map queued_of) (sym c.in_err-first.was ∙ scanned ∙ sym (first_of_reduce queued));
  counted = omega arith;
}

pub returns : goal.returns
returns g c = record {
  answer =
      let queued = filter (λ task. task.queued && (task.home == c.args.cpu)) c.args.table.now.tasks in
      let scanned : c.reduce.result ≡ reduce (λ first task. cond (goes_before task first) task first) queued = search rules in
      ap Some c.queued_of.ensures ∙ ap (option_map queued_of) (sym c.in_ok-first.was ∙ scanned ∙ sym (first_of_reduce queued));
  counted = omega arith;
}
