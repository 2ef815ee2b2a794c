use Rattle.std.proofs.Common.{arith, Bor, List, ◌∙◌, rules, tests, not, sym}
use Rattle.std.specs.Prelude.{◌&&◌, ◌==◌}
use Rattle.std.proofs.lemmas.Iterator.Consumers.{YieldsList-from_first}
use Rattle.std.proofs.lemmas.Iterator.Search.{any_from_yields_List}
use Rattle.cs_types.specs.declared.task.Task.{Task}
use Rattle.core_lanes.specs.Queued.{is_peer_of}
use Rattle.core_lanes.proofs.Lists.{any-filter}
use Rattle.plain_room.proofs.walk.WalkSiblingQueue.has_peer.Goals as goal

pub returns : goal.returns
returns g c = record {
  answer =
      let task = c.args.task.now in
      let tasks = c.args.table.now.tasks in
      let walk = YieldsList-from_first (λ (x : Bor Task). x.now) (λ (left : List Task). left) tasks c.iter.ensures.tasks in
      any_from_yields_List (λ (other : Task). (other.queued && (other.home == c.args.cpu)) && (not (other.spec.pid == task.spec.pid) && is_peer_of task other)) _ _
      c.any.result c.any.ensures.ran walk (λ x b q k. search (rules, tests))
      ∙ sym (any-filter (λ (other : Task). not (other.spec.pid == task.spec.pid) && is_peer_of task other) (λ (other : Task). other.queued && (other.home == c.args.cpu)) tasks);
  counted = omega arith;
}
