use Rattle.std.proofs.Common.{arith, ◌∙◌}
use Rattle.std.proofs.lemmas.List.Elements.{recursion_from_All}
use Rattle.core_lanes.specs.Queued.{queued_among}
use Rattle.cookie_queue.proofs.Asked.{IsLow}
use Rattle.tree_queue.proofs.Asked.{low_among}
use Rattle.tree_queue.proofs.Firsts.{first_at-first_of}
use Rattle.tree_queue.proofs.queue.TreeQueueSiblingQueue.first.Goals as goal

pub returns : goal.returns
returns g c = record {
  answer =
      let tasks = c.args._table.now.tasks in
      let queued = queued_among tasks c.args._cpu in
      c.requires.holds.first_is ∙ first_at-first_of queued (recursion_from_All IsLow queued (low_among tasks c.args._cpu c.requires.policies));
  counted = omega arith;
}
