use Rattle.std.proofs.Common.{ℕ, ap, sym, ◌∙◌, arith, List}
use Rattle.std.specs.Option.{option_map}
use Rattle.cs_types.specs.declared.task.Task.{Task}
use Rattle.cs_types.specs.Order.{first_of}
use Rattle.cs_types.specs.Queue.{queued_of}
use Rattle.core_lanes.specs.Queued.{queued_among, queued_at}
use Rattle.tree_queue.proofs.Asked.{low_among}
use Rattle.tree_queue.specs.Kinds.{lot_of, count_of}
use Rattle.tree_queue.proofs.Counts.{none_with}
use Rattle.tree_queue.proofs.Compared.{few_of_all}
use Rattle.tree_queue.proofs.queue.TreeQueueSiblingQueue.first_with.Goals as goal

pub returns-then-self-lot_of-eq0 : goal.returns-then-self-lot_of-eq0
returns-then-self-lot_of-eq0 g c = record {
  answer =
      let tasks = c.args._table.now.tasks in
      let all = queued_at tasks c.args._cpu in
      let counted = ap (λ (lot : ℕ). count_of lot_of lot all) (sym c.lot_of.ensures.lot) ∙ sym (c.requires.search.holds.by_lot.each c.lot_of.result c.lot_of.ensures.few) ∙ c.if-self-lot_of-eq0.true in
      sym (ap (λ (given : List Task). option_map queued_of (first_of given)) (none_with (queued_among tasks c.args._cpu) c.args.cookie counted));
  counted = omega arith;
}

pub returns : goal.returns
returns g c = record {
  answer =
      let tasks = c.args._table.now.tasks in
      let low = low_among tasks c.args._cpu c.requires.search.policies in
      c.first_of.ensures.model (queued_among tasks c.args._cpu) c.requires.search.holds.trees.spots low c.requires.cookie;
  counted = omega (arith, c.first_of.ensures.counted, few_of_all (queued_among c.args._table.now.tasks c.args._cpu) c.requires.search.holds.trees);
}
