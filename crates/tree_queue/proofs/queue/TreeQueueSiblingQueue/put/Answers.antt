use Rattle.std.proofs.Common.{Some, sym, ◌∙◌, arith}
use Rattle.std.specs.FinMap as fin
use Rattle.cs_types.specs.Queue.{seat_of}
use Rattle.core_lanes.specs.Queued.{queued_among}
use Rattle.tree_queue.specs.Kinds.{kind_of, lot_of}
use Rattle.tree_queue.specs.Held.{earlier}
use Rattle.tree_queue.proofs.Firsts.{first-split}
use Rattle.tree_queue.proofs.Tasks.{ranked}
use Rattle.tree_queue.proofs.Parts.{parted_put}
use Rattle.tree_queue.proofs.Splits.{length-split, few_queued}
use Rattle.tree_queue.proofs.Counts.{counted-put, few-put}
use Rattle.tree_queue.proofs.Held.{free_seat, Holds-put}
use Rattle.tree_queue.proofs.Compared.{few_of_others}
use Rattle.tree_queue.proofs.queue.TreeQueueSiblingQueue.put.Goals as goal

pub enqueue-requires : goal.enqueue-requires
enqueue-requires g c = record {
  spare = omega (arith, length-split (parted_put c.requires).split, few_queued c.args._table.now.tasks c.args._cpu, c.requires.table.few, c.requires.holds.trees.room);
  ranked = ranked c.args.task.now c.queued_of-queued.ensures;
  free = (λ i. fin.get (c.requires.holds.trees.seats i) (seat_of (c.queued_of-queued.ensures i))) ∙ free_seat (parted_put c.requires);
}

pub overflow_add-self : goal.overflow_add-self
overflow_add-self g c =
    let few = few-put kind_of (parted_put c.requires).split c.kind_of.ensures.kind c.kind_of.ensures.few c.requires.holds.by_kind in
    omega (arith, few, few_queued c.args._table.now.tasks c.args._cpu, c.requires.table.few, c.requires.table.limit)

pub overflow_add-self-2 : goal.overflow_add-self-2
overflow_add-self-2 g c =
    let few = few-put lot_of (parted_put c.requires).split c.lot_of.ensures.lot c.lot_of.ensures.few c.requires.holds.by_lot in
    omega (arith, few, few_queued c.args._table.now.tasks c.args._cpu, c.requires.table.few, c.requires.table.limit)

pub returns : goal.returns
returns g c = record {
  holds =
      let parted = parted_put c.requires in
      let holds = c.requires.holds in
      let same = c.queued_of-queued.ensures in
      record {
        trees = Holds-put parted same holds.trees c.enqueue.ensures.tasks c.enqueue.ensures.cookies c.enqueue.ensures.spare;
        first_is = c.enter.ensures.first ∙ (λ i. Some (earlier (same i) (holds.first_is i))) ∙ sym (first-split parted);
        by_kind = counted-put kind_of parted.split c.kind_of.ensures.kind c.kind_of.ensures.few holds.by_kind;
        by_lot = counted-put lot_of parted.split c.lot_of.ensures.lot c.lot_of.ensures.few holds.by_lot;
      };
  counted = omega (arith, c.enter.ensures.counted, c.enqueue.ensures.counted, few_of_others (queued_among c.args._table.now.tasks c.args._cpu) (parted_put c.requires).split c.requires.holds.trees);
}
