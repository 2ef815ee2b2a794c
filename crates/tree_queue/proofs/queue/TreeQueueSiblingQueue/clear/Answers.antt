use Rattle.std.proofs.Common.{refl, arith}
use Rattle.tree_queue.specs.Kinds.{kind_of, lot_of}
use Rattle.tree_queue.proofs.Compared.{many_seats}
use Rattle.tree_queue.proofs.Counts.{counted-none}
use Rattle.tree_queue.proofs.queue.TreeQueueSiblingQueue.clear.Goals as goal

pub returns : goal.returns
returns c =
    let trees = c.requires.trees in
    record {
      trees = record {
        seats = c.clear.ensures.tasks;
        spots = c.clear.ensures.cookies;
        distinct = tt;
        room = omega (arith, trees.room, c.clear.ensures.spare, many_seats trees);
      };
      first_is = refl;
      by_kind = counted-none kind_of 104;
      by_lot = counted-none lot_of 256;
    }
