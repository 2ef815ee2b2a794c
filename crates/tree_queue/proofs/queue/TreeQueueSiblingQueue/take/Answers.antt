use Rattle.std.proofs.Common.{◌≡◌, ◌+◌, ◌-◌, List, Option, set, get_or, cond, sym, ap, ◌∙◌, arith}
use Rattle.cs_types.specs.declared.queue.Queued.{Queued}
use Rattle.cs_types.specs.Queue.{queued_of}
use Rattle.core_lanes.specs.Queued.{queued_among, queued_at, others}
use Rattle.tree_queue.specs.Held.{Holds, Keeps, first_among}
use Rattle.tree_queue.specs.Kinds.{kind_of, lot_of}
use Rattle.tree_queue.proofs.Tasks.{ranked}
use Rattle.tree_queue.proofs.Parts.{parted, at_seat, at_spot, one_cookie}
use Rattle.tree_queue.proofs.Firsts.{first-split, first_stays, each_in}
use Rattle.tree_queue.proofs.Counts.{counted-take, some-take}
use Rattle.tree_queue.proofs.Held.{Holds-take}
use Rattle.tree_queue.proofs.Compared.{few_taken}
use Rattle.tree_queue.proofs.queue.TreeQueueSiblingQueue.take.Given.{Over}
use Rattle.tree_queue.proofs.queue.TreeQueueSiblingQueue.take.Goals as goal
use Rattle.tree_queue.proofs.queue.TreeQueueSiblingQueue.take.Goals.{After-is_of}

pub dequeue-requires : goal.dequeue-requires
dequeue-requires g c =
    let same = c.queued_of.ensures in
    record { ranked = ranked c.args.task.now same; same = at_spot c.requires same; cookie = one_cookie c.requires same }

module _ (g : Over) (c : After-is_of g) where
  abbrev rest : List Queued
  rest = others c.args.task.now.spec.pid (queued_at c.args.table.now.tasks c.args._cpu)

  -- the trees without the task
  trees : Holds c.dequeue.new.self c.args.table.now.limit rest
  trees =
      Holds-take (parted c.requires) c.queued_of.ensures c.requires.holds.trees c.dequeue.ensures.tasks c.dequeue.ensures.cookies
      (c.dequeue.ensures.spare ∙ ap (λ b. c.args.self.now.run.spare + cond b 1 0) (c.dequeue.ensures.found ∙ at_seat c.requires c.queued_of.ensures))

  -- and with them the counts
  keeps : (first : Option Queued) → first ≡ first_among rest →
      Keeps c.dequeue.new.self first (set c.args.self.now.kinds c.kind_of.result (get_or c.args.self.now.kinds c.kind_of.result 0 - 1))
      (set c.args.self.now.lots c.lot_of.result (get_or c.args.self.now.lots c.lot_of.result 0 - 1)) c.args.table.now.limit rest
  keeps first is = record {
    trees = trees;
    first_is = is;
    by_kind = counted-take kind_of (parted c.requires).split c.kind_of.ensures.kind c.kind_of.ensures.few c.requires.holds.by_kind;
    by_lot = counted-take lot_of (parted c.requires).split c.lot_of.ensures.lot c.lot_of.ensures.few c.requires.holds.by_lot;
  }

pub overflow_sub-self : goal.overflow_sub-self
overflow_sub-self g c = some-take kind_of (parted c.requires).split c.kind_of.ensures.kind c.kind_of.ensures.few c.requires.holds.by_kind

pub overflow_sub-self-2 : goal.overflow_sub-self-2
overflow_sub-self-2 g c = some-take lot_of (parted c.requires).split c.lot_of.ensures.lot c.lot_of.ensures.few c.requires.holds.by_lot

pub returns-then-is_of : goal.returns-then-is_of
returns-then-is_of g c =
    let at = (goal.at.returns-then-is_of g c).After-is_of in
    record {
      holds = keeps g at c.find_first-self.result
          (c.find_first-self.ensures.first (rest g at) (trees g at).seats (each_in c.args.table.now.tasks c.args._cpu c.args.task.now.spec.pid c.requires.table.rising));
      counted = omega (arith, c.dequeue.ensures.counted, c.find_first-self.ensures.counted, few_taken (queued_among c.args.table.now.tasks c.args._cpu) (parted c.requires).split c.requires.holds.trees (trees g at));
    }

pub returns-else-is_of : goal.returns-else-is_of
returns-else-is_of g c =
    let at = (goal.at.returns-else-is_of g c).After-is_of in
    record {
      holds = keeps g at c.args.self.now.first
          (first_stays (queued_of c.args.task.now) (c.requires.holds.first_is ∙ first-split (parted c.requires)) (sym c.is_of.ensures ∙ c.if-is_of.false));
      counted = omega (arith, c.dequeue.ensures.counted, few_taken (queued_among c.args.table.now.tasks c.args._cpu) (parted c.requires).split c.requires.holds.trees (trees g at));
    }
