use Rattle.std.proofs.Common.{ap, sym, refl, arith, ◌∙◌}
use Rattle.std.specs.Prelude.{◌==◌}
use Rattle.std.proofs.lemmas.List.Elements.{recursion_from_All}
use Rattle.cs_types.specs.Order.{fair_class, is_fair}
use Rattle.cs_types.specs.Queue.{Seat, Seats}
use Rattle.run_queue.specs.Fair.{least_rank_in}
use Rattle.core_lanes.specs.Queued.{queued_among}
use Rattle.cookie_queue.proofs.Asked.{IsLow}
use Rattle.tree_queue.proofs.Asked.{low_among, first_told}
use Rattle.tree_queue.proofs.Firsts.{first_at-first_of}
use Rattle.tree_queue.proofs.Vtimes.{smallest-rank, smallest_first}
use Rattle.tree_queue.proofs.queue.TreeQueueSiblingQueue.smallest_vtime.Goals as goal

pub returns-then-first-eq-FAIR-clause-answer : goal.returns-then-first-eq-FAIR-clause-answer
returns-then-first-eq-FAIR-clause-answer g c =
    let tasks = c.args._table.now.tasks in
    let queued = queued_among tasks c.args._cpu in
    sym
    (smallest_first queued _
    (sym c.in-Some.is ∙ c.requires.holds.first_is ∙ first_at-first_of queued (recursion_from_All IsLow queued (low_among tasks c.args._cpu c.requires.policies)))
    c.if-first-eq-FAIR.true)

pub returns : goal.returns
returns g c = record {
  answer =
      let tasks = c.args._table.now.tasks in
      let queued = queued_among tasks c.args._cpu in
      c.least_fair.ensures.least
      ∙ ap (λ (s : Seats). least_rank_in fair_class s) c.requires.holds.trees.seats
      ∙ first_told queued (recursion_from_All IsLow queued (low_among tasks c.args._cpu c.requires.policies)) (λ (entry : Seat × _). entry.0.1.0) (λ seat. seat.0 == fair_class) is_fair (λ t low. refl)
      ∙ sym (smallest-rank queued);
  counted = omega (arith, c.least_fair.ensures.counted);
}
