use Rattle.std.proofs.Common.{arith, ◌≡◌, ℕ, Bool, true, false, refl, cond, ltb, get_or, ap, ◌∙◌}
use Rattle.std.specs.Int.{from_bool}
use Rattle.core_lanes.proofs.Stays.{found_in}
use Rattle.cs_types.specs.declared.task.Task.{Task}
use Rattle.cs_types.specs.Scenario.{IsPolicy}
use Rattle.tree_queue.proofs.Tasks.{low_priority}
use Rattle.tree_queue.proofs.Counts.{has_peer-counted}
use Rattle.tree_queue.proofs.queue.TreeQueueSiblingQueue.has_peer.Goals as goal

byte_is : (b : Bool) → from_bool b ≡ cond b 1 0
byte_is true = refl
byte_is false = refl

pub returns : goal.returns
returns g c = record {
  answer =
      let task = c.args.task.now in
      let tasks = c.args._table.now.tasks in
      let policy = found_in (λ (t : Task). IsPolicy t.spec.policy) task.spec.pid tasks task c.requires.search.policies c.requires.there in
      ap (λ (own : ℕ). ltb own (get_or c.args.self.now.kinds c.kind_of.result 0)) (c.from-own.ensures ∙ byte_is c.is_on.result ∙ ap (λ (b : Bool). cond b 1 0) c.is_on.ensures)
      ∙ has_peer-counted tasks c.args.cpu task c.requires.table.rising c.requires.there c.requires.search.policies (low_priority task.spec.policy policy)
      c.args.self.now.kinds c.kind_of.result c.kind_of.ensures.kind c.kind_of.ensures.few c.requires.search.holds.by_kind;
  counted = omega arith;
}
