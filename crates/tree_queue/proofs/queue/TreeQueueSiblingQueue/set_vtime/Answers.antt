use Rattle.std.proofs.Common.{◌≡◌, ℕ, ◌+◌, cond, true, pos, List, Option, Some, refl, ap, sym, ◌∙◌, subst, eqb-true, arith}
use Rattle.std.specs.Prelude.{◌==◌, All}
use Rattle.std.specs.FinMap as fin
use Rattle.cs_types.specs.declared.queue.Queued.{Queued}
use Rattle.cs_types.specs.declared.task.Task.{Task}
use Rattle.cs_types.specs.Order.{real_time_class, fair_class, class_of}
use Rattle.cs_types.specs.Queue.{seat_of, rank_by, queued_of}
use Rattle.core_lanes.specs.Queued.{queued_among, queued_at, given_vtime, others}
use Rattle.tree_queue.specs.Kinds.{kind_of, lot_of}
use Rattle.tree_queue.specs.Held.{Holds, Keeps, earlier, first_among, IsInBut}
use Rattle.tree_queue.proofs.Parts.{parted, parted_now, at_seat, has_spot, one_cookie}
use Rattle.tree_queue.proofs.Splits.{IsParted}
use Rattle.tree_queue.proofs.Counts.{counted-stay}
use Rattle.tree_queue.proofs.Firsts.{first-split, first_stays, each_in_but}
use Rattle.tree_queue.proofs.Held.{without_one, free_seat, Holds-put, Holds-without}
use Rattle.tree_queue.proofs.Vtimes.{rank-fair}
use Rattle.tree_queue.proofs.Compared.{few_changed}
use Rattle.tree_queue.proofs.queue.TreeQueueSiblingQueue.set_vtime.Given.{Over}
use Rattle.tree_queue.proofs.queue.TreeQueueSiblingQueue.set_vtime.Goals as goal
use Rattle.tree_queue.proofs.queue.TreeQueueSiblingQueue.set_vtime.Goals.{After-is_of}

-- a fair task as it is put in again
later_is : (task : Task) (vtime : ℕ) {queued : Queued} {rank : ℕ} → (class_of task.spec.policy == fair_class) ≡ true → queued ≡ queued_of task → rank ≡ vtime →
    (record queued { rank = rank }) ≡ queued_of (record task { vtime = vtime })
later_is task vtime {rank = rank} fair same is =
    let its : rank ≡ rank_by task.spec.policy task.deadline vtime = is ∙ sym (rank-fair task.spec.policy task.deadline vtime fair) in
    λ i. let one : Queued = record (same i) { rank = its i } in one

-- it is of one kind with any virtual time
one_kind : (task : Task) (vtime : ℕ) → class_of task.spec.policy ≡ fair_class → kind_of (queued_of (record task { vtime = vtime })) ≡ 3
one_kind task vtime is = ap (λ n. cond (n == real_time_class) (4 + rank_by task.spec.policy task.deadline vtime) n) is

pub set_fair_rank-requires : goal.set_fair_rank-requires
set_fair_rank-requires g c =
    let task = c.args.task.now in
    let asks = c.requires.there in
    let same = c.queued_of-queued.ensures in
    let is = later_is task c.args.vtime c.requires.fair same (c.rank-rank.ensures (pos 0) 0) in
    record {
      fair = ap (λ (queued : Queued). queued.class) same ∙ eqb-true (class_of task.spec.policy) fair_class c.requires.fair;
      there = at_seat asks same;
      entered = has_spot asks same;
      cookie = one_cookie asks same;
      free = (λ i. fin.get ((Holds-without (parted asks) same asks.holds.trees).seats i) (seat_of (is i))) ∙ free_seat (parted_now asks task.cookie c.args.vtime);
    }

module _ (g : Over) (c : After-is_of g) where
  abbrev task : Task
  task = c.args.task.now

  abbrev then : List Queued
  then = queued_at (given_vtime task c.args.vtime c.args.table.now.tasks) c.args._cpu

  now : IsParted (queued_of (record task { vtime = c.args.vtime })) then (others task.spec.pid (queued_at c.args.table.now.tasks c.args._cpu))
  now = parted_now c.requires.there task.cookie c.args.vtime

  is : (record c.queued_of-queued.result { rank = c.rank-rank.result }) ≡ queued_of (record task { vtime = c.args.vtime })
  is = later_is task c.args.vtime c.requires.fair c.queued_of-queued.ensures (c.rank-rank.ensures (pos 0) 0)

  left : Holds (without_one c.args.self.now.run c.queued_of-queued.result) c.args.table.now.limit (others task.spec.pid (queued_at c.args.table.now.tasks c.args._cpu))
  left = Holds-without (parted c.requires.there) c.queued_of-queued.ensures c.requires.there.holds.trees

  trees : Holds c.set_fair_rank.new.self c.args.table.now.limit then
  trees = Holds-put now is left c.set_fair_rank.ensures.tasks c.set_fair_rank.ensures.cookies (ap (λ n. n + 1) c.set_fair_rank.ensures.spare)

  keeps : (first : Option Queued) → first ≡ first_among then → Keeps c.set_fair_rank.new.self first c.args.self.now.kinds c.args.self.now.lots c.args.table.now.limit then
  keeps first first_is =
      let before = (parted c.requires.there).split in
      let fair = eqb-true (class_of task.spec.policy) fair_class c.requires.fair in
      record {
        trees = trees;
        first_is = first_is;
        by_kind = counted-stay kind_of before now.split (one_kind task c.args.vtime fair ∙ sym (one_kind task task.vtime fair)) c.requires.there.holds.by_kind;
        by_lot = counted-stay lot_of before now.split refl c.requires.there.holds.by_lot;
      }

pub returns-then-is_of : goal.returns-then-is_of
returns-then-is_of g c =
    let at = (goal.at.returns-then-is_of g c).After-is_of in
    let few = few_changed (queued_among c.args.table.now.tasks c.args._cpu) (parted c.requires.there).split (now g at).split c.requires.there.holds.trees (left g at) (trees g at) in
    record {
      holds = keeps g at c.find_first_with-self.result
          (c.find_first_with-self.ensures.first _ (trees g at).seats
          (subst (λ (queued : Queued). All (IsInBut c.args.table.now.tasks queued) (then g at)) (sym (is g at))
          (each_in_but c.args.task.now c.args.vtime c.args.table.now.tasks c.args._cpu c.requires.there.table.rising c.requires.there.there)));
      counted = omega (arith, c.set_fair_rank.ensures.counted, c.find_first_with-self.ensures.counted, few);
    }

-- another that was the first stays it, unless this one stands before it now
pub returns-else-is_of : goal.returns-else-is_of
returns-else-is_of g c =
    let at = (goal.at.returns-else-is_of g c).After-is_of in
    let stays = first_stays (queued_of c.args.task.now) (c.requires.there.holds.first_is ∙ first-split (parted c.requires.there)) (sym c.is_of.ensures ∙ c.if-is_of.false) in
    let few = few_changed (queued_among c.args.table.now.tasks c.args._cpu) (parted c.requires.there).split (now g at).split c.requires.there.holds.trees (left g at) (trees g at) in
    record {
      holds = keeps g at c.enter.new.first (c.enter.ensures.first ∙ (λ i. Some (earlier (is g at i) (stays i))) ∙ sym (first-split (now g at)));
      counted = omega (arith, c.set_fair_rank.ensures.counted, c.enter.ensures.counted, few);
    }
