use Rattle.std.proofs.Common.{◌≡◌, ℕ, ◌<◌, ◌≤◌, arith, length, get_or, List, ap, sym, subst, ◌∙◌, Option}
use Rattle.std.specs.Prelude.{filter, Contains}
use Rattle.cs_types.specs.declared.task.Task.{Task}
use Rattle.cs_types.specs.Scenario.{IsPolicy}
use Rattle.cs_types.specs.Room.{SiblingState}
use Rattle.cs_types.specs.Order.{goes_before, first_of}
use Rattle.cs_types.specs.Steal.{may_steal}
use Rattle.cs_laws.proofs.First.{goes_before_is_order}
use Rattle.task_table.specs.Table.{Table}
use Rattle.core_lanes.specs.declared.queue.SiblingQueue.{Ghosts}
use Rattle.core_lanes.specs.declared.lane.Lane.{Lane}
use Rattle.core_lanes.specs.declared.lanes.Core.{Core}
use Rattle.core_lanes.specs.Queued.{behind, MaySearch}
use Rattle.core_lanes.specs.Lanes.{lane_state, Agree}
use Rattle.core_lanes.proofs.Stays.{lane_at, queue_at, policies_of, found_in}
use Rattle.core_lanes.proofs.Queues.{is_of}
use Rattle.core_lanes.proofs.Counted.{of_one}
use Rattle.cookie_steal.proofs.Enumerated.{IsLeft, to_go, left_first, left_next, left_found, left_none, to_go_first, to_go_falls}
use Rattle.cookie_steal.proofs.Candidates.{candidates, candidate_parts, few_candidates, no_two_tie}
use Rattle.cookie_steal.proofs.Counted.{first_asked, one_further}
use Rattle.cookie_steal.proofs.search.first_to_steal.Given.{Over}
use Rattle.cookie_steal.proofs.search.first_to_steal.Goals.{After-next_with-next}
use Rattle.cookie_steal.proofs.search.first_to_steal.Goals as goal

-- the first of those that the thief may take, as its siblings stand in the room
from_room : (thief source : SiblingState) (idle from : SiblingState) (queued : List Task) → thief ≡ idle → source ≡ from →
    first_of (filter (may_steal idle from) queued) ≡ first_of (filter (may_steal thief source) queued)
from_room thief source idle from queued one two = sym (λ i. first_of (filter (may_steal (one i) (two i)) queued))

-- what stands behind a candidate
behind_it : (cookie source : ℕ) (tasks : List Task) (task : Task) → Contains (candidates cookie source tasks) task →
    first_of (behind task (candidates task.cookie source tasks)) ≡ first_of (behind task (candidates cookie source tasks))
behind_it cookie source tasks task there = ap (λ n. first_of (behind task (candidates n source tasks))) (candidate_parts cookie source tasks task there).2

-- the source's queue may be asked
may_search : {Q : Type 0} {g : Ghosts Q} (core : Core Q g) (table : Table) (source : ℕ) → Agree (core, table) → (from : Lane Q) → source < length core.lanes.items →
    from ≡ get_or core.lanes.items source from → MaySearch (g.holds from.queue) source table
may_search core table source agree from within is = record {
  policies = policies_of (core, table) agree;
  holds = agree.held source from.queue (queue_at core.lanes.items source from within is);
}

pub loop-next-init : goal.loop-next-init
loop-next-init g c =
    let core = c.args.core.now in
    let table = c.args.table.now in
    let all = candidates core.cookie c.args.source table.tasks in
    let may = may_steal (lane_state c.index-idle.result.now) (lane_state c.index-from.result.now) in
    let first : c.first_with-next.result ≡ first_of all = c.first_with-next.ensures.answer in
    let single = no_two_tie core.next_stamp core.cookie c.args.source table.tasks c.requires.source.at.agree.table.rising c.requires.source.at.agree.stamped in
    let few : to_go goes_before all c.first_with-next.result ≤ length table.tasks =
    omega (arith, ap (to_go goes_before all) first, to_go_first goes_before goes_before_is_order all single may, few_candidates core.cookie c.args.source table.tasks) in
    let most = g.Q.SiblingQueue.most_compared in
    record {
      left = subst (IsLeft goes_before all may) (sym first) (left_first goes_before goes_before_is_order all single may);
      compared = first_asked _ _ _ _ _ (omega (arith, c.first_with-next.ensures.counted, of_one most g.met.Q.SiblingQueue.rises table.tasks c.args.source)) few;
    }

pub returns-then-may_steal-clause-first : goal.returns-then-may_steal-clause-first
returns-then-may_steal-clause-first g c beside =
    let core = c.args.core.now in
    let table = c.args.table.now in
    let all = candidates core.cookie c.args.source table.tasks in
    let may = may_steal (lane_state c.index-idle.result.now) (lane_state c.index-from.result.now) in
    let left = subst (IsLeft goes_before all may) c.in-Some.is c.loop-next.invariant.left in
    sym (left_found goes_before goes_before_is_order all (no_two_tie core.next_stamp core.cookie c.args.source table.tasks c.requires.source.at.agree.table.rising c.requires.source.at.agree.stamped) may
    c.in-Some.task left (sym c.may_steal.ensures ∙ c.if-may_steal.true))
    ∙ from_room _ _ _ _ all (lane_at core.lanes.items c.args.thief c.index-idle.result.now c.requires.source.at.cpu c.index-idle.ensures)
    (lane_at core.lanes.items c.args.source c.index-from.result.now c.requires.source.within c.index-from.ensures)

pub first_with-next-requires : goal.first_with-next-requires
first_with-next-requires g c = record {
  cookie = c.requires.cookie;
  search = may_search c.args.core.now c.args.table.now c.args.source c.requires.source.at.agree c.index-from.result.now c.requires.source.within c.index-from.ensures;
}

pub next_with-next-requires : goal.next_with-next-requires
next_with-next-requires g c = record {
  policy =
      let core = c.args.core.now in
      let table = c.args.table.now in
      let task = c.in-Some.task in
      let may = may_steal (lane_state c.index-idle.result.now) (lane_state c.index-from.result.now) in
      let left = subst (IsLeft goes_before (candidates core.cookie c.args.source table.tasks) may) c.in-Some.is c.loop-next.invariant.left in
      found_in (λ (t : Task). IsPolicy t.spec.policy) task.spec.pid table.tasks task (policies_of (core, table) c.requires.source.at.agree)
      (is_of table.tasks task c.requires.source.at.agree.table.rising (candidate_parts core.cookie c.args.source table.tasks task left.0).0);
  find = record {
    cookie =
        let core = c.args.core.now in
        let tasks = c.args.table.now.tasks in
        let may = may_steal (lane_state c.index-idle.result.now) (lane_state c.index-from.result.now) in
        let left = subst (IsLeft goes_before (candidates core.cookie c.args.source tasks) may) c.in-Some.is c.loop-next.invariant.left in
        λ zero. c.requires.cookie (sym (candidate_parts core.cookie c.args.source tasks c.in-Some.task left.0).2 ∙ zero);
    search = may_search c.args.core.now c.args.table.now c.args.source c.requires.source.at.agree c.index-from.result.now c.requires.source.within c.index-from.ensures;
  };
}

-- each turn looks at one more
module _ (g : Over) (c : After-next_with-next g) where
  fewer_to_go : let all = candidates c.args.core.now.cookie c.args.source c.args.table.now.tasks in
      to_go goes_before all c.next_with-next.result < to_go goes_before all c.loop-next.next
  fewer_to_go =
      let core = c.args.core.now in
      let table = c.args.table.now in
      let all = candidates core.cookie c.args.source table.tasks in
      let may = may_steal (lane_state c.index-idle.result.now) (lane_state c.index-from.result.now) in
      let left = subst (IsLeft goes_before all may) c.in-Some.is c.loop-next.invariant.left in
      let next : c.next_with-next.result ≡ first_of (behind c.in-Some.task all) =
      c.next_with-next.ensures.answer ∙ behind_it core.cookie c.args.source table.tasks c.in-Some.task left.0 in
      subst (λ (one : Option Task). to_go goes_before all one < to_go goes_before all c.loop-next.next) (sym next)
      (subst (λ (one : Option Task). to_go goes_before all (first_of (behind c.in-Some.task all)) < to_go goes_before all one) (sym c.in-Some.is)
      (to_go_falls goes_before goes_before_is_order all (no_two_tie core.next_stamp core.cookie c.args.source table.tasks c.requires.source.at.agree.table.rising c.requires.source.at.agree.stamped) may c.in-Some.task))

pub loop-next-smaller : goal.loop-next-smaller
loop-next-smaller g c = fewer_to_go g (goal.at.loop-next-smaller g c).After-next_with-next

pub loop-next-preserved : goal.loop-next-preserved
loop-next-preserved g c =
    let core = c.args.core.now in
    let table = c.args.table.now in
    let all = candidates core.cookie c.args.source table.tasks in
    let may = may_steal (lane_state c.index-idle.result.now) (lane_state c.index-from.result.now) in
    let left = subst (IsLeft goes_before all may) c.in-Some.is c.loop-next.invariant.left in
    let next : c.next_with-next.result ≡ first_of (behind c.in-Some.task all) =
    c.next_with-next.ensures.answer ∙ behind_it core.cookie c.args.source table.tasks c.in-Some.task left.0 in
    record {
      left =
          subst (IsLeft goes_before all may) (sym next)
          (left_next goes_before goes_before_is_order all (no_two_tie core.next_stamp core.cookie c.args.source table.tasks c.requires.source.at.agree.table.rising c.requires.source.at.agree.stamped) may
          c.in-Some.task left (sym c.may_steal.ensures ∙ c.if-may_steal.false));
      compared =
          one_further _ _ _ _ _ _ _ c.loop-next.invariant.compared (fewer_to_go g (goal.at.loop-next-preserved g c).After-next_with-next)
          (omega (arith, c.next_with-next.ensures.counted, of_one g.Q.SiblingQueue.most_compared g.met.Q.SiblingQueue.rises table.tasks c.args.source));
    }

pub returns-clause-first : goal.returns-clause-first
returns-clause-first g c beside =
    let core = c.args.core.now in
    let table = c.args.table.now in
    let all = candidates core.cookie c.args.source table.tasks in
    let may = may_steal (lane_state c.index-idle.result.now) (lane_state c.index-from.result.now) in
    let left = subst (IsLeft goes_before all may) c.in_default.is c.loop-next.invariant.left in
    sym (left_none goes_before goes_before_is_order all (no_two_tie core.next_stamp core.cookie c.args.source table.tasks c.requires.source.at.agree.table.rising c.requires.source.at.agree.stamped) may left)
    ∙ from_room _ _ _ _ all (lane_at core.lanes.items c.args.thief c.index-idle.result.now c.requires.source.at.cpu c.index-idle.ensures)
    (lane_at core.lanes.items c.args.source c.index-from.result.now c.requires.source.within c.index-from.ensures)
