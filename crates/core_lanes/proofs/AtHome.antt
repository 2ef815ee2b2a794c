-- AtHome: what the queues hold once that of a task's home has changed, and no other.
use Rattle.std.proofs.Common.{◌≡◌, ◌∙◌, ℕ, true, false, List, map, set, get_or, refl, subst, sym, ap, Some}
use Rattle.std.specs.Prelude.{slice_get}
use Rattle.std.proofs.lemmas.List.{map-set}
use Rattle.std.proofs.Math.Seq.{map-set_same}
use Rattle.cs_types.specs.declared.task.Task.{Task}
use Rattle.cs_types.specs.declared.queue.Queued.{Queued}
use Rattle.task_table.specs.Table.{Table}
use Rattle.core_lanes.specs.declared.queue.SiblingQueue.{Ghosts}
use Rattle.core_lanes.specs.declared.lane.Lane.{Lane}
use Rattle.core_lanes.specs.declared.lanes.Core.{Core}
use Rattle.core_lanes.specs.Lanes.{lane_state, bare, BareCore, AreHeld, AreHeldAs, IsAtHome, ChangesQueues}
use Rattle.core_lanes.proofs.Stays.{number_of, queue_of, queue_at}
use Rattle.core_lanes.proofs.Queues.{is_on, held-set, off_elsewhere, off_asleep}
use Rattle.core_lanes.specs.Queued.{IsQueuedOn}

-- but for its queue a sibling is as it was
pub bare_home : {Q : Type 0} {g : Ghosts Q} (core : Core Q g) (home : ℕ) (lane : Lane Q) (queue : Q) → lane ≡ get_or core.lanes.items home lane →
    (record (bare core) { siblings = map lane_state (set core.lanes.items home (record lane { queue = queue })); own = map number_of (set core.lanes.items home (record lane { queue = queue })) })
    ≡ bare core
bare_home core home lane queue is =
    rw (map-set_same lane_state core.lanes.items home (record lane { queue = queue }) lane (ap lane_state is), map-set_same number_of core.lanes.items home (record lane { queue = queue }) lane (ap number_of is)) refl

-- the queue of its home may be asked about a task that is queued
pub queued_home : {Q : Type 0} {g : Ghosts Q} (core : Core Q g) (table : Table) (task : Task) (lane : Lane Q) → IsAtHome (AreHeld (core, table)) (core, table) task →
    lane ≡ get_or core.lanes.items task.home lane → task.queued ≡ true → IsQueuedOn (g.holds lane.queue) task.home table task
queued_home core table task lane home is queued = record {
  table = home.table;
  there = home.there;
  queued = queued;
  home = refl;
  holds = home.held task.home lane.queue (queue_at core.lanes.items task.home lane home.home is);
}

-- The lists of two times are alike for each sibling on which the task is not queued. The queues held the first ones.
module _ {Q : Type 0} {g : Ghosts Q} (core : Core Q g) (table : Table) (task : Task) (was now : ℕ → List Queued)
    (alike : (cpu : ℕ) → is_on cpu task ≡ false → was cpu ≡ now cpu) (held : AreHeldAs was (core, table)) where
  -- where it is queued nowhere, they hold the others already
  pub changes_asleep : task.queued ≡ false → ChangesQueues core core (AreHeldAs now (core, table))
  changes_asleep asleep = record {
    bare = refl;
    held = λ cpu queue at. subst (λ qs. g.holds queue table.limit qs) (alike cpu (off_asleep task cpu asleep)) (held cpu queue at);
  }

  -- and else they do as soon as the one of its home does
  pub held_home : (lane : Lane Q) (queue : Q) → g.holds queue table.limit (now task.home) →
      (cpu : ℕ) (q : Q) → slice_get (map queue_of (set core.lanes.items task.home (record lane { queue = queue }))) cpu ≡ Some q → g.holds q table.limit (now cpu)
  held_home lane queue here =
      rw (map-set queue_of core.lanes.items task.home (record lane { queue = queue }))
      (held-set (λ cpu q. g.holds q table.limit (was cpu)) (λ cpu q. g.holds q table.limit (now cpu)) (map queue_of core.lanes.items) task.home queue
      (λ cpu q other before. subst (λ qs. g.holds q table.limit qs) (alike cpu (off_elsewhere task cpu other)) before) held here)

  -- and nothing else changes
  pub changes_home : (new : Core Q g) (lane : Lane Q) (queue : Q) → lane ≡ get_or core.lanes.items task.home lane →
      new.lanes.items ≡ set core.lanes.items task.home (record lane { queue = queue }) →
      bare new ≡ record (bare core) { siblings = map lane_state new.lanes.items; own = map number_of new.lanes.items } →
      g.holds queue table.limit (now task.home) → ChangesQueues core new (AreHeldAs now (new, table))
  changes_home new lane queue is items rest here = record {
    bare = rest
        ∙ (λ i. let after : BareCore = record (bare core) { siblings = map lane_state (items i); own = map number_of (items i) } in after)
        ∙ bare_home core task.home lane queue is;
    held = λ cpu q at. held_home lane queue here cpu q (ap (λ (lanes : List (Lane Q)). slice_get (map queue_of lanes) cpu) (sym items) ∙ at);
  }
