-- Working: what a worker leaves of its pass, and all of them of their lists.
use Rattle.std.specs.Prelude.{◌≡◌, ℕ, ◌<◌, List, [], map, length}
use Rattle.cs_types.specs.declared.event.Actor.{Actor}
use Rattle.cs_types.specs.declared.event.Step.{Step}
use Rattle.cs_types.specs.History.{History, events_by}
use Rattle.core_lock.specs.Lists.{list_at, actor_of, HasNoList}
use Rattle.core_lock.specs.Passes.{PassState, IsSpent}

-- The pass is of the same lock, has the same list, and has made all its steps.
pub record HasWorked (before now : PassState) : Type 0 where
  pub lock : now.lock ≡ before.lock
  pub number : now.progress.number ≡ before.progress.number
  pub spent : IsSpent now

-- The history has all steps of each list, each once and in order, and no other entry.
pub record HasAll (lists : List (List Step)) (history : History) : Type 0 where
  pub own : (number : ℕ) → number < length lists →
      events_by (actor_of (list_at lists number)) history ≡ map (λ made. made.event) (list_at lists number)
  pub no_other : (actor : Actor) → HasNoList lists actor → events_by actor history ≡ []
