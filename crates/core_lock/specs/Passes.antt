-- Passes: what contracts see of a lock and of a pass, and what a call does to a pass.
use Rattle.std.specs.Prelude.{◌≡◌, ℕ, ◌+◌, ◌^◌, ◌<◌, ◌≤◌, List, [], ◌∷◌, ◌++◌, map, length, slice_get, Some}
use Rattle.std.specs.List.{range_with_len}
use mathlib.Core.List.{IsPrefix}
use Rattle.atomic_table.specs.Seated.{TableId}
use Rattle.atomic_table.specs.Table.{Me}
use Rattle.std.specs.Prelude.{Option}
use Rattle.cs_types.specs.declared.event.Actor.{Actor}
use Rattle.cs_types.specs.declared.event.Step.{Step}
use Rattle.cs_types.specs.declared.reply.Reply.{Reply}
use Rattle.cs_types.specs.Room.{Opening}
use Rattle.cs_types.specs.History.{History, IsLegal, events_by}
use Rattle.core_lock.specs.declared.view.Progress.{Progress}
use Rattle.core_lock.specs.declared.view.Beginning.{Beginning}
use Rattle.core_lock.specs.declared.view.View.{View}
use Rattle.core_lock.specs.declared.view.View.TheVariants.{Idle}
use Rattle.core_lock.specs.Lists.{list_at, actor_of, IsList, events_first, HasFirstSteps}
use Rattle.core_lock.specs.Board.{fresh, entry_with}

-- Which lock it is, what its room began with, how many entries the room could take then, and the lists of its passes.
pub record Lock : Type 0 where
  pub table : TableId
  pub opening : Opening
  pub spare : ℕ
  pub lists : List (List Step)

-- A pass: its lock, and what it knows of its list.
pub record PassState : Type 0 where
  pub lock : Lock
  pub progress : Progress

-- the steps of a pass, and whose they are
abbrev pub list_of : PassState → List Step
list_of pass = list_at pass.lock.lists pass.progress.number

abbrev pub actor_by : PassState → Actor
actor_by pass = actor_of (list_of pass)

-- it has made all its steps
abbrev pub IsSpent : PassState → Type 0
IsSpent pass = pass.progress.made ≡ length (list_of pass)

-- a pass of a list, before its first step
abbrev pub fresh_pass : Lock → ℕ → PassState
fresh_pass lock number = record { lock = lock; progress = fresh number }

-- a pass for each list, by rising number
abbrev pub fresh_passes : Lock → List PassState
fresh_passes lock = map (fresh_pass lock) (range_with_len 0 (length lock.lists))

-- The actor's entries in the history are the steps that the pass made, each once and in order.
abbrev pub HasOwn : PassState → History → Type 0
HasOwn pass history = events_by (actor_by pass) history ≡ events_first pass.progress.made (list_of pass)

-- A pass makes its next step, with this reply. The history that it sees then begins with what it had seen, and ends
-- with this step. The place of the step is at least each length that the pass has read.
pub record MakesNext (before : PassState) (reply : Reply) (now : PassState) : Type 0 where
  pub made : Step
  pub is_next : slice_get (list_of before) before.progress.made ≡ Some made
  pub past : History
  pub grows : IsPrefix before.progress.seen past
  pub place : before.progress.note ≤ length past
  pub ends : now ≡ record before {
    progress = record before.progress {
      made = before.progress.made + 1;
      seen = past ++ entry_with made reply ∷ [];
    };
  }

-- the opening of no lock, for a seat that is no pass's
abbrev pub no_opening : Opening
no_opening = record {
  scenario = record { version = 1; siblings = 1; task_limit = 1; cookie_limit = 1; user_top = 8192; tasks = []; teaches = []; steps = [] };
  guards = 0;
}

module _ {R : Type 0} (opening : R → Opening) (spare : R → ℕ) where
  abbrev pub lock_of : TableId → Beginning R → Lock
  lock_of table begun = record { table = table; opening = opening begun.room; spare = spare begun.room; lists = begun.lists }

  -- a pass as its seat knows it
  abbrev pub pass_of : TableId → View R → PassState
  pass_of table (Idle begun (has ∷ [])) = record { lock = lock_of table begun; progress = has }
  pass_of table view = record { lock = record { table = table; opening = no_opening; spare = 0; lists = [] }; progress = fresh 0 }

module _ {R : Type 0} (opening : R → Opening) where
  -- What a pass keeps: the seat has one list, of which no step has a ticket. The steps are that list, and this many are
  -- made.
  pub record IsPass (me : Me (Option R) (View R)) (steps : List Step) (count : ℕ) : Type 0 where
    pub begun : Beginning R
    pub has : Progress
    pub idle : me ≡ (Idle begun (has ∷ []), [])
    pub listed : steps ≡ list_at begun.lists has.number
    pub counted : count ≡ has.made
    pub within : count ≤ length steps
    pub fits : length steps < 2 ^ 64
    pub fair : IsList (opening begun.room).scenario.siblings steps
    pub legal : IsLegal (opening begun.room) has.seen
    pub own : events_by (actor_of steps) has.seen ≡ events_first count steps
    pub first_steps : HasFirstSteps begun.lists has.seen
