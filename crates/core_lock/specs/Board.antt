-- Board: the rule of the lock's table, between any two steps, and what each kind of step tells. The rooms are of any
-- type: what one of them began with, its history, and how many entries it can still take are given.
use Rattle.std.specs.Prelude.{◌≡◌, ◌≢◌, ℕ, ◌+◌, ◌^◌, ◌<◌, ◌≤◌, Bool, true, false, List, [], ◌∷◌, ◌++◌, map, length, All, Option, Some, sum_by}
use Rattle.std.specs.List.{range_with_len}
use mathlib.Core.Option as maybe
use mathlib.Core.List.{IsPrefix}
use lib.ListN.{get_elem?}
use Rattle.atomic_table.specs.Table.{State, Me, Step as TableStep}
use Rattle.cs_types.specs.declared.event.Actor.{Actor}
use Rattle.cs_types.specs.declared.event.Step.{Step}
use Rattle.cs_types.specs.declared.reply.Reply.{Reply}
use Rattle.cs_types.specs.declared.reply.Entry.{Entry}
use Rattle.cs_types.specs.Room.{Opening}
use Rattle.cs_types.specs.History.{History, IsLegal, events_by}
use Rattle.core_lock.specs.declared.view.Progress.{Progress}
use Rattle.core_lock.specs.declared.view.Beginning.{Beginning}
use Rattle.core_lock.specs.declared.view.View.{View}
use Rattle.core_lock.specs.declared.view.View.TheVariants.{Gone, Idle, Waiting, Holding}
use Rattle.core_lock.specs.Lists.{list_at, actor_of, HasNoList, AreLists, events_first, HasFirstSteps}

-- the entry of a step with its reply
abbrev pub entry_with : Step → Reply → Entry
entry_with made reply = record { actor = made.actor; event = made.event; reply = reply }

-- what is known of the list of a number before its first step
abbrev pub fresh : ℕ → Progress
fresh number = record { number = number; made = 0; seen = []; note = 0; readings = 0 }

-- The one history, whether the room is out of the slot, and the ticket that is drawn next. Of the list of each number:
-- the seat that has it, how many of its steps are made, and the steps for which no ticket is drawn. Of each ticket: the
-- seat that drew it.
pub record Books : Type 0 where
  pub past : History
  pub out : Bool
  pub ticket : ℕ
  pub owner : ℕ → ℕ
  pub made : ℕ → ℕ
  pub left : List (List Step)
  pub queue : ℕ → ℕ

-- A seat has a list of which this many steps have a ticket and are not made.
pub record IsOwned (lists : List (List Step)) (books : Books) (seat drawn : ℕ) (has : Progress) : Type 0 where
  pub number : has.number < length lists
  pub owner : books.owner has.number ≡ seat
  pub made : books.made has.number ≡ has.made
  pub steps : has.made + length (list_at books.left has.number) + drawn ≡ length (list_at lists has.number)
  pub seen : IsPrefix has.seen books.past
  pub note : has.note ≤ length books.past

-- A seat waits with a ticket. No other has drawn it, and it is not served yet, or the room is at home.
pub record IsWaiting (lists : List (List Step)) (books : Books) (seat : ℕ) (has : Progress) (ticket : ℕ) : Type 0 where
  pub owned : IsOwned lists books seat 1 has
  pub drew : books.queue ticket ≡ seat
  pub not_served : length books.past ≤ ticket
  pub drawn : ticket < books.ticket
  pub not_out : books.out ≡ true → length books.past < ticket

-- A seat has the turn: its ticket is served, the room is out, and it has seen the whole history.
pub record IsHolding (lists : List (List Step)) (books : Books) (seat : ℕ) (has : Progress) (ticket : ℕ) : Type 0 where
  pub owned : IsOwned lists books seat 1 has
  pub drew : books.queue ticket ≡ seat
  pub served : ticket ≡ length books.past
  pub out : books.out ≡ true
  pub whole : has.seen ≡ books.past

-- what a seat knows is true
abbrev pub Knows : {R : Type 0} → Beginning R → Books → ℕ → View R → Type 0
Knows begun books seat Gone = Unit {0}
Knows begun books seat (Idle from all) = (from ≡ begun) × All (IsOwned begun.lists books seat 0) all
Knows begun books seat (Waiting from has ticket) = (from ≡ begun) × IsWaiting begun.lists books seat has ticket
Knows begun books seat (Holding from has ticket) = (from ≡ begun) × IsHolding begun.lists books seat has ticket

module _ {R : Type 0} (opening : R → Opening) (history : R → History) (spare : R → ℕ) where
  -- A room is the one of the lock, with this history.
  pub record IsRoomAt (begun : Beginning R) (past : History) (room : R) : Type 0 where
    pub opens : opening room ≡ opening begun.room
    pub tells : history room ≡ past
    pub spares : spare room + length past ≡ spare begun.room

  -- what the one slot has: nothing if the room is out, and else the room
  abbrev pub HasSlot : Beginning R → History → Bool → List (maybe.Option (Option R)) → Type 0
  HasSlot begun past true homes = homes ≡ maybe.none ∷ []
  HasSlot begun past false homes = (room : R) × (homes ≡ maybe.some (Some room) ∷ []) × IsRoomAt begun past room

  -- The rule between any two steps.
  pub record IsKept (begun : Beginning R) (state : State (Option R) (View R)) : Type 0 where
    pub books : Books
    -- the ticket that is served is the length of the one history
    pub words : state.words ≡ books.ticket ∷ length books.past ∷ []
    pub slot : HasSlot begun books.past books.out state.homes
    pub behind : length books.past ≤ books.ticket
    -- if the room is out, the ticket that is served was drawn, and its step is not made
    pub ahead : books.out ≡ true → length books.past < books.ticket
    pub busy : books.out ≡ true → (number : ℕ) × (number < length begun.lists)
        × (books.made number + length (list_at books.left number) < length (list_at begun.lists number))
    -- there is a place for the entry of each step that has a ticket or may still draw one, and no ticket passes what a
    -- word holds
    pub enough : books.ticket + sum_by length books.left ≤ spare begun.room
    pub fits : spare begun.room < 2 ^ 64
    pub lists : AreLists (opening begun.room).scenario.siblings begun.lists
    pub as_many : length books.left ≡ length begun.lists
    -- the entries of a list's actor are the steps that are made of it, and an actor of no list has none
    pub own : (number : ℕ) → number < length begun.lists →
        events_by (actor_of (list_at begun.lists number)) books.past ≡ events_first (books.made number) (list_at begun.lists number)
    pub no_other : (actor : Actor) → HasNoList begun.lists actor → events_by actor books.past ≡ []
    pub views : (seat : ℕ) (view : View R) → get_elem? state.views seat ≡ maybe.some view → Knows begun books seat view

  -- A seat has the turn, with the room in its hands.
  pub record HasTurn (begun : Beginning R) (has : Progress) (ticket : ℕ) (room : R) (now : Me (Option R) (View R)) : Type 0 where
    pub me : now ≡ (Holding begun (record has { seen = history room }) ticket, (0, Some room) ∷ [])
    pub grows : IsPrefix has.seen (history room)
    pub own : events_by (actor_of (list_at begun.lists has.number)) (history room) ≡ events_first has.made (list_at begun.lists has.number)
    pub noted : has.note ≤ length (history room)
    pub opens : opening room ≡ opening begun.room
    pub spares : spare room + length (history room) ≡ spare begun.room
    pub more : 0 < spare room

  -- a look: if the seat's own ticket is served, it has the turn, and else nothing changed
  abbrev pub looked : TableStep (Option R) → Me (Option R) (View R) → ℕ → Me (Option R) (View R) → Type 0
  looked at before found now = (begun : Beginning R) (has : Progress) (ticket : ℕ) → before ≡ (Waiting begun has ticket, []) →
      (found ≡ ticket → (room : R) × HasTurn begun has ticket room now) × (found ≢ ticket → now ≡ before)

module _ {R : Type 0} (opening : R → Opening) where
  -- A seat made a step after this history, and has passed the turn on.
  pub record HasMade (begun : Beginning R) (has : Progress) (past : History) (made : Step) (reply : Reply) (now : Me (Option R) (View R)) : Type 0 where
    pub me : now ≡ (Idle begun (record has { made = has.made + 1; seen = past ++ entry_with made reply ∷ [] } ∷ []), [])
    pub legal : IsLegal (opening begun.room) (past ++ entry_with made reply ∷ [])
    pub first_steps : HasFirstSteps begun.lists (past ++ entry_with made reply ∷ [])

module _ {R : Type 0} where
  -- the view of the first seat: it has all lists
  abbrev pub first_view : Beginning R → View R
  first_view begun = Idle begun (map fresh (range_with_len 0 (length begun.lists)))

  -- a ticket was drawn
  abbrev pub drawn : TableStep (Option R) → Me (Option R) (View R) → ℕ → Me (Option R) (View R) → Type 0
  drawn at before found now = (begun : Beginning R) (has : Progress) → before ≡ (Idle begun (has ∷ []), []) → now ≡ (Waiting begun has found, [])

  -- the turn was passed on: the room is given back, and its history is seen, which has the first steps of each list
  -- alone
  abbrev pub passed : (R → History) → TableStep (Option R) → Me (Option R) (View R) → ℕ → Me (Option R) (View R) → Type 0
  passed history at before found now = (begun : Beginning R) (has : Progress) (ticket : ℕ) (room : R) →
      before ≡ (Holding begun has ticket, (0, Some room) ∷ []) →
      (now ≡ (Idle begun (record has { made = has.made + 1; seen = history room } ∷ []), [])) × HasFirstSteps begun.lists (history room)

  -- the length was read, and is noted
  abbrev pub noted : TableStep (Option R) → Me (Option R) (View R) → ℕ → Me (Option R) (View R) → Type 0
  noted at before found now = (begun : Beginning R) (has : Progress) → before ≡ (Idle begun (has ∷ []), []) →
      (now ≡ (Idle begun (record has { note = found; readings = has.readings + 1 } ∷ []), [])) × (length has.seen ≤ found) × (has.note ≤ found)

  -- the first list of a view is given away
  abbrev pub kept_of : View R → View R
  kept_of (Idle begun (has ∷ all)) = Idle begun all
  kept_of view = view

  abbrev pub given_of : View R → View R
  given_of (Idle begun (has ∷ all)) = Idle begun (has ∷ [])
  given_of view = Gone

  -- the lists of two views come to one
  abbrev pub both_of : View R → View R → View R
  both_of (Idle begun all) (Idle from more) = Idle begun (all ++ more)
  both_of view other = view
