-- Scripts: how far each actor has come in its own, as the judge keeps it.
use Rattle.std.specs.Prelude.{◌≡◌, ℕ, ◌+◌, ◌==◌, ◌&&◌, nat_lt, if◌then◌else◌, List, [], ◌∷◌, ◌++◌, drop, slice_index_or, Option, Some, None}
use Rattle.cs_types.specs.declared.event.Actor.{Actor}
use Rattle.cs_types.specs.declared.event.Actor.TheVariants.{Sibling, Caller, End}
use Rattle.cs_types.specs.declared.event.Event.{Event}
use Rattle.cs_types.specs.declared.event.Step.{Step}
use Rattle.scenario_text.specs.Words.{Word, actor_word}
use Rattle.scenario_text.specs.Grammar.{value, is_number}
use Rattle.sibling_workers.specs.Race.{events_in}

-- where an actor stands in the order of the actors: the 16 siblings, then the 8 callers; 24 if it is no actor that a
-- scenario can have
abbrev pub rank : Actor → ℕ
rank (Sibling i) = if nat_lt i 16 then i else 24
rank (Caller j) = if nat_lt j 8 then 16 + j else 24
rank End = 24

-- the actor that has this word
abbrev pub named_actor : Word → Option Actor
named_actor [] = None
named_actor (byte ∷ digits) =
    if (byte == 115) && is_number 0 15 digits
    then Some (Sibling (value digits))
    else (if (byte == 99) && is_number 0 7 digits then Some (Caller (value digits)) else None)

-- the line begins with this actor, before its first space
pub record BeginsWith (actor : Actor) (line : List ℕ) : Type 0 where
  pub behind : List ℕ
  pub is : line ≡ actor_word actor ++ 32 ∷ behind

-- the events of these steps that the actor has not made, if its next one stands at its place of these or behind it
abbrev pub left_to : List Step → List ℕ → Actor → List Event
left_to steps places actor = events_in actor (drop (slice_index_or places (rank actor) 0) steps)
