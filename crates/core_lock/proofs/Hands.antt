-- Hands: the room in the hands of a seat that has the turn.
use Rattle.std.proofs.Common.{◌≡◌, ℕ, ◌+◌, List, [], ◌∷◌, ◌++◌, length, sym, ap, ◌∙◌, arith, Option, Some, unwrap_or, length-append}
use Rattle.std.specs.Prelude.{slice_get}
use Rattle.atomic_table.specs.Table.{Me, rest}
use Rattle.cs_types.specs.declared.event.Step.{Step}
use Rattle.cs_types.specs.declared.reply.Reply.{Reply}
use Rattle.cs_types.specs.Room.{Opening}
use Rattle.cs_types.specs.History.{History}
use Rattle.core_lock.specs.declared.view.Progress.{Progress}
use Rattle.core_lock.specs.declared.view.Beginning.{Beginning}
use Rattle.core_lock.specs.declared.view.View.{View}
use Rattle.core_lock.specs.Lists.{list_at}
use Rattle.core_lock.specs.Board.{HasTurn, entry_with}
use Rattle.core_lock.proofs.Passing.{IsAfter}

module _ {R : Type 0} where
  abbrev hand_or : Option R → List (ℕ × Option R) → Option R
  hand_or or [] = or
  hand_or or (x ∷ xs) = x.1

  -- what is taken from the slot is the room
  pub takes_room : (me : Me (Option R) (View R)) (view : View R) (room : R) (old : Option R) → me ≡ (view, (0, Some room) ∷ []) → me.1 ≡ (0, old) ∷ rest me.1 →
      old ≡ Some room
  takes_room me view room old is taken = ap (hand_or old) (sym taken ∙ ap (λ (m : Me (Option R) (View R)). m.1) is)

  pub same_room : (old : Option R) (room got : R) → old ≡ Some room → old ≡ Some got → got ≡ room
  same_room old room got is taken = ap (λ (o : Option R). unwrap_or o room) (sym taken ∙ is)

  -- what is in the seat's hands after a write
  pub put_room : (me now : Me (Option R) (View R)) (view : View R) (old new : Option R) → me ≡ (view, (0, old) ∷ []) → now ≡ (me.0, (0, new) ∷ rest me.1) →
      now ≡ (view, (0, new) ∷ [])
  put_room me now view old new is wrote = wrote ∙ ap (λ (m : Me (Option R) (View R)). (m.0, (0, new) ∷ rest m.1)) is

-- a room after one step of a seat that has the turn
pub after_turn : {R : Type 0} (opening : R → Opening) (history : R → History) (spare : R → ℕ) (begun : Beginning R) (has : Progress) (ticket : ℕ) (room old new : R)
    (me : Me (Option R) (View R)) (made : Step) (reply : Reply) → HasTurn opening history spare begun has ticket room me → old ≡ room →
    slice_get (list_at begun.lists has.number) has.made ≡ Some made →
    history new ≡ history old ++ entry_with made reply ∷ [] → opening new ≡ opening old → spare new + 1 ≡ spare old →
    IsAfter opening history spare begun (record has { seen = history room }) new made reply
after_turn opening history spare begun has ticket room old new me made reply turn same next tells opens spares =
    let told : history new ≡ history room ++ entry_with made reply ∷ [] = tells ∙ ap (λ r. history r ++ entry_with made reply ∷ []) same in
    record {
      is_next = next;
      tells = told;
      opens = opens ∙ ap opening same ∙ turn.opens;
      spares = omega (arith, turn.spares, spares, ap spare same, ap (λ (h : History). length h) told, length-append (history room) (entry_with made reply ∷ []));
    }
