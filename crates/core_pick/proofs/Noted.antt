-- Noted: the first tasks that stand in their places.
use Rattle.std.proofs.Common.{◌≡◌, ◌∙◌, ℕ, ◌<◌, List, set, length, inl, inr, ap, sym, subst}
use Rattle.std.specs.Prelude.{None}
use Rattle.std.proofs.lemmas.Bool.{cases_eq}
use Rattle.std.proofs.lemmas.Grind.{get_or-set_at}
use Rattle.std.proofs.lemmas.List.{ext_get_or, get_or-set_other}
use Rattle.std.proofs.lemmas.List.FromFn.{length-map-range_with_len}
use Rattle.cs_types.specs.Room.{RoomState}
use Rattle.cs_types.specs.Selection.{first_on}
use Rattle.core_pick.specs.declared.choice.Choice.{Choice}
use Rattle.core_pick.specs.Choice.{choice_of, firsts_of}
use Rattle.core_pick.specs.Questions.{IsNoted}
use Rattle.core_pick.proofs.Choices.{at_number}

-- one more is put in its place
module _ (room : RoomState) (firsts : List Choice) (at : ℕ) (first : Choice) (below : at < length firsts) (is : first ≡ choice_of (first_on room at)) where
  pub noted_here : (cpu : ℕ) → cpu ≡ at → IsNoted room (set firsts at first) cpu
  noted_here cpu here = get_or-set_at firsts at cpu first (choice_of None) here below ∙ is ∙ ap (λ n. choice_of (first_on room n)) (sym here)

  pub noted_still : (cpu : ℕ) → IsNoted room firsts cpu → IsNoted room (set firsts at first) cpu
  noted_still cpu was = elim (cases_eq cpu at) [
    | inl here ↦ noted_here cpu here
    | inr differs ↦ get_or-set_other firsts at cpu first (choice_of None) differs ∙ was
  ]

-- all stand there
pub noted_all : (room : RoomState) (firsts : List Choice) → length firsts ≡ length room.siblings → ((cpu : ℕ) → cpu < length room.siblings → IsNoted room firsts cpu) →
    firsts ≡ firsts_of room
noted_all room firsts many noted =
    let offer : ℕ → Choice = λ cpu. choice_of (first_on room cpu) in
    ext_get_or (choice_of None) firsts (firsts_of room) (many ∙ sym (length-map-range_with_len offer 0 (length room.siblings)))
    (λ cpu below.
    let within : cpu < length room.siblings = subst (λ n. cpu < n) many below in
    noted cpu within ∙ sym (at_number offer (length room.siblings) cpu (choice_of None) within))
