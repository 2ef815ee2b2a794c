-- Bounded: what a contract sees of a bounded list.
use Rattle.std.specs.Prelude.{ℕ, List, length, slice_set, refl}
use Rattle.std.specs.List.{refill}
use Rattle.std.specs.Coded.{Coded, code_by, coded×, coded_ℕ, coded_list}

-- the items, in order, and how many the list can hold in all
pub record Bounded (T : Type 0) : Type 0 where
  pub items : List T
  pub room : ℕ

-- a bounded list is stored as the pair of these
abbrev pub bounded_code : {T : Type 0} → Coded T → Coded (Bounded T)
bounded_code {T} code =
    code_by (List T × ℕ) (coded× (coded_list code) coded_ℕ) (λ list. (list.items, list.room))
    (λ pair. record { items = pair.0; room = pair.1 }) (λ _. refl)

module _ {T : Type 0} where
  -- the list with these items and the same room
  abbrev pub with_all : Bounded T → List T → Bounded T
  with_all list items = record { items = items; room = list.room }

  -- the list after `list[index] = item`
  abbrev pub with_item : Bounded T → ℕ → T → Bounded T
  with_item list index item = with_all list (slice_set list.items index item)

  -- the list after a write of its items as a slice, which keeps the length
  abbrev pub with_items : Bounded T → List T → Bounded T
  with_items list items = with_all list (refill (length list.items) list.items items)
