-- Lends: what becomes of a bounded list whose items are lent. Its room stays.
use Rattle.std.specs.Prelude.{ℕ, List, Option}
use Rattle.std.specs.Borrow.{Lends, LendsIf, follows, Fml, RattleType, MutBor, Array}
use Rattle.std.specs.declared.slice.IterMut.{IterMut}
use Rattle.std.specs.Slice.Iter.{iter_mut_name}
use Rattle.bounded_list.specs.Bounded.{Bounded, with_item, with_items}
use Rattle.bounded_list.specs.contracts.list.BoundedList.{the_row}

module _ (T : RattleType) (list : MutBor (Bounded T.Denot)) where
  -- the items are those that the slice has last, as many as were lent
  abbrev pub LendsItems : MutBor (List T.Denot) → Fml
  LendsItems items = Lends (the_row T) (Array T 0) list items (with_items list.now)

  -- the same if the items went to an `iter_mut`
  abbrev pub LendsEach : IterMut T.Denot → Fml
  LendsEach iter = follows (the_row T) (Array T 0) list.ghost_name (iter_mut_name iter) (with_items list.now)

  -- the item at the index is the one that is written last
  abbrev pub LendsItem : ℕ → MutBor T.Denot → Fml
  LendsItem index item = Lends (the_row T) T list item (with_item list.now index)

  -- the same if there is an item at the index; else the list stays
  abbrev pub LendsItemIf : ℕ → Option (MutBor T.Denot) → Fml
  LendsItemIf index item = LendsIf (the_row T) T list item (with_item list.now index) list.now
