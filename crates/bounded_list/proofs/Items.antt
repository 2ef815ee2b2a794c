-- Items: what the items are after a write of all of them.
use Rattle.std.proofs.Common.{◌≡◌, ◌∙◌, refl, sym, List, length, take_all, arith}
use Rattle.std.specs.List.{length_refill}
use Rattle.std.proofs.lemmas.List.{take-append-le}
use Rattle.bounded_list.specs.Bounded.{Bounded, with_items}

-- after a write of as many items as there were, the items are these
pub with_items_is : {T : Type 0} (list : Bounded T) (items : List T) → length items ≡ length list.items → (with_items list items).items ≡ items
with_items_is list items same = take-append-le _ items _ (omega (arith, same)) ∙ take_all _ items (omega (arith, same))

-- such a write keeps how many there are
pub length-with_items : {T : Type 0} (list : Bounded T) (items : List T) → length (with_items list items).items ≡ length list.items
length-with_items list items = sym (length_refill (length list.items) list.items items refl)
