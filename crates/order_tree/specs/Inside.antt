-- Inside: how an ordered tree is stored with its spare nodes, and what always holds of it.
use Rattle.std.specs.Prelude.{◌≡◌, ◌+◌, ◌^◌, ◌<◌, ◌≤◌, length, IsTrue, slice_get}
use Rattle.std.specs.FinMap.{from_sorted, is_sorted}
use Rattle.order_tree.specs.Order.{Ordered, key_cmp}
use Rattle.order_tree.specs.declared.order.OrderTree.TheInside.{Inside}

-- what contracts see of it, whatever it takes memory from
abbrev pub ordered_of : {A : Type 0} → Inside A → Ordered
ordered_of order = record { members = from_sorted order.tree.entries; spare = order.spare }

-- The keys rise, and are as many as were counted. The first entry is at hand. There are at least the spare nodes, and
-- places for them and for those in the tree.
pub record IsSound {A : Type 0} (order : Inside A) : Type 0 where
  pub rising : IsTrue (is_sorted key_cmp order.tree.entries)
  pub counted : length order.tree.entries ≡ order.count
  pub first : order.first ≡ slice_get order.tree.entries 0
  pub nodes : order.spare ≤ length order.nodes.items
  pub places : order.count + length order.nodes.items ≤ order.nodes.room
  pub few : order.count + order.spare < 2 ^ 32
