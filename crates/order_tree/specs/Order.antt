-- Order: the keys of the tree, what stands at them, and how they compare.
use Rattle.std.specs.Prelude.{ℕ, not, Option, slice_get, find}
use Rattle.std.specs.Ordering.{ordering_then, nat_cmp, is_lt, is_gt}
use Rattle.std.specs.declared.cmp.Ordering.{Ordering}
use Rattle.std.specs.FinMap.{FinMap, entries}
use Rattle.order_tree.specs.declared.key.Key.{Key}

-- keys compare by group, then by class, then by rank, then by stamp
abbrev pub key_cmp : Key → Key → Ordering
key_cmp a b =
    ordering_then (nat_cmp a.group b.group)
    (ordering_then (nat_cmp a.class b.class) (ordering_then (nat_cmp a.rank b.rank) (nat_cmp a.stamp b.stamp)))

-- the least key of a group
abbrev pub start_of : ℕ → Key
start_of group = record { group = group; class = 0; rank = 0; stamp = 0 }

-- a key, and the pid that stands at it
abbrev pub Entry : Type 0
Entry = Key × ℕ

-- an entry as it is handed over when all leave: the stamp of its key, and its pid
abbrev pub stamped : Entry → ℕ × ℕ
stamped entry = (entry.0.stamp, entry.1)

-- what stands in a tree: the pid at each key. Its entries are in rising order of the keys
abbrev pub Members : Type 0
Members = FinMap key_cmp ℕ

-- a tree: what stands in it, and for how many more keys it has nodes
pub record Ordered : Type 0 where
  pub members : Members
  pub spare : ℕ

-- the entry of the least key
abbrev pub first_of : Members → Option Entry
first_of members = slice_get (entries members) 0

-- the entry of the least key that is not below this one
abbrev pub first_from : Members → Key → Option Entry
first_from members key = find (λ entry. not (is_lt (key_cmp entry.0 key))) (entries members)

-- the entry of the least key that is above this one
abbrev pub next_of : Members → Key → Option Entry
next_of members key = find (λ entry. is_gt (key_cmp entry.0 key)) (entries members)
