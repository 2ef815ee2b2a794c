-- Renamed: a map whose keys go by other names that are in the same order.
use Rattle.std.specs.Prelude.{List, map}
use Rattle.std.specs.FinMap.{FinMap, entries, from_sorted}
use Rattle.std.specs.declared.cmp.Ordering.{Ordering}

-- the entries under the other names
abbrev pub renamed : {K J X : Type 0} → (K → J) → List (K × X) → List (J × X)
renamed name es = map (λ entry. (name entry.0, entry.1)) es

-- the map under the other names
abbrev pub map_renamed : {K J X : Type 0} {R : K → K → Ordering} (S : J → J → Ordering) → (K → J) → FinMap R X → FinMap S X
map_renamed S name members = from_sorted (renamed name (entries members))
