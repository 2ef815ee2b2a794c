-- Recent: a tree, and beside it the entry that was put last. No public clause cites this module.
use Rattle.std.specs.Prelude.{◌≡◌, ℕ, ◌-◌, ◌<◌, ◌==◌, Bool, false, not, Option, Some, None, IfSome, if◌then◌else◌}
use Rattle.std.specs.FinMap.{get, insert}
use Rattle.std.specs.Option.{option_len, option_map}
use Rattle.std.specs.Borrow.{Bor}
use Rattle.std.specs.Ordering.{is_lt, eq_by_cmp}
use Rattle.order_tree.specs.Order.{Entry, Members, Ordered, key_cmp}
use Rattle.order_tree.specs.Branch.{reaches}
use Rattle.order_tree.specs.declared.key.Key.{Key}

-- an entry whose key is lent
abbrev pub lent : Option (Bor Key × ℕ) → Option Entry
lent entry = option_map (λ e. (e.0.now, e.1)) entry

-- what stands in a tree, with the entry beside it
abbrev pub with_recent : Option Entry → Members → Members
with_recent None members = members
with_recent (Some entry) members = insert members entry.0 entry.1

-- what contracts see of it. The tree has a spare node for the entry
abbrev pub ordered_with : Option Entry → Ordered → Ordered
ordered_with recent tree = record { members = with_recent recent tree.members; spare = tree.spare - option_len recent }

-- no pid is at the entry's key, and there is a node for it
pub record IsBeside (tree : Ordered) (entry : Entry) : Type 0 where
  pub free : get tree.members entry.0 ≡ None
  pub spare : 0 < tree.spare

abbrev pub StandsBeside : Option Entry → Ordered → Type 0
StandsBeside recent tree = IfSome recent (IsBeside tree)

-- whether an entry is at a key
abbrev pub is_at : Option Entry → Key → Bool
is_at None key = false
is_at (Some entry) key = eq_by_cmp key_cmp key entry.0

-- whether a key is not below that of the entry
abbrev pub is_past : Option Entry → Key → Bool
is_past None key = false
is_past (Some entry) key = not (is_lt (key_cmp key entry.0))

-- the entry, if its key is above another, or maybe at it
abbrev pub reaching : Bool → Key → Option Entry → Option Entry
reaching at key None = None
reaching at key (Some entry) = if reaches at (key_cmp entry.0 key) then Some entry else None

-- the one of two entries that has the lesser key
abbrev pub lesser : Option Entry → Option Entry → Option Entry
lesser None other = other
lesser (Some entry) None = Some entry
lesser (Some entry) (Some other) = if is_lt (key_cmp entry.0 other.0) then Some entry else Some other

-- the first entry of a tree from which a pid was taken: the old one, if that has another pid
abbrev pub renewed : Option Entry → ℕ → Option Entry → Option Entry
renewed None taken anew = None
renewed (Some entry) taken anew = if entry.1 == taken then anew else Some entry
