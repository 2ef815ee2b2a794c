-- Balance: what a node stands for, and what always holds of one. No public clause cites this module.
use Rattle.std.specs.Prelude.{◌≡◌, ℕ, zero, suc, ◌+◌, ◌≤◌, max, Bool, List, [], ◌∷◌, ◌++◌, length, IsTrue, Option, Some, None, if◌then◌else◌}
use Rattle.std.specs.FinMap.{is_sorted}
use Rattle.std.specs.declared.cmp.Ordering.{Ordering}
use Rattle.std.specs.declared.cmp.Ordering.TheVariants.{Less, Equal, Greater}
use Rattle.order_tree.specs.Order.{Entry, key_cmp}
use Rattle.order_tree.specs.Branch.{Branch}
use Rattle.order_tree.specs.declared.tree.Node.{Node}
use Rattle.std.specs.declared.alloc.Global.{Global}
use Rattle.std.specs.Prelude.{Box}
use Rattle.std.specs.Borrow.{Bor}
use Rattle.std.specs.Option.{option_map}

-- the entry of a node
abbrev pub entry_in : Node → Entry
entry_in node = (node.key, node.pid)

-- the entry of a node that is lent, if one is
abbrev pub entry_at : Option (Bor Node) → Option Entry
entry_at node = option_map (λ node. entry_in node.now) node

-- the entries of the two sides with one between them
abbrev pub joined : Branch → Entry → Branch → List Entry
joined left entry right = left.entries ++ entry ∷ right.entries

-- what a tree with this entry at its root over these sides stands for
abbrev pub over : Branch → Entry → Branch → Branch
over left entry right = record { entries = joined left entry right; height = max left.height right.height + 1 }

-- what a node stands for with its sides
abbrev pub under : Node → Branch
under node = over node.left (entry_in node) node.right

-- what a tree with this root stands for
abbrev pub branch_of : Option (Box Node Global) → Branch
branch_of None = record { entries = []; height = 0 }
branch_of (Some node) = under node.value

-- the fewest entries that a balanced tree of this height has
abbrev pub fewest : ℕ → ℕ
fewest zero = 0
fewest (suc zero) = 1
fewest (suc (suc height)) = fewest (suc height) + fewest height + 1

-- neither number is more than one above the other
abbrev pub AreNear : ℕ → ℕ → Type 0
AreNear a b = (a ≤ b + 1) × (b ≤ a + 1)

-- how the heights of two sides compare that are near each other
abbrev pub Leans : Ordering → ℕ → ℕ → Type 0
Leans Less left right = left + 1 ≡ right
Leans Equal left right = left ≡ right
Leans Greater left right = left ≡ right + 1

-- how the two nodes lean that take over the sides of one that leans so
abbrev pub split : Ordering → Ordering × Ordering
split Less = (Greater, Equal)
split Equal = (Equal, Equal)
split Greater = (Equal, Less)

-- a tree has as many entries as its height asks for
abbrev pub HasMany : Branch → Type 0
HasMany branch = fewest branch.height ≤ length branch.entries

-- The keys rise, and the sides have many entries.
pub record HoldsSides (left : Branch) (entry : Entry) (right : Branch) : Type 0 where
  pub rising : IsTrue (is_sorted key_cmp (joined left entry right))
  pub many_left : HasMany left
  pub many_right : HasMany right

-- The height is the right one, and the sides are nearly as high as each other, so that there are many entries.
pub record IsFork (left : Branch) (entry : Entry) (levels : ℕ) (right : Branch) : Type 0 where
  pub sides : HoldsSides left entry right
  pub one_more : levels ≡ max left.height right.height + 1
  pub even : AreNear left.height right.height
  pub many : fewest levels ≤ length (joined left entry right)

-- a node in balance, which says how its sides compare
pub record IsEven (node : Node) : Type 0 where
  pub fork : IsFork node.left (entry_in node) (max node.left.height node.right.height + 1) node.right
  pub lean : Leans node.lean node.left.height node.right.height

abbrev pub IsBalanced : Option (Box Node Global) → Type 0
IsBalanced None = Unit {0}
IsBalanced (Some node) = IsEven node.value

-- a tree with this entry at its root, over these two sides
pub record IsRoot (whole left : Branch) (entry : Entry) (right : Branch) : Type 0 where
  pub entries : whole.entries ≡ joined left entry right
  pub fork : IsFork left entry whole.height right

-- a node that is the root of a tree
pub record IsNode (whole : Branch) (node : Node) : Type 0 where
  pub root : IsRoot whole node.left (entry_in node) node.right
  pub lean : Leans node.lean node.left.height node.right.height

-- a tree as its first entry and the tree of the others, which is a level lower or as high
pub record IsFirst (whole : Branch) (entry : Entry) (others : Branch) (lower : Bool) : Type 0 where
  pub entries : whole.entries ≡ entry ∷ others.entries
  pub height : whole.height ≡ others.height + (if lower then 1 else 0)

-- the same if a place holds the node of the first entry
abbrev pub HasFirst : Branch → Option (Box Node Global) → Branch → Bool → Type 0
HasFirst whole None others lower = ⊥
HasFirst whole (Some node) others lower = IsFirst whole (entry_in node.value) others lower

-- ---- a node of which a side is higher than it says

-- a root whose sides compare so
pub record IsTilted (node : Node) (left right : ℕ) : Type 0 where
  pub sides : HoldsSides node.left (entry_in node) node.right
  pub lean : Leans node.lean left right

-- its left side is a level higher, or its right side
abbrev pub TiltsLeft : Node → Type 0
TiltsLeft node = IsTilted node node.left.height (node.right.height + 1)

abbrev pub TiltsRight : Node → Type 0
TiltsRight node = IsTilted node (node.left.height + 1) node.right.height

-- one side is two levels higher than the other
pub record IsHigh (node : Node) (high low : ℕ) : Type 0 where
  pub sides : HoldsSides node.left (entry_in node) node.right
  pub two_higher : high ≡ low + 2

abbrev pub IsHighLeft : Node → Type 0
IsHighLeft node = IsHigh node node.left.height node.right.height

abbrev pub IsHighRight : Node → Type 0
IsHighRight node = IsHigh node node.right.height node.left.height

-- ---- nodes that come over others

-- two sides that lean so, below an entry
pub record IsLeaning (left : Branch) (entry : Entry) (right : Branch) (lean : Ordering) : Type 0 where
  pub sides : HoldsSides left entry right
  pub leans : Leans lean left.height right.height

-- Two entries can take the sides of a node between them for what they lack: the keys rise then, and their other sides
-- are as high as the higher of these.
pub record CanSpread (left : Branch) (low : Entry) (middle : Node) (high : Entry) (right : Branch) : Type 0 where
  pub rising : IsTrue (is_sorted key_cmp (joined (over left low middle.left) (entry_in middle) (over middle.right high right)))
  pub below : HoldsSides left low middle.left
  pub above : HoldsSides middle.right high right
  pub lean : Leans middle.lean middle.left.height middle.right.height
  pub left_levels : left.height ≡ max middle.left.height middle.right.height
  pub right_levels : right.height ≡ max middle.left.height middle.right.height

-- the height that a root gets if its sides are then as high as each other
abbrev pub left_levels : Node → ℕ
left_levels node = max node.left.height (node.right.height + 1)

abbrev pub right_levels : Node → ℕ
right_levels node = max (node.left.height + 1) node.right.height

-- a tree without the entry of its root, and the node that is spare then
pub record IsTaken (node taken : Node) (after : Branch) (lower : Bool) : Type 0 where
  pub entries : after.entries ≡ node.left.entries ++ node.right.entries
  pub pid : taken.pid ≡ node.pid
  pub height : max node.left.height node.right.height + 1 ≡ after.height + (if lower then 1 else 0)

abbrev pub IsTakenIf : Node → Option (Box Node Global) → Branch → Bool → Type 0
IsTakenIf node None after lower = ⊥
IsTakenIf node (Some taken) after lower = IsTaken node taken.value after lower

abbrev pub IsUprooted : Option (Box Node Global) → Option (Box Node Global) → Branch → Bool → Type 0
IsUprooted None taken after lower = ⊥
IsUprooted (Some node) taken after lower = IsTakenIf node.value taken after lower
