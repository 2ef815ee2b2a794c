-- A tree that was taken apart: where a key goes, and what a change of a side makes of the whole.
use Rattle.std.proofs.Common.{◌≡◌, ℕ, ◌+◌, ◌*◌, ◌<◌, ◌≤◌, max, Bool, true, false, cond, List, ◌∷◌, ◌++◌, Box, Option, None, Some, length, refl, sym, ap, ◌∙◌, subst, arith, length-append, MatchOption}
use Rattle.std.specs.Prelude.{is_some}
use Rattle.std.specs.FinMap.{find, put, is_sorted}
use Rattle.std.specs.Ordering.{is_lt}
use Rattle.std.specs.Cmp.{tied_itself}
use Rattle.std.specs.FinMap.Entries.{length-put, length_without}
use Rattle.std.specs.declared.cmp.Ordering.{Ordering}
use Rattle.std.specs.declared.cmp.Ordering.TheVariants.{Less, Equal, Greater}
use Rattle.cs_types.proofs.Queues.{said}
use Rattle.order_tree.specs.Order.{Entry, key_cmp}
use Rattle.std.specs.List as list
use Rattle.std.specs.Option.{option_map, option_or}
use Rattle.std.specs.declared.alloc.Global.{Global}
use Rattle.order_tree.specs.Branch.{Branch, without, reaches}
use Rattle.order_tree.specs.Balance.{entry_in, joined, branch_of, fewest, HasMany, Leans, under, HoldsSides, IsFork, IsEven, IsBalanced, IsRoot, IsTakenIf, IsNode}
use Rattle.order_tree.specs.declared.key.Key.{Key}
use Rattle.order_tree.specs.declared.tree.Node.{Node}
use Rattle.order_tree.proofs.Entries.{less_by, find-left, find-right, find-middle, put-left, put-right, is_sorted-put_of, where_key-left, where_key-right, where_key-middle, is_sorted-without, find_passes-left, find_passes-right}
use Rattle.order_tree.proofs.Heights.{height-le}
use Rattle.order_tree.proofs.Forks.{leans-higher}
use Rattle.order_tree.proofs.Keys.{key_total}
use Rattle.cs_types.specs.Comparisons.{digits}

-- the first entry above a key, or also at it
abbrev pub sought : Key → Bool → List Entry → Option Entry
sought key at es = list.find (λ (e : Entry). reaches at (key_cmp e.0 key)) es

-- how the keys of two nodes compare, where it was asked of a copy whether one is below the other
pub below : {a node : Node} (other : Node) {b : Bool} → a ≡ node → b ≡ is_lt (key_cmp a.key other.key) → b ≡ true → key_cmp node.key other.key ≡ Less
below other a_is is holds = (λ i. key_cmp (sym a_is i).key other.key) ∙ less_by _ (sym is ∙ holds)

-- whether a node's key is above another, where a copy of it was compared
pub reached : (key : Key) (at : Bool) {a node : Node} {r : Ordering} {b : Bool} → a ≡ node → r ≡ key_cmp a.key key → b ≡ reaches at r →
    reaches at (key_cmp node.key key) ≡ b
reached key at a_is is said = (λ i. reaches at (key_cmp (sym a_is i).key key)) ∙ ap (reaches at) (sym is) ∙ sym said

-- entries with one more in its place
pub record IsPut (before : List Entry) (key : Key) (pid : ℕ) (after : List Entry) : Type 0 where
  pub entries : after ≡ put key_cmp key pid before
  pub rising : is_sorted key_cmp after ≡ true
  pub count : length after ≡ length before + 1

pub IsPut-from : (before : List Entry) (key : Key) (pid : ℕ) (after : List Entry) → is_sorted key_cmp before ≡ true → find key_cmp key before ≡ None →
    after ≡ put key_cmp key pid before → IsPut before key pid after
IsPut-from before key pid after rising free is = record {
  entries = is;
  rising = ap (is_sorted key_cmp) is ∙ is_sorted-put_of key_total key pid before rising;
  count =
      ap length is ∙ length-put key_cmp key_total key pid before (said rising)
      ∙ ap (λ (o : Option ℕ). cond (is_some o) (length before) (length before + 1)) free;
}

-- entries without those of a key
pub record IsCut (before : List Entry) (key : Key) (after : List Entry) : Type 0 where
  pub entries : after ≡ without key before
  pub rising : is_sorted key_cmp after ≡ true
  pub count : length after ≤ length before

pub IsCut-from : (before : List Entry) (key : Key) (after : List Entry) → is_sorted key_cmp before ≡ true → after ≡ without key before → IsCut before key after
IsCut-from before key after rising is =
    let fewer = length_without key_cmp key_total key before (said rising) in
    let same = ap length is in record {
      entries = is;
      rising = ap (is_sorted key_cmp) is ∙ is_sorted-without key_total key before rising;
      count = omega arith;
    }

-- what a tree stands for, by its root
pub IsRoot-from : {root : Option (Box Node Global)} {whole : Branch} {node : Box Node Global} → branch_of root ≡ whole → IsBalanced root → root ≡ Some node →
    IsRoot whole node.value.left (entry_in node.value) node.value.right
IsRoot-from {root} {whole} {node} view_is balanced is =
    let seen : branch_of (Some node) ≡ whole = ap branch_of (sym is) ∙ view_is in
    let even : IsEven node.value = subst IsBalanced is balanced in record {
      entries = ap (λ (b : Branch). b.entries) (sym seen);
      fork = subst (λ h. IsFork node.value.left (entry_in node.value) h node.value.right) (ap (λ (b : Branch). b.height) seen) even.fork;
    }

pub IsNode-from : {root : Option (Box Node Global)} {whole : Branch} {box : Box Node Global} {node : Node} → branch_of root ≡ whole → IsBalanced root →
    root ≡ Some box → node ≡ box.value → IsNode whole node
IsNode-from {root} {whole} {box} {node} view_is balanced is same =
    let even : IsEven box.value = subst IsBalanced is balanced in
    subst (IsNode whole) (sym same) (record { root = IsRoot-from view_is balanced is; lean = even.lean })

-- a node of a tree stands for what the tree does
pub under-from : {root : Option (Box Node Global)} {whole : Branch} {box : Box Node Global} {node : Node} → branch_of root ≡ whole → root ≡ Some box → node ≡ box.value →
    under node ≡ whole
under-from view_is is same = ap under same ∙ ap branch_of (sym is) ∙ view_is

pub even-from : {root : Option (Box Node Global)} {box : Box Node Global} {node : Node} → IsBalanced root → root ≡ Some box → node ≡ box.value → IsEven node
even-from balanced is same = subst IsEven (sym same) (subst IsBalanced is balanced)

pub IsNode-even : {old node : Node} → IsEven old → node ≡ old → IsNode (under old) node
IsNode-even {old} {node} even same =
    subst (IsNode (under old)) (sym same) (record { root = record { entries = refl; fork = even.fork }; lean = even.lean })

-- what a tree's root says of it, where there is one
pub root-taken : (root : Option (Box Node Global)) {whole : Branch} → branch_of root ≡ whole → IsBalanced root →
    MatchOption root (whole.height ≡ 0) (λ (node : Box Node Global). IsNode whole node.value)
root-taken None view_is balanced = ap (λ (b : Branch). b.height) (sym view_is)
root-taken (Some node) view_is balanced = IsNode-from {box = node} view_is balanced refl refl

-- a node of which a side is exchanged
module _ {whole : Branch} {node : Node} (at : IsNode whole node) (side : Branch) where
  pub sides-left : is_sorted key_cmp (joined side (entry_in node) node.right) ≡ true → HasMany side → HoldsSides side (entry_in node) node.right
  sides-left rising many = record { rising = rising; many_left = many; many_right = at.root.fork.sides.many_right }

  pub sides-right : is_sorted key_cmp (joined node.left (entry_in node) side) ≡ true → HasMany side → HoldsSides node.left (entry_in node) side
  sides-right rising many = record { rising = rising; many_left = at.root.fork.sides.many_left; many_right = many }

  -- it leans as before where the side is as high, and where the side grew, as if the other had grown too
  pub leans-left : side.height ≡ node.left.height → Leans node.lean side.height node.right.height
  leans-left same = subst (λ h. Leans node.lean h node.right.height) (sym same) at.lean

  pub leans-right : side.height ≡ node.right.height → Leans node.lean node.left.height side.height
  leans-right same = subst (λ h. Leans node.lean node.left.height h) (sym same) at.lean

  pub tilts-left : side.height ≡ node.left.height + 1 → Leans node.lean side.height (node.right.height + 1)
  tilts-left same =
      subst (λ h. Leans node.lean h (node.right.height + 1)) (sym same) (leans-higher node.lean node.left.height node.right.height at.lean)

  pub tilts-right : side.height ≡ node.right.height + 1 → Leans node.lean (node.left.height + 1) side.height
  tilts-right same =
      subst (λ h. Leans node.lean (node.left.height + 1) h) (sym same) (leans-higher node.lean node.left.height node.right.height at.lean)

  -- where the side is a level lower, the other is a level higher than the node says
  pub sinks-left : node.left.height ≡ side.height + 1 → Leans node.lean (side.height + 1) node.right.height
  sinks-left same = subst (λ h. Leans node.lean h node.right.height) same at.lean

  pub sinks-right : node.right.height ≡ side.height + 1 → Leans node.lean node.left.height (side.height + 1)
  sinks-right same = subst (λ h. Leans node.lean node.left.height h) same at.lean

  -- the height of the whole by that of the side, where it is as high, and where it is a level lower
  pub levels-left : side.height ≡ node.left.height → whole.height ≡ max side.height node.right.height + 1
  levels-left same = omega (arith, at.root.fork.one_more)

  pub levels-right : side.height ≡ node.right.height → whole.height ≡ max node.left.height side.height + 1
  levels-right same = omega (arith, at.root.fork.one_more)

  pub levels-sunk-left : node.left.height ≡ side.height + 1 → whole.height ≡ max (side.height + 1) node.right.height + 1
  levels-sunk-left same = omega (arith, at.root.fork.one_more)

  pub levels-sunk-right : node.right.height ≡ side.height + 1 → whole.height ≡ max node.left.height (side.height + 1) + 1
  levels-sunk-right same = omega (arith, at.root.fork.one_more)

  -- as high as the whole is what the node comes to where the side is a level higher, and the other grew too
  pub levels-grown-left : side.height ≡ node.left.height + 1 → max side.height (node.right.height + 1) ≡ whole.height
  levels-grown-left same = omega (arith, at.root.fork.one_more)

  pub levels-grown-right : side.height ≡ node.right.height + 1 → max (node.left.height + 1) side.height ≡ whole.height
  levels-grown-right same = omega (arith, at.root.fork.one_more)

module _ {whole left : Branch} {entry : Entry} {right : Branch} (root : IsRoot whole left entry right) where
  pub rising_of : is_sorted key_cmp whole.entries ≡ true
  rising_of = ap (is_sorted key_cmp) root.entries ∙ root.fork.sides.rising

  pub sides_shorter : (length left.entries < length whole.entries) × (length right.entries < length whole.entries)
  sides_shorter = let count = ap length root.entries ∙ length-append left.entries (entry ∷ right.entries) in (omega arith, omega arith)

  pub many_of : HasMany whole
  many_of = subst (λ n. fewest whole.height ≤ n) (sym (ap length root.entries)) root.fork.many

  -- a walk that takes a step at the root, and then goes through a side at most
  pub counted-root : (before ticked : ℕ) → ticked ≡ before + 1 → ticked ≤ before + whole.height
  counted-root before ticked one = omega (arith, root.fork.one_more)

  pub counted-left : (before ticked after : ℕ) → ticked ≡ before + 1 → after ≤ ticked + left.height → after ≤ before + whole.height
  counted-left before ticked after one count = omega (arith, root.fork.one_more)

  pub counted-right : (before ticked after : ℕ) → ticked ≡ before + 1 → after ≤ ticked + right.height → after ≤ before + whole.height
  counted-right before ticked after one count = omega (arith, root.fork.one_more)

  -- a tree is as high as its number of entries lets it be
  pub shallow_of : whole.height ≤ 2 * digits (length whole.entries)
  shallow_of = height-le whole.height (length whole.entries) many_of

  module _ (key : Key) where
    pub find-left_of : key_cmp key entry.0 ≡ Less → find key_cmp key whole.entries ≡ find key_cmp key left.entries
    find-left_of less = ap (find key_cmp key) root.entries ∙ find-left key_total key left.entries entry right.entries root.fork.sides.rising less

    pub find-right_of : key_cmp key entry.0 ≡ Greater → find key_cmp key whole.entries ≡ find key_cmp key right.entries
    find-right_of more = ap (find key_cmp key) root.entries ∙ find-right key_total key left.entries entry right.entries root.fork.sides.rising more

    pub find-at_root : key_cmp key entry.0 ≡ Equal → find key_cmp key whole.entries ≡ Some entry.1
    find-at_root same = ap (find key_cmp key) root.entries ∙ find-middle key_total key left.entries entry right.entries root.fork.sides.rising same

    -- what was found in a side, or is at the root, is what is found in the tree
    pub left-found : {found : Option ℕ} → Less ≡ key_cmp key entry.0 → found ≡ find key_cmp key left.entries → found ≡ find key_cmp key whole.entries
    left-found less is = is ∙ sym (find-left_of (sym less))

    pub right-found : {found : Option ℕ} → Greater ≡ key_cmp key entry.0 → found ≡ find key_cmp key right.entries → found ≡ find key_cmp key whole.entries
    right-found more is = is ∙ sym (find-right_of (sym more))

    pub root-found : {found : Option ℕ} → Equal ≡ key_cmp key entry.0 → found ≡ Some entry.1 → found ≡ find key_cmp key whole.entries
    root-found same is = is ∙ sym (find-at_root (sym same))

    pub left-free : key_cmp key entry.0 ≡ Less → find key_cmp key whole.entries ≡ None → find key_cmp key left.entries ≡ None
    left-free less free = sym (find-left_of less) ∙ free

    pub right-free : key_cmp key entry.0 ≡ Greater → find key_cmp key whole.entries ≡ None → find key_cmp key right.entries ≡ None
    right-free more free = sym (find-right_of more) ∙ free

    module _ (pid : ℕ) (free : find key_cmp key whole.entries ≡ None) (side : Branch) where
      pub IsPut-left : key_cmp key entry.0 ≡ Less → side.entries ≡ put key_cmp key pid left.entries → IsPut whole.entries key pid (joined side entry right)
      IsPut-left less is =
          IsPut-from _ _ _ _ rising_of free
          (ap (λ l. l ++ entry ∷ right.entries) is
          ∙ sym (put-left key_total key pid left.entries entry right.entries less)
          ∙ ap (put key_cmp key pid) (sym root.entries))

      pub IsPut-right : key_cmp key entry.0 ≡ Greater → side.entries ≡ put key_cmp key pid right.entries → IsPut whole.entries key pid (joined left entry side)
      IsPut-right more is =
          IsPut-from _ _ _ _ rising_of free
          (ap (λ r. left.entries ++ entry ∷ r) is
          ∙ sym (put-right key_total key pid left.entries entry right.entries root.fork.sides.rising more)
          ∙ ap (put key_cmp key pid) (sym root.entries))

    module _ (side : Branch) where
      pub IsCut-left : Less ≡ key_cmp key entry.0 → side.entries ≡ without key left.entries → IsCut whole.entries key (joined side entry right)
      IsCut-left less is =
          IsCut-from _ _ _ rising_of
          (ap (λ l. l ++ entry ∷ right.entries) is
          ∙ sym (where_key-left key_total key left.entries entry right.entries root.fork.sides.rising (sym less))
          ∙ ap (without key) (sym root.entries))

      pub IsCut-right : Greater ≡ key_cmp key entry.0 → side.entries ≡ without key right.entries → IsCut whole.entries key (joined left entry side)
      IsCut-right more is =
          IsCut-from _ _ _ rising_of
          (ap (λ r. left.entries ++ entry ∷ r) is
          ∙ sym (where_key-right key_total key left.entries entry right.entries root.fork.sides.rising (sym more))
          ∙ ap (without key) (sym root.entries))

    pub IsCut-root : Equal ≡ key_cmp key entry.0 → IsCut whole.entries key (left.entries ++ right.entries)
    IsCut-root same =
        IsCut-from _ _ _ rising_of
        (sym (where_key-middle key_total key left.entries entry right.entries root.fork.sides.rising (sym same)) ∙ ap (without key) (sym root.entries))

    -- ---- a search for the first key above a given one, or at it

    module _ (at : Bool) where
      pub seek-left : reaches at (key_cmp entry.0 key) ≡ true → sought key at whole.entries ≡ option_or (sought key at left.entries) (Some entry)
      seek-left pass = ap (sought key at) root.entries ∙ find_passes-left key_total key (reaches at) left.entries entry right.entries pass

      pub seek-right : reaches at (key_cmp entry.0 key) ≡ false → sought key at whole.entries ≡ sought key at right.entries
      seek-right fail =
          ap (sought key at) root.entries
          ∙ find_passes-right key_total key (reaches at) left.entries entry right.entries root.fork.sides.rising refl refl fail

-- so a call for a side falls below the tree's measure
pub falls : (side whole measure : ℕ) → side < whole → 2 * (whole + 1) + 0 ≡ measure → 2 * (side + 1) + 0 < measure
falls side whole measure short is = omega arith

-- the last of three choices, where the second is made
pub option_or-Some : {A : Type 0} (o : Option A) (x : A) (other : Option A) → option_or (option_or o (Some x)) other ≡ option_or o (Some x)
option_or-Some None x other = refl
option_or-Some (Some y) x other = refl

-- a key that is not below that of a root, and stands nowhere in the tree
pub not_below_root : {whole : Branch} {own node a : Node} {b : Bool} → IsNode whole own → a ≡ node → b ≡ is_lt (key_cmp a.key own.key) → b ≡ false →
    find key_cmp node.key whole.entries ≡ None → key_cmp node.key own.key ≡ Greater
not_below_root {own = own} {node = node} at a_is is fails free =
    by_cases (key_cmp node.key own.key) refl ((λ i. is_lt (key_cmp (sym a_is i).key own.key)) ∙ sym is ∙ fails) where
      by_cases : (r : Ordering) → key_cmp node.key own.key ≡ r → is_lt r ≡ false → r ≡ Greater
      by_cases Less same other = absurd cc
      by_cases Equal same other = let both = sym (find-at_root at.root node.key same) ∙ free in absurd cc
      by_cases Greater same other = refl

-- a node that takes the first entry of its right side for its own
pub sides-raised : {whole : Branch} {node : Node} → IsNode whole node → (entry : Entry) (others : Branch) → node.right.entries ≡ entry ∷ others.entries → HasMany others →
    HoldsSides node.left entry others
sides-raised {node = node} at entry others is many = record {
  rising =
      ap (λ r. is_sorted key_cmp (node.left.entries ++ r)) (sym is)
      ∙ (IsCut-root at.root node.key (sym (tied_itself key_total node.key))).rising;
  many_left = at.root.fork.sides.many_left;
  many_right = many;
}

-- what is left of a tree without its root
pub left_of : (node : Node) (taken : Option (Box Node Global)) (after : Branch) (lower : Bool) → IsTakenIf node taken after lower →
    (after.entries ≡ node.left.entries ++ node.right.entries) × (option_map (λ (n : Box Node Global). n.value.pid) taken ≡ Some node.pid)
left_of node None after lower t = absurd t
left_of node (Some box) after lower t = (t.entries, ap Some t.pid)

pub levels_of : (node : Node) (taken : Option (Box Node Global)) (after : Branch) (lower : Bool) → IsTakenIf node taken after lower →
    max node.left.height node.right.height + 1 ≡ after.height + cond lower 1 0
levels_of node None after lower t = absurd t
levels_of node (Some box) after lower t = t.height

-- what is in balance has many entries
pub many_balanced : (root : Option (Box Node Global)) → IsBalanced root → HasMany (branch_of root)
many_balanced None balanced = omega arith
many_balanced (Some node) balanced = balanced.fork.many
