-- A tree whose keys are renewed in place: its sides rise still, and its shape is the one it had.
use Rattle.std.proofs.Common.{◌≡◌, ℕ, ◌+◌, ◌≤◌, max, true, List, ◌∷◌, ◌++◌, length, map, Box, Global, Option, None, Some, refl, sym, ap, ◌∙◌, subst}
use Rattle.std.proofs.lemmas.Bool.{and_parts}
use Rattle.std.proofs.lemmas.List.{map-append, length-map}
use Rattle.std.specs.FinMap.{is_sorted}
use Rattle.cs_types.specs.Queue.{Key}
use Rattle.order_tree.specs.Order.{Entry, key_cmp}
use Rattle.order_tree.specs.Anew.{rekeyed}
use Rattle.order_tree.specs.Branch.{Branch}
use Rattle.order_tree.specs.Balance.{entry_in, branch_of, fewest, under, HasMany, Leans, IsEven, IsNode}
use Rattle.order_tree.specs.declared.tree.Node.{Node}
use Rattle.order_tree.proofs.Entries.{is_sorted-front, is_sorted-back}
use Rattle.order_tree.proofs.Keys.{key_total}
use Rattle.order_tree.proofs.Forks.{IsEven-from}
use Rattle.order_tree.proofs.Placed.{under-from, IsNode-even}

module _ (at : ℕ → Key → Key) where
  abbrev anew : List Entry → List Entry
  anew es = map (rekeyed at) es

  module _ {whole : Branch} {node : Node} (is : IsNode whole node) where
    pub anew-parts : anew whole.entries ≡ anew node.left.entries ++ rekeyed at (entry_in node) ∷ anew node.right.entries
    anew-parts = ap anew is.root.entries ∙ map-append (rekeyed at) node.left.entries (entry_in node ∷ node.right.entries)

    module _ (still : is_sorted key_cmp (anew whole.entries) ≡ true) where
      rising : is_sorted key_cmp (anew node.left.entries ++ rekeyed at (entry_in node) ∷ anew node.right.entries) ≡ true
      rising = ap (is_sorted key_cmp) (sym anew-parts) ∙ still

      pub anew-left : is_sorted key_cmp (anew node.left.entries) ≡ true
      anew-left = is_sorted-front key_total (anew node.left.entries) (rekeyed at (entry_in node) ∷ anew node.right.entries) rising

      pub anew-right : is_sorted key_cmp (anew node.right.entries) ≡ true
      anew-right =
          (and_parts _ _ (is_sorted-back key_total (anew node.left.entries) (rekeyed at (entry_in node) ∷ anew node.right.entries) rising)).1

-- a tree whose keys were renewed, and which has the shape that it had
pub record IsAnew (at : ℕ → Key → Key) (before after : Branch) : Type 0 where
  pub entries : after.entries ≡ map (rekeyed at) before.entries
  pub height : after.height ≡ before.height

-- a side, where it has a root and where it has none
pub anew-root : {at : ℕ → Key → Key} {root : Option (Box Node Global)} {before : Branch} {box : Box Node Global} {node : Node} (after : Node) →
    branch_of root ≡ before → root ≡ Some box → node ≡ box.value → (under after).entries ≡ map (rekeyed at) (under node).entries →
    (under after).height ≡ (under node).height → IsAnew at before (under after)
anew-root {at} after view_is is same entries height =
    let seen = under-from view_is is same in record {
      entries = entries ∙ ap (λ (b : Branch). map (rekeyed at) b.entries) seen;
      height = height ∙ ap (λ (b : Branch). b.height) seen;
    }

pub anew-none : (at : ℕ → Key → Key) {root : Option (Box Node Global)} {before : Branch} → branch_of root ≡ before → root ≡ None → IsAnew at before (branch_of root)
anew-none at view_is is =
    let none = ap branch_of is in record {
      entries = ap (λ (b : Branch). b.entries) none ∙ ap (λ (b : Branch). map (rekeyed at) b.entries) (sym none ∙ view_is);
      height = ap (λ (b : Branch). b.height) view_is;
    }

many-anew : {at : ℕ → Key → Key} {before after : Branch} → IsAnew at before after → HasMany before → HasMany after
many-anew {at} {before} {after} is many =
    subst (λ n. fewest after.height ≤ n) (sym (ap length is.entries ∙ length-map before.entries (rekeyed at)))
    (subst (λ h. fewest h ≤ length before.entries) (sym is.height) many)

-- a node over such sides
module _ {at : ℕ → Key → Key} {old : Node} (even : IsEven old) (new : Node) (left : IsAnew at old.left new.left) (entry : entry_in new ≡ rekeyed at (entry_in old)) (right : IsAnew at old.right new.right) where
  pub anew-under : IsAnew at (under old) (under new)
  anew-under = record {
    entries = (λ i. left.entries i ++ entry i ∷ right.entries i) ∙ sym (anew-parts at (IsNode-even even refl));
    height = λ i. max (left.height i) (right.height i) + 1;
  }

  pub anew-even : is_sorted key_cmp (map (rekeyed at) (under old).entries) ≡ true → new.lean ≡ old.lean → IsEven new
  anew-even still lean =
      IsEven-from new
      (record {
        rising = ap (is_sorted key_cmp) anew-under.entries ∙ still;
        many_left = many-anew left even.fork.sides.many_left;
        many_right = many-anew right even.fork.sides.many_right;
      })
      (subst (λ n. Leans n new.left.height new.right.height) (sym lean)
      (subst (λ h. Leans old.lean h new.right.height) (sym left.height) (subst (λ h. Leans old.lean old.left.height h) (sym right.height) even.lean)))
