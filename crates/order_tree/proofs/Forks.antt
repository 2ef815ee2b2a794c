-- Nodes over two trees: what holds of them, and the lists that turning them keeps.
use Rattle.std.proofs.Common.{◌≡◌, ℕ, ◌+◌, true, List, [], ◌∷◌, ◌++◌, length, max, refl, sym, ap, ◌∙◌, subst, append_assoc, arith, length-append}
use Rattle.std.proofs.lemmas.Bool.{and_parts}
use Rattle.std.specs.FinMap.{is_sorted}
use Rattle.std.specs.declared.cmp.Ordering.{Ordering}
use Rattle.std.specs.declared.cmp.Ordering.TheVariants.{Less, Equal, Greater}
use Rattle.order_tree.specs.Order.{Entry, key_cmp}
use Rattle.order_tree.specs.Branch.{Branch}
use Rattle.order_tree.specs.Balance.{entry_in, over, split, AreNear, Leans, HoldsSides, HasMany, IsFork, IsEven, IsLeaning, IsTilted}
use Rattle.order_tree.specs.declared.tree.Node.{Node}
use Rattle.order_tree.proofs.Entries.{is_sorted-front, is_sorted-back}
use Rattle.order_tree.proofs.Heights.{fewest-fork}
use Rattle.order_tree.proofs.Keys.{key_total}

-- sides that lean some way are near each other
leans-near : (lean : Ordering) (l r : ℕ) → Leans lean l r → AreNear l r
leans-near Less l r is = (omega arith, omega arith)
leans-near Equal l r is = (omega arith, omega arith)
leans-near Greater l r is = (omega arith, omega arith)

-- sides of which each is a level higher lean the same way
pub leans-higher : (lean : Ordering) (l r : ℕ) → Leans lean l r → Leans lean (l + 1) (r + 1)
leans-higher Less l r is = omega arith
leans-higher Equal l r is = omega arith
leans-higher Greater l r is = omega arith

pub IsFork-from : (left : Branch) (entry : Entry) (right : Branch) (lean : Ordering) → HoldsSides left entry right → Leans lean left.height right.height →
    IsFork left entry (max left.height right.height + 1) right
IsFork-from left entry right lean sides leans =
    let even = leans-near lean left.height right.height leans in
    let enough = fewest-fork left.height right.height (length left.entries) (length right.entries) even sides.many_left sides.many_right in
    let count = length-append left.entries (entry ∷ right.entries) in record {
      sides = sides;
      one_more = refl;
      even = even;
      many = omega arith;
    }

pub IsEven-from : (node : Node) → HoldsSides node.left (entry_in node) node.right → Leans node.lean node.left.height node.right.height → IsEven node
IsEven-from node sides leans = record { fork = IsFork-from node.left (entry_in node) node.right node.lean sides leans; lean = leans }

-- how the nodes lean that take over the sides of a middle one
pub leans-low : (lean : Ordering) (l r h : ℕ) → Leans lean l r → max l r ≡ h → Leans (split lean).0 h l
leans-low Less l r h is most = omega arith
leans-low Equal l r h is most = omega arith
leans-low Greater l r h is most = omega arith

pub leans-high : (lean : Ordering) (l r h : ℕ) → Leans lean l r → max l r ≡ h → Leans (split lean).1 r h
leans-high Less l r h is most = omega arith
leans-high Equal l r h is most = omega arith
leans-high Greater l r h is most = omega arith

pub IsEven-leaning : (node : Node) → IsLeaning node.left (entry_in node) node.right node.lean → IsEven node
IsEven-leaning node is = IsEven-from node is.sides is.leans

-- the same where the node's parts are known by other names
pub IsEven-by : {left : Branch} {entry : Entry} {right : Branch} {lean : Ordering} → IsLeaning left entry right lean → (node : Node) → node.left ≡ left → entry_in node ≡ entry →
    node.right ≡ right → node.lean ≡ lean → IsEven node
IsEven-by {left} {entry} {right} {lean} is node left_is entry_is right_is lean_is =
    IsEven-leaning node
    (subst (λ l. IsLeaning l (entry_in node) node.right node.lean) (sym left_is)
    (subst (λ e. IsLeaning left e node.right node.lean) (sym entry_is)
    (subst (λ r. IsLeaning left entry r node.lean) (sym right_is) (subst (λ n. IsLeaning left entry right n) (sym lean_is) is))))

-- a node with no sides
pub IsEven-leaf : (node : Node) → node.left.entries ≡ [] → node.left.height ≡ 0 → node.right.entries ≡ [] → node.right.height ≡ 0 → node.lean ≡ Equal → IsEven node
IsEven-leaf node no_left low_left no_right low_right lean =
    let none : Branch = record { entries = []; height = 0 } in
    let is : IsLeaning none (entry_in node) none Equal = record { sides = record { rising = refl; many_left = omega arith; many_right = omega arith }; leans = refl } in
    IsEven-by is node (λ i. record { entries = no_left i; height = low_left i }) refl (λ i. record { entries = no_right i; height = low_right i }) lean

pub many-leaning : {left : Branch} {entry : Entry} {right : Branch} {lean : Ordering} → IsLeaning left entry right lean → HasMany (over left entry right)
many-leaning {left} {entry} {right} {lean} is = (IsFork-from left entry right lean is.sides is.leans).many

-- a node of which a side is a level higher than it says, by how it leans
pub tilted-lean : {node : Node} {l r : ℕ} {lean : Ordering} → IsTilted node l r → node.lean ≡ lean → Leans lean l r
tilted-lean {l = l} {r = r} tilted is = subst (λ n. Leans n l r) is tilted.lean

-- ---- the parts of entries that rise

abbrev pub Rising : List Entry → Type 0
Rising es = is_sorted key_cmp es ≡ true

-- three parts with entries between them, told the one way and the other
pub turned-right : (whole x : List Entry) (j : Entry) (y : List Entry) (k : Entry) (z : List Entry) → whole ≡ x ++ j ∷ y → whole ++ k ∷ z ≡ x ++ j ∷ (y ++ k ∷ z)
turned-right whole x j y k z is = ap (λ l. l ++ k ∷ z) is ∙ append_assoc x (j ∷ y) (k ∷ z)

pub turned-left : (whole x : List Entry) (j : Entry) (y : List Entry) (k : Entry) (z : List Entry) → whole ≡ y ++ k ∷ z → x ++ j ∷ whole ≡ (x ++ j ∷ y) ++ k ∷ z
turned-left whole x j y k z is = ap (λ l. x ++ j ∷ l) is ∙ sym (append_assoc x (j ∷ y) (k ∷ z))

-- beside an entry of the left side, what stands to the right of it
pub rising-right : (whole x : List Entry) (j : Entry) (y : List Entry) (k : Entry) (z : List Entry) → whole ≡ x ++ j ∷ y → Rising (whole ++ k ∷ z) → Rising (y ++ k ∷ z)
rising-right whole x j y k z is rising =
    (and_parts _ _ (is_sorted-back key_total x (j ∷ (y ++ k ∷ z)) (subst Rising (turned-right whole x j y k z is) rising))).1

-- beside an entry of the right side, what stands to the left of it
pub rising-left : (whole x : List Entry) (j : Entry) (y : List Entry) (k : Entry) (z : List Entry) → whole ≡ y ++ k ∷ z → Rising (x ++ j ∷ whole) → Rising (x ++ j ∷ y)
rising-left whole x j y k z is rising =
    is_sorted-front key_total (x ++ j ∷ y) (k ∷ z) (subst Rising (turned-left whole x j y k z is) rising)
