-- The order of tasks is a strict weak order, on one sibling and across siblings, and what follows for the first.
use Rattle.std.proofs.Common.{◌≡◌, ℕ, ◌+◌, Bool, true, false, not, ltb, eqb, List, refl, sym, ap, ◌∙◌, Option, Some, None, arith}
use Rattle.std.specs.Prelude.{◌&&◌, ◌||◌}
use Rattle.std.specs.Cmp.{IsStrictWeakOrder}
use Rattle.std.specs.List.{reduce}
use Rattle.std.proofs.lemmas.Bool.Decides.{nat_tests}
use Rattle.cs_types.specs.declared.task.Task.{Task}
use Rattle.cs_types.specs.Order.{deadline_class, real_time_class, fair_class, class_of, priority_of, is_higher, is_higher_here, outranks, goes_before, first_of}
use Rattle.cs_types.proofs.Foremost.{better, foremost_reduce}

-- ---- the order over numbers

-- the order over the classes c and d, and what is less within the deadline, the real-time and the fair class
abbrev by_class : (c d : ℕ) (deadline real_time fair : Bool) → Bool
by_class c d deadline real_time fair =
    ltb c d
    || ((eqb c deadline_class && eqb d deadline_class) && deadline)
    || ((eqb c real_time_class && eqb d real_time_class) && real_time)
    || ((eqb c fair_class && eqb d fair_class) && fair)

-- where it is one way within each class, it is one way
one_way_by : (c d : ℕ) (x y p q v w : Bool) → (x ≡ true → y ≡ false) → (p ≡ true → q ≡ false) → (v ≡ true → w ≡ false) →
    by_class c d x p v ≡ true → by_class d c y q w ≡ false
one_way_by c d x y p q v w deadline real_time fair h = grind (arith, nat_tests)

-- where not being less goes on within each class, it goes on
chain_by : (c d e : ℕ) (x y z p q r u v w : Bool) → (x ≡ false → y ≡ false → z ≡ false) → (p ≡ false → q ≡ false → r ≡ false) →
    (u ≡ false → v ≡ false → w ≡ false) → by_class c d x p u ≡ false → by_class d e y q v ≡ false → by_class c e z r w ≡ false
chain_by c d e x y z p q r u v w deadline real_time fair h k = grind (arith, nat_tests)

less_one_way : (m n : ℕ) → ltb m n ≡ true → ltb n m ≡ false
less_one_way m n h = grind (arith, nat_tests)

less_chain : (m n k : ℕ) → ltb m n ≡ false → ltb n k ≡ false → ltb m k ≡ false
less_chain m n k h l = grind (arith, nat_tests)

sums_chain : (u v w f g h : ℕ) → ltb (u + g) (v + f) ≡ false → ltb (v + h) (w + g) ≡ false → ltb (u + h) (w + f) ≡ false
sums_chain u v w f g h one two = grind (arith, nat_tests)

-- ---- across siblings

-- No task is higher than one that is higher than it.
pub higher_one_way : (snapshot : ℕ → ℕ) (a b : Task) → is_higher snapshot a b ≡ true → is_higher snapshot b a ≡ false
higher_one_way snapshot a b h =
    one_way_by (class_of a.spec.policy) (class_of b.spec.policy) _ _ _ _ _ _ (less_one_way a.deadline b.deadline)
    (less_one_way (priority_of b.spec.policy) (priority_of a.spec.policy))
    (less_one_way (a.vtime + snapshot b.home) (b.vtime + snapshot a.home)) h

-- A task that is not higher than a second, which is not higher than a third, is not higher than that.
pub higher_chain : (snapshot : ℕ → ℕ) (a b c : Task) → is_higher snapshot a b ≡ false → is_higher snapshot b c ≡ false → is_higher snapshot a c ≡ false
higher_chain snapshot a b c h k =
    chain_by (class_of a.spec.policy) (class_of b.spec.policy) (class_of c.spec.policy) _ _ _ _ _ _ _ _ _
    (less_chain a.deadline b.deadline c.deadline)
    (λ one two. less_chain (priority_of c.spec.policy) (priority_of b.spec.policy) (priority_of a.spec.policy) two one)
    (sums_chain a.vtime b.vtime c.vtime (snapshot a.home) (snapshot b.home) (snapshot c.home)) h k

outranks_one_way : (snapshot : ℕ → ℕ) (a b : Option Task) → outranks snapshot a b ≡ true → outranks snapshot b a ≡ false
outranks_one_way snapshot None b h = absurd cc
outranks_one_way snapshot (Some a) None h = refl
outranks_one_way snapshot (Some a) (Some b) h = higher_one_way snapshot a b h

outranks_chain : (snapshot : ℕ → ℕ) (a b c : Option Task) → outranks snapshot a b ≡ false → outranks snapshot b c ≡ false → outranks snapshot a c ≡ false
outranks_chain snapshot None b c h k = refl
outranks_chain snapshot (Some a) None c h k = absurd cc
outranks_chain snapshot (Some a) (Some b) None h k = absurd cc
outranks_chain snapshot (Some a) (Some b) (Some c) h k = higher_chain snapshot a b c h k

pub outranks_is_order : (snapshot : ℕ → ℕ) → IsStrictWeakOrder (outranks snapshot)
outranks_is_order snapshot = record { one_way = outranks_one_way snapshot; chain = outranks_chain snapshot }

-- ---- on one sibling

-- the order on one sibling, over whether either is higher than the other, and the stamps
abbrev before_by : Bool → Bool → (s t : ℕ) → Bool
before_by higher lower s t = higher || (not lower && ltb s t)

before_one_way : (higher lower : Bool) (s t : ℕ) → (higher ≡ true → lower ≡ false) → before_by higher lower s t ≡ true → before_by lower higher t s ≡ false
before_one_way true true s t one h = let bad : true ≡ false = one refl in absurd cc
before_one_way true false s t one h = refl
before_one_way false true s t one h = absurd cc
before_one_way false false s t one h = less_one_way s t h

-- of three tasks a, b and c, where ab says whether a is higher than b
before_chain : (ab ba bc cb ac ca : Bool) (s t u : ℕ) → (ab ≡ false → bc ≡ false → ac ≡ false) → (bc ≡ false → ca ≡ false → ba ≡ false) →
    (ca ≡ false → ab ≡ false → cb ≡ false) →
    before_by ab ba s t ≡ false → before_by bc cb t u ≡ false → before_by ac ca s u ≡ false
before_chain ab ba bc cb ac ca s t u one two three h k = grind (arith, nat_tests)

pub goes_before_is_order : IsStrictWeakOrder goes_before
goes_before_is_order =
    let chain = higher_chain (λ cpu. 0) in
    record {
      one_way = λ a b h. before_one_way (is_higher_here a b) (is_higher_here b a) a.stamp b.stamp (higher_one_way (λ cpu. 0) a b) h;
      chain = λ a b c h k. before_chain (is_higher_here a b) (is_higher_here b a) (is_higher_here b c) (is_higher_here c b) (is_higher_here a c) (is_higher_here c a)
          a.stamp b.stamp c.stamp (chain a b c) (chain b c a) (chain c a b) h k;
    }

-- Of two tasks of one sibling the snapshots make no difference.
sums_here : (u v f : ℕ) → ltb (u + 0) (v + 0) ≡ ltb (u + f) (v + f)
sums_here u v f = grind (arith, nat_tests)

pub higher_at_home : (snapshot : ℕ → ℕ) (a b : Task) → a.home ≡ b.home → is_higher_here a b ≡ is_higher snapshot a b
higher_at_home snapshot a b home =
    ap (λ fair. by_class (class_of a.spec.policy) (class_of b.spec.policy) (ltb a.deadline b.deadline) (ltb (priority_of b.spec.policy) (priority_of a.spec.policy)) fair)
    (sums_here a.vtime b.vtime (snapshot b.home) ∙ ap (λ cpu. ltb (a.vtime + snapshot b.home) (b.vtime + snapshot cpu)) (sym home))

-- ---- the first

-- a scan that keeps the better of two finds the first
pub first_of_reduce : (tasks : List Task) → first_of tasks ≡ reduce (better goes_before goes_before_is_order) tasks
first_of_reduce tasks = foremost_reduce goes_before goes_before_is_order tasks
