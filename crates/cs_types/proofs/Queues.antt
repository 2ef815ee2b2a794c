-- The queues: their orders are total, only equal keys tie, and the top of the queue of some tasks is their first.
use Rattle.std.proofs.Common.{◌≡◌, ◌≢◌, ℕ, ◌+◌, ◌-◌, ◌≤◌, Bool, true, false, not, cond, ltb, eqb, List, [], ◌∷◌, map, length, inl, inr, refl, sym, ap, ◌∙◌, subst, Option, Some, None, arith}
use Rattle.std.specs.Prelude.{◌&&◌, ◌||◌, find, slice_get}
use lib.Dec.{T}
use Rattle.std.specs.Cmp.{IsTotalOrder, IsStrictWeakOrder, then_total, on_total, nat_cmp_total, alike_right, tied_back, tied_itself, unsigned_tied}
use Rattle.std.specs.List.{All, list_all, AllByRecursion}
use Rattle.std.specs.Ordering.{ordering_then, ordering_reverse, nat_cmp, is_lt, is_eq, is_gt}
use Rattle.std.specs.declared.cmp.Ordering.{Ordering}
use Rattle.std.specs.declared.cmp.Ordering.TheVariants.{Less, Equal, Greater}
use Rattle.std.specs.FinMap.{IsAntisymmetric, nat_cmp-IsAntisymmetric, entries, empty, from_entries, from_sorted, is_sorted, entries-from_sorted, len, len-entries, len-empty, entries-insert, put}
use Rattle.std.specs.FinMap.Entries.{by_order}
use Rattle.std.specs.Option.{option_map, option_map_or}
use Rattle.std.proofs.lemmas.Bool.{cases_eq, cases_Bool, and_from, and_left, not-true, not_from_false, both_ways, cond-true, cond-false}
use Rattle.std.proofs.lemmas.Bool.Decides.{nat_tests}
use Rattle.std.proofs.lemmas.List.Elements.{recursion_from_All}
use Rattle.std.proofs.lemmas.List.Folds.{list_all-map}
use Rattle.std.proofs.lemmas.List.Sorted.{ranks_by}
use Rattle.cs_types.specs.declared.task.Policy.{Policy}
use Rattle.cs_types.specs.declared.task.Policy.TheVariants.{Stop, Deadline, Fifo, Rr, Fair}
use Rattle.cs_types.specs.declared.task.Task.{Task}
use Rattle.cs_types.specs.Order.{foremost, class_of, priority_of, goes_before, first_of}
use Rattle.cs_types.specs.Queue.{top_of, Key, key_cmp, Seat, seat_cmp, Spot, spot_cmp, rank_by, seat_with_pid, queue_of}
use Rattle.cs_types.proofs.Foremost.{find_passes, find_narrower, find_same, each_of_all, all_of_each, each_weaker, foremost_none, not_before_itself}

-- ---- the orders

pub key_total : IsTotalOrder key_cmp
key_total = then_total (on_total (λ (key : Key). key.0) nat_cmp_total) (on_total (λ (key : Key). key.1) nat_cmp_total)

pub seat_total : IsTotalOrder seat_cmp
seat_total = then_total (on_total (λ (seat : Seat). seat.0) nat_cmp_total) (on_total (λ (seat : Seat). seat.1) key_total)

pub spot_total : IsTotalOrder spot_cmp
spot_total = then_total (on_total (λ (spot : Spot). spot.0) nat_cmp_total) (on_total (λ (spot : Spot). spot.1) seat_total)

-- only equal pairs tie, where only equal parts do
same_pair : {A B : Type 0} {R : A → A → Ordering} {S : B → B → Ordering} → IsAntisymmetric R → IsAntisymmetric S →
    IsAntisymmetric (λ (x y : A × B). ordering_then (R x.0 y.0) (S x.1 y.1))
same_pair {R = R} {S = S} first second x y e =
    elim (R x.0 y.0) as (λ r. R x.0 y.0 ≡ r → ordering_then r (S x.1 y.1) ≡ Equal → x ≡ y) [
      | Less ↦ λ p e. absurd cc
      | Equal ↦ λ p e i. (first x.0 y.0 p i, second x.1 y.1 e i)
      | Greater ↦ λ p e. absurd cc
    ] refl e

pub key_cmp-IsAntisymmetric : IsAntisymmetric key_cmp
key_cmp-IsAntisymmetric = same_pair nat_cmp-IsAntisymmetric nat_cmp-IsAntisymmetric

pub seat_cmp-IsAntisymmetric : IsAntisymmetric seat_cmp
seat_cmp-IsAntisymmetric = same_pair nat_cmp-IsAntisymmetric key_cmp-IsAntisymmetric

pub spot_cmp-IsAntisymmetric : IsAntisymmetric spot_cmp
spot_cmp-IsAntisymmetric = same_pair nat_cmp-IsAntisymmetric seat_cmp-IsAntisymmetric

-- ---- a map that is made of sorted entries

-- a test that holds, in the form in which maps say so
pub said : {b : Bool} → b ≡ true → T b
said is = subst T (sym is) tt

module _ {K X : Type 0} (R : K → K → Ordering) (es : List (K × X)) (rising : is_sorted R es ≡ true) where
  pub top_of-from_sorted : top_of (from_sorted {R = R} es) ≡ option_map (λ (e : K × X). e.1) (slice_get es 0)
  top_of-from_sorted = ap (λ (xs : List (K × X)). slice_get (map (λ e. e.1) xs) 0) (entries-from_sorted R es (said rising)) ∙ first es where
    first : (xs : List (K × X)) → slice_get (map (λ (e : K × X). e.1) xs) 0 ≡ option_map (λ (e : K × X). e.1) (slice_get xs 0)
    first [] = refl
    first (x ∷ xs) = refl

  pub len-from_sorted : len (from_sorted {R = R} es) ≡ length es
  len-from_sorted = len-entries _ ∙ ap length (entries-from_sorted R es (said rising))

-- ---- the foremost of a list, from its end

pub find_cons : {X : Type 0} (p : X → Bool) (x : X) (xs : List X) → p x ≡ false → find p (x ∷ xs) ≡ find p xs
find_cons p x xs fail = cond-false (p x) (Some x) (find p xs) fail

-- what is found in a list passes where all of the list does
found_passes : {X : Type 0} (p q : X → Bool) (xs : List X) (y : X) → find p xs ≡ Some y → AllByRecursion (λ x. q x ≡ true) xs → q y ≡ true
found_passes p q [] y h all = absurd cc
found_passes p q (x ∷ xs) y h all =
    elim (cases_Bool (p x)) [
      | inl pass ↦ let same : Some x ≡ Some y = sym (cond-true (p x) (Some x) (find p xs) pass) ∙ h in let e : x ≡ y = cc in ap q (sym e) ∙ all.0
      | inr fail ↦ found_passes p q xs y (sym (find_cons p x xs fail) ∙ h) all.1
    ]

-- two tests that agree on a list find the same in it
find_alike : {X : Type 0} (p q : X → Bool) (xs : List X) → AllByRecursion (λ x. p x ≡ q x) xs → find p xs ≡ find q xs
find_alike p q [] alike = refl
find_alike p q (x ∷ xs) alike = ap (λ b. cond b (Some x) (find p xs)) alike.0 ∙ ap (cond (q x) (Some x)) (find_alike p q xs alike.1)

list_all_alike : {X : Type 0} (p q : X → Bool) (xs : List X) → AllByRecursion (λ x. p x ≡ q x) xs → list_all p xs ≡ list_all q xs
list_all_alike p q [] alike = refl
list_all_alike p q (x ∷ xs) alike = ap (λ b. b && list_all p xs) alike.0 ∙ ap (λ b. q x && b) (list_all_alike p q xs alike.1)

and_swap : (a b : Bool) → (a && b) ≡ (b && a)
and_swap true true = refl
and_swap true false = refl
and_swap false true = refl
and_swap false false = refl

module _ {X : Type 0} (lt : X → X → Bool) (order : IsStrictWeakOrder lt) where
  -- one more element at the start is the foremost, unless the foremost of the others goes before it
  pub foremost-cons : (x : X) (xs : List X) → foremost lt (x ∷ xs) ≡ Some (option_map_or (λ b. cond (lt b x) b x) (foremost lt xs) x)
  foremost-cons x xs = by_rest (foremost lt xs) refl where
    by_rest : (o : Option X) → foremost lt xs ≡ o → foremost lt (x ∷ xs) ≡ Some (option_map_or (λ b. cond (lt b x) b x) o x)
    by_rest None h =
        ap (λ (ys : List X). foremost lt (x ∷ ys)) (foremost_none lt order xs h)
        ∙ cond-true (not (lt x x) && true) (Some x) None (and_from (not (lt x x)) true (not_from_false (lt x x) (not_before_itself lt order x)) refl)
    by_rest (Some b) h =
        let passes = each_of_all (λ other. not (lt other b)) xs (find_passes (λ y. list_all (λ other. not (lt other y)) xs) xs b h) in
        elim (cases_Bool (lt b x)) [
          | inl earlier ↦
              let beaten : (not (lt x x) && list_all (λ other. not (lt other x)) xs) ≡ false =
              elim (cases_Bool (list_all (λ other. not (lt other x)) xs)) [
                | inl all ↦
                    let at_b = found_passes (λ y. list_all (λ other. not (lt other y)) xs) (λ other. not (lt other x)) xs b h
                    (each_of_all (λ other. not (lt other x)) xs all) in
                    absurd (both_ways (lt b x) (not-true (lt b x) at_b) earlier)
                | inr some ↦ and_swap (not (lt x x)) _ ∙ and_left _ (not (lt x x)) some
              ] in
              find_cons (λ y. list_all (λ other. not (lt other y)) (x ∷ xs)) x xs beaten
              ∙ find_same (λ y. not (lt x y) && list_all (λ other. not (lt other y)) xs) (λ y. list_all (λ other. not (lt other y)) xs && not (lt x y)) xs
              (λ y. and_swap (not (lt x y)) _)
              ∙ find_narrower (λ y. list_all (λ other. not (lt other y)) xs) (λ y. not (lt x y)) xs b h (not_from_false (lt x b) (order.one_way b x earlier))
              ∙ ap Some (sym (cond-true (lt b x) b x earlier))
          | inr later ↦
              cond-true (not (lt x x) && list_all (λ other. not (lt other x)) xs) (Some x) _
              (and_from (not (lt x x)) (list_all (λ other. not (lt other x)) xs) (not_from_false (lt x x) (not_before_itself lt order x))
              (all_of_each (λ other. not (lt other x)) xs
              (each_weaker (λ y. not (lt y b) ≡ true) (λ y. not (lt y x) ≡ true) xs
              (λ y k. not_from_false (lt y x) (order.chain y b x (not-true (lt y b) k) later)) passes)))
              ∙ ap Some (sym (cond-false (lt b x) b x later))
        ]

-- orders that agree on a list have the same foremost in it
pub foremost_alike : {X : Type 0} (P : X → Type 0) (lt other_lt : X → X → Bool) → ((x y : X) → P x → P y → lt x y ≡ other_lt x y) →
    (xs : List X) → AllByRecursion P xs → foremost lt xs ≡ foremost other_lt xs
foremost_alike P lt other_lt alike xs all =
    find_alike (λ x. list_all (λ other. not (lt other x)) xs) (λ x. list_all (λ other. not (other_lt other x)) xs) xs
    (each_weaker P _ xs (λ x px.
    list_all_alike (λ other. not (lt other x)) (λ other. not (other_lt other x)) xs
    (each_weaker P _ xs (λ other po. ap not (alike other x po px)) all)) all)

-- the foremost of a function's values is the value of the foremost
pub foremost-map : {X Y : Type 0} (lt : Y → Y → Bool) (f : X → Y) (xs : List X) →
    foremost lt (map f xs) ≡ option_map f (foremost (λ x y. lt (f x) (f y)) xs)
foremost-map {X} {Y} lt f xs = found xs where
  found : (ys : List X) → find (λ y. list_all (λ other. not (lt other y)) (map f xs)) (map f ys)
      ≡ option_map f (find (λ x. list_all (λ other. not (lt (f other) (f x))) xs) ys)
  found [] = refl
  found (y ∷ ys) =
      let same = list_all-map (λ other. not (lt other (f y))) f xs in
      elim (cases_Bool (list_all (λ other. not (lt (f other) (f y))) xs)) [
        | inl pass ↦ cond-true _ (Some (f y)) _ (same ∙ pass) ∙ ap (option_map f) (sym (cond-true _ (Some y) _ pass))
        | inr fail ↦ cond-false _ (Some (f y)) _ (same ∙ fail) ∙ found ys ∙ ap (option_map f) (sym (cond-false _ (Some y) _ fail))
      ]

-- ---- the top of a map that was made of a list

is_lt-turn : (r : Ordering) → is_lt (ordering_reverse r) ≡ is_gt r
is_lt-turn Less = refl
is_lt-turn Equal = refl
is_lt-turn Greater = refl

module _ {K X : Type 0} {R : K → K → Ordering} (o : IsTotalOrder R) where
  -- whether an entry's key is less than another's
  abbrev pub precedes : K × X → K × X → Bool
  precedes a b = is_lt (R a.0 b.0)

  pub precedes_order : IsStrictWeakOrder precedes
  precedes_order = ranks_by o (λ (entry : K × X). entry.0)

  -- the first of these entries has the value of that one, and its key ties
  abbrev BeginsAs : List (K × X) → Option (K × X) → Type 0
  BeginsAs [] first = first ≡ None
  BeginsAs (f ∷ fs) first = (b : K × X) × (first ≡ Some b) × (R f.0 b.0 ≡ Equal) × (f.1 ≡ b.1)

  -- one more entry begins them where its key is not greater than that of the first
  BeginsAs-put : (e : K × X) (es : List (K × X)) (first : Option (K × X)) → BeginsAs es first →
      BeginsAs (put R e.0 e.1 es) (Some (option_map_or (λ b. cond (precedes b e) b e) first e))
  BeginsAs-put e [] None h = (e, refl, tied_itself o e.0, refl)
  BeginsAs-put e [] (Some b) h = absurd cc
  BeginsAs-put e (f ∷ fs) None h = absurd (let bad = h.1 in cc)
  BeginsAs-put e (f ∷ fs) (Some c) (b, is, tie, same) =
      let there : c ≡ b = cc in
      let turn : precedes c e ≡ is_gt (R e.0 f.0) =
      ap (λ d. precedes d e) there ∙ ap is_lt (o.antisymm b.0 e.0) ∙ is_lt-turn (R e.0 b.0) ∙ ap is_gt (sym (alike_right o f.0 b.0 e.0 tie)) in
      elim (R e.0 f.0) as (λ r. R e.0 f.0 ≡ r → precedes c e ≡ is_gt r →
      BeginsAs (by_order r ((e.0, e.1) ∷ f ∷ fs) ((f.0, e.1) ∷ fs) (f ∷ put R e.0 e.1 fs)) (Some (cond (precedes c e) c e))) [
        | Less ↦ λ p later. (e, ap Some (cond-false _ c e later), tied_itself o e.0, refl)
        | Equal ↦ λ p later. (e, ap Some (cond-false _ c e later), tied_back o e.0 f.0 p, refl)
        | Greater ↦ λ p earlier. (b, ap Some (cond-true _ c e earlier ∙ there), tie, same)
      ] refl turn

  no_entries : (es : List (K × X)) → length es ≡ 0 → BeginsAs es None
  no_entries [] h = refl
  no_entries (e ∷ es) h = absurd (omega arith)

  BeginsAs-entries : (es : List (K × X)) → BeginsAs (entries (from_entries {R = R} es)) (foremost precedes es)
  BeginsAs-entries [] = no_entries (entries (empty {R = R})) (sym (len-entries (empty {X = X} {R = R})) ∙ len-empty R X)
  BeginsAs-entries (e ∷ es) =
      let one_more = BeginsAs-put e (entries (from_entries {R = R} es)) (foremost precedes es) (BeginsAs-entries es) in
      subst (λ (fs : List (K × X)). BeginsAs fs (foremost precedes (e ∷ es))) (sym (entries-insert o (from_entries es) e.0 e.1))
      (subst (BeginsAs (put R e.0 e.1 (entries (from_entries {R = R} es)))) (sym (foremost-cons precedes precedes_order e es)) one_more)

  first_value : (es : List (K × X)) (first : Option (K × X)) → BeginsAs es first →
      slice_get (map (λ (entry : K × X). entry.1) es) 0 ≡ option_map (λ (entry : K × X). entry.1) first
  first_value [] first h = sym (ap (option_map (λ (entry : K × X). entry.1)) h)
  first_value (f ∷ fs) first (b, is, tie, same) = ap Some same ∙ sym (ap (option_map (λ (entry : K × X). entry.1)) is)

  -- it is the value of the foremost entry of the list
  pub top_of-from_entries : (es : List (K × X)) → top_of (from_entries {R = R} es) ≡ option_map (λ (entry : K × X). entry.1) (foremost precedes es)
  top_of-from_entries es = first_value (entries (from_entries {R = R} es)) (foremost precedes es) (BeginsAs-entries es)

-- ---- the top of the queue of some tasks

is_lt-then : (r s : Ordering) → is_lt (ordering_then r s) ≡ (is_lt r || (is_eq r && is_lt s))
is_lt-then Less s = refl
is_lt-then Equal s = refl
is_lt-then Greater s = refl

is_lt-nat_cmp : (m n : ℕ) → is_lt (nat_cmp m n) ≡ ltb m n
is_lt-nat_cmp m n = by_tests (ltb m n) (eqb m n) where
  by_tests : (less equal : Bool) → is_lt (cond less Less (cond equal Equal Greater)) ≡ less
  by_tests true equal = refl
  by_tests false true = refl
  by_tests false false = refl

-- whether one seat is less than another, by the numbers in them
is_lt-seat_cmp : (a b : Seat) →
    is_lt (seat_cmp a b)
    ≡ (ltb a.0 b.0 || (eqb a.0 b.0 && (ltb a.1.0 b.1.0 || (eqb a.1.0 b.1.0 && ltb a.1.1 b.1.1))))
is_lt-seat_cmp a b =
    simp (is_lt-then, is_lt-nat_cmp, unsigned_tied)

-- a rank by the class
rank_in : (class deadline priority vtime : ℕ) → ℕ
rank_in class deadline priority vtime =
    cond (eqb class 1) deadline (cond (eqb class 2) (99 - priority) (cond (eqb class 3) vtime 0))

rank_by-class : (policy : Policy) (deadline vtime : ℕ) → rank_by policy deadline vtime ≡ rank_in (class_of policy) deadline (priority_of policy) vtime
unfolding rank_in
rank_by-class Stop deadline vtime = refl
rank_by-class (Deadline relative) deadline vtime = refl
rank_by-class (Fifo priority) deadline vtime = refl
rank_by-class (Rr priority) deadline vtime = refl
rank_by-class (Fair nice) deadline vtime = refl

-- the order of the classes and within them (`is_higher_here`), by the numbers of two tasks
abbrev higher_by : (c d e f p q v w : ℕ) → Bool
higher_by c d e f p q v w =
    ltb c d
    || ((eqb c 1 && eqb d 1) && ltb e f)
    || ((eqb c 2 && eqb d 2) && ltb q p)
    || ((eqb c 3 && eqb d 3) && ltb (v + 0) (w + 0))

-- within a class it is the order of the ranks
higher_by-rank_in : (c e f p q v w : ℕ) → p ≤ 99 → q ≤ 99 → higher_by c c e f p q v w ≡ ltb (rank_in c e p v) (rank_in c f q w)
unfolding rank_in
higher_by-rank_in c e f p q v w low_p low_q =
    elim (cases_eq c 1) [
      | inl deadline ↦ grind (arith, nat_tests)
      | inr others ↦ elim (cases_eq c 2) [
        | inl real_time ↦ grind (arith, nat_tests)
        | inr rest ↦ grind (arith, nat_tests)
      ]
    ]

-- across classes the ranks make no difference
higher_by-classes : (c d e f p q v w : ℕ) → c ≢ d → higher_by c d e f p q v w ≡ ltb c d
higher_by-classes c d e f p q v w differ = grind (arith, nat_tests)

-- among equal classes, or different ones
by_stamp : (c d r s t u : ℕ) (ab ba : Bool) → (c ≢ d → ab ≡ ltb c d) → (c ≢ d → ba ≡ ltb d c) → (c ≡ d → ab ≡ ltb r s) → (c ≡ d → ba ≡ ltb s r) →
    (ltb c d || (eqb c d && (ltb r s || (eqb r s && ltb t u)))) ≡ (ab || (not ba && ltb t u))
by_stamp c d r s t u ab ba apart back same turn =
    elim (cases_eq c d) [
      | inl equal ↦ let one = same equal in let two = turn equal in grind (arith, nat_tests)
      | inr differ ↦ let one = apart differ in let two = back differ in grind (arith, nat_tests)
    ]

-- seats are in that order, and by the stamp where that leaves a tie
higher_by-seats : (c d e f p q v w s t : ℕ) → p ≤ 99 → q ≤ 99 →
    (ltb c d || (eqb c d && (ltb (rank_in c e p v) (rank_in d f q w) || (eqb (rank_in c e p v) (rank_in d f q w) && ltb s t))))
    ≡ (higher_by c d e f p q v w || (not (higher_by d c f e q p w v) && ltb s t))
higher_by-seats c d e f p q v w s t low_p low_q =
    by_stamp c d (rank_in c e p v) (rank_in d f q w) s t _ _
    (higher_by-classes c d e f p q v w) (λ differ. higher_by-classes d c f e q p w v (λ equal. differ (sym equal)))
    (λ equal. ap (λ k. higher_by c k e f p q v w) (sym equal) ∙ higher_by-rank_in c e f p q v w low_p low_q ∙ ap (λ k. ltb (rank_in c e p v) (rank_in k f q w)) equal)
    (λ equal. ap (λ k. higher_by k c f e q p w v) (sym equal) ∙ higher_by-rank_in c f e q p w v low_q low_p ∙ ap (λ k. ltb (rank_in k f q w) (rank_in c e p v)) equal)

-- a task goes before another where its seat is less
pub goes_before-seats : (a b : Task) → priority_of a.spec.policy ≤ 99 → priority_of b.spec.policy ≤ 99 →
    is_lt (seat_cmp (seat_with_pid a).0 (seat_with_pid b).0) ≡ goes_before a b
goes_before-seats a b low_a low_b =
    is_lt-seat_cmp (seat_with_pid a).0 (seat_with_pid b).0
    ∙ ap (λ r. ltb (class_of a.spec.policy) (class_of b.spec.policy) || (eqb (class_of a.spec.policy) (class_of b.spec.policy)
    && (ltb r (seat_with_pid b).0.1.0 || (eqb r (seat_with_pid b).0.1.0 && ltb a.stamp b.stamp)))) (rank_by-class a.spec.policy a.deadline a.vtime)
    ∙ ap (λ r. ltb (class_of a.spec.policy) (class_of b.spec.policy) || (eqb (class_of a.spec.policy) (class_of b.spec.policy)
    && (ltb (rank_in (class_of a.spec.policy) a.deadline (priority_of a.spec.policy) a.vtime) r
    || (eqb (rank_in (class_of a.spec.policy) a.deadline (priority_of a.spec.policy) a.vtime) r && ltb a.stamp b.stamp))))
    (rank_by-class b.spec.policy b.deadline b.vtime)
    ∙ higher_by-seats (class_of a.spec.policy) (class_of b.spec.policy) a.deadline b.deadline (priority_of a.spec.policy)
    (priority_of b.spec.policy) a.vtime b.vtime a.stamp b.stamp low_a low_b

-- the top of the queue of these tasks is the pid of the first of them
pub top_of-queue_of : (tasks : List Task) → All (λ task. priority_of task.spec.policy ≤ 99) tasks →
    top_of (queue_of tasks) ≡ option_map (λ task. task.spec.pid) (first_of tasks)
top_of-queue_of tasks low =
    top_of-from_entries seat_total (map seat_with_pid tasks)
    ∙ ap (option_map (λ (entry : Seat × ℕ). entry.1)) (foremost-map (λ a b. is_lt (seat_cmp a.0 b.0)) seat_with_pid tasks)
    ∙ pids (foremost (λ a b. is_lt (seat_cmp (seat_with_pid a).0 (seat_with_pid b).0)) tasks)
    ∙ ap (option_map (λ (task : Task). task.spec.pid))
    (foremost_alike (λ task. priority_of task.spec.policy ≤ 99) _ goes_before goes_before-seats tasks (recursion_from_All _ tasks low)) where
      pids : (first : Option Task) → option_map (λ (entry : Seat × ℕ). entry.1) (option_map seat_with_pid first) ≡ option_map (λ task. task.spec.pid) first
      pids None = refl
      pids (Some task) = refl
