-- Lists: what filters, searches and scans of a list say of the list that it stands for.
use Rattle.std.proofs.Common.{◌≡◌, ltb, ℕ, zero, suc, ◌+◌, ◌<◌, Bool, true, false, cond, List, [], ◌∷◌, ◌++◌, map, refl, sym, ap, ◌∙◌, length, take, drop, set, get_or, arith, add-one, Option, Some, None, Bor, ◌≤◌}
use Rattle.std.specs.Prelude.{option_copied, filter, find, count_by, is_some, ◌&&◌, ◌||◌, All, IfSome, Contains}
use Rattle.std.specs.Option.{IsSome}
use Rattle.std.specs.List.{enumerate_from, range_with_len, list_any}
use Rattle.std.specs.Cmp.{IsStrictWeakOrder}
use Rattle.std.proofs.lemmas.Bool.Decides.{nat_tests}
use Rattle.std.proofs.lemmas.List.{length-map}
use Rattle.std.proofs.lemmas.List.Sums.{length-filter}
use Rattle.std.proofs.lemmas.List.Elements.{All-head, All-tail, filter_agree}
use Rattle.cs_types.specs.declared.task.Task.{Task}
use Rattle.cs_types.specs.Order.{first_of}
use Rattle.cs_laws.proofs.First.{first_of_reduce}
use Rattle.std.proofs.lemmas.List.Recursion.{or_push}

-- ---- lists that stand for others

pub filter-map : {X Y : Type 0} (f : X → Y) (p : Y → Bool) (xs : List X) → filter p (map f xs) ≡ map f (filter (λ x. p (f x)) xs)
filter-map f p [] = refl
filter-map {X} {Y} f p (x ∷ xs) =
    elim (p (f x)) as (λ b. cond b (f x ∷ filter p (map f xs)) (filter p (map f xs)) ≡ map f (cond b (x ∷ filter (λ z. p (f z)) xs) (filter (λ z. p (f z)) xs))) [
      | true ↦ ap (λ (ys : List Y). f x ∷ ys) (filter-map f p xs)
      | false ↦ filter-map f p xs
    ]

pub filter-filter : {X : Type 0} (p q : X → Bool) (xs : List X) → filter q (filter p xs) ≡ filter (λ x. p x && q x) xs
filter-filter p q [] = refl
filter-filter {X} p q (x ∷ xs) =
    elim (p x) as (λ b. filter q (cond b (x ∷ filter p xs) (filter p xs)) ≡ cond (b && q x) (x ∷ filter (λ z. p z && q z) xs) (filter (λ z. p z && q z) xs)) [
      | true ↦ ap (λ (ys : List X). cond (q x) (x ∷ ys) ys) (filter-filter p q xs)
      | false ↦ filter-filter p q xs
    ]

-- ---- tests, counts and searches over a filter, and over a list that stands for another

-- a count of those that pass over the list of places is one over what stands at them
pub count_at : {X : Type 0} (f : ℕ → X) (q : X → Bool) (is_in p : ℕ → Bool) (places : List ℕ) → ((i : ℕ) → q (f i) ≡ (is_in i && p i)) →
    count_by q (map f places) ≡ count_by p (filter is_in places)
count_at f q is_in p places same =
    sym (length-filter q (map f places))
    ∙ ap length (filter-map f q places)
    ∙ length-map (filter (λ i. q (f i)) places) f
    ∙ ap length (filter_agree (λ i. q (f i)) (λ i. is_in i && p i) same places ∙ sym (filter-filter is_in p places))
    ∙ length-filter p (filter is_in places)

-- and so for whether one passes
pub any_at : {X : Type 0} (f : ℕ → X) (q : X → Bool) (is_in p : ℕ → Bool) (places : List ℕ) → ((i : ℕ) → q (f i) ≡ (is_in i && p i)) →
    list_any q (map f places) ≡ list_any p (filter is_in places)
any_at f q is_in p [] same = refl
any_at f q is_in p (i ∷ places) same =
    let rest = any_at f q is_in p places same in
    ap (λ b. b || list_any q (map f places)) (same i)
    ∙ (elim (is_in i) as (λ b. ((b && p i) || list_any q (map f places)) ≡ list_any p (cond b (i ∷ filter is_in places) (filter is_in places))) [
      | true ↦ ap (λ b. p i || b) rest
      | false ↦ rest
    ])

-- whether one passes among what stands for others, or among those that a filter keeps
pub any-map : {X Y : Type 0} (p : Y → Bool) (f : X → Y) (xs : List X) → list_any p (map f xs) ≡ list_any (λ x. p (f x)) xs
any-map p f [] = refl
any-map p f (x ∷ xs) = ap (λ b. p (f x) || b) (any-map p f xs)

pub any-filter : {X : Type 0} (p q : X → Bool) (xs : List X) → list_any p (filter q xs) ≡ list_any (λ x. q x && p x) xs
any-filter p q [] = refl
any-filter p q (x ∷ xs) =
    elim (q x) as (λ b. list_any p (cond b (x ∷ filter q xs) (filter q xs)) ≡ ((b && p x) || list_any (λ z. q z && p z) xs)) [
      | true ↦ ap (λ b. p x || b) (any-filter p q xs)
      | false ↦ any-filter p q xs
    ]

-- or in a list with one element more
pub any-push : {X : Type 0} (test : X → Bool) (xs : List X) (x : X) → list_any test (xs ++ x ∷ []) ≡ (list_any test xs || test x)
any-push test = or_push (list_any test) test refl (λ _ _. refl)

-- what is found in a list has what each element of it has
pub All-find : {X : Type 0} (P : X → Type 0) (p : X → Bool) (xs : List X) → All P xs → IfSome (find p xs) P
All-find P p [] each = tt
All-find P p (x ∷ xs) each =
    elim (p x) as (λ b. IfSome (cond b (Some x) (find p xs)) P) [
      | true ↦ All-head P x xs each
      | false ↦ All-find P p xs (All-tail P x xs each)
    ]

-- ---- a list that is changed place by place

-- one more place of a list whose elements are changed in turn, each by its place
placed_from : {X : Type 0} (g : ℕ × X → X) (n : ℕ) (xs : List X) (i : ℕ) (d : X) → i < length xs →
    set (map g (enumerate_from n (take i xs)) ++ drop i xs) i (g (n + i, get_or xs i d)) ≡ map g (enumerate_from n (take (suc i) xs)) ++ drop (suc i) xs
placed_from g n [] i d lt = absurd (omega arith)
placed_from {X} g n (x ∷ xs) zero d lt = ap (λ (m : ℕ). g (m, x) ∷ xs) (omega arith)
placed_from {X} g n (x ∷ xs) (suc i) d lt =
    ap (λ (m : ℕ). g (n, x) ∷ set (map g (enumerate_from (n + 1) (take i xs)) ++ drop i xs) i (g (m, get_or xs i d))) (omega arith)
    ∙ ap (λ (ys : List X). g (n, x) ∷ ys) (placed_from g (n + 1) xs i d (omega arith))

pub placed_at : {X : Type 0} (g : ℕ × X → X) (n : ℕ) (xs : List X) (i : ℕ) (d : X) → i < length xs →
    get_or (map g (enumerate_from n (take i xs)) ++ drop i xs) i d ≡ get_or xs i d
placed_at g n [] i d lt = absurd (omega arith)
placed_at g n (x ∷ xs) zero d lt = refl
placed_at g n (x ∷ xs) (suc i) d lt = placed_at g (n + 1) xs i d (omega arith)

pub placed_more : {X : Type 0} (g : ℕ × X → X) (xs ys : List X) (i : ℕ) (y d : X) → i < length xs →
    ys ≡ map g (enumerate_from 0 (take i xs)) ++ drop i xs → y ≡ g (i, get_or ys i d) →
    set ys i y ≡ map g (enumerate_from 0 (take (i + 1) xs)) ++ drop (i + 1) xs
placed_more {X} g xs ys i y d lt so_far is =
    let e : 0 + i ≡ i = omega arith in
    let same : get_or ys i d ≡ get_or xs i d = ap (λ (zs : List X). get_or zs i d) so_far ∙ placed_at g 0 xs i d lt in
    ap (λ (zs : List X). set zs i y) so_far
    ∙ ap (set (map g (enumerate_from 0 (take i xs)) ++ drop i xs) i) (is ∙ ap (λ (p : ℕ × X). g p) (λ k. (sym e k, same k)))
    ∙ placed_from g 0 xs i d lt
    ∙ (rw (add-one i) refl)

-- ---- lists of places

-- one more number of a range
pub range_more : (a n : ℕ) → range_with_len a (suc n) ≡ range_with_len a n ++ (a + n) ∷ []
range_more a zero = ap (λ (m : ℕ). m ∷ []) (omega arith)
range_more a (suc n) =
    ap (λ (ms : List ℕ). a ∷ ms) (range_more (a + 1) n)
    ∙ ap (λ (m : ℕ). a ∷ range_with_len (a + 1) n ++ m ∷ []) (omega arith)

map-range_next : {X : Type 0} (f g : ℕ → X) (a n : ℕ) → ((i : ℕ) → f (i + 1) ≡ g i) → map f (range_with_len (a + 1) n) ≡ map g (range_with_len a n)
map-range_next f g a zero same = refl
map-range_next {X} f g a (suc n) same =
    ap (λ (x : X). x ∷ map f (range_with_len (a + 1 + 1) n)) (same a) ∙ ap (λ (xs : List X). g a ∷ xs) (map-range_next f g (a + 1) n same)

-- a list is what stands at its places
pub places : {X : Type 0} (xs : List X) (d : X) → map (λ i. get_or xs i d) (range_with_len 0 (length xs)) ≡ xs
places [] d = refl
places {X} (x ∷ xs) d =
    ap (λ (ys : List X). x ∷ ys)
    (map-range_next (λ i. get_or (x ∷ xs) i d) (λ i. get_or xs i d) 0 (length xs) (λ i. rw (add-one i) refl) ∙ places xs d)

-- the place where a change of a list stands has what it had
pub mapped_at : {X : Type 0} (g : X → X) (xs : List X) (i : ℕ) (d : X) → i < length xs → get_or (map g (take i xs) ++ drop i xs) i d ≡ get_or xs i d
mapped_at g [] i d lt = absurd (omega arith)
mapped_at g (x ∷ xs) zero d lt = refl
mapped_at g (x ∷ xs) (suc i) d lt = mapped_at g xs i d (omega arith)

-- ---- how many a filter keeps

grow_or_stay : {X : Type 0} (a b : Bool) (x : X) (ms ns : List X) → (a ≡ true → b ≡ true) → length ms ≤ length ns → length (cond a (x ∷ ms) ms) ≤ length (cond b (x ∷ ns) ns)
grow_or_stay true true x ms ns wider less = omega (arith, less)
grow_or_stay true false x ms ns wider less = let bad : false ≡ true = wider refl in absurd cc
grow_or_stay false true x ms ns wider less = omega (arith, less)
grow_or_stay false false x ms ns wider less = less

grow : {X : Type 0} (a b : Bool) (x : X) (ms ns : List X) → (a ≡ true → b ≡ true) → length ms < length ns → length (cond a (x ∷ ms) ms) < length (cond b (x ∷ ns) ns)
grow true true x ms ns wider less = omega (arith, less)
grow true false x ms ns wider less = let bad : false ≡ true = wider refl in absurd cc
grow false true x ms ns wider less = omega (arith, less)
grow false false x ms ns wider less = less

grow_here : {X : Type 0} (a b : Bool) (x : X) (ms ns : List X) → a ≡ false → b ≡ true → length ms ≤ length ns → length (cond a (x ∷ ms) ms) < length (cond b (x ∷ ns) ns)
grow_here true b x ms ns off on less = absurd cc
grow_here false true x ms ns off on less = omega (arith, less)
grow_here false false x ms ns off on less = absurd cc

no_more : {X : Type 0} (p q : X → Bool) → ((x : X) → p x ≡ true → q x ≡ true) → (xs : List X) → length (filter p xs) ≤ length (filter q xs)
no_more p q wider [] = omega arith
no_more p q wider (x ∷ xs) = grow_or_stay (p x) (q x) x (filter p xs) (filter q xs) (wider x) (no_more p q wider xs)

-- a stricter test that one more element fails keeps fewer
pub fewer : {X : Type 0} (p q : X → Bool) → ((x : X) → p x ≡ true → q x ≡ true) → (xs : List X) (one : X) → Contains xs one → p one ≡ false → q one ≡ true →
    length (filter p xs) < length (filter q xs)
fewer {X} p q wider xs one there off on = go xs there.0 there.1 there.2 where
  go : (xs : List X) (k : ℕ) → k < length xs → get_or xs k one ≡ one → length (filter p xs) < length (filter q xs)
  go [] k below is = absurd (omega arith)
  go (x ∷ xs) zero below is = grow_here (p x) (q x) x (filter p xs) (filter q xs) (ap p is ∙ off) (ap q is ∙ on) (no_more p q wider xs)
  go (x ∷ xs) (suc k) below is = grow (p x) (q x) x (filter p xs) (filter q xs) (wider x) (go xs k (omega arith) is)

-- ---- numbers

-- the order of numbers
one_way : (m n : ℕ) → ltb m n ≡ true → ltb n m ≡ false
one_way m n h = grind (arith, nat_tests)

chain : (m n k : ℕ) → ltb m n ≡ false → ltb n k ≡ false → ltb m k ≡ false
chain m n k h l = grind (arith, nat_tests)

pub less_is_order : IsStrictWeakOrder ltb
less_is_order = record { one_way = one_way; chain = chain }

-- there is a first task exactly where there is one
some_more : (count : ℕ) → true ≡ ltb 0 (suc count)
some_more count = grind (arith, nat_tests)

pub is_some-first_of : (tasks : List Task) → is_some (first_of tasks) ≡ ltb 0 (length tasks)
is_some-first_of [] = refl
is_some-first_of (task ∷ tasks) = ap is_some (first_of_reduce (task ∷ tasks)) ∙ some_more (length tasks)

-- what was found is there
pub is_there : (found : Option (Bor Task)) (task : Task) → option_copied found ≡ Some task → IsSome found
is_there None task is = absurd cc
is_there (Some found) task is = refl

-- the one that is found is it
pub is_it : (found : Option (Bor Task)) (entered : Bor Task) (task : Task) → found ≡ Some entered → option_copied found ≡ Some task → task ≡ entered.now
is_it found entered task is copied =
    let same : Some entered.now ≡ Some task = sym (ap option_copied is) ∙ copied in
    cc
