-- Lists: what a write, a change of each element and a read keep.
use Rattle.std.proofs.Common.{◌≡◌, ℕ, zero, suc, ◌+◌, List, [], ◌∷◌, map, get_or, set, refl, ap}
use Rattle.std.specs.Prelude.{replicate}
use Rattle.std.specs.List.{AllByRecursion, enumerate_from}

-- a write leaves the values of a function that does not tell the new element from the one in its place
pub map-set_alike : {X Y : Type 0} (f : X → Y) (xs : List X) (i : ℕ) (x d : X) → f x ≡ f (get_or xs i d) → map f (set xs i x) ≡ map f xs
map-set_alike f [] i x d same = refl
map-set_alike f (y ∷ xs) zero x d same = ap (λ z. z ∷ map f xs) same
map-set_alike f (y ∷ xs) (suc i) x d same = ap (λ zs. f y ∷ zs) (map-set_alike f xs i x d same)

-- so does a change of every element, made by its number
pub map-enumerate_alike : {X Y : Type 0} (f : X → Y) (g : ℕ × X → X) → ((numbered : ℕ × X) → f (g numbered) ≡ f numbered.1) → (n : ℕ) (xs : List X) → map f (map g (enumerate_from n xs)) ≡ map f xs
map-enumerate_alike f g same n [] = refl
map-enumerate_alike f g same n (x ∷ xs) = cc (same (n, x), map-enumerate_alike f g same (n + 1) xs)

-- and one that does not ask for the number
pub map-map_alike : {X Y : Type 0} (f : X → Y) (g : X → X) → ((x : X) → f (g x) ≡ f x) → (xs : List X) → map f (map g xs) ≡ map f xs
map-map_alike f g same [] = refl
map-map_alike f g same (x ∷ xs) = cc (same x, map-map_alike f g same xs)

-- an element of a mapped list, also past its end
pub get_or-map_default : {X Y : Type 0} (f : X → Y) (xs : List X) (i : ℕ) (d : X) → get_or (map f xs) i (f d) ≡ f (get_or xs i d)
get_or-map_default f [] i d = refl
get_or-map_default f (x ∷ xs) zero d = refl
get_or-map_default f (x ∷ xs) (suc i) d = get_or-map_default f xs i d

-- what a function reads of an element, where a write does not change it
pub get_or-set_alike : {X Y : Type 0} (f : X → Y) (xs : List X) (i : ℕ) (x : X) (j : ℕ) (d : X) → f x ≡ f (get_or xs i d) → f (get_or (set xs i x) j d) ≡ f (get_or xs j d)
get_or-set_alike f [] i x j d same = refl
get_or-set_alike f (y ∷ xs) zero x zero d same = same
get_or-set_alike f (y ∷ xs) zero x (suc j) d same = refl
get_or-set_alike f (y ∷ xs) (suc i) x zero d same = refl
get_or-set_alike f (y ∷ xs) (suc i) x (suc j) d same = get_or-set_alike f xs i x j d same

-- what follows of two facts of an element follows of them at each
pub each_both : {X : Type 0} (P Q R : X → Type 0) (xs : List X) → ((x : X) → P x → Q x → R x) → AllByRecursion P xs → AllByRecursion Q xs → AllByRecursion R xs
each_both P Q R [] step ps qs = tt
each_both P Q R (x ∷ xs) step ps qs = (step x ps.0 qs.0, each_both P Q R xs step ps.1 qs.1)

-- what holds of a function at each element holds of each value
pub all_map : {X Y : Type 0} (P : Y → Type 0) (f : X → Y) (xs : List X) → AllByRecursion (λ x. P (f x)) xs → AllByRecursion P (map f xs)
all_map P f [] all = tt
all_map P f (x ∷ xs) all = (all.0, all_map P f xs all.1)

-- what holds of each element holds after each is changed by its number, and after a write
pub all_enumerated : {X : Type 0} (P : X → Type 0) (f : ℕ × X → X) → ((n : ℕ) (x : X) → P x → P (f (n, x))) → (n : ℕ) (xs : List X) → AllByRecursion P xs → AllByRecursion P (map f (enumerate_from n xs))
all_enumerated P f step n [] all = tt
all_enumerated P f step n (x ∷ xs) all = (step n x all.0, all_enumerated P f step (n + 1) xs all.1)

pub all_set : {X : Type 0} (P : X → Type 0) (xs : List X) (i : ℕ) (x : X) → P x → AllByRecursion P xs → AllByRecursion P (set xs i x)
all_set P [] i x is all = tt
all_set P (y ∷ xs) zero x is all = (is, all.1)
all_set P (y ∷ xs) (suc i) x is all = (all.0, all_set P xs i x is all.1)

-- of an element read, also past the end
pub all_get : {X : Type 0} (P : X → Type 0) (xs : List X) (i : ℕ) (d : X) → P d → AllByRecursion P xs → P (get_or xs i d)
all_get P [] i d is all = is
all_get P (x ∷ xs) zero d is all = all.0
all_get P (x ∷ xs) (suc i) d is all = all_get P xs i d is all.1

-- and of copies of one value
pub all_replicate : {X : Type 0} (P : X → Type 0) (n : ℕ) (x : X) → P x → AllByRecursion P (replicate n x)
all_replicate P zero x is = tt
all_replicate P (suc n) x is = (is, all_replicate P n x is)
