-- Exchanged: siblings of which two changed their queues, told by the part before the higher one and by the rest.
use Rattle.std.proofs.Common.{◌≡◌, ◌≢◌, ℕ, zero, suc, ◌<◌, List, [], ◌∷◌, ◌++◌, length, map, set, get_or, refl, sym, ap, ◌∙◌, Some, arith, length-set}
use Rattle.std.specs.Prelude.{slice_get}
use Rattle.std.proofs.lemmas.List.{map-append}
use Rattle.std.proofs.Math.Seq.{map-set_same}
use Rattle.core_lanes.specs.declared.lane.Lane.{Lane}
use Rattle.core_lanes.proofs.Stays.{queue_of}

-- the queue of the sibling at a place
abbrev pub queue_in : {Q : Type 0} → List (Lane Q) → ℕ → Lane Q → Q
queue_in lanes cpu d = (get_or lanes cpu d).queue

-- the siblings with this queue at a place
abbrev pub with_queue : {Q : Type 0} → List (Lane Q) → ℕ → Lane Q → Q → List (Lane Q)
with_queue lanes cpu d queue = set lanes cpu (record (get_or lanes cpu d) { queue = queue })

-- what else a sibling has stays
pub kept-with_queue : {Q X : Type 0} (f : Lane Q → X) (front back : List (Lane Q)) (low : ℕ) (d e : Lane Q) (p q : Q) →
    f (record (get_or front low d) { queue = p }) ≡ f (get_or front low d) → f (record (get_or back 0 e) { queue = q }) ≡ f (get_or back 0 e) →
    map f (with_queue front low d p ++ with_queue back 0 e q) ≡ map f (front ++ back)
kept-with_queue f front back low d e p q first second =
    map-append f (with_queue front low d p) (with_queue back 0 e q)
    ∙ (λ i. map-set_same f front low (record (get_or front low d) { queue = p }) d first i ++ map-set_same f back 0 (record (get_or back 0 e) { queue = q }) e second i)
    ∙ sym (map-append f front back)

-- the queues at the two places
pub low-with_queue : {Q : Type 0} (front back : List (Lane Q)) (low : ℕ) (d : Lane Q) (p : Q) → low < length front →
    slice_get (map queue_of (with_queue front low d p ++ back)) low ≡ Some p
low-with_queue [] back low d p within = absurd (omega arith)
low-with_queue (lane ∷ front) back zero d p within = refl
low-with_queue (lane ∷ front) back (suc low) d p within = low-with_queue front back low d p (omega arith)

pub low-before : {Q : Type 0} (front back : List (Lane Q)) (low : ℕ) (d : Lane Q) → low < length front →
    slice_get (map queue_of (front ++ back)) low ≡ Some (queue_in front low d)
low-before [] back low d within = absurd (omega arith)
low-before (lane ∷ front) back zero d within = refl
low-before (lane ∷ front) back (suc low) d within = low-before front back low d (omega arith)

first_behind : {Q : Type 0} (front back : List (Lane Q)) → slice_get (map queue_of (front ++ back)) (length front) ≡ slice_get (map queue_of back) 0
first_behind [] back = refl
first_behind (lane ∷ front) back = first_behind front back

first-with_queue : {Q : Type 0} (back : List (Lane Q)) (e : Lane Q) (q : Q) → 0 < length back → slice_get (map queue_of (with_queue back 0 e q)) 0 ≡ Some q
first-with_queue [] e q some = absurd (omega arith)
first-with_queue (lane ∷ back) e q some = refl

first_before : {Q : Type 0} (back : List (Lane Q)) (e : Lane Q) → 0 < length back → slice_get (map queue_of back) 0 ≡ Some (queue_in back 0 e)
first_before [] e some = absurd (omega arith)
first_before (lane ∷ back) e some = refl

pub high-with_queue : {Q : Type 0} (front back : List (Lane Q)) (low : ℕ) (d e : Lane Q) (p q : Q) → 0 < length back →
    slice_get (map queue_of (with_queue front low d p ++ with_queue back 0 e q)) (length front) ≡ Some q
high-with_queue front back low d e p q some =
    ap (slice_get (map queue_of (with_queue front low d p ++ with_queue back 0 e q))) (sym (length-set front low (record (get_or front low d) { queue = p })))
    ∙ first_behind (with_queue front low d p) (with_queue back 0 e q) ∙ first-with_queue back e q some

pub high-before : {Q : Type 0} (front back : List (Lane Q)) (e : Lane Q) → 0 < length back →
    slice_get (map queue_of (front ++ back)) (length front) ≡ Some (queue_in back 0 e)
high-before front back e some = first_behind front back ∙ first_before back e some

-- and elsewhere
rest_back : {Q : Type 0} (front back : List (Lane Q)) (y : Lane Q) (cpu : ℕ) → cpu ≢ length front →
    slice_get (map queue_of (front ++ set back 0 y)) cpu ≡ slice_get (map queue_of (front ++ back)) cpu
rest_back [] [] y cpu other = refl
rest_back [] (lane ∷ back) y zero other = absurd (other refl)
rest_back [] (lane ∷ back) y (suc cpu) other = refl
rest_back (lane ∷ front) back y zero other = refl
rest_back (lane ∷ front) back y (suc cpu) other = rest_back front back y cpu (λ e. other (ap suc e))

pub rest-set : {Q : Type 0} (front back : List (Lane Q)) (low : ℕ) (x y : Lane Q) (cpu : ℕ) → cpu ≢ low → cpu ≢ length front →
    slice_get (map queue_of (set front low x ++ set back 0 y)) cpu ≡ slice_get (map queue_of (front ++ back)) cpu
rest-set [] back low x y cpu one other = rest_back [] back y cpu other
rest-set (lane ∷ front) back zero x y zero one other = absurd (one refl)
rest-set (lane ∷ front) back zero x y (suc cpu) one other = rest_back front back y cpu (λ e. other (ap suc e))
rest-set (lane ∷ front) back (suc low) x y zero one other = refl
rest-set (lane ∷ front) back (suc low) x y (suc cpu) one other = rest-set front back low x y cpu (λ e. one (ap suc e)) (λ e. other (ap suc e))
