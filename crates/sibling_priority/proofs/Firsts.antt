-- The offers of first tasks stand in the order of those tasks, and what a caller of `lead` has to know of them.
use Rattle.std.proofs.Common.{◌≡◌, ℕ, ◌+◌, ◌<◌, true, false, ltb, List, [], ◌∷◌, length, map, get_or, refl, sym, ap, ◌∙◌, subst, arith, Option, Some, None}
use Rattle.std.proofs.Math.ListN.{get_or-map}
use Rattle.std.proofs.lemmas.List.{length-map}
use Rattle.std.proofs.lemmas.Bool.Decides.{nat_tests}
use Rattle.std.specs.List.{IsFirstBest}
use Rattle.cs_types.specs.declared.task.Task.{Task}
use Rattle.cs_types.specs.declared.task.Policy.{Policy}
use Rattle.cs_types.specs.declared.task.Policy.TheVariants.{Stop, Deadline, Fifo, Rr, Fair}
use Rattle.cs_types.specs.Scenario.{IsPolicy}
use Rattle.cs_types.specs.Order.{deadline_class, real_time_class, fair_class, idle_class, class_of, priority_of, outranks, foremost}
use Rattle.cs_types.specs.Queue.{rank_by}
use Rattle.sibling_priority.specs.declared.offer.Offer.{Offer}
use Rattle.sibling_priority.specs.Offers.{class_of_first, rank_of_first, snapshot_of_first, offer_of, is_higher_offer, IsFirst, AreOffersOf}
use Rattle.sibling_priority.proofs.Ranks.{by_class, higher_by}
use Rattle.sibling_priority.proofs.Leads.{foremost-first_best}

-- ---- the order of two first tasks

-- what the class and the rank of a task say of its deadline, its priority and its virtual time
record IsRank (class rank deadline priority vtime : ℕ) : Type 0 where
  task : class < idle_class
  by_deadline : class ≡ deadline_class → rank ≡ deadline
  by_priority : class ≡ real_time_class → rank + priority ≡ 99
  by_vtime : class ≡ fair_class → rank ≡ vtime

is_rank : (policy : Policy) (task : Task) → IsPolicy policy →
    IsRank (class_of policy) (rank_by policy task.deadline task.vtime) task.deadline (priority_of policy) task.vtime
is_rank Stop task h = record { task = omega arith; by_deadline = λ e. omega arith; by_priority = λ e. omega arith; by_vtime = λ e. omega arith }
is_rank (Deadline relative) task h = record { task = omega arith; by_deadline = λ e. omega arith; by_priority = λ e. omega arith; by_vtime = λ e. omega arith }
is_rank (Fifo priority) task h = record { task = omega arith; by_deadline = λ e. omega arith; by_priority = λ e. omega arith; by_vtime = λ e. omega arith }
is_rank (Rr priority) task h = record { task = omega arith; by_deadline = λ e. omega arith; by_priority = λ e. omega arith; by_vtime = λ e. omega arith }
is_rank (Fair nice) task h = record { task = omega arith; by_deadline = λ e. omega arith; by_priority = λ e. omega arith; by_vtime = λ e. omega arith }

-- the order of two tasks by their numbers is that by their ranks
by_rank : (c d r s e f p q v w x y : ℕ) → IsRank c r e p v → IsRank d s f q w →
    by_class c d (ltb e f) (ltb q p) (ltb (v + y) (w + x)) ≡ higher_by c d r s x y
by_rank c d r s e f p q v w x y one other = grind (arith, nat_tests)

idle_is_lower : (d s x y : ℕ) → d < idle_class → false ≡ higher_by idle_class d 0 s x y
idle_is_lower d s x y h = grind (arith, nat_tests)

task_is_higher : (c r x y : ℕ) → c < idle_class → true ≡ higher_by c idle_class r 0 x y
task_is_higher c r x y h = grind (arith, nat_tests)

-- the order of two first tasks is that by their classes, their ranks and the snapshots of their homes
by_class_and_rank : (snapshot : ℕ → ℕ) (a b : Option Task) → IsFirst a → IsFirst b →
    outranks snapshot a b ≡ higher_by (class_of_first a) (class_of_first b) (rank_of_first a) (rank_of_first b) (snapshot_of_first snapshot a) (snapshot_of_first snapshot b)
by_class_and_rank snapshot None None h k = refl
by_class_and_rank snapshot None (Some b) h k =
    idle_is_lower (class_of b.spec.policy) (rank_by b.spec.policy b.deadline b.vtime) 0 (snapshot b.home) (is_rank b.spec.policy b k).task
by_class_and_rank snapshot (Some a) None h k =
    task_is_higher (class_of a.spec.policy) (rank_by a.spec.policy a.deadline a.vtime) (snapshot a.home) 0 (is_rank a.spec.policy a h).task
by_class_and_rank snapshot (Some a) (Some b) h k =
    by_rank (class_of a.spec.policy) (class_of b.spec.policy) (rank_by a.spec.policy a.deadline a.vtime) (rank_by b.spec.policy b.deadline b.vtime) a.deadline b.deadline
    (priority_of a.spec.policy) (priority_of b.spec.policy) a.vtime b.vtime (snapshot a.home) (snapshot b.home)
    (is_rank a.spec.policy a h) (is_rank b.spec.policy b k)

-- It is the order of their offers, from whatever siblings.
pub outranks-offer_of : (snapshot : ℕ → ℕ) (i j : ℕ) (a b : Option Task) → IsFirst a → IsFirst b →
    outranks snapshot a b ≡ is_higher_offer (offer_of snapshot i a) (offer_of snapshot j b)
outranks-offer_of snapshot i j a b h k = by_class_and_rank snapshot a b h k

-- ---- the order of lists of them

module _ (snapshot : ℕ → ℕ) (firsts : List (Option Task)) (offers : List Offer) (are : AreOffersOf snapshot firsts offers) where
  -- Where a read past the end of the firsts gives d, one past the end of the offers gives what d offers.
  class_at : (k : ℕ) (d : Option Task) → class_of_first (get_or firsts k d) ≡ (get_or offers k (offer_of snapshot 0 d)).class
  class_at k d =
      sym (get_or-map class_of_first firsts k d)
      ∙ ap (λ (classes : List ℕ). get_or classes k (class_of_first d)) (sym are.classes)
      ∙ get_or-map (λ (offer : Offer). offer.class) offers k (offer_of snapshot 0 d)

  rank_at : (k : ℕ) (d : Option Task) → rank_of_first (get_or firsts k d) ≡ (get_or offers k (offer_of snapshot 0 d)).rank
  rank_at k d =
      sym (get_or-map rank_of_first firsts k d)
      ∙ ap (λ (ranks : List ℕ). get_or ranks k (rank_of_first d)) (sym are.ranks)
      ∙ get_or-map (λ (offer : Offer). offer.rank) offers k (offer_of snapshot 0 d)

  snapshot_at : (k : ℕ) (d : Option Task) → snapshot_of_first snapshot (get_or firsts k d) ≡ (get_or offers k (offer_of snapshot 0 d)).snapshot
  snapshot_at k d =
      sym (get_or-map (snapshot_of_first snapshot) firsts k d)
      ∙ ap (λ (snapshots : List ℕ). get_or snapshots k (snapshot_of_first snapshot d)) (sym are.snapshots)
      ∙ get_or-map (λ (offer : Offer). offer.snapshot) offers k (offer_of snapshot 0 d)

  same_length : length offers ≡ length firsts
  same_length =
      sym (length-map offers (λ (offer : Offer). offer.class)) ∙ ap length are.classes ∙ length-map firsts class_of_first

  order_at : (j k : ℕ) (d : Option Task) → j < length firsts → k < length firsts →
      outranks snapshot (get_or firsts j d) (get_or firsts k d)
      ≡ is_higher_offer (get_or offers j (offer_of snapshot 0 d)) (get_or offers k (offer_of snapshot 0 d))
  order_at j k d l m =
      by_class_and_rank snapshot (get_or firsts j d) (get_or firsts k d) (are.priorities j d l) (are.priorities k d m)
      ∙ (cc (class_at j d, class_at k d, rank_at j d, rank_at k d, snapshot_at j d, snapshot_at k d))

  best_first : (n : ℕ) → IsFirstBest is_higher_offer offers (length offers) n → IsFirstBest (outranks snapshot) firsts (length firsts) n
  best_first n best =
      let within : n < length firsts = subst (λ (m : ℕ). n < m) same_length best.0 in (
        within,
        λ k d l. order_at k n d l within ∙ best.1 k (offer_of snapshot 0 d) (subst (λ (m : ℕ). k < m) (sym same_length) l),
        λ k d l. order_at n k d within (omega arith) ∙ best.2 k (offer_of snapshot 0 d) l,
      )

  -- The lead of the offers is at the index of the lead of the first tasks.
  pub foremost-offers : (n : ℕ) → IsFirstBest is_higher_offer offers (length offers) n →
      foremost (outranks snapshot) firsts ≡ Some (get_or firsts n None)
  foremost-offers n best = foremost-first_best (outranks snapshot) firsts n None (best_first n best)

-- The offers of two first tasks stand in the order of those tasks.
pub order_of_two : (snapshot : ℕ → ℕ) (first second : Option Task) (a b : Offer) → AreOffersOf snapshot (first ∷ second ∷ []) (a ∷ b ∷ []) →
    is_higher_offer a b ≡ outranks snapshot first second
order_of_two snapshot first second a b are = sym (order_at snapshot (first ∷ second ∷ []) (a ∷ b ∷ []) are 0 1 None (omega arith) (omega arith))

-- the numbers of two lists that come of the same things
map_map_alike : {X Y Z : Type 0} (f : Y → ℕ) (g : Z → ℕ) (y : X → Y) (z : X → Z) → ((x : X) → f (y x) ≡ g (z x)) → (xs : List X) →
    map f (map y xs) ≡ map g (map z xs)
map_map_alike f g y z alike [] = refl
map_map_alike f g y z alike (x ∷ xs) = rw (alike x, map_map_alike f g y z alike xs) refl
