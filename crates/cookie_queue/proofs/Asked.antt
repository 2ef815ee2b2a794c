-- Asked: the first of those with a cookie, as a question of the tasks that a queue holds.
use Rattle.std.proofs.Common.{◌≡◌, ◌≢◌, ℕ, ◌≤◌, Bool, true, false, cond, not, List, [], ◌∷◌, map, Option, None, Some, refl, sym, ap, ◌∙◌}
use Rattle.std.specs.Prelude.{◌==◌, ◌&&◌, find, filter, All}
use Rattle.std.specs.List.{AllByRecursion}
use Rattle.std.specs.Option.{option_map}
use Rattle.std.specs.Cmp.{tied_itself, nat_cmp_total}
use Rattle.std.specs.Ordering.{ordering_then, nat_cmp, is_lt}
use Rattle.std.specs.declared.cmp.Ordering.{Ordering}
use Rattle.std.specs.FinMap.{entries}
use Rattle.std.proofs.lemmas.Bool.{ne_eqb, eqb-true, and_parts}
use Rattle.std.proofs.lemmas.List.Elements.{recursion_from_All}
use Rattle.std.proofs.ByRecursion.{all_kept_by, kept_by_passes}
use Rattle.cs_types.proofs.Lists.{each_both}
use Rattle.cs_types.specs.declared.task.Task.{Task}
use Rattle.cs_types.specs.declared.queue.Queued.{Queued}
use Rattle.cs_types.specs.Order.{priority_of, goes_before, first_of, foremost}
use Rattle.cs_types.specs.Queue.{seat_cmp, Spot, Spots, seat_of, spot_of, queued_in, queued_of, first_with, next_with}
use Rattle.cs_types.proofs.Queues.{spot_total, spot_cmp-IsAntisymmetric, precedes, foremost-map, foremost_alike, goes_before-seats}
use Rattle.cookie_queue.specs.Spotted.{has_cookie, spotted}
use Rattle.cookie_queue.proofs.Found.{found-from_entries}

-- some of what a list stands for, and of these what passes, are what it has of another test
module _ {X Y Z : Type 0} (P : X → Type 0) (g : X → Y) (some : Y → Bool) (f : Y → Z) (pass : Z → Bool) (q : X → Bool) (alike : (x : X) → P x → (some (g x) && pass (f (g x))) ≡ q x) where
  kept_as : (xs : List X) → AllByRecursion P xs → filter pass (map f (filter some (map g xs))) ≡ map (λ x. f (g x)) (filter q xs)
  kept_as [] all = refl
  kept_as (x ∷ xs) all =
      let rest = filter pass (map f (filter some (map g xs))) in
      (elim (some (g x)) as (λ b. filter pass (map f (cond b (g x ∷ filter some (map g xs)) (filter some (map g xs)))) ≡ cond (b && pass (f (g x))) (f (g x) ∷ rest) rest) [
        | true ↦ refl
        | false ↦ refl
      ])
      ∙ ap (λ b. cond b (f (g x) ∷ rest) rest) (alike x all.0)
      ∙ (elim (q x) as (λ b. cond b (f (g x) ∷ rest) rest ≡ map (λ y. f (g y)) (cond b (x ∷ filter q xs) (filter q xs))) [
        | true ↦ ap (λ (zs : List Z). f (g x) ∷ zs) (kept_as xs all.1)
        | false ↦ kept_as xs all.1
      ])

pub kept_by : {X : Type 0} (P : X → Type 0) (p : X → Bool) (xs : List X) → AllByRecursion P xs → AllByRecursion (λ x. P x × (p x ≡ true)) (filter p xs)
kept_by P p xs all = each_both P (λ x. p x ≡ true) _ (filter p xs) (λ x has pass. (has, pass)) (all_kept_by p P xs all) (kept_by_passes p xs)

-- a task has no greater priority than 99
abbrev pub IsLow : Task → Type 0
IsLow task = priority_of task.spec.policy ≤ 99

-- a task by its spot
abbrev at_spot : Task → Spot × ℕ
at_spot task = (spot_of (queued_of task), task.spec.pid)

-- two tasks of one cookie stand as their seats
spots_alike : (cookie : ℕ) (a b : Task) → a.cookie ≡ cookie → b.cookie ≡ cookie → IsLow a → IsLow b →
    precedes spot_total (at_spot a) (at_spot b) ≡ goes_before a b
spots_alike cookie a b of_a of_b low_a low_b =
    ap (λ (r : Ordering). is_lt (ordering_then r (seat_cmp (seat_of (queued_of a)) (seat_of (queued_of b)))))
    ((λ i. nat_cmp (of_a i) (of_b i)) ∙ tied_itself nat_cmp_total cookie)
    ∙ goes_before-seats a b low_a low_b

-- a task that passes a test which gives it a cookie has one
with_some : (task : Task) (cookie : ℕ) (test : Bool) → cookie ≢ 0 → (test ≡ true → task.cookie ≡ cookie) → (not (task.cookie == 0) && test) ≡ test
with_some task cookie true some is = ap (λ b. not b && true) (ne_eqb task.cookie 0 (λ none. some (sym (is refl) ∙ none)))
with_some task cookie false some is =
    elim (not (task.cookie == 0)) as (λ b. (b && false) ≡ false) [
      | true ↦ refl
      | false ↦ refl
    ]

module _ (tasks : List Task) (spots : Spots) (same : spots ≡ spotted (map queued_of tasks)) (low : All IsLow tasks) where
  -- the first of those with one cookie whose spots pass
  first_spot : (cookie : ℕ) (p : Spot → Bool) (q : Task → Bool) → ((task : Task) → IsLow task → (has_cookie (queued_of task) && p (spot_of (queued_of task))) ≡ q task) →
      ((task : Task) → q task ≡ true → task.cookie ≡ cookie) →
      option_map (λ (entry : Spot × ℕ). queued_in entry.0 entry.1) (find (λ entry. p entry.0) (entries spots)) ≡ option_map queued_of (first_of (filter q tasks))
  first_spot cookie p q alike own =
      let each = recursion_from_All IsLow tasks low in
      ap (option_map (λ (entry : Spot × ℕ). queued_in entry.0 entry.1))
      (ap (λ (members : Spots). find (λ entry. p entry.0) (entries members)) same
      ∙ found-from_entries spot_total spot_cmp-IsAntisymmetric p (map (λ (t : Queued). (spot_of t, t.pid)) (filter has_cookie (map queued_of tasks)))
      ∙ ap (foremost (precedes spot_total)) (kept_as IsLow queued_of has_cookie (λ (t : Queued). (spot_of t, t.pid)) (λ entry. p entry.0) q alike tasks each)
      ∙ foremost-map (precedes spot_total) at_spot (filter q tasks))
      ∙ told (foremost (λ a b. precedes spot_total (at_spot a) (at_spot b)) (filter q tasks))
      ∙ ap (option_map queued_of)
      (foremost_alike (λ t. IsLow t × (q t ≡ true)) _ goes_before (λ a b of_a of_b. spots_alike cookie a b (own a of_a.1) (own b of_b.1) of_a.0 of_b.0) (filter q tasks) (kept_by IsLow q tasks each)) where
        told : (first : Option Task) → option_map (λ (entry : Spot × ℕ). queued_in entry.0 entry.1) (option_map at_spot first) ≡ option_map queued_of first
        told None = refl
        told (Some task) = refl

  -- the first with a cookie
  pub first_with-spotted : (cookie : ℕ) → cookie ≢ 0 → first_with spots cookie ≡ option_map queued_of (first_of (filter (λ t. t.cookie == cookie) tasks))
  first_with-spotted cookie some =
      first_spot cookie (λ spot. spot.0 == cookie) (λ t. t.cookie == cookie) (λ t low_t. with_some t cookie (t.cookie == cookie) some (eqb-true t.cookie cookie)) (λ t. eqb-true t.cookie cookie)

  -- the first with the cookie of a task that stands behind it
  pub next_with-spotted : (queued : Queued) (task : Task) → queued ≡ queued_of task → IsLow task → task.cookie ≢ 0 →
      next_with spots queued ≡ option_map queued_of (first_of (filter (λ t. (t.cookie == task.cookie) && goes_before task t) tasks))
  next_with-spotted queued task is low_task some =
      let own : (t : Task) → ((t.cookie == task.cookie) && goes_before task t) ≡ true → t.cookie ≡ task.cookie = λ t both. eqb-true t.cookie task.cookie (and_parts _ _ both).0 in
      ap (next_with spots) is
      ∙ first_spot task.cookie (λ spot. spot.0 == task.cookie && is_lt (seat_cmp (seat_of (queued_of task)) spot.1)) (λ t. (t.cookie == task.cookie) && goes_before task t)
      (λ t low_t.
      ap (λ b. not (t.cookie == 0) && ((t.cookie == task.cookie) && b)) (goes_before-seats task t low_task low_t)
      ∙ with_some t task.cookie ((t.cookie == task.cookie) && goes_before task t) some (own t))
      own
