-- Leads: the lead as the code finds it, by what is kept of first tasks, is the model's lead.
use Rattle.std.proofs.Common.{◌≡◌, ℕ, ◌+◌, ◌-◌, ◌<◌, ◌≤◌, ◌^◌, Bool, true, false, cond, ltb, eqb, List, [], ◌∷◌, ◌++◌, map, length, inl, inr, refl, sym, ap, ◌∙◌, subst, arith}
use Rattle.std.specs.Prelude.{◌&&◌, ◌||◌, All, filter, IfSome, Option, Some, None}
use Rattle.std.specs.List.{fold, range_with_len}
use Rattle.std.specs.Option.{option_and_then}
use Rattle.std.proofs.lemmas.Bool.{cases_eq, cases_Bool, both_ways}
use Rattle.std.proofs.lemmas.Bool.Decides.{nat_tests}
use Rattle.cs_types.specs.Room.{RoomState, is_online, online_from}
use Rattle.cs_types.specs.Order.{class_of, foremost, outranks}
use Rattle.cs_types.specs.Queue.{rank_by}
use Rattle.cs_types.specs.Selection.{first_on, snapshot_of, lead_from}
use Rattle.cs_types.specs.Scenario.{IsPolicy}
use Rattle.cs_types.specs.declared.task.Policy.{Policy}
use Rattle.cs_types.specs.declared.task.Policy.TheVariants.{Stop}
use Rattle.cs_types.specs.declared.task.Task.{Task}
use Rattle.cs_laws.proofs.First.{outranks_is_order}
use Rattle.cs_types.proofs.Foremost.{foremost_reduce}
use Rattle.sibling_priority.specs.Offers.{IsFirst, class_of_first, rank_of_first, snapshot_of_first}
use Rattle.sibling_priority.proofs.Firsts.{outranks-offer_of}
use Rattle.core_pick.specs.Choice.{first_kept, kept_in, is_above, offered, lead_of}
use Rattle.core_pick.proofs.Choices.{All-firsts, first_home}

-- ---- the higher of two

module _ (snapshot : ℕ → ℕ) where
  -- the higher of two first tasks, the earlier where they tie
  abbrev pub higher_of : Option Task → Option Task → Option Task
  higher_of first other = cond (outranks snapshot other first) other first

  -- of three it does not matter which two are compared first
  higher_of-assoc : (a b c : Option Task) → higher_of (higher_of a b) c ≡ higher_of a (higher_of b c)
  higher_of-assoc a b c =
      let order = outranks_is_order snapshot in
      elim (cases_Bool (outranks snapshot b a)) [
        | inl above ↦ elim (cases_Bool (outranks snapshot c b)) [
          | inl top ↦
              let over : outranks snapshot c a ≡ true = elim (cases_Bool (outranks snapshot c a)) [
                | inl is ↦ is
                | inr not ↦ absurd (both_ways (outranks snapshot c b) (order.chain c a b not (order.one_way b a above)) top)
              ] in
              rw (above, top, over) refl
          | inr low ↦ rw (above, low, above) refl
        ]
        | inr below ↦ elim (cases_Bool (outranks snapshot c b)) [
          | inl top ↦ rw (below, top) refl
          | inr low ↦ rw (below, low, below, order.chain c b a low below) refl
        ]
      ]

  -- so a scan may begin anew and be compared at the end
  fold-higher_of : (a b : Option Task) (xs : List (Option Task)) → fold higher_of (higher_of a b) xs ≡ higher_of a (fold higher_of b xs)
  fold-higher_of a b [] = refl
  fold-higher_of a b (x ∷ xs) =
      ap (λ o. fold higher_of o xs) (higher_of-assoc a b x) ∙ fold-higher_of a (higher_of b x) xs

  fold-append : (a : Option Task) (xs ys : List (Option Task)) → fold higher_of a (xs ++ ys) ≡ fold higher_of (fold higher_of a xs) ys
  fold-append a [] ys = refl
  fold-append a (x ∷ xs) ys = fold-append (higher_of a x) xs ys

  -- a scan finds the foremost
  foremost-fold : (xs : List (Option Task)) → option_and_then (λ (first : Option Task). first) (foremost (outranks snapshot) xs) ≡ fold higher_of None xs
  foremost-fold [] = refl
  foremost-fold (x ∷ xs) =
      ap (option_and_then (λ (first : Option Task). first)) (foremost_reduce (outranks snapshot) (outranks_is_order snapshot) (x ∷ xs))
      ∙ ap (λ o. fold higher_of o xs) (begin x) where
        begin : (x : Option Task) → x ≡ higher_of None x
        begin None = refl
        begin (Some task) = refl

-- ---- the lead of some siblings

pub map-append : {X Y : Type 0} (f : X → Y) (xs ys : List X) → map f (xs ++ ys) ≡ map f xs ++ map f ys
map-append f [] ys = refl
map-append {Y = Y} f (x ∷ xs) ys = ap (λ (zs : List Y). f x ∷ zs) (map-append f xs ys)

module _ (room : RoomState) where
  abbrev higher : Option Task → Option Task → Option Task
  higher = higher_of (snapshot_of room)

  scan : (cpus : List ℕ) → lead_of room cpus ≡ fold higher None (map (offered room) cpus)
  scan cpus = foremost-fold (snapshot_of room) (map (offered room) cpus)

  -- of those in two parts
  pub lead_of-append : (some rest : List ℕ) → lead_of room (some ++ rest) ≡ higher (lead_of room some) (lead_of room rest)
  lead_of-append some rest =
      scan (some ++ rest)
      ∙ ap (fold higher None) (map-append (offered room) some rest)
      ∙ fold-append (snapshot_of room) None (map (offered room) some) (map (offered room) rest)
      ∙ fold-higher_of (snapshot_of room) (fold higher None (map (offered room) some)) None (map (offered room) rest)
      ∙ sym (λ i. higher (scan some i) (scan rest i))

  -- and of one alone
  pub lead_of-one : (cpu : ℕ) → lead_of room (cpu ∷ []) ≡ offered room cpu
  lead_of-one cpu = scan (cpu ∷ []) ∙ alone (offered room cpu) where
    alone : (x : Option Task) → higher None x ≡ x
    alone None = refl
    alone (Some task) = refl

  -- one that is offline puts up nothing
  online_alone : (lead : Option Task) (cpus : List ℕ) → fold higher lead (map (offered room) cpus) ≡ fold higher lead (map (first_on room) (filter (is_online room) cpus))
  online_alone lead [] = refl
  online_alone lead (cpu ∷ cpus) =
      by_test (is_online room cpu) (online_alone (higher lead (first_on room cpu)) cpus) (online_alone lead cpus) where
        by_test : (b : Bool) → fold higher (higher lead (first_on room cpu)) (map (offered room) cpus) ≡ fold higher (higher lead (first_on room cpu)) (map (first_on room) (filter (is_online room) cpus)) →
            fold higher lead (map (offered room) cpus) ≡ fold higher lead (map (first_on room) (filter (is_online room) cpus)) →
            fold higher (higher lead (cond b (first_on room cpu) None)) (map (offered room) cpus)
            ≡ fold higher lead (map (first_on room) (cond b (cpu ∷ filter (is_online room) cpus) (filter (is_online room) cpus)))
        by_test true is_on is_off = is_on
        by_test false is_on is_off = is_off

  pub lead_of-all : (cpu : ℕ) → lead_of room (range_with_len cpu (length room.siblings - cpu) ++ range_with_len 0 cpu) ≡ lead_from room cpu
  unfolding lead_from
  lead_of-all cpu =
      let all = range_with_len cpu (length room.siblings - cpu) ++ range_with_len 0 cpu in
      scan all ∙ online_alone None all ∙ sym (foremost-fold (snapshot_of room) (map (first_on room) (online_from room cpu)))

  -- it is one of their firsts
  module _ (P : Option Task → Type 0) (none : P None) (each : (cpu : ℕ) → P (first_on room cpu)) where
    pub of_offered : (cpu : ℕ) → P (offered room cpu)
    of_offered cpu = by_test (is_online room cpu) where
      by_test : (b : Bool) → P (cond b (first_on room cpu) None)
      by_test true = each cpu
      by_test false = none

    among : (cpus : List ℕ) (lead : Option Task) → P lead → P (fold higher lead (map (offered room) cpus))
    among [] lead is = is
    among (cpu ∷ cpus) lead is = among cpus (higher lead (offered room cpu)) (by_test (outranks (snapshot_of room) (offered room cpu) lead)) where
      by_test : (b : Bool) → P (cond b (offered room cpu) lead)
      by_test true = of_offered cpu
      by_test false = is

    pub of_lead : (cpus : List ℕ) → P (lead_of room cpus)
    of_lead cpus = subst P (sym (scan cpus)) (among cpus None none)

-- ---- what is kept of them

-- It does not matter on which side a snapshot stands.
by_places : (c d r q s t high : ℕ) → c ≤ 4 → d ≤ 4 → (c ≡ 0 → r ≡ 0) → (c ≡ 4 → r ≡ 0) → (d ≡ 0 → q ≡ 0) → (d ≡ 4 → q ≡ 0) → s < high → t < high →
    (ltb c d || ((eqb c 1 && eqb d 1) && ltb r q) || ((eqb c 2 && eqb d 2) && ltb r q) || ((eqb c 3 && eqb d 3) && ltb (r + t) (q + s)))
    ≡ (ltb c d || (eqb c d && ltb (cond (eqb c 3) (r + high - s) r) (cond (eqb d 3) (q + high - t) q)))
by_places c d r q s t high below inside stop idle stop_other idle_other low low_other =
    elim (cases_eq c 3) [
      | inl here ↦ elim (cases_eq d 3) [
        | inl there ↦ grind (arith, nat_tests)
        | inr differs ↦ grind (arith, nat_tests)
      ]
      | inr differs ↦ grind (arith, nat_tests)
    ]

-- a class and a rank in it, which is 0 where the class has but one
record IsRank (class rank : ℕ) : Type 0 where
  below : class ≤ 4
  stop : class ≡ 0 → rank ≡ 0
  idle : class ≡ 4 → rank ≡ 0

is_rank : (policy : Policy) (deadline vtime : ℕ) → IsRank (class_of policy) (rank_by policy deadline vtime)
is_rank Stop deadline vtime = record { below = omega arith; stop = λ is. refl; idle = λ is. refl }
is_rank policy deadline vtime = record { below = omega arith; stop = λ is. absurd (omega (arith, is)); idle = λ is. absurd (omega (arith, is)) }

rank_of : (first : Option Task) → IsRank (class_of_first first) (rank_of_first first)
rank_of None = record { below = omega arith; stop = λ is. refl; idle = λ is. refl }
rank_of (Some task) = is_rank task.spec.policy task.deadline task.vtime

-- a low time is below the number from which snapshots are taken
pub below_all : {n : ℕ} → n < 2 ^ 100 → n < 2 ^ 127
below_all low = omega (arith, low)

module _ (room : RoomState) (low : (cpu : ℕ) → snapshot_of room cpu < 2 ^ 100) where
  low_snapshot : (first : Option Task) → snapshot_of_first (snapshot_of room) first < 2 ^ 100
  low_snapshot None = omega arith
  low_snapshot (Some task) = low task.home

  -- so they stand in the order of the tasks
  above-kept_in : (one two : Option Task) → IsFirst one → IsFirst two → outranks (snapshot_of room) one two ≡ is_above (kept_in room one) (kept_in room two)
  above-kept_in one two is_one is_two =
      let first = rank_of one in
      let second = rank_of two in
      outranks-offer_of (snapshot_of room) 0 0 one two is_one is_two
      ∙ by_places (class_of_first one) (class_of_first two) (rank_of_first one) (rank_of_first two) (snapshot_of_first (snapshot_of room) one) (snapshot_of_first (snapshot_of room) two) (2 ^ 127)
      first.below second.below first.stop first.idle second.stop second.idle (below_all (low_snapshot one)) (below_all (low_snapshot two))

  pub higher-kept_in : (one two : Option Task) → IsFirst one → IsFirst two →
      cond (is_above (kept_in room two) (kept_in room one)) (kept_in room two) (kept_in room one) ≡ kept_in room (higher_of (snapshot_of room) one two)
  higher-kept_in one two is_one is_two =
      ap (λ b. cond b (kept_in room two) (kept_in room one)) (sym (above-kept_in two one is_two is_one)) ∙ by_test (outranks (snapshot_of room) two one) where
        by_test : (b : Bool) → cond b (kept_in room two) (kept_in room one) ≡ kept_in room (cond b two one)
        by_test true = refl
        by_test false = refl

-- what is kept of the first of a sibling is kept under that one's snapshot
pub kept_at_home : (room : RoomState) (cpu : ℕ) → first_kept (snapshot_of room cpu) (first_on room cpu) ≡ kept_in room (first_on room cpu)
kept_at_home room cpu = by_first (first_on room cpu) (first_home room cpu) where
  by_first : (first : Option Task) → IfSome first (λ task. task.home ≡ cpu) → first_kept (snapshot_of room cpu) first ≡ kept_in room first
  by_first None home = refl
  by_first (Some task) home = ap (λ (n : ℕ). first_kept (snapshot_of room n) (Some task)) (sym home)

-- a first keeps the limits of its policy
pub is_first : (room : RoomState) → All (λ task. IsPolicy task.spec.policy) room.tasks → (cpu : ℕ) → IsFirst (first_on room cpu)
is_first room policies cpu = All-firsts (λ task. IsPolicy task.spec.policy) room (cpu ∷ []) policies 0 None (omega arith)
