-- What the code chooses is the model's choice, and what it counts are the model's counts.
use Rattle.std.proofs.Common.{◌≡◌, ℕ, suc, ◌+◌, ◌<◌, ◌≤◌, Bool, true, false, cond, List, [], ◌∷◌, ◌++◌, map, length, get_or, refl, sym, ap, ◌∙◌, arith}
use Rattle.std.specs.Prelude.{◌||◌, ◌&&◌, ◌==◌, count_by, All, Option, Some, None, is_none, is_some, IfSome, not}
use Rattle.std.specs.List.{list_all, range_with_len, enumerate_from}
use Rattle.std.proofs.lemmas.List.{map-id}
use Rattle.std.proofs.lemmas.List.Sums.{sum_by_push, count_by-le-length}
use Rattle.std.proofs.lemmas.Bool.{cond-true, cond-false, eqb-true, and_parts}
use Rattle.std.proofs.lemmas.List.Elements.{filter_passes, All-map, All-filter, All-weaker}
use Rattle.std.proofs.lemmas.List.FromFn.{get_or-map-range_with_len, length-range_with_len, length-map-range_with_len}
use Rattle.cs_types.specs.Room.{RoomState, is_online, online, queued_on}
use Rattle.cs_types.specs.Order.{fair_class, idle_class, class_of, first_of, goes_before}
use Rattle.cs_types.specs.Selection.{first_on, cookie_of, pid_of, is_fair_task, queued_with, choice, is_forced, forced_count, occupation_of}
use Rattle.cs_types.specs.declared.task.Task.{Task}
use Rattle.cs_types.specs.declared.task.Policy.{Policy}
use Rattle.cs_types.specs.declared.task.Policy.TheVariants.{Stop}
use Rattle.sibling_priority.specs.Offers.{class_of_first}
use Rattle.core_lanes.specs.declared.lane.Lane.{Lane}
use Rattle.core_pick.specs.declared.choice.Choice.{Choice}
use Rattle.core_pick.specs.declared.choice.Counts.{Counts}
use Rattle.core_pick.specs.Choice.{kept_in_selection, run_of, choice_of, choices_of, gets_none, gets_task, IsCounted}
use Rattle.core_lanes.proofs.Lists.{count_at, range_more, All-find}

-- what is kept of a task tells whether there is one, which, and whether it is fair
no_idle : (policy : Policy) → (class_of policy == idle_class) ≡ false
no_idle Stop = refl
no_idle policy = refl

pub is_idle : (first : Option Task) → (class_of_first first == idle_class) ≡ is_none first
is_idle None = refl
is_idle (Some task) = no_idle task.spec.policy

pub run_of-choice_of : (first : Option Task) → run_of (choice_of first) ≡ pid_of first
run_of-choice_of None = refl
run_of-choice_of (Some task) = ap (λ b. cond b None (Some task.spec.pid)) (no_idle task.spec.policy)

pub is_fair-choice_of : (first : Option Task) → (class_of_first first == fair_class) ≡ is_fair_task first
is_fair-choice_of None = refl
is_fair-choice_of (Some task) = refl

-- ---- the choice

-- whether the first of a sibling is idle or has the core cookie
abbrev pub is_kept : RoomState → ℕ → ℕ → Bool
is_kept room core cpu = is_none (first_on room cpu) || (cookie_of (first_on room cpu) == core)

-- such a first is the choice
pub choice_kept : (room : RoomState) (core cpu : ℕ) → is_kept room core cpu ≡ true → choice room core cpu ≡ first_on room cpu
unfolding choice
choice_kept room core cpu kept = cond-true (is_kept room core cpu) (first_on room cpu) (cond (core == 0) None (first_of (queued_with room core cpu))) kept

-- another makes way for what the search gives
pub choice_searched : (room : RoomState) (core cpu : ℕ) → is_kept room core cpu ≡ false →
    choice room core cpu ≡ cond (core == 0) None (first_of (queued_with room core cpu))
unfolding choice
choice_searched room core cpu other = cond-false (is_kept room core cpu) (first_on room cpu) (cond (core == 0) None (first_of (queued_with room core cpu))) other

-- ---- one sibling

-- one whose first is idle gets that
pub nothing_there : (room : RoomState) (core cpu : ℕ) → is_none (first_on room cpu) ≡ true → choice room core cpu ≡ first_on room cpu
nothing_there room core cpu none = choice_kept room core cpu (ap (λ b. b || (cookie_of (first_on room cpu) == core)) none)

-- how it is counted
module _ (room : RoomState) (core cpu : ℕ) (counts now : Counts) where
  pub counted_nothing : is_none (first_on room cpu) ≡ true → IsCounted room core cpu counts counts
  counted_nothing none =
      let both = go (is_online room cpu) (first_on room cpu) (choice room core cpu) none (nothing_there room core cpu none) in
      record { forced = omega (arith, ap {B = ℕ} (λ b. cond b 1 0) both.0); occupation = omega (arith, ap {B = ℕ} (λ b. cond b 1 0) both.1) } where
        go : (online : Bool) (first got : Option Task) → is_none first ≡ true → got ≡ first → ((online && (is_none got && is_some first)) ≡ false) × ((online && is_some got) ≡ false)
        go false first got is same = (refl, refl)
        go true None got is same = (ap (λ (n : Option Task). is_none n && false) same, ap is_some same)
        go true (Some task) got is same = absurd cc

  pub counted_forced : is_none (first_on room cpu) ≡ false → is_none (choice room core cpu) ≡ true →
      now ≡ record counts { forced = counts.forced + cond (is_online room cpu) 1 0 } → IsCounted room core cpu counts now
  counted_forced some none is =
      let both = go (is_online room cpu) (first_on room cpu) (choice room core cpu) some none in
      record {
        forced = ap (λ (n : Counts). n.forced) is ∙ ap (λ b. counts.forced + cond b 1 0) (sym both.0);
        occupation = omega (arith, ap (λ (n : Counts). n.occupation) is, ap {B = ℕ} (λ b. cond b 1 0) both.1);
      } where
        go : (b : Bool) (first got : Option Task) → is_none first ≡ false → is_none got ≡ true → ((b && (is_none got && is_some first)) ≡ b) × ((b && is_some got) ≡ false)
        go b None got some none = absurd cc
        go b (Some task) (Some other) some none = absurd cc
        go false (Some task) None some none = (refl, refl)
        go true (Some task) None some none = (refl, refl)

  pub counted_task : is_none (choice room core cpu) ≡ false →
      now ≡ record counts { occupation = counts.occupation + cond (is_online room cpu) 1 0 } → IsCounted room core cpu counts now
  counted_task some is =
      let both = go (is_online room cpu) (first_on room cpu) (choice room core cpu) some in
      record {
        forced = omega (arith, ap (λ (n : Counts). n.forced) is, ap {B = ℕ} (λ b. cond b 1 0) both.0);
        occupation = ap (λ (n : Counts). n.occupation) is ∙ ap (λ b. counts.occupation + cond b 1 0) (sym both.1);
      } where
        go : (b : Bool) (first got : Option Task) → is_none got ≡ false → ((b && (is_none got && is_some first)) ≡ false) × ((b && is_some got) ≡ b)
        go b first None some = absurd cc
        go false first (Some task) some = (refl, refl)
        go true first (Some task) some = (refl, refl)

-- ---- all siblings

-- what each of so many siblings puts up or gets stands at its number
pub at_number : (f : ℕ → Choice) (count cpu : ℕ) (d : Choice) → cpu < count → get_or (map f (range_with_len 0 count)) cpu d ≡ f cpu
at_number f count cpu d below = get_or-map-range_with_len f 0 count cpu cpu d below (omega arith)

pub choices_as_many : (room : RoomState) (core : ℕ) (choices : List Choice) → choices ≡ choices_of room core → length choices ≡ length room.siblings
choices_as_many room core choices are = ap length are ∙ length-map-range_with_len (λ cpu. choice_of (choice room core cpu)) 0 (length room.siblings)

-- by numbers alone
pub map-enumerate_from : {X : Type 0} (f : ℕ → Choice) (a : ℕ) (xs : List X) → map (λ (numbered : ℕ × X). f numbered.0) (enumerate_from a xs) ≡ map f (range_with_len a (length xs))
map-enumerate_from f a [] = refl
map-enumerate_from f a (x ∷ xs) = ap (λ (cs : List Choice). f a ∷ cs) (map-enumerate_from f (a + 1) xs)

-- a count, with one sibling more
pub count_more : (p : ℕ → Bool) (cpu : ℕ) → count_by p (range_with_len 0 (cpu + 1)) ≡ count_by p (range_with_len 0 cpu) + cond (p cpu) 1 0
count_more p cpu =
    let next : cpu + 1 ≡ suc cpu = omega arith in
    let last : 0 + cpu ≡ cpu = omega arith in
    ap (λ n. count_by p (range_with_len 0 n)) next ∙ ap (count_by p) (range_more 0 cpu ∙ ap (λ n. range_with_len 0 cpu ++ n ∷ []) last)
    ∙ sum_by_push (λ n. cond (p n) 1 0) (range_with_len 0 cpu) cpu

-- it is small
pub few_counted : (p : ℕ → Bool) (cpu : ℕ) → count_by p (range_with_len 0 cpu) ≤ cpu
few_counted p cpu = omega (arith, count_by-le-length p (range_with_len 0 cpu), length-range_with_len 0 cpu)

-- the counts of all are the model's
module _ (room : RoomState) (core : ℕ) where
  count_at_all : (q p : ℕ → Bool) → ((cpu : ℕ) → q cpu ≡ (is_online room cpu && p cpu)) → count_by q (range_with_len 0 (length room.siblings)) ≡ count_by p (online room)
  count_at_all q p same =
      ap (count_by q) (sym (map-id (range_with_len 0 (length room.siblings)))) ∙ count_at (λ cpu. cpu) q (is_online room) p (range_with_len 0 (length room.siblings)) same

  pub all_forced : count_by (gets_none room core) (range_with_len 0 (length room.siblings)) ≡ forced_count room core
  all_forced = count_at_all (gets_none room core) (is_forced room core) (λ cpu. refl)

  pub all_occupied : count_by (gets_task room core) (range_with_len 0 (length room.siblings)) ≡ occupation_of room core
  all_occupied = count_at_all (gets_task room core) (λ cpu. is_some (choice room core cpu)) (λ cpu. refl)

-- ---- the firsts

-- each first is a task of the room
pub All-firsts : (P : Task → Type 0) (room : RoomState) (cpus : List ℕ) → All P room.tasks → All (λ first. IfSome first P) (map (first_on room) cpus)
All-firsts P room cpus all =
    All-map (λ (first : Option Task). IfSome first P) (first_on room) cpus (λ k d lt.
    All-find P (λ task. list_all (λ other. not (goes_before other task)) (queued_on room (get_or cpus k d))) (queued_on room (get_or cpus k d))
    (All-filter (λ task. task.queued && (task.home == get_or cpus k d)) P room.tasks all))

-- and at home on its sibling
pub first_home : (room : RoomState) (cpu : ℕ) → IfSome (first_on room cpu) (λ task. task.home ≡ cpu)
first_home room cpu =
    let on : Task → Bool = λ task. task.queued && (task.home == cpu) in
    All-find (λ task. task.home ≡ cpu) (λ task. list_all (λ other. not (goes_before other task)) (queued_on room cpu)) (queued_on room cpu)
    (All-weaker (λ task. on task ≡ true) (λ task. task.home ≡ cpu) (λ task is. eqb-true task.home cpu (and_parts task.queued (task.home == cpu) is).1) (queued_on room cpu)
    (filter_passes on room.tasks))

-- ---- what siblings keep

-- what maps apart is mapped apart
map_twice : {X Y Z : Type 0} (f : Y → Z) (g : X → Y) (xs : List X) → map f (map g xs) ≡ map (λ x. f (g x)) xs
map_twice f g [] = refl
map_twice {Z = Z} f g (x ∷ xs) = ap (λ (zs : List Z). f (g x) ∷ zs) (map_twice f g xs)

module _ {Q : Type 0} (new old : List (Lane Q)) (own : map kept_in_selection new ≡ map kept_in_selection old) where
  pub numbers_of_own : map (λ lane. lane.number) new ≡ map (λ lane. lane.number) old
  numbers_of_own = sym (map_twice (λ (one : ℕ × Q). one.0) kept_in_selection new) ∙ ap (map (λ (one : ℕ × Q). one.0)) own ∙ map_twice (λ (one : ℕ × Q). one.0) kept_in_selection old

  pub queues_of_own : map (λ lane. lane.queue) new ≡ map (λ lane. lane.queue) old
  queues_of_own = sym (map_twice (λ (one : ℕ × Q). one.1) kept_in_selection new) ∙ ap (map (λ (one : ℕ × Q). one.1)) own ∙ map_twice (λ (one : ℕ × Q). one.1) kept_in_selection old
