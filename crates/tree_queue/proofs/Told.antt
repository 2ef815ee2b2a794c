-- Told: as many tasks as a sibling has, with rising stamps, are its tasks.
use Rattle.std.proofs.Common.{◌≡◌, ◌≢◌, ℕ, zero, suc, ◌+◌, ◌<◌, ◌≤◌, Bool, true, false, cond, ltb, eqb, List, [], ◌∷◌, ◌++◌, Some, map, length, get_or, refl, sym, ap, ◌∙◌, subst, append_assoc, arith, le-ltb}
use Rattle.std.specs.Prelude.{find, Contains}
use Rattle.std.specs.List.{AllByRecursion, remove}
use Rattle.std.specs.List.Sorted.{IsPermutation, IsSortedByKey}
use Rattle.std.specs.Ordering.{nat_cmp, is_lt}
use Rattle.std.specs.declared.cmp.Ordering.TheVariants.{Less, Equal, Greater}
use Rattle.std.proofs.lemmas.List.{length-map, append-nil, map-append, get_or-map}
use Rattle.std.proofs.lemmas.List.Elements.{All-contains_itself, recursion_from_All}
use Rattle.std.proofs.lemmas.List.Sorted.{IsPermutation-refl, IsPermutation-trans, IsPermutation-remove, IsPermutation-cons, Contains-permutation, length_permutation}
use Rattle.std.proofs.lemmas.Map.Made.{Contains-tail}
use Rattle.std.proofs.ByRecursion.{All-push, All-weaker}
use Rattle.cs_types.specs.declared.task.Task.{Task}
use Rattle.cs_types.specs.Room.{has_pid}
use Rattle.cs_types.proofs.Filtered.{Contains-filter, each_found}
use Rattle.core_lanes.specs.Queued.{queued_among, mover_of, AreTold}
use Rattle.core_lanes.proofs.Queues.{is_on}
use Rattle.tree_queue.specs.Arrivals.{AreRising, AreAmong, AreBelow}

-- ---- one more

-- a task with a greater stamp than each comes behind them
pub rising_more : (movers : List (ℕ × ℕ)) (mover : ℕ × ℕ) → AreRising movers → AllByRecursion (λ (other : ℕ × ℕ). other.0 < mover.0) movers → AreRising (movers ++ mover ∷ [])
rising_more [] mover rising below = (tt, tt)
rising_more (first ∷ movers) mover rising below =
    (All-push (λ (other : ℕ × ℕ). first.0 < other.0) movers mover rising.0 below.0, rising_more movers mover rising.1 below.1)

pub none_below : (tasks : List (ℕ × ℕ)) (above : ℕ) → AreBelow tasks above []
none_below tasks above = record { among = record { movers = []; there = tt; rising = tt; are = refl }; below = tt }

-- one more of the tasks is told, whose stamp is not smaller than that
pub below_more : (tasks : List (ℕ × ℕ)) (above next : ℕ) (mover : ℕ × ℕ) (pids : List ℕ) → AreBelow tasks above pids → Contains tasks mover →
    next ≡ mover.0 + 1 → above < next → AreBelow tasks next (pids ++ mover.1 ∷ [])
below_more tasks above next mover pids was there next_is less =
    let movers = was.among.movers in
    let lower = All-weaker (λ (other : ℕ × ℕ). other.0 < above) (λ (other : ℕ × ℕ). other.0 < mover.0)
    (λ other smaller. omega (arith, smaller, next_is, less)) movers was.below in
    record {
      among = record {
        movers = movers ++ mover ∷ [];
        there = All-push (Contains tasks) movers mover was.among.there there;
        rising = rising_more movers mover was.among.rising lower;
        are = ap (λ (pids : List ℕ). pids ++ mover.1 ∷ []) was.among.are ∙ sym (map-append (λ (other : ℕ × ℕ). other.1) movers (mover ∷ []));
      };
      below = All-push (λ (other : ℕ × ℕ). other.0 < next) movers mover
          (All-weaker (λ (other : ℕ × ℕ). other.0 < mover.0) (λ (other : ℕ × ℕ). other.0 < next) (λ other smaller. omega (arith, smaller, next_is)) movers lower)
          (omega (arith, next_is));
    }

-- stamps that are below one are below any greater one
pub below_later : (tasks : List (ℕ × ℕ)) (above next : ℕ) (pids : List ℕ) → above ≤ next → AreBelow tasks above pids → AreBelow tasks next pids
below_later tasks above next pids le was = record {
  among = was.among;
  below = All-weaker (λ (mover : ℕ × ℕ). mover.0 < above) (λ (mover : ℕ × ℕ). mover.0 < next) (λ mover smaller. omega (arith, smaller, le)) was.among.movers was.below;
}

-- tasks with stamps in a row come behind them
pub below_run : (tasks : List (ℕ × ℕ)) (base : ℕ) (run pids : List ℕ) → AreBelow tasks base pids →
    ((place : ℕ) → place < length run → Contains tasks (base + place, get_or run place 0)) → AreBelow tasks (base + length run) (pids ++ run)
below_run tasks base [] pids was there =
    let none : base ≡ base + length {A = ℕ} [] = omega arith in
    subst (λ above. AreBelow tasks above (pids ++ [])) none (subst (AreBelow tasks base) (sym (append-nil pids)) was)
below_run tasks base (pid ∷ run) pids was there =
    let first : base + 0 ≡ base = omega arith in
    let one = below_more tasks base (base + 1) (base, pid) pids was (subst (λ stamp. Contains tasks (stamp, pid)) first (there 0 (omega arith))) refl (omega arith) in
    let more = below_run tasks (base + 1) run (pids ++ pid ∷ []) one
    (λ place less. subst (λ stamp. Contains tasks (stamp, get_or run place 0)) (omega arith) (there (suc place) (omega (arith, less)))) in
    let past : base + 1 + length run ≡ base + length (pid ∷ run) = omega arith in
    subst (λ above. AreBelow tasks above (pids ++ pid ∷ run)) past
    (subst (AreBelow tasks (base + 1 + length run)) (append_assoc pids (pid ∷ []) run) more)

-- ---- a task of a sibling

-- a task that is found and is queued there is told among those that are
pub told_among : (tasks : List Task) (cpu : ℕ) (task : Task) (pid : ℕ) → find (has_pid pid) tasks ≡ Some task → is_on cpu task ≡ true →
    Contains (map mover_of (queued_among tasks cpu)) (mover_of task)
told_among tasks cpu task pid found on =
    let queued = queued_among tasks cpu in
    let there = each_found (Contains tasks) (has_pid pid) tasks task found (recursion_from_All (Contains tasks) tasks (All-contains_itself tasks)) in
    let here : Contains queued task = Contains-filter (is_on cpu) tasks task there on in
    (here.0, omega (arith, here.1, length-map queued mover_of), get_or-map mover_of queued here.0 task (mover_of task) here.1 ∙ ap mover_of here.2)

-- ---- all of them

-- those behind a task are among the rest
others : (all rest : List (ℕ × ℕ)) (mover : ℕ × ℕ) → IsPermutation all (mover ∷ rest) → (movers : List (ℕ × ℕ)) →
    AllByRecursion (λ (other : ℕ × ℕ). mover.0 < other.0) movers → AllByRecursion (Contains all) movers → AllByRecursion (Contains rest) movers
others all rest mover same [] above there = tt
others all rest mover same (other ∷ movers) above there =
    let apart : mover ≢ other = λ is. let stamp : mover.0 ≡ other.0 = ap (λ (m : ℕ × ℕ). m.0) is in omega (arith, stamp, above.0) in
    (Contains-tail mover rest other apart (Contains-permutation all (mover ∷ rest) other same there.0), others all rest mover same movers above.1 there.1)

pub all_told : (movers all : List (ℕ × ℕ)) → AreRising movers → AllByRecursion (Contains all) movers → length movers ≡ length all → IsPermutation all movers
all_told [] [] rising there many = IsPermutation-refl []
all_told [] (mover ∷ all) rising there many = absurd (omega (arith, many))
all_told (mover ∷ movers) all rising there many =
    let k = there.0.0 in
    let rest = remove all k in
    let same : IsPermutation all (mover ∷ rest) = IsPermutation-remove all k mover there.0.1 (sym there.0.2) in
    IsPermutation-trans all (mover ∷ rest) (mover ∷ movers) same
    (IsPermutation-cons mover rest movers
    (all_told movers rest rising.1 (others all rest mover same movers rising.0 there.1) (omega (arith, many, length_permutation all (mover ∷ rest) same))))

-- no more are told than there are
pub no_more_told : (movers all : List (ℕ × ℕ)) → AreRising movers → AllByRecursion (Contains all) movers → length movers ≤ length all
no_more_told [] all rising there = omega arith
no_more_told (mover ∷ movers) all rising there =
    let k = there.0.0 in
    let rest = remove all k in
    let same : IsPermutation all (mover ∷ rest) = IsPermutation-remove all k mover there.0.1 (sym there.0.2) in
    let few = no_more_told movers rest rising.1 (others all rest mover same movers rising.0 there.1) in
    omega (arith, few, length_permutation all (mover ∷ rest) same)

pub few_below : (all : List (ℕ × ℕ)) (above : ℕ) (pids : List ℕ) → AreBelow all above pids → length pids ≤ length all
few_below all above pids told =
    let movers = told.among.movers in
    omega (arith, ap length told.among.are, length-map movers (λ (mover : ℕ × ℕ). mover.1), no_more_told movers all told.among.rising told.among.there)

-- ---- by rising stamp

not_less : (x y : ℕ) → y ≤ x → is_lt (nat_cmp x y) ≡ false
not_less x y le = by_tests (ltb x y) (eqb x y) (le-ltb x y le) where
  by_tests : (less equal : Bool) → less ≡ false → is_lt (cond less Less (cond equal Equal Greater)) ≡ false
  by_tests true equal is = is
  by_tests false true is = refl
  by_tests false false is = refl

-- a list that rises is sorted
pub sorted : (movers : List (ℕ × ℕ)) → AreRising movers → IsSortedByKey (λ (mover : ℕ × ℕ). mover.0) nat_cmp movers
sorted [] rising k d low high = absurd (omega (arith, high))
sorted (mover ∷ []) rising k d low high = absurd (omega (arith, high))
sorted (mover ∷ other ∷ movers) rising zero d low high = not_less other.0 mover.0 (omega (arith, rising.0.0))
sorted (mover ∷ other ∷ movers) rising (suc k) d low high =
    let all = mover ∷ other ∷ movers in
    let next : suc k + 1 ≡ suc (k + 1) = omega arith in
    ap (λ n. is_lt (nat_cmp (get_or all n d).0 (get_or all (suc k) d).0)) next ∙ sorted (other ∷ movers) rising.1 k d (omega arith) (omega (arith, high))

-- as many of the tasks as there are, by rising stamp, are told
pub told_all : (all : List (ℕ × ℕ)) (pids : List ℕ) → AreAmong all pids → length pids ≡ length all → AreTold all pids
told_all all pids among many =
    record {
      movers = among.movers;
      same = all_told among.movers all among.rising among.there (omega (arith, many, ap length among.are, length-map among.movers (λ (mover : ℕ × ℕ). mover.1)));
      rising = sorted among.movers among.rising;
      are = among.are;
    }
