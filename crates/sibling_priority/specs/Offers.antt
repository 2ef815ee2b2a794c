-- Offers: which of two is higher (`prio_less`, kernel/sched/core.c), and which offer stands for a task.
use Rattle.std.specs.Prelude.{◌≡◌, ℕ, ◌+◌, ◌-◌, ◌^◌, ◌<◌, Bool, ◌==◌, ◌&&◌, ◌||◌, not, nat_lt, if◌then◌else◌, List, map, All, Option, Some, None, IfSome, unwrap_or}
use Rattle.std.specs.List.{list_all}
use Rattle.std.specs.Option.{option_map_or}
use Rattle.cs_types.specs.declared.task.Task.{Task}
use Rattle.cs_types.specs.Scenario.{IsPolicy}
use Rattle.cs_types.specs.Order.{deadline_class, real_time_class, fair_class, idle_class, class_of}
use Rattle.cs_types.specs.Selection.{pid_of}
use Rattle.cs_types.specs.Queue.{rank_by}
use Rattle.sibling_priority.specs.declared.offer.Offer.{Offer}
use Rattle.sibling_priority.specs.declared.standing.Standing.{Standing}

-- ---- the order

-- whether two offers are of this class
abbrev pub are_both : ℕ → Offer → Offer → Bool
are_both class a b = (a.class == class) && (b.class == class)

-- An offer is higher if its class is; or both are deadline, or both real-time, and its rank is smaller; or both are
-- fair and its virtual time is smaller, each taken from its own sibling's snapshot (`cfs_prio_less`). Every other pair
-- is a tie (that equal deadlines are one is this project's rule).
abbrev pub is_higher_offer : Offer → Offer → Bool
is_higher_offer a b =
    nat_lt a.class b.class
    || (are_both deadline_class a b && nat_lt a.rank b.rank)
    || (are_both real_time_class a b && nat_lt a.rank b.rank)
    || (are_both fair_class a b && nat_lt (a.rank + b.snapshot) (b.rank + a.snapshot))

-- whether no offer of a list is higher than this one
abbrev pub is_highest : List Offer → Offer → Bool
is_highest offers offer = list_all (λ other. not (is_higher_offer other offer)) offers

-- the rank and the snapshot of a fair offer, so small that a sum of two of them fits 128 bits
abbrev pub IsInRange : Offer → Type 0
IsInRange offer = offer.class ≡ fair_class → (offer.rank < 2 ^ 127) × (offer.snapshot < 2 ^ 127)

-- ---- how an offer stands

-- The rank of a first task among those of its class on all siblings, by the snapshot of its own sibling, its class and
-- its rank: its rank. From that of a fair one the snapshot is taken off, after a number is added that no snapshot comes
-- to, so that nothing is below 0.
abbrev pub rank_across : ℕ → ℕ → ℕ → ℕ
rank_across snapshot class rank = if class == fair_class then rank + 2 ^ 127 - snapshot else rank

-- whether one stands above another: its class is smaller, or that is the same and its rank is
abbrev pub is_above : Standing → Standing → Bool
is_above a b = nat_lt a.class b.class || ((a.class == b.class) && nat_lt a.rank b.rank)

-- whether tasks of a class are ranked, as those of the deadline, the real-time and the fair class are
abbrev pub is_ranked : ℕ → Bool
is_ranked class = (class == deadline_class) || (class == real_time_class) || (class == fair_class)

-- how an offer stands: by its rank across siblings, and by 0 if its class has no ranks
abbrev pub standing_of : Offer → Standing
standing_of offer =
    record {
      class = offer.class;
      rank = if is_ranked offer.class then rank_across offer.snapshot offer.class offer.rank else 0;
    }

-- ---- the offer of a first task

-- the class and the rank of a sibling's first task, none for idle, and the snapshot of its home
abbrev pub class_of_first : Option Task → ℕ
class_of_first None = idle_class
class_of_first (Some task) = class_of task.spec.policy

abbrev pub rank_of_first : Option Task → ℕ
rank_of_first None = 0
rank_of_first (Some task) = rank_by task.spec.policy task.deadline task.vtime

abbrev pub snapshot_of_first : (ℕ → ℕ) → Option Task → ℕ
snapshot_of_first snapshot first = option_map_or (λ task. snapshot task.home) first 0

-- the offer of a sibling with this first task
abbrev pub offer_of : (ℕ → ℕ) → ℕ → Option Task → Offer
offer_of snapshot cpu first =
    record {
      cpu = cpu;
      pid = unwrap_or (pid_of first) 0;
      class = class_of_first first;
      rank = rank_of_first first;
      snapshot = snapshot_of_first snapshot first;
    }

-- a first task whose policy keeps its limits, or idle
abbrev pub IsFirst : Option Task → Type 0
IsFirst first = IfSome first (λ task. IsPolicy task.spec.policy)

-- The offers are those of these first tasks, in order: each has the class and the rank of its first and the snapshot of
-- that one's home, whatever its sibling and its pid.
pub record AreOffersOf (snapshot : ℕ → ℕ) (firsts : List (Option Task)) (offers : List Offer) : Type 0 where
  pub classes : map (λ offer. offer.class) offers ≡ map class_of_first firsts
  pub ranks : map (λ offer. offer.rank) offers ≡ map rank_of_first firsts
  pub snapshots : map (λ offer. offer.snapshot) offers ≡ map (snapshot_of_first snapshot) firsts
  pub priorities : All IsFirst firsts
