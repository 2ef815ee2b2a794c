-- Vtimes: the first fair task has the smallest virtual time, which is its rank.
use Rattle.std.proofs.Common.{◌≡◌, ℕ, ◌+◌, Bool, true, false, cond, not, ltb, eqb, List, [], ◌∷◌, map, Option, None, Some, refl, sym, ap, ◌∙◌}
use Rattle.std.specs.Prelude.{◌==◌, ◌&&◌, ◌||◌, filter, IfSome}
use Rattle.std.specs.List.{AllByRecursion}
use Rattle.std.specs.Option.{option_map, option_map_or}
use Rattle.std.proofs.ByRecursion.{kept_by_passes}
use Rattle.std.proofs.lemmas.Bool.{eqb-true, eq-eqb}
use Rattle.std.proofs.lemmas.Bool.Decides.{nat_tests}
use Rattle.std.proofs.Common.{arith}
use Rattle.cs_types.specs.declared.task.Task.{Task}
use Rattle.cs_types.specs.declared.task.Policy.{Policy}
use Rattle.cs_types.specs.declared.task.Policy.TheVariants.{Stop, Deadline, Fifo, Rr, Fair}
use Rattle.cs_types.specs.declared.queue.Queued.{Queued}
use Rattle.cs_types.specs.Queue.{rank_by, queued_of}
use Rattle.cs_types.specs.Order.{fair_class, class_of, is_fair, foremost, goes_before, first_of}
use Rattle.cs_laws.proofs.First.{goes_before_is_order}
use Rattle.cs_types.proofs.Filtered.{foremost-filter}
use Rattle.cs_types.proofs.Queues.{foremost-cons}
use Rattle.core_lanes.specs.Queued.{smallest_vtime}
use Rattle.core_lanes.proofs.Lists.{less_is_order}
use Rattle.cookie_queue.proofs.Found.{found_has}

-- which of two fair tasks goes before the other, by their numbers
abbrev before_by : (c d : ℕ) (x y p q : Bool) (v w s u : ℕ) → Bool
before_by c d x y p q v w s u =
    (ltb c d || ((eqb c 1 && eqb d 1) && x) || ((eqb c 2 && eqb d 2) && p) || ((eqb c 3 && eqb d 3) && ltb (v + 0) (w + 0)))
    || (not (ltb d c || ((eqb d 1 && eqb c 1) && y) || ((eqb d 2 && eqb c 2) && q) || ((eqb d 3 && eqb c 3) && ltb (w + 0) (v + 0))) && ltb s u)

smaller : (c d : ℕ) (x y p q : Bool) (v w s u : ℕ) → c ≡ 3 → d ≡ 3 → cond (ltb v w) v w ≡ cond (before_by c d x y p q v w s u) v w
smaller c d x y p q v w s u one two = grind (arith, nat_tests)

vtime_if : (b : Bool) (x y : Task) → cond b x.vtime y.vtime ≡ (cond b x y).vtime
vtime_if true x y = refl
vtime_if false x y = refl

first_vtime : (tasks : List Task) → AllByRecursion (λ t. is_fair t ≡ true) tasks →
    foremost ltb (map (λ (t : Task). t.vtime) tasks) ≡ option_map (λ (t : Task). t.vtime) (first_of tasks)
first_vtime [] fair = refl
first_vtime (task ∷ tasks) fair =
    foremost-cons ltb less_is_order task.vtime (map (λ (t : Task). t.vtime) tasks)
    ∙ ap (λ (o : Option ℕ). Some (option_map_or (λ b. cond (ltb b task.vtime) b task.vtime) o task.vtime)) (first_vtime tasks fair.1)
    ∙ step (first_of tasks) (found_has (λ t. is_fair t ≡ true) _ tasks fair.1)
    ∙ sym (ap (option_map (λ (t : Task). t.vtime)) (foremost-cons goes_before goes_before_is_order task tasks)) where
      step : (o : Option Task) → IfSome o (λ t. is_fair t ≡ true) →
          Some (option_map_or (λ b. cond (ltb b task.vtime) b task.vtime) (option_map (λ (t : Task). t.vtime) o) task.vtime)
          ≡ Some ((option_map_or (λ b. cond (goes_before b task) b task) o task).vtime)
      step None one = refl
      step (Some b) one =
          ap Some
          (smaller (class_of b.spec.policy) (class_of task.spec.policy) _ _ _ _ b.vtime task.vtime b.stamp task.stamp
          (eqb-true (class_of b.spec.policy) 3 one) (eqb-true (class_of task.spec.policy) 3 fair.0)
          ∙ vtime_if (goes_before b task) b task)

-- a fair task's rank is its virtual time
pub rank-fair : (policy : Policy) (deadline vtime : ℕ) → (class_of policy == fair_class) ≡ true → rank_by policy deadline vtime ≡ vtime
rank-fair Stop deadline vtime fair = absurd cc
rank-fair (Deadline relative) deadline vtime fair = absurd cc
rank-fair (Fifo priority) deadline vtime fair = absurd cc
rank-fair (Rr priority) deadline vtime fair = absurd cc
rank-fair (Fair nice) deadline vtime fair = refl

-- so the rank of the first fair one is the smallest virtual time
pub smallest-rank : (tasks : List Task) → smallest_vtime tasks ≡ option_map (λ (t : Task). rank_by t.spec.policy t.deadline t.vtime) (first_of (filter is_fair tasks))
smallest-rank tasks =
    first_vtime (filter is_fair tasks) (kept_by_passes is_fair tasks) ∙ go (first_of (filter is_fair tasks)) (found_has (λ t. is_fair t ≡ true) _ (filter is_fair tasks) (kept_by_passes is_fair tasks)) where
      go : (first : Option Task) → IfSome first (λ t. is_fair t ≡ true) →
          option_map (λ (t : Task). t.vtime) first ≡ option_map (λ (t : Task). rank_by t.spec.policy t.deadline t.vtime) first
      go None fair = refl
      go (Some t) fair = ap Some (sym (rank-fair t.spec.policy t.deadline t.vtime fair))

-- and where the first task of all is fair, that is its rank
pub smallest_first : (tasks : List Task) (first : Queued) → Some first ≡ option_map queued_of (first_of tasks) → first.class ≡ fair_class →
    smallest_vtime tasks ≡ Some first.rank
smallest_first tasks first is fair = go (first_of tasks) refl is where
  go : (found : Option Task) → first_of tasks ≡ found → Some first ≡ option_map queued_of found → smallest_vtime tasks ≡ Some first.rank
  go None at is = absurd cc
  go (Some task) at is =
      let same : first ≡ queued_of task = cc in
      smallest-rank tasks
      ∙ ap (option_map (λ (t : Task). rank_by t.spec.policy t.deadline t.vtime))
      (foremost-filter goes_before goes_before_is_order is_fair tasks task at (eq-eqb (class_of task.spec.policy) fair_class (ap (λ (queued : Queued). queued.class) (sym same) ∙ fair)))
      ∙ ap (λ (queued : Queued). Some queued.rank) (sym same)
