-- Asked: what a run queue answers, as a question of the tasks that it holds.
use Rattle.std.proofs.Common.{◌≡◌, ℕ, Bool, true, cond, List, [], ◌∷◌, map, Option, None, Some, refl, sym, ap, ◌∙◌}
use Rattle.std.specs.Prelude.{◌==◌, ◌&&◌, find, filter, All, IfSome}
use Rattle.std.specs.List.{AllByRecursion}
use Rattle.std.specs.Option.{option_map}
use Rattle.std.specs.FinMap.{entries}
use Rattle.std.proofs.lemmas.List.Elements.{All-filter, All-weaker}
use Rattle.cs_types.specs.declared.task.Task.{Task}
use Rattle.cs_types.specs.declared.queue.Queued.{Queued}
use Rattle.cs_types.specs.Order.{goes_before, first_of, foremost}
use Rattle.cs_types.specs.Queue.{Seat, seat_of, queued_of, seat_with_pid}
use Rattle.cs_types.specs.Scenario.{IsPolicy}
use Rattle.cs_types.proofs.Queues.{seat_total, seat_cmp-IsAntisymmetric, precedes, foremost-map, foremost_alike, goes_before-seats}
use Rattle.task_table.specs.Table.{Rises}
use Rattle.core_lanes.specs.Queued.{queued_among, with_cookie, behind, IsOf, HavePolicies}
use Rattle.core_lanes.proofs.Lists.{filter-map, filter-filter, All-find}
use Rattle.core_lanes.proofs.Queues.{is_on}
use Rattle.tree_queue.specs.Held.{seated}
use Rattle.cookie_queue.proofs.Found.{found-from_entries}
use Rattle.cookie_queue.proofs.Asked.{IsLow, kept_by}
use Rattle.tree_queue.proofs.Splits.{each_is_of}
use Rattle.tree_queue.proofs.Tasks.{low_priority}

-- ---- lists

map_twice : {X Y Z : Type 0} (f : Y → Z) (g : X → Y) (xs : List X) → map f (map g xs) ≡ map (λ x. f (g x)) xs
map_twice f g [] = refl
map_twice {Z = Z} f g (x ∷ xs) = ap (λ (zs : List Z). f (g x) ∷ zs) (map_twice f g xs)

-- two tests that agree on a list keep the same of it
pub filter_alike : {X : Type 0} (P : X → Type 0) (p q : X → Bool) → ((x : X) → P x → p x ≡ q x) → (xs : List X) → AllByRecursion P xs → filter p xs ≡ filter q xs
filter_alike P p q alike [] all = refl
filter_alike {X} P p q alike (x ∷ xs) all =
    ap (λ b. cond b (x ∷ filter p xs) (filter p xs)) (alike x all.0) ∙ ap (λ (ys : List X). cond (q x) (x ∷ ys) ys) (filter_alike P p q alike xs all.1)

-- ---- the first that passes

module _ (tasks : List Task) (low : AllByRecursion IsLow tasks) where
  -- the first of the tasks whose seats pass, as it is told
  pub first_told : {X : Type 0} (told : Seat × ℕ → X) (p : Seat → Bool) (q : Task → Bool) → ((task : Task) → IsLow task → p (seat_of (queued_of task)) ≡ q task) →
      option_map told (find (λ entry. p entry.0) (entries (seated (map queued_of tasks)))) ≡ option_map (λ (t : Task). told (seat_with_pid t)) (first_of (filter q tasks))
  first_told {X} told p q alike =
      let list : map (λ (t : Queued). (seat_of t, t.pid)) (map queued_of tasks) ≡ map seat_with_pid tasks = map_twice (λ (t : Queued). (seat_of t, t.pid)) queued_of tasks in
      ap (option_map told)
      (found-from_entries seat_total seat_cmp-IsAntisymmetric p (map (λ (t : Queued). (seat_of t, t.pid)) (map queued_of tasks))
      ∙ ap (λ (es : List (Seat × ℕ)). foremost (precedes seat_total) (filter (λ entry. p entry.0) es)) list
      ∙ ap (foremost (precedes seat_total)) (filter-map seat_with_pid (λ entry. p entry.0) tasks ∙ ap (map seat_with_pid) (filter_alike IsLow (λ t. p (seat_of (queued_of t))) q alike tasks low))
      ∙ foremost-map (precedes seat_total) seat_with_pid (filter q tasks))
      ∙ twice (foremost (λ a b. precedes seat_total (seat_with_pid a) (seat_with_pid b)) (filter q tasks))
      ∙ ap (option_map (λ (t : Task). told (seat_with_pid t))) (foremost_alike (λ t. IsLow t × (q t ≡ true)) _ goes_before (λ a b of_a of_b. goes_before-seats a b of_a.0 of_b.0) (filter q tasks) (kept_by IsLow q tasks low)) where
        twice : (first : Option Task) → option_map told (option_map seat_with_pid first) ≡ option_map (λ (t : Task). told (seat_with_pid t)) first
        twice None = refl
        twice (Some task) = refl

-- those with its cookie that a task stands before are those behind it
pub next_behind : (tasks : List Task) (task : Task) → option_map queued_of (first_of (filter (λ t. (t.cookie == task.cookie) && goes_before task t) tasks)) ≡ option_map queued_of (first_of (behind task (with_cookie task.cookie tasks)))
next_behind tasks task = ap (λ (ts : List Task). option_map queued_of (first_of ts)) (sym (filter-filter (λ t. t.cookie == task.cookie) (goes_before task) tasks))

-- ---- the tasks of a table

-- those that keep their limits have no greater priority than 99
pub low_among : (tasks : List Task) (cpu : ℕ) → HavePolicies tasks → All IsLow (queued_among tasks cpu)
low_among tasks cpu policies =
    All-filter (is_on cpu) IsLow tasks (All-weaker (λ (t : Task). IsPolicy t.spec.policy) IsLow (λ t policy. low_priority t.spec.policy policy) tasks policies)

-- the first of those behind a task is found by its pid
pub found_behind : (tasks : List Task) (cpu : ℕ) (task : Task) → Rises tasks → IfSome (first_of (behind task (with_cookie task.cookie (queued_among tasks cpu)))) (IsOf tasks)
found_behind tasks cpu task rises =
    All-find (IsOf tasks) _ (behind task (with_cookie task.cookie (queued_among tasks cpu)))
    (All-filter (goes_before task) (IsOf tasks) (with_cookie task.cookie (queued_among tasks cpu))
    (All-filter (λ t. t.cookie == task.cookie) (IsOf tasks) (queued_among tasks cpu) (All-filter (is_on cpu) (IsOf tasks) tasks (each_is_of tasks rises))))
