-- Peers: what a sibling's queue is asked of a running task answers what a tick asks of the others there.
use Rattle.std.proofs.Common.{◌≡◌, ℕ, Bool, true, false, cond, not, ltb, List, [], ◌∷◌, map, refl, sym, ap, ◌∙◌, arith, Option, Some}
use Rattle.std.specs.Prelude.{filter, find, ◌&&◌, ◌||◌, ◌==◌}
use Rattle.std.specs.List.{list_any, fold}
use Rattle.std.specs.Option.{option_map_or}
use Rattle.std.proofs.lemmas.Bool.{and_right, or_parts, or_from}
use Rattle.std.proofs.lemmas.Bool.Decides.{nat_tests}
use Rattle.cs_types.specs.declared.task.Task.{Task}
use Rattle.cs_types.specs.declared.task.Policy.{Policy}
use Rattle.cs_types.specs.declared.task.Policy.TheVariants.{Stop, Rr, Fair}
use Rattle.cs_types.specs.Room.{RoomState, has_pid, queued_on}
use Rattle.cs_types.specs.Order.{foremost, real_time_class, fair_class, class_of, is_fair, priority_of}
use Rattle.cs_types.specs.Time.{others_on, is_rr, has_used_slice, is_peer}
use Rattle.cs_types.proofs.Foremost.{foremost_reduce, better}
use Rattle.task_table.specs.Table.{Rises}
use Rattle.task_table.proofs.Tables.{found_alone}
use Rattle.core_lanes.specs.Queued.{has_peer, smallest_vtime}
use Rattle.core_lanes.proofs.Lists.{any-map, any-filter, less_is_order}
use Rattle.std.proofs.Math.Bool.{or-false}

-- ---- the smallest

-- the smaller of two is below a third where one of them is
either : (m n most : ℕ) (rest : Bool) → (ltb (cond (ltb n m) n m) most || rest) ≡ (ltb m most || (ltb n most || rest))
either m n most rest = grind (arith, nat_tests)

-- and the smallest of some where one of them is
some_below : (first : ℕ) (times : List ℕ) (most : ℕ) → ltb (fold (better ltb less_is_order) first times) most ≡ list_any (λ time. ltb time most) (first ∷ times)
some_below first [] most = sym (or-false (ltb first most))
some_below first (time ∷ times) most =
    some_below (cond (ltb time first) time first) times most ∙ either first time most (list_any (λ time. ltb time most) times)

-- whether the smallest of a list, if it has one, is below this
abbrev is_below : ℕ → Option ℕ → Bool
is_below most found = option_map_or (λ time. ltb time most) found false

smallest_below : (times : List ℕ) (most : ℕ) → is_below most (foremost ltb times) ≡ list_any (λ time. ltb time most) times
smallest_below [] most = refl
smallest_below (time ∷ times) most = ap (is_below most) (foremost_reduce ltb less_is_order (time ∷ times)) ∙ some_below time times most

-- ---- the others

-- where what passes is none of those that it is not to be, it is one of the others
but_it : (on passes is_it : Task → Bool) (tasks : List Task) → list_any (λ task. is_it task && passes task) tasks ≡ false →
    list_any (λ task. on task && passes task) tasks ≡ list_any (λ task. on task && (not (is_it task) && passes task)) tasks
but_it on passes is_it [] none = refl
but_it on passes is_it (task ∷ tasks) none =
    let parts = or_parts (is_it task && passes task) (list_any (λ other. is_it other && passes other) tasks) none in
    (λ i. (on task && own (is_it task) (passes task) parts.0 i) || but_it on passes is_it tasks parts.1 i) where
      own : (it pass : Bool) → (it && pass) ≡ false → pass ≡ (not it && pass)
      own true pass none = none
      own false pass none = refl

-- Another fair task has a smaller virtual time than this one where the smallest is smaller.
pub overtaken_by : (room : RoomState) (cpu : ℕ) (task : Task) → Rises room.tasks → find (has_pid task.spec.pid) room.tasks ≡ Some task →
    option_map_or (λ time. ltb time task.vtime) (smallest_vtime (queued_on room cpu)) false
    ≡ list_any (λ other. is_fair other && ltb other.vtime task.vtime) (others_on room cpu task)
overtaken_by room cpu task rises there =
    smallest_below (map (λ (t : Task). t.vtime) (filter is_fair queued)) task.vtime
    ∙ any-map (λ time. ltb time task.vtime) (λ (t : Task). t.vtime) (filter is_fair queued)
    ∙ any-filter (λ (t : Task). ltb t.vtime task.vtime) is_fair queued
    ∙ any-filter passes (λ other. other.queued && (other.home == cpu)) room.tasks
    ∙ but_it (λ other. other.queued && (other.home == cpu)) passes (has_pid task.spec.pid) room.tasks none
    ∙ sym (any-filter (λ other. not (has_pid task.spec.pid other) && passes other) (λ other. other.queued && (other.home == cpu)) room.tasks)
    ∙ sym (any-filter passes (λ other. not (has_pid task.spec.pid other)) queued) where
      queued : List Task
      queued = queued_on room cpu

      passes : Task → Bool
      passes other = is_fair other && ltb other.vtime task.vtime

      none : list_any (λ other. has_pid task.spec.pid other && passes other) room.tasks ≡ false
      none =
          let same : ltb task.vtime task.vtime ≡ false = grind (arith, nat_tests) in
          sym (any-filter passes (has_pid task.spec.pid) room.tasks)
          ∙ ap (list_any passes) (found_alone 0 task.spec.pid room.tasks task rises there)
          ∙ or_from (passes task) false (and_right (is_fair task) (ltb task.vtime task.vtime) same) refl

-- ---- peers

-- An RR task's peers are the real-time tasks of its priority.
pub rr_peers : (room : RoomState) (cpu : ℕ) (task : Task) → has_used_slice task ≡ true → has_peer task (queued_on room cpu) ≡ list_any (is_peer task) (others_on room cpu task)
rr_peers room cpu task used =
    (λ i. list_any (λ other. not (has_pid task.spec.pid other)
    && ((class_of other.spec.policy == class_is i) && (priority_of other.spec.policy == priority_of task.spec.policy))) (queued_on room cpu))
    ∙ sym (any-filter (is_peer task) (λ other. not (has_pid task.spec.pid other)) (queued_on room cpu)) where
      rr_class : (policy : Policy) (b : Bool) → (is_rr policy && b) ≡ true → class_of policy ≡ real_time_class
      rr_class (Rr priority) b is = refl
      rr_class policy b is = absurd cc

      class_is : class_of task.spec.policy ≡ real_time_class
      class_is = rr_class task.spec.policy _ used

-- A fair task's peers are the fair ones.
pub fair_peers : (room : RoomState) (cpu : ℕ) (task : Task) → is_fair task ≡ true → has_peer task (queued_on room cpu) ≡ list_any is_fair (others_on room cpu task)
fair_peers room cpu task fair =
    (λ i. list_any (λ other. not (has_pid task.spec.pid other) && peer other.spec.policy i) (queued_on room cpu))
    ∙ sym (any-filter is_fair (λ other. not (has_pid task.spec.pid other)) (queued_on room cpu)) where
      with_fair : (own policy : Policy) → (class_of own == fair_class) ≡ true →
          ((class_of policy == class_of own) && (priority_of policy == priority_of own)) ≡ (class_of policy == fair_class)
      with_fair (Fair nice) Stop is = refl
      with_fair (Fair nice) policy is = refl
      with_fair own policy is = absurd cc

      peer : (policy : Policy) → ((class_of policy == class_of task.spec.policy) && (priority_of policy == priority_of task.spec.policy)) ≡ (class_of policy == fair_class)
      peer policy = with_fair task.spec.policy policy fair
