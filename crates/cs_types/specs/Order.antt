-- Order: which task goes before which, and the first of a list (`__task_prio`, `prio_less` and `cfs_prio_less` of
-- kernel/sched; ties by the queue stamp, and that equal deadlines tie, are this project's rules).
use Rattle.std.specs.Prelude.{ℕ, ◌+◌, Bool, true, false, ◌==◌, ◌&&◌, ◌||◌, not, nat_lt, List, find, Option, Some, None}
use Rattle.std.specs.List.{list_all}
use Rattle.cs_types.specs.declared.task.Task.{Task}
use Rattle.cs_types.specs.declared.task.Class.{Class}
use Rattle.cs_types.specs.declared.task.Class.TheVariants as class
use Rattle.cs_types.specs.declared.task.Policy.{Policy}
use Rattle.cs_types.specs.declared.task.Policy.TheVariants.{Stop, Deadline, Fifo, Rr, Fair}

-- the earliest item of a list that no other of its items goes before, none if the list is empty
abbrev pub foremost : {X : Type 0} → (X → X → Bool) → List X → Option X
foremost before xs = find (λ x. list_all (λ other. not (before other x)) xs) xs

-- ---- classes

-- the scheduling classes, from the highest: stop, deadline, real-time (FIFO and RR), fair, and idle, which is the
-- absence of tasks (`__task_prio`)
abbrev pub stop_class : ℕ
stop_class = 0

abbrev pub deadline_class : ℕ
deadline_class = 1

abbrev pub real_time_class : ℕ
real_time_class = 2

abbrev pub fair_class : ℕ
fair_class = 3

abbrev pub idle_class : ℕ
idle_class = 4

-- the number of a class, as queues and offers have it
abbrev pub class_number : Class → ℕ
class_number class.Stop = stop_class
class_number class.Deadline = deadline_class
class_number class.RealTime = real_time_class
class_number class.Fair = fair_class

-- the number of a policy's class (`__setscheduler_prio`, and for a stop task `sched_set_stop_task`)
abbrev pub class_of : Policy → ℕ
class_of Stop = stop_class
class_of (Deadline relative) = deadline_class
class_of (Fifo priority) = real_time_class
class_of (Rr priority) = real_time_class
class_of (Fair nice) = fair_class

-- whether two tasks are of this class
abbrev pub are_both : ℕ → Task → Task → Bool
are_both class a b = (class_of a.spec.policy == class) && (class_of b.spec.policy == class)

-- whether a task is fair
abbrev pub is_fair : Task → Bool
is_fair task = class_of task.spec.policy == fair_class

-- the priority of a real-time task (`rt_priority`), 0 for every other
abbrev pub priority_of : Policy → ℕ
priority_of (Fifo priority) = priority
priority_of (Rr priority) = priority
priority_of policy = 0

-- ---- across siblings

-- whether a task is higher than another, by the snapshots of their siblings (every other pair is a tie): its class is
-- higher; or both are deadline and its deadline is earlier; or both are real-time and its priority is greater; or both
-- are fair and its virtual time is smaller, each taken from its own sibling's snapshot (`cfs_prio_less`)
abbrev pub is_higher : (ℕ → ℕ) → Task → Task → Bool
is_higher snapshot a b =
    nat_lt (class_of a.spec.policy) (class_of b.spec.policy)
    || (are_both deadline_class a b && nat_lt a.deadline b.deadline)
    || (are_both real_time_class a b && nat_lt (priority_of b.spec.policy) (priority_of a.spec.policy))
    || (are_both fair_class a b && nat_lt (a.vtime + snapshot b.home) (b.vtime + snapshot a.home))

-- the same with idle, than which every task is higher
abbrev pub outranks : (ℕ → ℕ) → Option Task → Option Task → Bool
outranks snapshot None b = false
outranks snapshot (Some a) None = true
outranks snapshot (Some a) (Some b) = is_higher snapshot a b

-- ---- on one sibling

-- the same of tasks of one sibling: the snapshot is the same for both, so it makes no difference
abbrev pub is_higher_here : Task → Task → Bool
is_higher_here a b = is_higher (λ cpu. 0) a b

-- A task goes before another if it is higher, or if they tie and its stamp is smaller.
abbrev pub goes_before : Task → Task → Bool
goes_before a b = is_higher_here a b || (not (is_higher_here b a) && nat_lt a.stamp b.stamp)

-- the task of the list before which no other goes, none if the list is empty
abbrev pub first_of : List Task → Option Task
first_of tasks = foremost goes_before tasks
