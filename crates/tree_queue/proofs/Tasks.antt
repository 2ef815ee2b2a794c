-- Tasks: a task as a run queue takes it.
use Rattle.std.proofs.Common.{◌≡◌, ℕ, ◌≤◌, refl, sym, subst, arith}
use Rattle.cs_types.specs.declared.queue.Queued.{Queued}
use Rattle.cs_types.specs.declared.task.Policy.{Policy}
use Rattle.cs_types.specs.declared.task.Policy.TheVariants.{Stop, Deadline, Fifo, Rr, Fair}
use Rattle.cs_types.specs.declared.task.Task.{Task}
use Rattle.cs_types.specs.Order.{stop_class, fair_class, class_of, priority_of}
use Rattle.cs_types.specs.Queue.{IsRanked, rank_by, queued_of}
use Rattle.cs_types.specs.Scenario.{IsPolicy}

pub class_fits : (policy : Policy) → class_of policy ≤ fair_class
class_fits Stop = omega arith
class_fits (Deadline relative) = omega arith
class_fits (Fifo priority) = omega arith
class_fits (Rr priority) = omega arith
class_fits (Fair nice) = omega arith

stop_rank : (policy : Policy) (deadline vtime : ℕ) → class_of policy ≡ stop_class → rank_by policy deadline vtime ≡ 0
stop_rank Stop deadline vtime is = refl
stop_rank (Deadline relative) deadline vtime is = absurd (omega (arith, is))
stop_rank (Fifo priority) deadline vtime is = absurd (omega (arith, is))
stop_rank (Rr priority) deadline vtime is = absurd (omega (arith, is))
stop_rank (Fair nice) deadline vtime is = absurd (omega (arith, is))

pub ranked : (task : Task) {queued : Queued} → queued ≡ queued_of task → IsRanked queued
ranked task same = subst IsRanked (sym same) (record { class = class_fits task.spec.policy; stop = stop_rank task.spec.policy task.deadline task.vtime })

-- a policy that keeps its limits has no greater priority than 99
pub low_priority : (policy : Policy) → IsPolicy policy → priority_of policy ≤ 99
low_priority Stop is = omega arith
low_priority (Deadline relative) is = omega arith
low_priority (Fifo priority) is = omega (arith, is)
low_priority (Rr priority) is = omega (arith, is)
low_priority (Fair nice) is = omega arith
