use Rattle.std.proofs.Common.{◌≡◌, ◌≤◌, ◌∙◌, sym, ap, Option, List, ℕ, arith}
use Rattle.std.specs.List.{All}
use Rattle.std.specs.Option.{option_map}
use Rattle.cs_types.specs.declared.task.Task.{Task}
use Rattle.cs_types.specs.Order.{priority_of, first_of}
use Rattle.cs_types.specs.Queue.{top_of, Seats, queue_of}
use Rattle.cs_types.proofs.Queues.{top_of-queue_of}
use Rattle.run_queue.proofs.Runs.{most_comparisons-ranked_in}
use Rattle.run_queue.proofs.Fair.{first_in-joined}
use Rattle.run_queue.proofs.Tops.{none_compared}
use Rattle.run_queue.proofs.Seats.{top_of-stop, top_of-deadline, top_of-real_time, top_of-fair}
use Rattle.run_queue.proofs.classes.Classes.first.Goals as goal

-- the top of the queue of some tasks is the first of them
model : (queued : Seats) (first : Option ℕ) → first ≡ top_of queued → (tasks : List Task) → queued ≡ queue_of tasks →
    All (λ task. priority_of task.spec.policy ≤ 99) tasks → first ≡ option_map (λ task. task.spec.pid) (first_of tasks)
model queued first is tasks same low = is ∙ ap top_of same ∙ top_of-queue_of tasks low

pub returns-in-Some-clause-first : goal.returns-in-Some-clause-first
returns-in-Some-clause-first g c = rw (← c.self.view_is) (sym (top_of-stop c.self.inside.stop.members c.self.inside.deadline.members c.self.inside.real_time.members c.self.inside.fair.members c.in-Some.pid (sym c.in-Some.ensures.top)))

pub returns-in-Some-clause-model : goal.returns-in-Some-clause-model
returns-in-Some-clause-model g c = model _ _ (returns-in-Some-clause-first g c)

pub returns-in-Some-top-clause-first : goal.returns-in-Some-top-clause-first
returns-in-Some-top-clause-first g c =
    rw (← c.self.view_is) (sym (top_of-deadline c.self.inside.stop.members c.self.inside.deadline.members c.self.inside.real_time.members c.self.inside.fair.members c.in-Some-top.pid (sym c.in_default.ensures.top) (sym c.in-Some-top.ensures.top)))

pub returns-in-Some-top-clause-model : goal.returns-in-Some-top-clause-model
returns-in-Some-top-clause-model g c = model _ _ (returns-in-Some-top-clause-first g c)

pub returns-in-Some-top-2-clause-first : goal.returns-in-Some-top-2-clause-first
returns-in-Some-top-2-clause-first g c =
    rw (← c.self.view_is)
    (sym (top_of-real_time c.self.inside.stop.members c.self.inside.deadline.members c.self.inside.real_time.members c.self.inside.fair.members c.in-Some-top-2.pid (sym c.in_default.ensures.top) (sym c.in_default-top.ensures.top) (sym c.in-Some-top-2.ensures.top)))

pub returns-in-Some-top-2-clause-model : goal.returns-in-Some-top-2-clause-model
returns-in-Some-top-2-clause-model g c = model _ _ (returns-in-Some-top-2-clause-first g c)

pub returns-clause-first : goal.returns-clause-first
returns-clause-first g c =
    let queue = c.self.inside in
    let told = rw (← c.self.view_is) at c.first_fair.ensures.first in
    let fair = told ∙ first_in-joined queue.stop.members queue.deadline.members queue.real_time.members queue.fair.members in
    rw (← c.self.view_is)
    (sym (top_of-fair queue.stop.members queue.deadline.members queue.real_time.members queue.fair.members c.first_fair.result (sym c.in_default.ensures.top) (sym c.in_default-top.ensures.top) (sym c.in_default-top-2.ensures.top) (sym fair)))

pub returns-clause-model : goal.returns-clause-model
returns-clause-model g c = model _ _ (returns-clause-first g c)

pub returns-in-Some-clause-counted : goal.returns-in-Some-clause-counted
returns-in-Some-clause-counted g c =
    let most_0 = most_comparisons-ranked_in c.self.inside 0 in
    rw (← c.self.view_is) (omega (arith, c.top.ensures.counted))

pub returns-in-Some-top-clause-counted : goal.returns-in-Some-top-clause-counted
returns-in-Some-top-clause-counted g c =
    let none_0 = none_compared c.self.inside.stop.members (sym c.in_default.ensures.top) in
    let most_1 = most_comparisons-ranked_in c.self.inside 1 in
    rw (← c.self.view_is) (omega (arith, none_0, c.top.ensures.counted, c.top-2.ensures.counted))

pub returns-in-Some-top-2-clause-counted : goal.returns-in-Some-top-2-clause-counted
returns-in-Some-top-2-clause-counted g c =
    let none_0 = none_compared c.self.inside.stop.members (sym c.in_default.ensures.top) in
    let none_1 = none_compared c.self.inside.deadline.members (sym c.in_default-top.ensures.top) in
    let most_2 = most_comparisons-ranked_in c.self.inside 2 in
    rw (← c.self.view_is) (omega (arith, none_0, none_1, c.top.ensures.counted, c.top-2.ensures.counted, c.top-3.ensures.counted))

pub returns-clause-counted : goal.returns-clause-counted
returns-clause-counted g c =
    let none_0 = none_compared c.self.inside.stop.members (sym c.in_default.ensures.top) in
    let none_1 = none_compared c.self.inside.deadline.members (sym c.in_default-top.ensures.top) in
    let none_2 = none_compared c.self.inside.real_time.members (sym c.in_default-top-2.ensures.top) in
    let last = rw (← c.self.view_is) at c.first_fair.ensures.counted in
    rw (← c.self.view_is) (omega (arith, none_0, none_1, none_2, c.top.ensures.counted, c.top-2.ensures.counted, c.top-3.ensures.counted, last))
