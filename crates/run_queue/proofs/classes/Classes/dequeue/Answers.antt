use Rattle.std.proofs.Common.{◌≡◌, arith}
use Rattle.run_queue.proofs.Runs.{most_comparisons-ranked_in, with_ranked, Leaves, left}
use Rattle.run_queue.proofs.classes.Classes.dequeue.Given as given
use Rattle.run_queue.proofs.classes.Classes.dequeue.Goals as goal

-- ---- a stop task

stop : (g : given.Over) (c : goal.After-take g) → Leaves c.self.inside (with_ranked c.self.inside 0 c.take.new.self) (0, (c.args.task.now.rank, c.args.task.now.stamp)) c.take.result
stop g c =
    left c.self.inside c.self.invariant 0 (omega arith) (c.args.task.now.rank, c.args.task.now.stamp) c.take.result c.take.new.self c.take.ensures.found c.take.ensures.members c.take.ensures.spare

pub invariant_of-self : goal.invariant_of-self
invariant_of-self g c = (stop g c).sound

pub returns-in-0-clause-found : goal.returns-in-0-clause-found
returns-in-0-clause-found g c = rw (c.in-0.is, ← c.self.view_is) (stop g c).found

pub returns-in-0-clause-tasks : goal.returns-in-0-clause-tasks
returns-in-0-clause-tasks g c = rw (c.in-0.is, ← c.self.view_is) (stop g c).tasks

pub returns-in-0-clause-spare : goal.returns-in-0-clause-spare
returns-in-0-clause-spare g c = rw (← c.self.view_is) (stop g c).spare

-- ---- a deadline task

deadline : (g : given.Over) (c : goal.After-take-in-1 g) → Leaves c.self.inside (with_ranked c.self.inside 1 c.take-in-1.new.self) (1, (c.args.task.now.rank, c.args.task.now.stamp)) c.take-in-1.result
deadline g c =
    left c.self.inside c.self.invariant 1 (omega arith) (c.args.task.now.rank, c.args.task.now.stamp) c.take-in-1.result c.take-in-1.new.self c.take-in-1.ensures.found c.take-in-1.ensures.members c.take-in-1.ensures.spare

pub invariant_of-self-in-1 : goal.invariant_of-self-in-1
invariant_of-self-in-1 g c = (deadline g c).sound

pub returns-in-1-clause-found : goal.returns-in-1-clause-found
returns-in-1-clause-found g c = rw (c.in-1.is, ← c.self.view_is) (deadline g c).found

pub returns-in-1-clause-tasks : goal.returns-in-1-clause-tasks
returns-in-1-clause-tasks g c = rw (c.in-1.is, ← c.self.view_is) (deadline g c).tasks

pub returns-in-1-clause-spare : goal.returns-in-1-clause-spare
returns-in-1-clause-spare g c = rw (← c.self.view_is) (deadline g c).spare

-- ---- a real-time task

real_time : (g : given.Over) (c : goal.After-take-in-2 g) → Leaves c.self.inside (with_ranked c.self.inside 2 c.take-in-2.new.self) (2, (c.args.task.now.rank, c.args.task.now.stamp)) c.take-in-2.result
real_time g c =
    left c.self.inside c.self.invariant 2 (omega arith) (c.args.task.now.rank, c.args.task.now.stamp) c.take-in-2.result c.take-in-2.new.self c.take-in-2.ensures.found c.take-in-2.ensures.members c.take-in-2.ensures.spare

pub invariant_of-self-in-2 : goal.invariant_of-self-in-2
invariant_of-self-in-2 g c = (real_time g c).sound

pub returns-in-2-clause-found : goal.returns-in-2-clause-found
returns-in-2-clause-found g c = rw (c.in-2.is, ← c.self.view_is) (real_time g c).found

pub returns-in-2-clause-tasks : goal.returns-in-2-clause-tasks
returns-in-2-clause-tasks g c = rw (c.in-2.is, ← c.self.view_is) (real_time g c).tasks

pub returns-in-2-clause-spare : goal.returns-in-2-clause-spare
returns-in-2-clause-spare g c = rw (← c.self.view_is) (real_time g c).spare

-- ---- a fair task

fair_class : (g : given.Over) (c : goal.After-take-in_default g) → c.args.task.now.class ≡ 3
fair_class g c = omega arith

fair : (g : given.Over) (c : goal.After-take-in_default g) → Leaves c.self.inside (with_ranked c.self.inside 3 c.take-in_default.new.self) (3, (c.args.task.now.rank, c.args.task.now.stamp)) c.take-in_default.result
fair g c =
    left c.self.inside c.self.invariant 3 (omega arith) (c.args.task.now.rank, c.args.task.now.stamp) c.take-in_default.result c.take-in_default.new.self c.take-in_default.ensures.found c.take-in_default.ensures.members c.take-in_default.ensures.spare

pub invariant_of-self-in_default : goal.invariant_of-self-in_default
invariant_of-self-in_default g c = (fair g c).sound

pub returns-in_default-clause-found : goal.returns-in_default-clause-found
returns-in_default-clause-found g c = rw (fair_class g c, ← c.self.view_is) (fair g c).found

pub returns-in_default-clause-tasks : goal.returns-in_default-clause-tasks
returns-in_default-clause-tasks g c = rw (fair_class g c, ← c.self.view_is) (fair g c).tasks

pub returns-in_default-clause-spare : goal.returns-in_default-clause-spare
returns-in_default-clause-spare g c = rw (← c.self.view_is) (fair g c).spare

pub returns-in-0-clause-counted : goal.returns-in-0-clause-counted
returns-in-0-clause-counted g c =
    let most = most_comparisons-ranked_in c.self.inside 0 in
    rw (← c.self.view_is) (omega (arith, c.take.ensures.counted))

pub returns-in-1-clause-counted : goal.returns-in-1-clause-counted
returns-in-1-clause-counted g c =
    let most = most_comparisons-ranked_in c.self.inside 1 in
    rw (← c.self.view_is) (omega (arith, c.take-in-1.ensures.counted))

pub returns-in-2-clause-counted : goal.returns-in-2-clause-counted
returns-in-2-clause-counted g c =
    let most = most_comparisons-ranked_in c.self.inside 2 in
    rw (← c.self.view_is) (omega (arith, c.take-in-2.ensures.counted))

pub returns-in_default-clause-counted : goal.returns-in_default-clause-counted
returns-in_default-clause-counted g c =
    let most = most_comparisons-ranked_in c.self.inside 3 in
    rw (← c.self.view_is) (omega (arith, c.take-in_default.ensures.counted))
