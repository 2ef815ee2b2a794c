use Rattle.std.proofs.Common.{◌≡◌, ◌∙◌, sym, arith}
use Rattle.run_queue.proofs.Runs.{most_comparisons-ranked_in, get-ranked_in, with_ranked, Enters, entered}
use Rattle.run_queue.proofs.classes.Classes.enqueue.Given as given
use Rattle.run_queue.proofs.classes.Classes.enqueue.Goals as goal

-- ---- a stop task

pub put-requires-clause-free : goal.put-requires-clause-free
put-requires-clause-free g c =
    sym (get-ranked_in c.self.inside 0 (omega arith) (c.args.task.rank, c.args.task.stamp)) ∙ (rw (c.in-0.is, ← c.self.view_is) at c.requires.free)

stop : (g : given.Over) (c : goal.After-put g) → Enters c.self.inside (with_ranked c.self.inside 0 c.put.new.self) (0, (c.args.task.rank, c.args.task.stamp)) c.args.task.pid
stop g c =
    entered c.self.inside c.self.invariant 0 (omega arith) (c.args.task.rank, c.args.task.stamp) c.args.task.pid (rw (← c.self.view_is) at c.requires.spare)
    (rw (c.in-0.is, ← c.self.view_is) at c.requires.free) c.put.new.self c.put.ensures.members c.put.ensures.spare

pub invariant_of-self : goal.invariant_of-self
invariant_of-self g c = (stop g c).sound

pub returns-in-0-clause-tasks : goal.returns-in-0-clause-tasks
returns-in-0-clause-tasks g c = rw (c.in-0.is, ← c.self.view_is) (stop g c).tasks

pub returns-in-0-clause-spare : goal.returns-in-0-clause-spare
returns-in-0-clause-spare g c = rw (← c.self.view_is) (stop g c).spare

-- ---- a deadline task

pub put-requires-in-1-clause-free : goal.put-requires-in-1-clause-free
put-requires-in-1-clause-free g c =
    sym (get-ranked_in c.self.inside 1 (omega arith) (c.args.task.rank, c.args.task.stamp)) ∙ (rw (c.in-1.is, ← c.self.view_is) at c.requires.free)

deadline : (g : given.Over) (c : goal.After-put-in-1 g) → Enters c.self.inside (with_ranked c.self.inside 1 c.put-in-1.new.self) (1, (c.args.task.rank, c.args.task.stamp)) c.args.task.pid
deadline g c =
    entered c.self.inside c.self.invariant 1 (omega arith) (c.args.task.rank, c.args.task.stamp) c.args.task.pid (rw (← c.self.view_is) at c.requires.spare)
    (rw (c.in-1.is, ← c.self.view_is) at c.requires.free) c.put-in-1.new.self c.put-in-1.ensures.members c.put-in-1.ensures.spare

pub invariant_of-self-in-1 : goal.invariant_of-self-in-1
invariant_of-self-in-1 g c = (deadline g c).sound

pub returns-in-1-clause-tasks : goal.returns-in-1-clause-tasks
returns-in-1-clause-tasks g c = rw (c.in-1.is, ← c.self.view_is) (deadline g c).tasks

pub returns-in-1-clause-spare : goal.returns-in-1-clause-spare
returns-in-1-clause-spare g c = rw (← c.self.view_is) (deadline g c).spare

-- ---- a real-time task

pub put-requires-in-2-clause-free : goal.put-requires-in-2-clause-free
put-requires-in-2-clause-free g c =
    sym (get-ranked_in c.self.inside 2 (omega arith) (c.args.task.rank, c.args.task.stamp)) ∙ (rw (c.in-2.is, ← c.self.view_is) at c.requires.free)

real_time : (g : given.Over) (c : goal.After-put-in-2 g) → Enters c.self.inside (with_ranked c.self.inside 2 c.put-in-2.new.self) (2, (c.args.task.rank, c.args.task.stamp)) c.args.task.pid
real_time g c =
    entered c.self.inside c.self.invariant 2 (omega arith) (c.args.task.rank, c.args.task.stamp) c.args.task.pid (rw (← c.self.view_is) at c.requires.spare)
    (rw (c.in-2.is, ← c.self.view_is) at c.requires.free) c.put-in-2.new.self c.put-in-2.ensures.members c.put-in-2.ensures.spare

pub invariant_of-self-in-2 : goal.invariant_of-self-in-2
invariant_of-self-in-2 g c = (real_time g c).sound

pub returns-in-2-clause-tasks : goal.returns-in-2-clause-tasks
returns-in-2-clause-tasks g c = rw (c.in-2.is, ← c.self.view_is) (real_time g c).tasks

pub returns-in-2-clause-spare : goal.returns-in-2-clause-spare
returns-in-2-clause-spare g c = rw (← c.self.view_is) (real_time g c).spare

-- ---- a fair task

pub put-requires-in_default-clause-free : goal.put-requires-in_default-clause-free
put-requires-in_default-clause-free g c =
    let class : c.args.task.class ≡ 3 = omega arith in
    sym (get-ranked_in c.self.inside 3 (omega arith) (c.args.task.rank, c.args.task.stamp)) ∙ (rw (class, ← c.self.view_is) at c.requires.free)

fair_class : (g : given.Over) (c : goal.After-put-in_default g) → c.args.task.class ≡ 3
fair_class g c = omega arith

fair : (g : given.Over) (c : goal.After-put-in_default g) → Enters c.self.inside (with_ranked c.self.inside 3 c.put-in_default.new.self) (3, (c.args.task.rank, c.args.task.stamp)) c.args.task.pid
fair g c =
    entered c.self.inside c.self.invariant 3 (omega arith) (c.args.task.rank, c.args.task.stamp) c.args.task.pid (rw (← c.self.view_is) at c.requires.spare)
    (rw (fair_class g c, ← c.self.view_is) at c.requires.free) c.put-in_default.new.self c.put-in_default.ensures.members c.put-in_default.ensures.spare

pub invariant_of-self-in_default : goal.invariant_of-self-in_default
invariant_of-self-in_default g c = (fair g c).sound

pub returns-in_default-clause-tasks : goal.returns-in_default-clause-tasks
returns-in_default-clause-tasks g c = rw (fair_class g c, ← c.self.view_is) (fair g c).tasks

pub returns-in_default-clause-spare : goal.returns-in_default-clause-spare
returns-in_default-clause-spare g c = rw (← c.self.view_is) (fair g c).spare

pub returns-in-0-clause-counted : goal.returns-in-0-clause-counted
returns-in-0-clause-counted g c =
    let most = most_comparisons-ranked_in c.self.inside 0 in
    rw (← c.self.view_is) (omega (arith, c.put.ensures.counted))

pub returns-in-1-clause-counted : goal.returns-in-1-clause-counted
returns-in-1-clause-counted g c =
    let most = most_comparisons-ranked_in c.self.inside 1 in
    rw (← c.self.view_is) (omega (arith, c.put-in-1.ensures.counted))

pub returns-in-2-clause-counted : goal.returns-in-2-clause-counted
returns-in-2-clause-counted g c =
    let most = most_comparisons-ranked_in c.self.inside 2 in
    rw (← c.self.view_is) (omega (arith, c.put-in-2.ensures.counted))

pub returns-in_default-clause-counted : goal.returns-in_default-clause-counted
returns-in_default-clause-counted g c =
    let most = most_comparisons-ranked_in c.self.inside 3 in
    rw (← c.self.view_is) (omega (arith, c.put-in_default.ensures.counted))
