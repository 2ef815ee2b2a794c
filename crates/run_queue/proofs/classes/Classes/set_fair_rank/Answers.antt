use Rattle.std.proofs.Common.{arith}
use Rattle.run_queue.proofs.Runs.{most_comparisons-ranked_in, fair_there, fair_free, moved, most_comparisons-out}
use Rattle.run_queue.proofs.classes.Classes.set_fair_rank.Goals as goal

pub set_rank-requires-clause-there : goal.set_rank-requires-clause-there
set_rank-requires-clause-there g c =
    fair_there c.self.inside c.self.invariant (c.args.rank, c.args.stamp) (c.args.later, c.args.stamp) (rw (← c.self.view_is) at c.requires.there)

pub set_rank-requires-clause-free : goal.set_rank-requires-clause-free
set_rank-requires-clause-free g c =
    fair_free c.self.inside c.self.invariant (c.args.rank, c.args.stamp) (c.args.later, c.args.stamp) (rw (← c.self.view_is) at c.requires.there)
    (rw (← c.self.view_is) at c.requires.free)

pub invariant_of-self : goal.invariant_of-self
invariant_of-self g c =
    (moved c.self.inside c.self.invariant (c.args.rank, c.args.stamp) (c.args.later, c.args.stamp) (rw (← c.self.view_is) at c.requires.there)
    (rw (← c.self.view_is) at c.requires.free) c.set_rank.new.self c.args.pid c.set_rank.ensures.members c.set_rank.ensures.spare).sound

pub returns-clause-tasks : goal.returns-clause-tasks
returns-clause-tasks g c =
    rw (← c.self.view_is)
    ((moved c.self.inside c.self.invariant (c.args.rank, c.args.stamp) (c.args.later, c.args.stamp) (rw (← c.self.view_is) at c.requires.there)
    (rw (← c.self.view_is) at c.requires.free) c.set_rank.new.self c.args.pid c.set_rank.ensures.members c.set_rank.ensures.spare).tasks)

pub returns-clause-spare : goal.returns-clause-spare
returns-clause-spare g c =
    rw (← c.self.view_is)
    ((moved c.self.inside c.self.invariant (c.args.rank, c.args.stamp) (c.args.later, c.args.stamp) (rw (← c.self.view_is) at c.requires.there)
    (rw (← c.self.view_is) at c.requires.free) c.set_rank.new.self c.args.pid c.set_rank.ensures.members c.set_rank.ensures.spare).spare)

pub returns-clause-counted : goal.returns-clause-counted
returns-clause-counted g c =
    let most = most_comparisons-ranked_in c.self.inside 3 in
    let less = most_comparisons-out c.self.inside c.self.invariant (c.args.rank, c.args.stamp) (c.args.later, c.args.stamp) (rw (← c.self.view_is) at c.requires.there) in
    rw (← c.self.view_is) (omega (arith, most, less, c.set_rank.ensures.counted))
