use Rattle.cookie_refs.proofs.Agreements.{AgreeBut-make}
use Rattle.prctl_core.proofs.planning.create.Goals as goal

pub returns-in-Ok-clause-agree : goal.returns-in-Ok-clause-agree
returns-in-Ok-clause-agree g c =
    c.give.ensures.agree c.args.table.now.tasks
    (AgreeBut-make c.args.refs.now c.make.new.self c.args.table.now.tasks c.in-Ok.cookie (rw c.in-Ok.ensures.cookie c.make.ensures.above_0)
    (rw c.in-Ok.ensures.cookie c.make.ensures.unused) c.in-Ok.ensures.counts c.requires.agree)
