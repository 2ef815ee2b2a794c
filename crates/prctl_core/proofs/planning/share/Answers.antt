use Rattle.cookie_refs.proofs.Agreements.{own_cookie_is_live, count_of-le}
use Rattle.std.proofs.Common.{arith}
use Rattle.prctl_core.proofs.planning.share.Goals as goal

pub get-requires-clause-live : goal.get-requires-clause-live
get-requires-clause-live c =
    own_cookie_is_live c.args.refs.now c.args.table.now.tasks 0 c.args.task.now.spec.pid c.args.task.now c.requires.there c.requires.agree

pub get-requires-clause-few : goal.get-requires-clause-few
get-requires-clause-few c =
    omega (arith, c.requires.sound.few, c.requires.sound.limit, count_of-le c.args.refs.now c.args.table.now.tasks 0 c.requires.agree c.args.task.now.cookie)
