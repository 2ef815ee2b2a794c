use Rattle.std.proofs.lemmas.Result.{IfOk-from_err}
use Rattle.sibling_workers.proofs.Played.{fresh_locks, locks, numbers, has_all}
use Rattle.sibling_workers.proofs.racing.play.Goals as goal

pub work-requires-clause-lock : goal.work-requires-clause-lock
work-requires-clause-lock g c κs within = fresh_locks c.in_ok-shared.shared c.in_ok-shared.passes c.in_ok-shared.ensures.passes

pub finish-requires-clause-lock : goal.finish-requires-clause-lock
finish-requires-clause-lock g c = locks c.in_ok-shared.shared c.in_ok-shared.passes c.work.new.passes c.in_ok-shared.ensures.passes c.work.ensures.worked

pub finish-requires-clause-numbers : goal.finish-requires-clause-numbers
finish-requires-clause-numbers g c =
    numbers c.in_ok-shared.shared c.in_ok-shared.passes c.work.new.passes c.in_ok-shared.ensures.passes c.work.ensures.worked

pub returns-clause-made : goal.returns-clause-made
returns-clause-made g c =
    has_all c.in_ok-shared.shared c.in_ok-shared.passes c.work.new.passes c.in_ok-shared.ensures.passes c.work.ensures.worked
    c.args.lists (g.R.Room.history c.finish.result) c.in_ok-shared.ensures.lists c.finish.ensures.own c.finish.ensures.no_other

-- ---- where there is no memory

pub returns-in_err-shared-clause-opening : goal.returns-in_err-shared-clause-opening
returns-in_err-shared-clause-opening g c = IfOk-from_err _ _ c.from_residual.ensures.0

pub returns-in_err-shared-clause-spare : goal.returns-in_err-shared-clause-spare
returns-in_err-shared-clause-spare g c = IfOk-from_err _ _ c.from_residual.ensures.0

pub returns-in_err-shared-clause-legal : goal.returns-in_err-shared-clause-legal
returns-in_err-shared-clause-legal g c = IfOk-from_err _ _ c.from_residual.ensures.0

pub returns-in_err-shared-clause-made : goal.returns-in_err-shared-clause-made
returns-in_err-shared-clause-made g c = IfOk-from_err _ _ c.from_residual.ensures.0
