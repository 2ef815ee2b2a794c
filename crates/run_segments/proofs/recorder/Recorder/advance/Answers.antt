use Rattle.std.proofs.Common.{arith}
use Rattle.run_segments.proofs.Recorded.{kept_more}
use Rattle.run_segments.proofs.recorder.Recorder.advance.Goals as goal

pub returns : goal.returns
returns g c = λ entry is.
    kept_more (g.R.Room.opening c.args.room.now) (g.R.Room.history c.args.room.now) entry c.args.time c.clock-from.result c.saturating_add-to.result _ _ _ _
    is c.requires.time c.clock-from.ensures (λ fits. omega (arith, fits, c.saturating_add-to.ensures)) c.requires.record c.in_ok-keep_each.ensures.each c.in_ok-keep_each.ensures.marks c.in_ok-keep_each.ensures.kept
