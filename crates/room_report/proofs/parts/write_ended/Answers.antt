use Rattle.std.proofs.Common.{◌∙◌, arith}
use Rattle.cs_types.specs.History.{moment_of}
use Rattle.cs_outside.proofs.Reached.{reached_more, reached_prefix, reached_end, whole_prefix}
use Rattle.room_report.proofs.Left.{ended_next, ended_none, ended_past, few_ended}
use Rattle.room_report.proofs.parts.write_ended.Goals as goal

pub returns-in_err-write_all-in-Some-clause-prefix : goal.returns-in_err-write_all-in-Some-clause-prefix
returns-in_err-write_all-in-Some-clause-prefix g c =
    reached_prefix _ _ _ _ _ _ _ _ c.loop-index.invariant.reached
    (ended_next (moment_of (g.R.Room.opening c.args.room.now) (g.R.Room.history c.args.room.now)) c.loop-index.index c.in-Some.task c.in-Some.ensures)
    (c.as_bytes.ensures ∙ c.put_ended.ensures) c.write_all.ensures.prefix

pub loop-index-preserved : goal.loop-index-preserved
loop-index-preserved g c = record {
  reached = reached_more _ _ _ _ _ _ _ _ c.loop-index.invariant.reached
      (ended_next (moment_of (g.R.Room.opening c.args.room.now) (g.R.Room.history c.args.room.now)) c.loop-index.index c.in-Some.task c.in-Some.ensures)
      (c.as_bytes.ensures ∙ c.put_ended.ensures) c.in_ok-write_all-in-Some.ensures.ok;
  faultless = c.in_ok-write_all-in-Some.ensures.faultless ∙ c.loop-index.invariant.faultless;
}

pub returns-in-None-clause-ok : goal.returns-in-None-clause-ok
returns-in-None-clause-ok g c = reached_end _ _ _ _ c.loop-index.invariant.reached (ended_none (moment_of (g.R.Room.opening c.args.room.now) (g.R.Room.history c.args.room.now)) c.loop-index.index c.in-None.ensures)

pub returns-in-None-clause-prefix : goal.returns-in-None-clause-prefix
returns-in-None-clause-prefix g c = whole_prefix _ _ _ (reached_end _ _ _ _ c.loop-index.invariant.reached (ended_none (moment_of (g.R.Room.opening c.args.room.now) (g.R.Room.history c.args.room.now)) c.loop-index.index c.in-None.ensures))

pub returns-clause-ok : goal.returns-clause-ok
returns-clause-ok g c = reached_end _ _ _ _ c.loop-index.invariant.reached (ended_past (moment_of (g.R.Room.opening c.args.room.now) (g.R.Room.history c.args.room.now)) c.loop-index.index (omega (arith, few_ended (g.R.Room.opening c.args.room.now) (g.R.Room.history c.args.room.now), c.length-index-end.ensures, c.loop-index-test.false)))

pub returns-clause-prefix : goal.returns-clause-prefix
returns-clause-prefix g c = whole_prefix _ _ _ (reached_end _ _ _ _ c.loop-index.invariant.reached (ended_past (moment_of (g.R.Room.opening c.args.room.now) (g.R.Room.history c.args.room.now)) c.loop-index.index (omega (arith, few_ended (g.R.Room.opening c.args.room.now) (g.R.Room.history c.args.room.now), c.length-index-end.ensures, c.loop-index-test.false))))
