use Rattle.std.proofs.Common.{refl, ◌∙◌, ap, arith}
use Rattle.cs_types.specs.History.{moment_of}
use Rattle.room_report.specs.Report.{lines_text}
use Rattle.cs_outside.proofs.Reached.{reached_start, reached_more, reached_prefix, reached_end, whole_prefix}
use Rattle.room_report.proofs.Left.{guard_start, guard_within, guard_next, guard_end}
use Rattle.room_report.proofs.parts.write_guards.Goals as goal

pub loop-guard-init : goal.loop-guard-init
loop-guard-init g c = record {
  reached = reached_start _ _ _ (ap lines_text (guard_start (moment_of (g.R.Room.opening c.args.room.now) (g.R.Room.history c.args.room.now))));
  faultless = refl;
}

pub loop-guard-smaller : goal.loop-guard-smaller
loop-guard-smaller g c = omega (arith, guard_within (moment_of (g.R.Room.opening c.args.room.now) (g.R.Room.history c.args.room.now)) c.loop-guard.index c.in-Some.guard c.in-Some.ensures.view, c.in-Some.ensures.few)

pub overflow_add-index : goal.overflow_add-index
overflow_add-index g c = omega (arith, guard_within (moment_of (g.R.Room.opening c.args.room.now) (g.R.Room.history c.args.room.now)) c.loop-guard.index c.in-Some.guard c.in-Some.ensures.view, c.in-Some.ensures.few)

pub returns-in_err-write_all-clause-prefix : goal.returns-in_err-write_all-clause-prefix
returns-in_err-write_all-clause-prefix g c =
    reached_prefix _ _ _ _ _ _ _ _ c.loop-guard.invariant.reached
    (guard_next (moment_of (g.R.Room.opening c.args.room.now) (g.R.Room.history c.args.room.now)) c.loop-guard.index c.in-Some.guard c.in-Some.ensures.view)
    (c.as_bytes.ensures ∙ c.guard_line.ensures) c.write_all.ensures.prefix

pub loop-guard-preserved : goal.loop-guard-preserved
loop-guard-preserved g c = record {
  reached = reached_more _ _ _ _ _ _ _ _ c.loop-guard.invariant.reached
      (guard_next (moment_of (g.R.Room.opening c.args.room.now) (g.R.Room.history c.args.room.now)) c.loop-guard.index c.in-Some.guard c.in-Some.ensures.view)
      (c.as_bytes.ensures ∙ c.guard_line.ensures) c.in_ok-write_all.ensures.ok;
  faultless = c.in_ok-write_all.ensures.faultless ∙ c.loop-guard.invariant.faultless;
}

pub returns-clause-ok : goal.returns-clause-ok
returns-clause-ok g c = reached_end _ _ _ _ c.loop-guard.invariant.reached (guard_end (moment_of (g.R.Room.opening c.args.room.now) (g.R.Room.history c.args.room.now)) c.loop-guard.index c.in_default.ensures.view)

pub returns-clause-prefix : goal.returns-clause-prefix
returns-clause-prefix g c = whole_prefix _ _ _ (reached_end _ _ _ _ c.loop-guard.invariant.reached (guard_end (moment_of (g.R.Room.opening c.args.room.now) (g.R.Room.history c.args.room.now)) c.loop-guard.index c.in_default.ensures.view))
