use Rattle.std.proofs.Common.{refl, ◌∙◌, ap, arith}
use Rattle.cs_types.specs.History.{moment_of}
use Rattle.room_report.specs.Report.{lines_text}
use Rattle.cs_outside.proofs.Reached.{reached_start, reached_more, reached_prefix, reached_end, whole_prefix}
use Rattle.room_report.proofs.Left.{task_start, task_next, task_end, task_above}
use Rattle.room_report.proofs.parts.write_tasks.Goals as goal

pub loop-task-init : goal.loop-task-init
loop-task-init g c = record {
  reached = reached_start _ _ _ (ap lines_text (task_start (g.R.Room.opening c.args.room.now) (g.R.Room.history c.args.room.now) c.requires));
  faultless = refl;
}

pub loop-task-smaller : goal.loop-task-smaller
loop-task-smaller g c = omega (arith, task_above (moment_of (g.R.Room.opening c.args.room.now) (g.R.Room.history c.args.room.now)) c.loop-task.pid c.in-Some.task c.in-Some.ensures.view)

pub returns-in_err-write_all-clause-prefix : goal.returns-in_err-write_all-clause-prefix
returns-in_err-write_all-clause-prefix g c =
    reached_prefix _ _ _ _ _ _ _ _ c.loop-task.invariant.reached
    (task_next (g.R.Room.opening c.args.room.now) (g.R.Room.history c.args.room.now) c.requires c.loop-task.pid c.in-Some.task c.in-Some.ensures.view)
    (c.as_bytes.ensures ∙ c.task_line.ensures) c.write_all.ensures.prefix

pub loop-task-preserved : goal.loop-task-preserved
loop-task-preserved g c = record {
  reached = reached_more _ _ _ _ _ _ _ _ c.loop-task.invariant.reached
      (task_next (g.R.Room.opening c.args.room.now) (g.R.Room.history c.args.room.now) c.requires c.loop-task.pid c.in-Some.task c.in-Some.ensures.view)
      (c.as_bytes.ensures ∙ c.task_line.ensures) c.in_ok-write_all.ensures.ok;
  faultless = c.in_ok-write_all.ensures.faultless ∙ c.loop-task.invariant.faultless;
}

pub returns-clause-ok : goal.returns-clause-ok
returns-clause-ok g c = reached_end _ _ _ _ c.loop-task.invariant.reached (task_end (moment_of (g.R.Room.opening c.args.room.now) (g.R.Room.history c.args.room.now)) c.loop-task.pid c.in_default.ensures.view)

pub returns-clause-prefix : goal.returns-clause-prefix
returns-clause-prefix g c = whole_prefix _ _ _ (reached_end _ _ _ _ c.loop-task.invariant.reached (task_end (moment_of (g.R.Room.opening c.args.room.now) (g.R.Room.history c.args.room.now)) c.loop-task.pid c.in_default.ensures.view))
