use Rattle.std.proofs.Common.{◌∙◌, sym, subst, arith}
use Rattle.std.specs.Option.{IsSome}
use Rattle.cs_types.specs.History.{moment_of}
use Rattle.cs_laws.proofs.Siblings.{length-fold_of}
use Rattle.cs_outside.proofs.Reached.{reached_more, reached_prefix, reached_end, whole_prefix}
use Rattle.room_report.proofs.Left.{cpu_next, cpu_end, has_cpu}
use Rattle.room_report.proofs.parts.write_siblings.Goals as goal

pub unwrap-view-requires : goal.unwrap-view-requires
unwrap-view-requires g c = subst IsSome (sym c.cpu.ensures.view) (has_cpu (moment_of (g.R.Room.opening c.args.room.now) (g.R.Room.history c.args.room.now)) c.loop-cpu.cpu (omega (arith, length-fold_of (g.R.Room.opening c.args.room.now) (g.R.Room.history c.args.room.now), c.siblings-cpu-end.ensures.siblings, c.loop-cpu-test.true)))

pub returns-in_err-write_all-clause-prefix : goal.returns-in_err-write_all-clause-prefix
returns-in_err-write_all-clause-prefix g c =
    reached_prefix _ _ _ _ _ _ _ _ c.loop-cpu.invariant.reached
    (cpu_next (moment_of (g.R.Room.opening c.args.room.now) (g.R.Room.history c.args.room.now)) c.loop-cpu.cpu c.unwrap-view.result (omega (arith, length-fold_of (g.R.Room.opening c.args.room.now) (g.R.Room.history c.args.room.now), c.siblings-cpu-end.ensures.siblings, c.loop-cpu-test.true)) (sym c.cpu.ensures.view ∙ c.unwrap-view.ensures))
    (c.as_bytes.ensures ∙ c.cpu_line.ensures) c.write_all.ensures.prefix

pub loop-cpu-preserved : goal.loop-cpu-preserved
loop-cpu-preserved g c = record {
  reached = reached_more _ _ _ _ _ _ _ _ c.loop-cpu.invariant.reached
      (cpu_next (moment_of (g.R.Room.opening c.args.room.now) (g.R.Room.history c.args.room.now)) c.loop-cpu.cpu c.unwrap-view.result (omega (arith, length-fold_of (g.R.Room.opening c.args.room.now) (g.R.Room.history c.args.room.now), c.siblings-cpu-end.ensures.siblings, c.loop-cpu-test.true)) (sym c.cpu.ensures.view ∙ c.unwrap-view.ensures))
      (c.as_bytes.ensures ∙ c.cpu_line.ensures) c.in_ok-write_all.ensures.ok;
  faultless = c.in_ok-write_all.ensures.faultless ∙ c.loop-cpu.invariant.faultless;
}

pub returns-clause-ok : goal.returns-clause-ok
returns-clause-ok g c = reached_end _ _ _ _ c.loop-cpu.invariant.reached (cpu_end (moment_of (g.R.Room.opening c.args.room.now) (g.R.Room.history c.args.room.now)) c.loop-cpu.cpu (omega (arith, length-fold_of (g.R.Room.opening c.args.room.now) (g.R.Room.history c.args.room.now), c.siblings-cpu-end.ensures.siblings, c.loop-cpu-test.false)))

pub returns-clause-prefix : goal.returns-clause-prefix
returns-clause-prefix g c = whole_prefix _ _ _ (reached_end _ _ _ _ c.loop-cpu.invariant.reached (cpu_end (moment_of (g.R.Room.opening c.args.room.now) (g.R.Room.history c.args.room.now)) c.loop-cpu.cpu (omega (arith, length-fold_of (g.R.Room.opening c.args.room.now) (g.R.Room.history c.args.room.now), c.siblings-cpu-end.ensures.siblings, c.loop-cpu-test.false))))
