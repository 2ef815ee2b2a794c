use Rattle.std.proofs.Common.{subst}
use Rattle.cs_types.specs.Room.{Opening}
use Rattle.view_runner.specs.Ends.{AreSegmentsOf}
use Rattle.view_runner.proofs.Endings.{written_in_form}
use Rattle.view_runner.proofs.shown.write_shown.Goals as goal

pub returns-in-Ok : goal.returns-in-Ok
returns-in-Ok g c =
    let run = g.R.Room.history c.recorded_run.new.room in
    written_in_form c.args.form _ _ _ _ run c.in-Ok.run'
    c.in-Ok.ensures.history
    (subst (λ (o : Opening). AreSegmentsOf o run c.in-Ok.run') c.recorded_run.ensures.opening c.in-Ok.ensures.segments)
    c.write_form.ensures
