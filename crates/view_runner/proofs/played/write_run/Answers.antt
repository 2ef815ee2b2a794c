use Rattle.std.proofs.Common.{refl, subst}
use Rattle.cs_types.specs.Room.{Opening}
use Rattle.run_summary.specs.Summaries.{IsSummaryOf}
use Rattle.view_runner.proofs.Endings.{told_in_form, told_short}
use Rattle.view_runner.proofs.played.write_run.Goals as goal

pub returns-in-Ok : goal.returns-in-Ok
returns-in-Ok g c =
    let run = g.R.Room.history c.summarized_run.new.room in
    told_in_form c.args.form _ _ _ _ run c.in-Ok.told
    c.in-Ok.ensures.history
    (subst (λ (o : Opening). IsSummaryOf o run c.in-Ok.told) c.summarized_run.ensures.opening c.in-Ok.ensures.summary)
    c.write_told.ensures

pub returns : goal.returns
returns g c = told_short c.args.form _ _ _ refl
