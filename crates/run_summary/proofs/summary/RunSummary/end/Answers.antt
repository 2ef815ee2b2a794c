use Rattle.std.proofs.Common.{sym, ap, ◌∙◌}
use Rattle.run_summary.specs.Summaries.{Summary}
use Rattle.run_summary.proofs.Waited.{part_of_waited}
use Rattle.run_summary.proofs.summary.RunSummary.end.Goals as goal

pub returns-clause-waited : goal.returns-clause-waited
returns-clause-waited g c =
    part_of_waited (g.R.Room.opening c.args.room.now) (g.R.Room.history c.args.room.now) _ _ c.close.new.self c.close-2.new.self
    c.close.ensures.times c.close-2.ensures.waits
    (ap (λ (s : Summary). s.waits.entries) c.self.view_is ∙ c.requires.each ∙ ap (λ (s : Summary). s.tasks.entries) (sym c.self.view_is))
    c.close-2.ensures.waited
