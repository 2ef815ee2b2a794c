use Rattle.std.proofs.Common.{ap, ◌∙◌, sym}
use Rattle.scenario_text.specs.Faults.{is_nothing}
use Rattle.scenario_text.proofs.Cuts.{is_nothing-lines_in}
use Rattle.scenario_text.proofs.lines.Lines.is_empty.Goals as goal

pub returns : goal.returns
returns c =
    c.is_empty.ensures ∙ sym (ap is_nothing (sym c.self.view_is) ∙ is_nothing-lines_in c.self.inside.rest.now)
