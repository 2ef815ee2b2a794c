use Rattle.std.proofs.Common.{ap, sym, ◌∙◌}
use Rattle.scenario_text.specs.Faults.{words_in, lines_in}
use Rattle.scenario_text.specs.Reading.{used, line_at}
use Rattle.scenario_text.proofs.Cuts.{line_at-lines_in, Takes-then}
use Rattle.scenario_text.proofs.lines.Lines.next_line.Goals as goal

pub returns : goal.returns
unfolding lines_in
returns c =
    let line = ap line_at (sym c.self.view_is) ∙ line_at-lines_in c.self.inside.rest.now c.in-Some.line.now c.in-Some.rest.now c.in-Some.ensures.pieces in
    rw line (Takes-then _ c.words_of.result (used (words_in c.in-Some.line.now)) (lines_in c.in-Some.rest.now) c.words_of.ensures)
