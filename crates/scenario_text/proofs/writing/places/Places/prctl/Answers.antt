use Rattle.std.proofs.Common.{append_assoc}
use Rattle.scenario_text.proofs.writing.places.Places.prctl.Goals as goal

pub returns-clause-text : goal.returns-clause-text
returns-clause-text c = rw (c.ask.ensures.text, c.text-at.ensures.text, c.pid-at.ensures.text) (simp append_assoc)
