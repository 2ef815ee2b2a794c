use Rattle.std.proofs.Common.{append_assoc}
use Rattle.scenario_text.proofs.writing.places.Places.pick.Goals as goal

pub returns-clause-text : goal.returns-clause-text
returns-clause-text c = rw (c.small.ensures.text, c.wide-at.ensures.text, c.run-at.ensures.text, c.text-at.ensures.text, c.kind-at.ensures.text) (simp append_assoc)
