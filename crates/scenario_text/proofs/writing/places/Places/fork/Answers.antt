use Rattle.std.proofs.Common.{append_assoc}
use Rattle.scenario_text.proofs.writing.places.Places.fork.Goals as goal

pub returns-then-thread-clause-text : goal.returns-then-thread-clause-text
returns-then-thread-clause-text c = rw (c.text.ensures.text, c.pid-at.ensures.text, c.if-thread.true) (simp append_assoc)

pub returns-else-thread-clause-text : goal.returns-else-thread-clause-text
returns-else-thread-clause-text c = rw (c.text-else-thread.ensures.text, c.pid-at.ensures.text, c.if-thread.false) (simp append_assoc)
