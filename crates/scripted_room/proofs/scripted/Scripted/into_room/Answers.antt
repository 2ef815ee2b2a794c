use Rattle.sibling_workers.specs.Race.{events_in}
use Rattle.scripted_room.proofs.scripted.Scripted.into_room.Goals as goal

pub returns-clause-order : goal.returns-clause-order
returns-clause-order g c a = (events_in a c.self.inside.scripts, c.self.invariant.scripts a)
