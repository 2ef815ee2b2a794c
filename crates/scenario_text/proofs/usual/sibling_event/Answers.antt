use Rattle.std.proofs.Common.{refl}
use Rattle.scenario_text.proofs.usual.sibling_event.Goals as goal

pub returns-in-Some : goal.returns-in-Some
returns-in-Some c siblings own = record { is = record { event = own; actor = refl }; spelled = c.in-Some.ensures }

pub returns-in-Some-behind : goal.returns-in-Some-behind
returns-in-Some-behind c siblings own = record { is = record { event = own; actor = refl }; spelled = c.in-Some-behind.ensures }

pub returns-in-Some-behind-2 : goal.returns-in-Some-behind-2
returns-in-Some-behind-2 c siblings own = record { is = record { event = own; actor = refl }; spelled = c.in-Some-behind-2.ensures }

pub returns-in-Some-behind-3 : goal.returns-in-Some-behind-3
returns-in-Some-behind-3 c siblings own = record { is = record { event = own; actor = refl }; spelled = c.in-Some-behind-3.ensures }

pub returns-in-Some-behind-4 : goal.returns-in-Some-behind-4
returns-in-Some-behind-4 c siblings own = record { is = record { event = own; actor = refl }; spelled = c.in-Some-behind-4.ensures }
