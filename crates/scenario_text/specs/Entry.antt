-- Entries whose line spells them alone.
use Rattle.std.specs.Prelude.{◌<◌, ◌^◌}
use Rattle.cs_types.specs.declared.event.Actor.{Actor}
use Rattle.cs_types.specs.declared.event.Actor.TheVariants.{End}
use Rattle.cs_types.specs.declared.event.Event.{Event}
use Rattle.cs_types.specs.declared.event.Event.TheVariants.{Resched}
use Rattle.cs_types.specs.declared.reply.Pick.{Pick}
use Rattle.cs_types.specs.declared.reply.Reply.{Reply}
use Rattle.cs_types.specs.declared.reply.Reply.TheVariants.{Picked, Stole, Missed, Slept, Ended, Woken, Now, Child, Value}
use Rattle.cs_types.specs.declared.reply.Entry.{Entry}
use Rattle.cs_types.specs.Scenario.{IsStep}

-- the numbers of a pick have 64 bits
pub record FitsPick (pick : Pick) : Type 0 where
  pub run : pick.run < 2 ^ 64
  pub core : pick.core < 2 ^ 64
  pub forced : pick.forced < 2 ^ 64

-- and so have those of a reply
abbrev pub FitsReply : Reply → Type 0
FitsReply (Picked pick) = FitsPick pick
FitsReply (Stole pid from) = (pid < 2 ^ 64) × (from < 2 ^ 64)
FitsReply (Missed cpu) = cpu < 2 ^ 64
FitsReply (Slept pid pick) = (pid < 2 ^ 64) × FitsPick pick
FitsReply (Ended pid pick) = (pid < 2 ^ 64) × FitsPick pick
FitsReply (Woken cpu) = cpu < 2 ^ 64
FitsReply (Now clock) = clock < 2 ^ 64
FitsReply (Child pid) = pid < 2 ^ 64
FitsReply (Value cookie) = cookie < 2 ^ 64
FitsReply reply = Unit {0}

-- what is made in a core of up to 16 siblings: the final drain makes a sibling schedule, and each other step is one
-- that a scenario can have
abbrev pub IsMade : Actor → Event → Type 0
IsMade End (Resched cpu) = cpu < 16
IsMade End event = ⊥
IsMade actor event = IsStep 16 (record { actor = actor; event = event })

-- its step is one that is made, and the numbers of its reply have 64 bits
pub record IsEntry (entry : Entry) : Type 0 where
  pub made : IsMade entry.actor entry.event
  pub reply : FitsReply entry.reply
