use Rattle.core_lock.proofs.Giving.{IsDealt}
use Rattle.core_lock.proofs.seats.passes_of.Given as goal

-- the seat still has the lists that are left
abbrev pub invariant-loop-steps : goal.invariant-loop-steps
invariant-loop-steps g l =
    IsDealt g.R.Room.opening g.R.Room.spare l.top.table_id l.top.key.value l.seat.table_id l.seat.me l.passes.items l.steps-iterator.rest.items
