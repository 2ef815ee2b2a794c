use Rattle.std.proofs.Common.{length}
use Rattle.core_lock.proofs.Coming.{IsJoined}
use Rattle.core_lock.proofs.seats.joined.Given as goal

-- the seat has the lists of the passes that have come
abbrev pub invariant-loop-pass : goal.invariant-loop-pass
invariant-loop-pass g l = IsJoined l.seat.table_id l.top.table_id l.seat.me l.fn.passes l.rest.items

abbrev pub decreases-loop-pass : goal.decreases-loop-pass
decreases-loop-pass g l = length l.rest.items
