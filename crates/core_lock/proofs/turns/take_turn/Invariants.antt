use Rattle.std.proofs.Common.{◌≡◌}
use Rattle.core_lock.proofs.turns.take_turn.Given as goal

-- the seat waits as it did
abbrev pub invariant-loop : goal.invariant-loop
invariant-loop g l = (l.seat.table_id ≡ l.initial.seat.table_id) × (l.seat.me ≡ l.initial.seat.me)
