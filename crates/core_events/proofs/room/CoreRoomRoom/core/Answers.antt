use Rattle.std.proofs.Common.{subst, arith}
use Rattle.std.specs.Prelude.{All}
use Rattle.core_events.specs.Inside.{opening_of}
use Rattle.cs_types.specs.History.{fold_of, history_of}
use Rattle.cs_laws.proofs.Accounts.{accounted-fold_of, HasDivisor}
use Rattle.core_events.specs.Machine.{Machine}
use Rattle.core_events.proofs.room.CoreRoomRoom.core.Goals as goal

pub returns-clause-divisors : goal.returns-clause-divisors
returns-clause-divisors g c =
    let a = c.self.inside in
    let accounted = accounted-fold_of 255 (opening_of a) a.entries.items (omega arith) (omega (arith, c.self.invariant.playable.siblings.1)) c.self.invariant.events in
    subst (λ (m : Machine). All HasDivisor (fold_of m.opening (history_of m.opening m.steps)).intervals) c.self.view_is
    (subst (λ h. All HasDivisor (fold_of (opening_of a) h).intervals) c.self.invariant.history accounted.divisors)
