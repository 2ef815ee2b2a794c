use Rattle.ptrace_check.proofs.Seats.{guard_view-in, guard_view-past}
use Rattle.ptrace_check.proofs.guards.Guards.view.Goals as goal

pub returns-clause-view : goal.returns-clause-view
returns-clause-view g c =
    let found = rw c.deref.ensures.value at c.in_ok-seat.ensures.lookup in
    rw (← c.self.view_is, c.view.ensures)
    (guard_view-in c.self.inside.seats.items c.self.inside.active.items c.args.index c.in_ok-seat.seat.now found.3.0 found.1)

pub returns-clause-few : goal.returns-clause-few
returns-clause-few g c = rw (← c.self.view_is) c.self.invariant.few

pub returns-in_err-seat-clause-view : goal.returns-in_err-seat-clause-view
returns-in_err-seat-clause-view g c =
    let found = rw c.deref.ensures.value at c.in_err-seat.ensures.lookup in
    rw (← c.self.view_is, c.from_residual.ensures)
    (guard_view-past c.self.inside.seats.items c.self.inside.active.items c.args.index found.3)

pub returns-in_err-seat-clause-few : goal.returns-in_err-seat-clause-few
returns-in_err-seat-clause-few g c = rw (← c.self.view_is) c.self.invariant.few
