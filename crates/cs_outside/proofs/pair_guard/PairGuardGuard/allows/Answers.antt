use Rattle.std.proofs.Common.{sym, ap, ◌∙◌, take, slice_index_or, false}
use Rattle.std.specs.Prelude.{not}
use Rattle.std.specs.List.{list_any}
use Rattle.cs_outside.specs.Guard.{PairGuardState, is_pair}
use Rattle.cs_outside.proofs.Lots.{none_of_lot}
use Rattle.cs_outside.proofs.pair_guard.PairGuardGuard.allows.Goals as goal

pub returns-then-not-self-lot_of-clause-decision : goal.returns-then-not-self-lot_of-clause-decision
returns-then-not-self-lot_of-clause-decision c =
    let guard = c.self.inside in
    let off = ap (λ lot. slice_index_or guard.lots lot false) (sym c.lot_of.ensures) ∙ c.if-not-self-lot_of.true in
    let none = none_of_lot guard.lots (take guard.count guard.places) c.args.from c.args.to c.self.invariant.1 off in
    ap not (sym none)
    ∙ ap (λ (state : PairGuardState). not (list_any (is_pair (c.args.from, c.args.to)) state.pairs)) c.self.view_is
