use Rattle.std.proofs.Common.{◌∙◌, ap, sym, ◌+◌, ◌<◌, length, [], arith}
use Rattle.std.proofs.lemmas.Grind.{common_steps}
use Rattle.std.specs.Prelude.{not}
use Rattle.cs_types.specs.Guards.{GuardState, with_guard, refuses}
use Rattle.ptrace_check.specs.Inside.{guards_in}
use Rattle.ptrace_check.proofs.Seats.{guard_in, guards_in-set, caps-set_alike}
use Rattle.ptrace_check.proofs.guards.ask.Goals as goal

pub returns-clause-asked : goal.returns-clause-asked
returns-clause-asked g c =
    let seats = c.args.seats.now.items in
    let i = c.args.index in
    let guards = guards_in seats [] in
    let within : i < length seats = grind (arith, common_steps) in
    let once : GuardState → GuardState = λ guard. record guard { asked = guard.asked + 1 } in
    guards_in-set seats [] i c.allows.new.self
    ∙ ap (with_guard guards i) (c.allows.ensures.asked ∙ ap once (sym (guard_in seats [] i c.index_mut.result.now within c.index_mut.ensures.value)))

pub returns-clause-caps : goal.returns-clause-caps
returns-clause-caps g c =
    caps-set_alike c.args.seats.now.items c.args.index c.index_mut.result.now c.allows.new.self c.index_mut.ensures.value c.allows.ensures.cap

pub returns-clause-decision : goal.returns-clause-decision
returns-clause-decision g c =
    let seats = c.args.seats.now.items in
    let within : c.args.index < length seats = grind (arith, common_steps) in
    c.allows.ensures.decision
    ∙ ap (λ (guard : GuardState). not (refuses guard (c.args.from, c.args.to))) (sym (guard_in seats [] c.args.index c.index_mut.result.now within c.index_mut.ensures.value))
