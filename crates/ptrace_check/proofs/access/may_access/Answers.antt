use Rattle.std.proofs.Common.{◌∙◌, ap, sym}
use Rattle.std.proofs.lemmas.Bool.{eq-eqb}
use Rattle.cs_types.specs.Guards.{asked_each}
use Rattle.ptrace_check.proofs.Decisions.{kernel_decides, kernel_undecided, nobody_decides}
use Rattle.ptrace_check.proofs.access.may_access.Goals as goal

pub returns-in-Some-clause-decision : goal.returns-in-Some-clause-decision
returns-in-Some-clause-decision g c =
    (kernel_decides c.args.guards.now.guards c.args.caller.now c.args.target.now c.in-Some.allowed c.in-Some.ensures).0

pub returns-in-Some-clause-asked : goal.returns-in-Some-clause-asked
returns-in-Some-clause-asked g c =
    ap (asked_each c.args.guards.now.guards) (sym (kernel_decides c.args.guards.now.guards c.args.caller.now c.args.target.now c.in-Some.allowed c.in-Some.ensures).1)

pub returns-then-active-eq0-clause-decision : goal.returns-then-active-eq0-clause-decision
returns-then-active-eq0-clause-decision g c =
    eq-eqb c.active_count-active.result 0 c.if-active-eq0.true
    ∙ (nobody_decides c.args.guards.now.guards c.args.caller.now c.args.target.now (sym c.active_count-active.ensures.count ∙ c.if-active-eq0.true) c.in-None.ensures).0

pub returns-then-active-eq0-clause-asked : goal.returns-then-active-eq0-clause-asked
returns-then-active-eq0-clause-asked g c =
    ap (asked_each c.args.guards.now.guards)
    (sym (nobody_decides c.args.guards.now.guards c.args.caller.now c.args.target.now (sym c.active_count-active.ensures.count ∙ c.if-active-eq0.true) c.in-None.ensures).1)

pub returns-else-active-eq0-clause-decision : goal.returns-else-active-eq0-clause-decision
returns-else-active-eq0-clause-decision g c =
    c.allow.ensures.decision ∙ sym (kernel_undecided c.args.guards.now.guards c.args.caller.now c.args.target.now c.in-None.ensures).0

pub returns-else-active-eq0-clause-asked : goal.returns-else-active-eq0-clause-asked
returns-else-active-eq0-clause-asked g c =
    c.allow.ensures.asked ∙ ap (asked_each c.args.guards.now.guards) (sym (kernel_undecided c.args.guards.now.guards c.args.caller.now c.args.target.now c.in-None.ensures).1)
