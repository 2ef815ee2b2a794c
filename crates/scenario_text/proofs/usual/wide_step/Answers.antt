use Rattle.std.proofs.Common.{ℕ, ◌<◌, List, ◌∷◌, ap, ◌∙◌, arith}
use Rattle.cs_types.specs.declared.event.Actor.TheVariants.{Sibling}
use Rattle.scenario_text.proofs.UsualLines.{one_is, step_is}
use Rattle.scenario_text.proofs.usual.wide_step.Goals as goal

pub returns : goal.returns
returns c =
    let text = c.args.text.now in
    let front = c.in_ok-behind.field-0.now in
    let cpu = c.in_ok-cpu in
    let read = c.in_ok-event in
    let few : cpu.cpu < c.args.siblings = omega (arith, c.requires.0, cpu.ensures.within.1) in
    step_is c.args.siblings (Sibling cpu.cpu) read.event text front cpu.text.now read.rest.now c.in_ok-behind.ensures
    (record { is = few; spelled = one_is front 115 c.in-115.len_at_least (omega arith) ∙ ap (λ (w : List ℕ). 115 ∷ w) cpu.ensures.spelled })
    (read.ensures c.args.siblings few)
