use Rattle.scenario_text.specs.Reading.{contents}
use Rattle.scenario_text.proofs.Scenarios.{made_is}
use Rattle.scenario_text.proofs.reading.read_lines.Goals as goal

pub returns : goal.returns
returns c =
    rw (c.of.ensures, c.of-2.ensures, c.of-3.ensures)
    (made_is c.in_ok-head.head (contents c.in_ok-plan.plan) c.args.lines c.next_head.new.lines c.in_ok-head.ensures.0 c.in_ok-head.ensures.1 c.in_ok-plan.ensures.0 c.in_ok-plan.ensures.1 c.in_ok-plan.ensures.2)
