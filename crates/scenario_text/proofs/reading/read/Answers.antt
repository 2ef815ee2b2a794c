use Rattle.scenario_text.proofs.Cuts.{some_lines}
use Rattle.scenario_text.proofs.Scenarios.{one_scenario, none_of, found_of, only_of, bad_of}
use Rattle.scenario_text.proofs.reading.read.Goals as goal

pub read_lines-requires : goal.read_lines-requires
read_lines-requires c = rw c.of.ensures (some_lines c.args.bytes.now)

pub returns-clause-found : goal.returns-clause-found
returns-clause-found c =
    let read = rw c.of.ensures at c.read_lines.ensures in found_of c.args.bytes.now c.read_lines.result read

pub returns-clause-only : goal.returns-clause-only
returns-clause-only c =
    let read = rw c.of.ensures at c.read_lines.ensures in only_of c.args.bytes.now c.read_lines.result read

pub returns-clause-one : goal.returns-clause-one
returns-clause-one c = one_scenario c.args.bytes.now

pub returns-clause-bad : goal.returns-clause-bad
returns-clause-bad c =
    let read = rw c.of.ensures at c.read_lines.ensures in bad_of c.args.bytes.now c.read_lines.result read

pub returns-clause-none : goal.returns-clause-none
returns-clause-none c = none_of c.args.bytes.now
