use Rattle.scenario_runner.proofs.Writes.{is_written}
use Rattle.view_runner.proofs.shown.write_table.Goals as goal

pub returns : goal.returns
returns g c = is_written _ _ c.segments.result c.of_writing.result c.of_writing.ensures.done c.of_writing.ensures.fault c.segments.ensures.ok c.segments.ensures.prefix c.segments.ensures.faultless c.segments.ensures.failed
