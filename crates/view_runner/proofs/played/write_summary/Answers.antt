use Rattle.scenario_runner.proofs.Writes.{is_written}
use Rattle.view_runner.proofs.played.write_summary.Goals as goal

pub returns : goal.returns
returns g c = is_written _ _ c.summary.result c.of_writing.result c.of_writing.ensures.done c.of_writing.ensures.fault c.summary.ensures.ok c.summary.ensures.prefix c.summary.ensures.faultless c.summary.ensures.failed
