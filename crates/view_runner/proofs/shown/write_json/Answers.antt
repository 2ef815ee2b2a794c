use Rattle.scenario_runner.proofs.Writes.{is_written}
use Rattle.view_runner.proofs.shown.write_json.Goals as goal

pub returns : goal.returns
returns g c = is_written _ _ c.segments_json.result c.of_writing.result c.of_writing.ensures.done c.of_writing.ensures.fault c.segments_json.ensures.ok c.segments_json.ensures.prefix c.segments_json.ensures.faultless c.segments_json.ensures.failed
