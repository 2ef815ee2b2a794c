use Rattle.scenario_runner.proofs.Writes.{at_done, is_written}
use Rattle.scenario_runner.proofs.played.write_output.Goals as goal

pub returns : goal.returns
returns g c =
    record {
      written = is_written _ _ c.output.result c.of_writing.result c.of_writing.ensures.done c.of_writing.ensures.fault c.output.ensures.ok c.output.ensures.prefix c.output.ensures.faultless c.output.ensures.failed;
      one = c.output.ensures.one;
      numbers = at_done c.output.result c.of_writing.result c.of_writing.ensures.fault c.output.ensures.numbers;
    }
