use Rattle.std.proofs.Common.{refl}
use Rattle.scenario_runner.specs.Outcomes.{IsRaceHistory}
use Rattle.scenario_runner.proofs.Endings.{ends_stopped}
use Rattle.scenario_runner.proofs.Outputs.{ends_raced}
use Rattle.scenario_runner.proofs.played.raced.Goals as goal

pub returns-in-Ok : goal.returns-in-Ok
returns-in-Ok g c =
    ends_raced _ _ _ c.opened.result (c.in-Ok.scenario, c.in-Ok.room) c.in-Ok.scenario (g.R.Room.opening c.in-Ok.room) c.write_race.result
    (record {
      devices = record {
        faultless = c.opened.ensures.faultless;
        failed = c.opened.ensures.failed;
        few = c.requires.source;
        too_long = c.opened.ensures.too_long;
        most = c.opened.ensures.most;
      };
      bad = c.opened.ensures.bad;
      first = c.opened.ensures.first;
      bad_guard = c.opened.ensures.bad_guard;
    })
    c.in-Ok.is (record { reads = c.in-Ok.ensures.reads; taught = c.in-Ok.ensures.taught; begins = c.in-Ok.ensures.opening }) c.requires.sink c.write_race.ensures

pub returns-in-Err : goal.returns-in-Err
returns-in-Err g c =
    rw c.from.ensures
    (ends_stopped IsRaceHistory _ _ _ c.opened.result c.in-Err.stop
    (record {
      devices = record {
        faultless = c.opened.ensures.faultless;
        failed = c.opened.ensures.failed;
        few = c.requires.source;
        too_long = c.opened.ensures.too_long;
        most = c.opened.ensures.most;
      };
      bad = c.opened.ensures.bad;
      first = c.opened.ensures.first;
      bad_guard = c.opened.ensures.bad_guard;
    })
    c.in-Err.is refl)
