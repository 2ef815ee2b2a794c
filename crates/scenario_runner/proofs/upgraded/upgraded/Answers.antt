use Rattle.std.proofs.Common.{refl}
use Rattle.scenario_runner.proofs.Upgrading.{ends_upgraded, ends_unread}
use Rattle.scenario_runner.proofs.upgraded.upgraded.Goals as goal

pub returns-in-Ok : goal.returns-in-Ok
returns-in-Ok g c =
    ends_upgraded _ _ c.read_scenario.result c.in-Ok.scenario c.write_upgraded.result
    (record {
      devices = record {
        faultless = c.read_scenario.ensures.faultless;
        failed = c.read_scenario.ensures.failed;
        few = c.requires.source;
        too_long = c.read_scenario.ensures.too_long;
        most = c.read_scenario.ensures.most;
      };
      bad = c.read_scenario.ensures.bad;
      first = c.read_scenario.ensures.first;
      bad_guard = λ line kind e. absurd (c.read_scenario.ensures.guards line kind e);
    })
    c.in-Ok.is c.in-Ok.ensures.reads c.requires.sink c.write_upgraded.ensures

pub returns-in-Err : goal.returns-in-Err
returns-in-Err g c =
    rw c.from.ensures
    (ends_unread _ _ c.read_scenario.result c.in-Err.stop
    (record {
      devices = record {
        faultless = c.read_scenario.ensures.faultless;
        failed = c.read_scenario.ensures.failed;
        few = c.requires.source;
        too_long = c.read_scenario.ensures.too_long;
        most = c.read_scenario.ensures.most;
      };
      bad = c.read_scenario.ensures.bad;
      first = c.read_scenario.ensures.first;
      bad_guard = λ line kind e. absurd (c.read_scenario.ensures.guards line kind e);
    })
    c.in-Err.is c.read_scenario.ensures.guards refl)

pub write_upgraded-requires : goal.write_upgraded-requires
write_upgraded-requires g c = let reads = c.in-Ok.ensures.reads in reads.valid
