use Rattle.view_runner.proofs.Explanations.{ends_counted, ends_said}
use Rattle.view_runner.proofs.explained.explained.Goals as goal

pub returns-in-Ok : goal.returns-in-Ok
returns-in-Ok g c =
    ends_counted _ _ _ c.taken.result c.in-Ok.scenario c.write_counts.result
    (record {
      devices = record {
        faultless = c.taken.ensures.faultless;
        failed = c.taken.ensures.failed;
        few = c.requires.source;
        too_long = c.taken.ensures.too_long;
        most = c.taken.ensures.most;
      };
      bad = c.taken.ensures.bad;
      first = c.taken.ensures.first;
      bad_guard = c.taken.ensures.bad_guard;
    })
    c.in-Ok.is c.in-Ok.ensures.reads c.in-Ok.ensures.taught c.requires.sink c.write_counts.ensures

pub returns : goal.returns
returns g c =
    ends_said _ _ _ c.taken.result c.in-Err.stop c.write_explanation.result
    (record {
      devices = record {
        faultless = c.taken.ensures.faultless;
        failed = c.taken.ensures.failed;
        few = c.requires.source;
        too_long = c.taken.ensures.too_long;
        most = c.taken.ensures.most;
      };
      bad = c.taken.ensures.bad;
      first = c.taken.ensures.first;
      bad_guard = c.taken.ensures.bad_guard;
    })
    c.in-Err.is c.requires.sink c.write_explanation.ensures
