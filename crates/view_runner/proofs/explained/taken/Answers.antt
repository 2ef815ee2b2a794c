use Rattle.std.proofs.Common.{◌∙◌, List, Ok, Err, refl, sym, ap, subst, map}
use Rattle.std.proofs.lemmas.Result.{err_from_is_err_and}
use Rattle.cs_types.specs.declared.scenario.Teach.{Teach}
use Rattle.scenario_input.specs.Teaching.{first_bad, IsTeachStop}
use Rattle.scenario_runner.specs.Ends.{Used}
use Rattle.scenario_runner.proofs.Openings.{none_made, unread, untaught, is_opened}
use Rattle.view_runner.proofs.explained.taken.Goals as goal

pub returns-in_err-scenario : goal.returns-in_err-scenario
returns-in_err-scenario g c =
    let source : Used g.row.S.Denot = record { bytes = g.S.Source.left; faults = g.S.Source.faults; before = c.args.source.now; after = c.read_and_keep.new.source } in
    let caps = map g.G.Guard.cap c.args.guards.items in
    let stop = err_from_is_err_and c.from_residual.result c.from_residual.ensures.1 in
    let o = unread caps source c.read_and_keep.result c.from_residual.result c.in_err-scenario.field-0.0
    (record {
      too_long = c.read_and_keep.ensures.too_long;
      most = c.read_and_keep.ensures.most;
      bad = c.read_and_keep.ensures.bad;
      first = c.read_and_keep.ensures.first;
      faultless = c.read_and_keep.ensures.faultless;
      failed = c.read_and_keep.ensures.failed;
    })
    c.read_and_keep.ensures.guards c.in_err-scenario.was (stop.1 ∙ ap Err stop.2) in
    record {
      reads = none_made _ _ _ stop.1;
      taught = none_made _ _ _ stop.1;
      too_long = o.told.too_long;
      most = o.told.most;
      bad = o.told.bad;
      first = o.told.first;
      bad_guard = o.bad_guard;
      faultless = o.told.faultless;
      failed = o.told.failed;
      counted = c.read_and_keep.ensures.counted;
    }

pub returns-in_err-taught : goal.returns-in_err-taught
returns-in_err-taught g c =
    let source : Used g.row.S.Denot = record { bytes = g.S.Source.left; faults = g.S.Source.faults; before = c.args.source.now; after = c.read_and_keep.new.source } in
    let caps = map g.G.Guard.cap c.args.guards.items in
    let scenario = c.in_ok-scenario.scenario in
    let stop = err_from_is_err_and c.from_residual-in_err-taught.result c.from_residual-in_err-taught.ensures.1 in
    let why = subst (λ (teaches : List Teach). IsTeachStop (first_bad caps teaches) c.in_err-taught.field-0.0) c.items.ensures c.in_err-taught.ensures.stop in
    let o = untaught caps source c.read_and_keep.result c.from_residual-in_err-taught.result scenario c.in_err-taught.field-0.0
    (record {
      too_long = c.read_and_keep.ensures.too_long;
      most = c.read_and_keep.ensures.most;
      bad = c.read_and_keep.ensures.bad;
      first = c.read_and_keep.ensures.first;
      faultless = c.read_and_keep.ensures.faultless;
      failed = c.read_and_keep.ensures.failed;
    })
    c.in_ok-scenario.ensures.reads c.in_ok-scenario.was why (stop.1 ∙ ap Err stop.2) in
    record {
      reads = none_made _ _ _ stop.1;
      taught = none_made _ _ _ stop.1;
      too_long = o.told.too_long;
      most = o.told.most;
      bad = o.told.bad;
      first = o.told.first;
      bad_guard = o.bad_guard;
      faultless = o.told.faultless;
      failed = o.told.failed;
      counted = c.read_and_keep.ensures.counted;
    }

pub returns : goal.returns
returns g c =
    let source : Used g.row.S.Denot = record { bytes = g.S.Source.left; faults = g.S.Source.faults; before = c.args.source.now; after = c.read_and_keep.new.source } in
    let caps = map g.G.Guard.cap c.args.guards.items in
    let scenario = c.in_ok-scenario.scenario in
    let o = is_opened caps source c.read_and_keep.result (Ok scenario) scenario scenario
    (record {
      too_long = c.read_and_keep.ensures.too_long;
      most = c.read_and_keep.ensures.most;
      bad = c.read_and_keep.ensures.bad;
      first = c.read_and_keep.ensures.first;
      faultless = c.read_and_keep.ensures.faultless;
      failed = c.read_and_keep.ensures.failed;
    })
    c.in_ok-scenario.was refl in
    record {
      reads = c.in_ok-scenario.ensures.reads;
      taught = ap (first_bad caps) (sym c.items.ensures) ∙ c.in_ok-taught.ensures.all;
      too_long = o.told.too_long;
      most = o.told.most;
      bad = o.told.bad;
      first = o.told.first;
      bad_guard = o.bad_guard;
      faultless = o.told.faultless;
      failed = o.told.failed;
      counted = c.read_and_keep.ensures.counted;
    }
