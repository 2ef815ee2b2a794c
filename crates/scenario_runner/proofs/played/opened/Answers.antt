use Rattle.std.proofs.Common.{rules, ◌≡◌, ◌∙◌, List, Ok, Err, refl, sym, ap, subst, map, length, arith}
use Rattle.std.proofs.lemmas.Result.{err_from_is_err_and}
use Rattle.std.proofs.lemmas.List.{length-map}
use Rattle.scenario_input.specs.declared.stop.Stop.TheVariants.{OutOfMemory}
use Rattle.scenario_input.specs.Teaching.{first_bad, IsTeachStop}
use Rattle.cs_types.specs.declared.scenario.Teach.{Teach}
use Rattle.scenario_runner.specs.Ends.{Used}
use Rattle.scenario_runner.proofs.Openings.{bench_is, opening_is, none_made, unread, untaught, is_opened}
use Rattle.scenario_runner.proofs.played.opened.Goals as goal

pub from_scenario-requires : goal.from_scenario-requires
from_scenario-requires g c =
    record { playable = search rules; on_bench = bench_is _ _ _ _ c.in_ok-guards.ensures.taught c.items.ensures }

pub returns-in_err-scenario : goal.returns-in_err-scenario
returns-in_err-scenario g c =
    let source : Used g.row.S.Denot = record { bytes = g.S.Source.left; faults = g.S.Source.faults; before = c.args.source.now; after = c.read_scenario.new.source } in
    let caps = map g.G.Guard.cap c.args.guards.items in
    let stop = err_from_is_err_and c.from_residual.result c.from_residual.ensures.1 in
    let o = unread caps source c.read_scenario.result c.from_residual.result c.in_err-scenario.field-0.0
    (record {
      too_long = c.read_scenario.ensures.too_long;
      most = c.read_scenario.ensures.most;
      bad = c.read_scenario.ensures.bad;
      first = c.read_scenario.ensures.first;
      faultless = c.read_scenario.ensures.faultless;
      failed = c.read_scenario.ensures.failed;
    })
    c.read_scenario.ensures.guards c.in_err-scenario.was (stop.1 ∙ ap Err stop.2) in
    record {
      reads = none_made _ _ _ stop.1;
      taught = none_made _ _ _ stop.1;
      opening = none_made _ _ _ stop.1;
      empty = none_made _ _ _ stop.1;
      spare = none_made _ _ _ stop.1;
      too_long = o.told.too_long;
      most = o.told.most;
      bad = o.told.bad;
      first = o.told.first;
      bad_guard = o.bad_guard;
      faultless = o.told.faultless;
      failed = o.told.failed;
      counted = c.read_scenario.ensures.counted;
    }

pub returns-in_err-guards : goal.returns-in_err-guards
returns-in_err-guards g c =
    let source : Used g.row.S.Denot = record { bytes = g.S.Source.left; faults = g.S.Source.faults; before = c.args.source.now; after = c.read_scenario.new.source } in
    let caps = map g.G.Guard.cap c.args.guards.items in
    let scenario = c.in_ok-scenario.scenario in
    let stop = err_from_is_err_and c.from_residual-in_err-guards.result c.from_residual-in_err-guards.ensures.1 in
    let why = subst (λ (teaches : List Teach). IsTeachStop (first_bad caps teaches) c.in_err-guards.field-0.0) c.items.ensures c.in_err-guards.ensures.stop in
    let o = untaught caps source c.read_scenario.result c.from_residual-in_err-guards.result scenario c.in_err-guards.field-0.0
    (record {
      too_long = c.read_scenario.ensures.too_long;
      most = c.read_scenario.ensures.most;
      bad = c.read_scenario.ensures.bad;
      first = c.read_scenario.ensures.first;
      faultless = c.read_scenario.ensures.faultless;
      failed = c.read_scenario.ensures.failed;
    })
    c.in_ok-scenario.ensures.reads c.in_ok-scenario.was why (stop.1 ∙ ap Err stop.2) in
    record {
      reads = none_made _ _ _ stop.1;
      taught = none_made _ _ _ stop.1;
      opening = none_made _ _ _ stop.1;
      empty = none_made _ _ _ stop.1;
      spare = none_made _ _ _ stop.1;
      too_long = o.told.too_long;
      most = o.told.most;
      bad = o.told.bad;
      first = o.told.first;
      bad_guard = o.bad_guard;
      faultless = o.told.faultless;
      failed = o.told.failed;
      counted = c.read_scenario.ensures.counted;
    }

pub returns-in_err-room : goal.returns-in_err-room
returns-in_err-room g c =
    let source : Used g.row.S.Denot = record { bytes = g.S.Source.left; faults = g.S.Source.faults; before = c.args.source.now; after = c.read_scenario.new.source } in
    let caps = map g.G.Guard.cap c.args.guards.items in
    let scenario = c.in_ok-scenario.scenario in
    let stop = err_from_is_err_and c.from_residual-in_err-room.result c.from_residual-in_err-room.ensures.1 in
    let o = untaught caps source c.read_scenario.result c.from_residual-in_err-room.result scenario OutOfMemory
    (record {
      too_long = c.read_scenario.ensures.too_long;
      most = c.read_scenario.ensures.most;
      bad = c.read_scenario.ensures.bad;
      first = c.read_scenario.ensures.first;
      faultless = c.read_scenario.ensures.faultless;
      failed = c.read_scenario.ensures.failed;
    })
    c.in_ok-scenario.ensures.reads c.in_ok-scenario.was tt (stop.1 ∙ ap Err stop.2) in
    record {
      reads = none_made _ _ _ stop.1;
      taught = none_made _ _ _ stop.1;
      opening = none_made _ _ _ stop.1;
      empty = none_made _ _ _ stop.1;
      spare = none_made _ _ _ stop.1;
      too_long = o.told.too_long;
      most = o.told.most;
      bad = o.told.bad;
      first = o.told.first;
      bad_guard = o.bad_guard;
      faultless = o.told.faultless;
      failed = o.told.failed;
      counted = c.read_scenario.ensures.counted;
    }

-- Its guards are those that were handed in.
pub returns : goal.returns
returns g c =
    let source : Used g.row.S.Denot = record { bytes = g.S.Source.left; faults = g.S.Source.faults; before = c.args.source.now; after = c.read_scenario.new.source } in
    let caps = map g.G.Guard.cap c.args.guards.items in
    let scenario = c.in_ok-scenario.scenario in
    let room = c.in_ok-room.room in
    let len : c.args.guards.len ≡ length c.args.guards.items = omega (arith, c.args.guards.ok.0) in
    let o = is_opened caps source c.read_scenario.result (Ok (scenario, room)) scenario (scenario, room)
    (record {
      too_long = c.read_scenario.ensures.too_long;
      most = c.read_scenario.ensures.most;
      bad = c.read_scenario.ensures.bad;
      first = c.read_scenario.ensures.first;
      faultless = c.read_scenario.ensures.faultless;
      failed = c.read_scenario.ensures.failed;
    })
    c.in_ok-scenario.was refl in
    record {
      reads = c.in_ok-scenario.ensures.reads;
      taught = ap (first_bad caps) (sym c.items.ensures) ∙ c.in_ok-guards.ensures.all;
      opening = c.in_ok-room.ensures.opening
          ∙ opening_is scenario c.in_ok-guards.guards.guards c.items.result.now c.args.guards.len caps c.in_ok-guards.ensures.taught (len ∙ sym (length-map c.args.guards.items g.G.Guard.cap));
      empty = c.in_ok-room.ensures.empty;
      spare = c.in_ok-room.ensures.spare;
      too_long = o.told.too_long;
      most = o.told.most;
      bad = o.told.bad;
      first = o.told.first;
      bad_guard = o.bad_guard;
      faultless = o.told.faultless;
      failed = o.told.failed;
      counted = c.read_scenario.ensures.counted;
    }
