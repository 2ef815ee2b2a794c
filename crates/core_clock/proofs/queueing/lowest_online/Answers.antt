use Rattle.std.proofs.Common.{◌≡◌, ◌<◌, ◌∙◌, ap, sym, map, length, arith}
use Rattle.std.specs.Prelude.{find, unwrap_or}
use Rattle.std.specs.List.{range_with_len}
use Rattle.std.proofs.lemmas.List.{length-map}
use Rattle.cs_types.specs.Room.{is_online}
use Rattle.core_lanes.specs.Lanes.{lane_state, room_of}
use Rattle.core_lanes.proofs.Onlines.{none_more, first_found, online_is}
use Rattle.core_clock.proofs.queueing.lowest_online.Goals as goal

pub returns-then-index-clause-lowest : goal.returns-then-index-clause-lowest
returns-then-index-clause-lowest g c beside table =
    let core = c.args.core.now in
    let cpu = c.loop-cpu.cpu in
    let below : cpu < length core.lanes.items = omega (arith, c.loop-cpu-test.true, c.len-cpu-end.ensures) in
    sym (first_found (is_online (room_of beside (core, table))) cpu (length (map lane_state core.lanes.items)) (omega (arith, below, length-map core.lanes.items lane_state))
    (c.loop-cpu.invariant.none beside table) (online_is beside (core, table) cpu c.index.result.now below c.index.ensures ∙ c.if-index.true))

pub loop-cpu-preserved : goal.loop-cpu-preserved
loop-cpu-preserved g c =
    let core = c.args.core.now in
    let cpu = c.loop-cpu.cpu in
    let below : cpu < length core.lanes.items = omega (arith, c.loop-cpu-test.true, c.len-cpu-end.ensures) in
    record {
      none = λ beside table. none_more (is_online (room_of beside (core, table))) cpu (c.loop-cpu.invariant.none beside table)
          (online_is beside (core, table) cpu c.index.result.now below c.index.ensures ∙ c.if-index.false);
    }

pub returns-clause-lowest : goal.returns-clause-lowest
returns-clause-lowest g c beside table =
    let core = c.args.core.now in
    let all : length (map lane_state core.lanes.items) ≡ c.loop-cpu.cpu =
    omega (arith, c.loop-cpu-test.false, c.loop-cpu.auto.cpu-end, c.len-cpu-end.ensures, length-map core.lanes.items lane_state) in
    sym (ap (λ n. unwrap_or (find (is_online (room_of beside (core, table))) (range_with_len 0 n)) 0) all
    ∙ ap (λ found. unwrap_or found 0) (c.loop-cpu.invariant.none beside table))
