use Rattle.std.proofs.Common.{◌≡◌, ◌<◌, ◌-◌, ◌∙◌, ap, sym, arith, length}
use Rattle.std.specs.Prelude.{filter}
use Rattle.std.specs.List.{range_with_len}
use Rattle.std.proofs.lemmas.List.{length-map}
use Rattle.cs_types.specs.Room.{SiblingState}
use Rattle.cs_types.specs.Drain.{lowest}
use Rattle.core_lanes.specs.Lanes.{lane_state, room_of}
use Rattle.core_lanes.proofs.Stays.{lane_at}
use Rattle.core_tasks.specs.Drain.{is_due}
use Rattle.core_tasks.proofs.Pending.{due, lowest_due, lowest_here, lowest_later, lowest_none}
use Rattle.core_tasks.proofs.drain.lowest_pending.Goals as goal

pub loop-cpu-init : goal.loop-cpu-init
loop-cpu-init g c = record {
  from_here = λ beside table. let room = room_of beside (c.args.core.now, table) in
      let count : length room.siblings ≡ c.len-cpu-end.result - 0 =
      omega (arith, length-map c.args.core.now.lanes.items lane_state, c.len-cpu-end.ensures) in
      lowest_due room c.args.has_waiting ∙ ap (λ n. lowest (filter (due room c.args.has_waiting) (range_with_len 0 n))) count;
}

pub returns-then-is_due : goal.returns-then-is_due
returns-then-is_due g c beside table =
    let room = room_of beside (c.args.core.now, table) in
    let within : c.loop-cpu.cpu < length c.args.core.now.lanes.items = omega (arith, c.loop-cpu-test.true, c.len-cpu-end.ensures) in
    let at = lane_at c.args.core.now.lanes.items c.loop-cpu.cpu c.index.result.now within c.index.ensures in
    let passes = ap (λ (s : SiblingState). is_due c.args.has_waiting s) at ∙ sym c.is_due.ensures ∙ c.if-is_due.true in
    sym (c.loop-cpu.invariant.from_here beside table ∙ lowest_here (due room c.args.has_waiting) c.loop-cpu.cpu c.len-cpu-end.result c.loop-cpu-test.true passes)

pub loop-cpu-preserved : goal.loop-cpu-preserved
loop-cpu-preserved g c = record {
  from_here = λ beside table.
      let room = room_of beside (c.args.core.now, table) in
      let within : c.loop-cpu.cpu < length c.args.core.now.lanes.items = omega (arith, c.loop-cpu-test.true, c.len-cpu-end.ensures) in
      let at = lane_at c.args.core.now.lanes.items c.loop-cpu.cpu c.index.result.now within c.index.ensures in
      let fails = ap (λ (s : SiblingState). is_due c.args.has_waiting s) at ∙ sym c.is_due.ensures ∙ c.if-is_due.false in
      c.loop-cpu.invariant.from_here beside table ∙ lowest_later (due room c.args.has_waiting) c.loop-cpu.cpu c.len-cpu-end.result c.loop-cpu-test.true fails;
}

pub returns : goal.returns
returns g c beside table =
    let room = room_of beside (c.args.core.now, table) in
    sym (c.loop-cpu.invariant.from_here beside table ∙ lowest_none (due room c.args.has_waiting) c.loop-cpu.cpu c.len-cpu-end.result (omega (arith, c.loop-cpu-test.false)))
