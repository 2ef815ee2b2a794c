use Rattle.std.proofs.Common.{◌≡◌, ◌<◌, ◌∙◌, false, not, ap, sym, map, length, arith, eq-eqb, ne_eqb}
use Rattle.std.specs.Prelude.{find, unwrap_or, ◌&&◌, ◌==◌}
use Rattle.std.specs.List.{range_with_len}
use Rattle.std.proofs.Math.Bool.{and-false}
use Rattle.std.proofs.lemmas.List.{length-map}
use Rattle.cs_types.specs.Room.{is_online}
use Rattle.task_table.specs.Table.{Table}
use Rattle.core_lanes.specs.Lanes.{Beside, lane_state, room_of}
use Rattle.core_lanes.proofs.Onlines.{none_more, first_found, online_is}
use Rattle.cpu_hotplug.proofs.away.lowest_other.Invariants.{is_other}
use Rattle.cpu_hotplug.proofs.away.lowest_other.Goals.{else-index-via-then-index+else-other-cpu, else-index-via-else-index}
use Rattle.cpu_hotplug.proofs.away.lowest_other.Goals as goal

pub returns-then-other-cpu-clause-lowest : goal.returns-then-other-cpu-clause-lowest
returns-then-other-cpu-clause-lowest g c beside table =
    let core = c.args.core.now in
    let lanes = core.lanes.items in
    let other = c.loop-other.other in
    let below : other < length lanes = omega (arith, c.loop-other-test.true, c.len-other-end.ensures) in
    let on = online_is beside (core, table) other c.index.result.now below c.index.ensures ∙ c.if-index.true in
    let differs = ne_eqb other c.args.cpu c.if-other-cpu.true in
    sym (first_found (is_other (room_of beside (core, table)) c.args.cpu) other (length (map lane_state lanes)) (omega (arith, below, length-map lanes lane_state))
    (c.loop-other.invariant.none beside table) (λ i. on i && not (differs i)))

pub loop-other-preserved : goal.loop-other-preserved
loop-other-preserved g c =
    let core = c.args.core.now in
    let lanes = core.lanes.items in
    let other = c.loop-other.other in
    let below : other < length lanes = omega (arith, c.loop-other-test.true, c.len-other-end.ensures) in
    let on : (beside : Beside) (table : Table) → is_online (room_of beside (core, table)) other ≡ c.index.result.now.online =
    λ beside table. online_is beside (core, table) other c.index.result.now below c.index.ensures in
    let fails : (beside : Beside) (table : Table) → is_other (room_of beside (core, table)) c.args.cpu other ≡ false = λ beside table. elim c.else-index.branch [
      | else-index-via-then-index+else-other-cpu w ↦
          ap (λ b. is_online (room_of beside (core, table)) other && not b) (eq-eqb other c.args.cpu w.if-other-cpu.false) ∙ and-false (is_online (room_of beside (core, table)) other)
      | else-index-via-else-index w ↦ ap (λ b. b && not (other == c.args.cpu)) (on beside table ∙ w.if-index.false)
    ] in
    record { none = λ beside table. none_more (is_other (room_of beside (core, table)) c.args.cpu) other (c.loop-other.invariant.none beside table) (fails beside table) }

pub returns-clause-lowest : goal.returns-clause-lowest
returns-clause-lowest g c beside table =
    let core = c.args.core.now in
    let lanes = core.lanes.items in
    let all : length (map lane_state lanes) ≡ c.loop-other.other =
    omega (arith, c.loop-other-test.false, c.loop-other.auto.other-end, c.len-other-end.ensures, length-map lanes lane_state) in
    sym (ap (λ n. unwrap_or (find (is_other (room_of beside (core, table)) c.args.cpu) (range_with_len 0 n)) 0) all
    ∙ ap (λ found. unwrap_or found 0) (c.loop-other.invariant.none beside table))
