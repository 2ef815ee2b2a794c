use Rattle.std.proofs.Common.{refl, sym, ap, ◌∙◌, length}
use Rattle.cs_types.specs.Room.{SiblingState}
use Rattle.task_table.specs.Moves.{with_first_moved}
use Rattle.task_table.specs.Table.{Table}
use Rattle.core_lanes.proofs.Stays.{lane_at}
use Rattle.core_lanes.proofs.lanes.Core.place.Goals as goal

pub returns : goal.returns
returns g c =
    let core = c.args.self.now in
    let before = c.args.table.now in
    let may = c.requires in
    let lanes = core.lanes.items in
    let behind = ap (λ (sibling : SiblingState). sibling.least) (sym (lane_at lanes c.args.from c.index.result.now may.cpu c.index.ensures)) in
    let least = ap (λ (sibling : SiblingState). sibling.least) (sym (lane_at lanes c.args.to c.index-2.result.now may.other c.index-2.ensures)) in
    record {
      placed = record {
        core = refl;
        lanes = refl;
        table = c.move_to.ensures.moved
            ∙ (λ i. let table : Table = record before { tasks = with_first_moved (length c.args.pids.now) c.args.pids.now c.args.to (behind i) (least i) core.next_stamp before.tasks } in table);
      };
    }
