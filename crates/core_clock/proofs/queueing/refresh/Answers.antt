use Rattle.std.proofs.Common.{ℕ, ap, sym, ◌∙◌, max}
use Rattle.cs_types.specs.declared.task.Task.{Task}
use Rattle.cs_types.specs.declared.task.Policy.{Policy}
use Rattle.cs_types.specs.Room.{SiblingState}
use Rattle.cs_types.specs.Queueing.{refreshed_by}
use Rattle.core_lanes.specs.Lanes.{at, room_of}
use Rattle.core_lanes.proofs.Stays.{lane_at}
use Rattle.core_clock.proofs.queueing.refresh.Goals as goal

pub returns-in-Fair : goal.returns-in-Fair
returns-in-Fair g c beside table =
    let task = c.args.task.now in
    let lane = lane_at c.args.core.now.lanes.items task.home c.index.result.now c.requires.fits.home c.index.ensures in
    ap (λ (n : ℕ). let later : Task = record task { vtime = n } in later)
    (c.max-task.ensures ∙ ap (λ (sibling : SiblingState). max task.vtime sibling.least) (sym lane))
    ∙ ap (λ (policy : Policy). refreshed_by (room_of (at c.args.now beside) (c.args.core.now, table)) policy task) (sym c.in-Fair.is)

pub returns-in-Deadline : goal.returns-in-Deadline
returns-in-Deadline g c beside table =
    ap (λ (policy : Policy). refreshed_by (room_of (at c.args.now beside) (c.args.core.now, table)) policy c.args.task.now) (sym c.in-Deadline.is)
