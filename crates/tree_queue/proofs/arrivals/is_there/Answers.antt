use Rattle.std.proofs.Common.{◌≡◌, ℕ, Some, true, map, sym, ap, ◌∙◌, subst}
use Rattle.std.specs.Prelude.{◌==◌, ◌&&◌, find, Contains}
use Rattle.std.proofs.lemmas.Bool.{eqb-true, eq-eqb}
use Rattle.cs_types.specs.Room.{has_pid}
use Rattle.cs_types.proofs.Foremost.{find_passes}
use Rattle.core_lanes.specs.Queued.{queued_among, mover_of}
use Rattle.core_lanes.proofs.Queues.{is_on}
use Rattle.tree_queue.proofs.Told.{told_among}
use Rattle.tree_queue.proofs.arrivals.is_there.Goals as goal

pub returns : goal.returns
returns c queued =
    let task = c.in-Some.task.now in
    let entry : ℕ × ℕ = (c.args.stamp, c.args.pid) in
    let tasks = c.args.table.now.tasks in
    let cpu = c.args.cpu in
    let found : find (has_pid entry.1) tasks ≡ Some task = sym c.in-Some.ensures.task in
    let home : task.home ≡ cpu = c.if-task-cpu.false in
    let stamp : task.stamp ≡ entry.0 = c.if-task-stamp.false in
    let on : is_on cpu task ≡ true = ap (λ q. q && (task.home == cpu)) queued ∙ eq-eqb task.home cpu home in
    let pid = eqb-true task.spec.pid entry.1 (find_passes (has_pid entry.1) tasks task found) in
    let is : mover_of task ≡ entry = λ i. (stamp i, pid i) in
    subst (Contains (map mover_of (queued_among tasks cpu))) is (told_among tasks cpu task entry.1 found on)
