use Rattle.std.proofs.Common.{arith}
use Rattle.run_queue.proofs.Seats.{len-joined}
use Rattle.run_queue.proofs.classes.Classes.count.Goals as goal

pub returns : goal.returns
returns g c =
    let all = len-joined c.self.inside.stop.members c.self.inside.deadline.members c.self.inside.real_time.members c.self.inside.fair.members in
    rw (← c.self.view_is) (omega arith)
