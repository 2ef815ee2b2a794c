use Rattle.std.proofs.Common.{◌≡◌, ℕ, ap, ◌∙◌, arith}
use Rattle.std.specs.FinMap.{empty, len, len-empty, empty_of_len}
use Rattle.cs_types.specs.Queue.{Members, key_cmp}
use Rattle.run_queue.proofs.Seats.{len-joined}
use Rattle.run_queue.proofs.classes.Classes.clear.Goals as goal

none : (members : Members) → members ≡ empty → len members ≡ 0
none members is = ap len is ∙ len-empty key_cmp ℕ

pub invariant_of-self : goal.invariant_of-self
invariant_of-self g c =
    let sound = c.self.invariant in
    let stop = none c.clear.new.self.members c.clear.ensures.members in
    let deadline = none c.clear-2.new.self.members c.clear-2.ensures.members in
    let real_time = none c.clear-3.new.self.members c.clear-3.ensures.members in
    let fair = none c.clear-4.new.self.members c.clear-4.ensures.members in record {
      few = omega arith;
      limit_fits = sound.limit_fits;
      stop = omega (arith, sound.stop, c.clear.ensures.spare);
      deadline = omega (arith, sound.deadline, c.clear-2.ensures.spare);
      real_time = omega (arith, sound.real_time, c.clear-3.ensures.spare);
      fair = omega (arith, sound.fair, c.clear-4.ensures.spare);
    }

pub returns-clause-tasks : goal.returns-clause-tasks
returns-clause-tasks g c =
    let all = len-joined c.clear.new.self.members c.clear-2.new.self.members c.clear-3.new.self.members c.clear-4.new.self.members in
    let stop = none c.clear.new.self.members c.clear.ensures.members in
    let deadline = none c.clear-2.new.self.members c.clear-2.ensures.members in
    let real_time = none c.clear-3.new.self.members c.clear-3.ensures.members in
    let fair = none c.clear-4.new.self.members c.clear-4.ensures.members in
    empty_of_len _ (omega arith)

pub returns-clause-spare : goal.returns-clause-spare
returns-clause-spare g c =
    let sound = c.self.invariant in
    let all = len-joined c.self.inside.stop.members c.self.inside.deadline.members c.self.inside.real_time.members c.self.inside.fair.members in
    let stop = none c.clear.new.self.members c.clear.ensures.members in
    let deadline = none c.clear-2.new.self.members c.clear-2.ensures.members in
    let real_time = none c.clear-3.new.self.members c.clear-3.ensures.members in
    let fair = none c.clear-4.new.self.members c.clear-4.ensures.members in
    rw (← c.self.view_is) (omega (arith, sound.few))
