use Rattle.std.proofs.Common.{ℕ, List, ◌++◌, map, sym, ap, subst, arith}
use Rattle.std.specs.List.Sorted.{IsPermutation}
use Rattle.std.specs.FinMap.{entries, len}
use Rattle.cs_types.specs.Queue.{Seated}
use Rattle.order_tree.specs.Rank.{stamped as ranked_stamp}
use Rattle.run_queue.proofs.Seats.{len-joined, length-told, told-joined, told-next}
use Rattle.run_queue.proofs.classes.Classes.tell_into.Goals as goal

-- ---- the calls, which tell no more than all

pub tell_into-requires : goal.tell_into-requires
tell_into-requires g c =
    let was = c.self.inside in
    let all = len-joined was.stop.members was.deadline.members was.real_time.members was.fair.members in
    let seen = ap (λ (classes : Seated). len classes.tasks) c.self.view_is in
    record { fits = omega (arith, all, seen, c.requires.fits) }

pub tell_into-requires-2 : goal.tell_into-requires-2
tell_into-requires-2 g c =
    let was = c.self.inside in
    let all = len-joined was.stop.members was.deadline.members was.real_time.members was.fair.members in
    let seen = ap (λ (classes : Seated). len classes.tasks) c.self.view_is in
    let one = length-told was.stop.members (g.M.Movers.told c.args.movers.now) (g.M.Movers.told c.tell_into.new.movers) c.tell_into.ensures.told in
    record { fits = omega (arith, all, seen, one, c.requires.fits) }

pub tell_into-requires-3 : goal.tell_into-requires-3
tell_into-requires-3 g c =
    let was = c.self.inside in
    let all = len-joined was.stop.members was.deadline.members was.real_time.members was.fair.members in
    let seen = ap (λ (classes : Seated). len classes.tasks) c.self.view_is in
    let one = length-told was.stop.members (g.M.Movers.told c.args.movers.now) (g.M.Movers.told c.tell_into.new.movers) c.tell_into.ensures.told in
    let two = length-told was.deadline.members (g.M.Movers.told c.tell_into.new.movers) (g.M.Movers.told c.tell_into-2.new.movers) c.tell_into-2.ensures.told in
    record { fits = omega (arith, all, seen, one, two, c.requires.fits) }

pub tell_into-requires-4 : goal.tell_into-requires-4
tell_into-requires-4 g c =
    let was = c.self.inside in
    let all = len-joined was.stop.members was.deadline.members was.real_time.members was.fair.members in
    let seen = ap (λ (classes : Seated). len classes.tasks) c.self.view_is in
    let one = length-told was.stop.members (g.M.Movers.told c.args.movers.now) (g.M.Movers.told c.tell_into.new.movers) c.tell_into.ensures.told in
    let two = length-told was.deadline.members (g.M.Movers.told c.tell_into.new.movers) (g.M.Movers.told c.tell_into-2.new.movers) c.tell_into-2.ensures.told in
    let three = length-told was.real_time.members (g.M.Movers.told c.tell_into-2.new.movers) (g.M.Movers.told c.tell_into-3.new.movers) c.tell_into-3.ensures.told in
    record { fits = omega (arith, all, seen, one, two, three, c.requires.fits) }

-- ---- what is left

pub returns : goal.returns
returns g c =
    let was = c.self.inside in
    let old = g.M.Movers.told c.args.movers.now in
    let stop = map ranked_stamp (entries was.stop.members) in
    let deadline = map ranked_stamp (entries was.deadline.members) in
    let real_time = map ranked_stamp (entries was.real_time.members) in
    let fair = map ranked_stamp (entries was.fair.members) in
    let one = g.M.Movers.told c.tell_into.new.movers in
    let two = g.M.Movers.told c.tell_into-2.new.movers in
    let three = g.M.Movers.told c.tell_into-3.new.movers in
    let all = g.M.Movers.told c.tell_into-4.new.movers in
    record {
      told = rw (← c.self.view_is)
          (subst (λ (told : List (ℕ × ℕ)). IsPermutation (old ++ told) all) (sym (told-joined was.stop.members was.deadline.members was.real_time.members was.fair.members))
          (told-next old one all stop (deadline ++ (real_time ++ fair)) c.tell_into.ensures.told
          (told-next one two all deadline (real_time ++ fair) c.tell_into-2.ensures.told
          (told-next two three all real_time fair c.tell_into-3.ensures.told c.tell_into-4.ensures.told))));
    }
