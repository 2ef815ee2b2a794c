use Rattle.std.proofs.Common.{◌+◌, ◌≤◌, ap, ◌∙◌, arith, refl}
use Rattle.core_lanes.specs.Numbers.{touched}
use Rattle.core_lanes.proofs.Stays.{both_stay, stamp_next, stamped_later}
use Rattle.core_lanes.proofs.lanes.Core.enqueue.Goals as goal

pub change-requires : goal.change-requires
change-requires g c =
    let known = c.requires.knows in
    let next = c.args.self.now.next_stamp in
    let later : next ≤ next + 1 = omega arith in
    record {
      known = record {
        apart = record { agree = (stamped_later c.args.self.now _ c.args.table.now refl later).agree known.apart.agree; old = known.apart.old; there = known.apart.there; fits = record { home = known.apart.fits.home; policy = known.apart.fits.policy } };
        cookie = known.cookie;
      };
      stamp = λ queued. stamp_next c.args.self.now.next_stamp c.args.table.now.tasks _ refl known.apart.agree.stamped;
    }

pub returns-clause-touches : goal.returns-clause-touches
returns-clause-touches g c =
    let touch = c.touch.ensures c.change.new.table in
    let next = c.args.self.now.next_stamp in
    let later : next ≤ next + 1 = omega arith in
    record {
      room = λ beside. touch.room beside ∙ c.change.ensures.changes.room beside;
      numbers = touch.numbers ∙ ap (touched 1) c.change.ensures.changes.numbers;
      stays = both_stay (stamped_later c.args.self.now _ c.args.table.now refl later) (both_stay c.change.ensures.changes.stays touch.stays);
    }
