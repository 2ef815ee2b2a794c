use Rattle.std.proofs.Common.{ap, ◌∙◌}
use Rattle.core_lanes.specs.Numbers.{touched}
use Rattle.core_lanes.proofs.Stays.{both_stay}
use Rattle.core_lanes.proofs.lanes.Core.dequeue.Goals as goal

pub change-requires : goal.change-requires
change-requires g c =
    let known = c.requires.knows in
    record {
      known = record {
        apart = record { agree = known.apart.agree; old = known.apart.old; there = known.apart.there; fits = record { home = known.apart.fits.home; policy = known.apart.fits.policy } };
        cookie = known.cookie;
      };
      stamp = λ queued. absurd cc;
    }

pub returns-clause-touches : goal.returns-clause-touches
returns-clause-touches g c =
    let touch = c.touch.ensures c.change.new.table in
    record {
      room = λ beside. touch.room beside ∙ c.change.ensures.changes.room beside;
      numbers = touch.numbers ∙ ap (touched 1) c.change.ensures.changes.numbers;
      stays = both_stay c.change.ensures.changes.stays touch.stays;
    }
