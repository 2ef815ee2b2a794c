use Rattle.std.proofs.Common.{refl}
use Rattle.core_lanes.proofs.Stays.{changes_sibling}
use Rattle.core_lanes.proofs.lanes.Core.set_place.Goals as goal

pub returns : goal.returns
returns g c table =
    let lane = c.index_mut.result.now in
    changes_sibling c.args.self.now _ table c.args.cpu lane (record lane { place = c.args.place }) (λ sibling. record sibling { place = c.args.place }) c.requires c.index_mut.ensures.value refl refl refl refl refl
