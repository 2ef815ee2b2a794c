use Rattle.std.proofs.Common.{refl}
use Rattle.std.specs.Prelude.{◌||◌}
use Rattle.core_lanes.proofs.Stays.{changes_sibling}
use Rattle.core_lanes.proofs.lanes.Core.flag.Goals as goal

pub returns : goal.returns
returns g c table =
    let lane = c.index_mut.result.now in
    changes_sibling c.args.self.now _ table c.args.cpu lane (record lane { pending = lane.pending || c.args.test }) (λ sibling. record sibling { pending = sibling.pending || c.args.test }) c.requires c.index_mut.ensures.value refl refl refl refl refl
