use Rattle.sibling_workers.specs.Working.{HasWorked}
use Rattle.sibling_workers.proofs.Placed.{all_zip-refilled}
use Rattle.sibling_workers.proofs.working.work.Goals as goal

pub returns : goal.returns
returns g c = record {
  worked = all_zip-refilled HasWorked c.args.passes.now c.items_mut.result.now c.work_each.new.passes c.items_mut.ensures.value c.work_each.auto.passes c.work_each.ensures.worked;
}
