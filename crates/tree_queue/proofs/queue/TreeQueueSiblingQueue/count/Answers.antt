use Rattle.std.proofs.Common.{◌∙◌}
use Rattle.core_lanes.specs.Queued.{queued_among}
use Rattle.tree_queue.proofs.Compared.{many_queued}
use Rattle.tree_queue.proofs.queue.TreeQueueSiblingQueue.count.Goals as goal

pub returns : goal.returns
returns c = c.count.ensures ∙ many_queued (queued_among c.args._table.now.tasks c.args._cpu) c.requires.trees
