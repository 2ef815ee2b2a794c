use Rattle.std.proofs.Common.{length}
use Rattle.order_tree.specs.Balance.{under}
use Rattle.order_tree.proofs.tree.Node.+renew.Given as goal

abbrev pub decreases-renew : goal.decreases-renew
decreases-renew g l = length (under l.self.now).entries
