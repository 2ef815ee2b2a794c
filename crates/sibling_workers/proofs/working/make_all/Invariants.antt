use Rattle.std.proofs.Common.{◌≡◌, ◌-◌, length}
use Rattle.core_lock.specs.Passes.{list_of}
use Rattle.sibling_workers.proofs.working.make_all.Given as goal

-- the pass is of its lock and has its list
abbrev pub invariant-loop-turn : goal.invariant-loop-turn
invariant-loop-turn g l = (l.pass.lock ≡ l.fn.pass.lock) × (l.pass.progress.number ≡ l.fn.pass.progress.number)

-- each call makes one of the steps that are left
abbrev pub decreases-loop-turn : goal.decreases-loop-turn
decreases-loop-turn g l = length (list_of l.pass) - l.pass.progress.made
