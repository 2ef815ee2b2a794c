use Rattle.std.proofs.Common.{◌≡◌, ◌-◌, length}
use Rattle.core_lock.specs.Passes.{list_of}
use Rattle.lock_rows.proofs.passes.make_all.Given as goal

-- the pass is of its lock and has its list, and what was read last is its note
abbrev pub invariant-loop-pass : goal.invariant-loop-pass
invariant-loop-pass g l = (l.pass.lock ≡ l.fn.pass.lock) × (l.pass.progress.number ≡ l.fn.pass.progress.number) × (l.pass.progress.note ≡ l.last)

-- each call makes one of the steps that are left
abbrev pub decreases-loop-pass : goal.decreases-loop-pass
decreases-loop-pass g l = length (list_of l.pass) - l.pass.progress.made
