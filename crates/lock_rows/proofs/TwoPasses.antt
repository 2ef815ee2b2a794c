-- TwoPasses: each of two lists has its pass.
use Rattle.std.proofs.Common.{◌≡◌, ℕ, zero, suc, ◌<◌, [], ◌∷◌, map, arith}
use Rattle.std.specs.Prelude.{Contains}
use Rattle.core_lock.specs.Passes.{PassState}

pub numbers : (first second : PassState) (count number : ℕ) → count ≡ 2 → first.progress.number ≡ 0 → second.progress.number ≡ 1 → number < count →
    Contains (map (λ (pass : PassState). pass.progress.number) (second ∷ first ∷ [])) number
numbers first second count zero two is has lt = (1, omega arith, is)
numbers first second count (suc zero) two is has lt = (0, omega arith, has)
numbers first second count (suc (suc number)) two is has lt = absurd (omega arith)
