-- The first task above a pid, and the total of the entry where it stands.
use Rattle.std.proofs.Common.{◌≡◌, ℕ, zero, suc, ◌+◌, ◌<◌, ◌≤◌, List, [], ◌∷◌, length, Some, refl, ap, arith}
use Rattle.std.specs.Prelude.{find, nat_lt, slice_get}
use Rattle.std.proofs.lemmas.Bool.{lt-ltb, le-ltb}
use Rattle.cs_types.specs.declared.task.Task.{Task}
use Rattle.task_table.specs.Table.{RisesFrom}
use Rattle.task_table.specs.Positions.{IsAt, IsSplit}

-- behind those that have no higher pid stands the first above it
pub above_first : (after position : ℕ) (tasks : List Task) → IsSplit (after + 1) (after + 1) position tasks →
    slice_get tasks position ≡ find (λ task. nat_lt after task.spec.pid) tasks
above_first after zero [] split = refl
above_first after zero (task ∷ rest) split = rw (lt-ltb after task.spec.pid (omega (arith, split.0))) refl
above_first after (suc position) [] split = absurd split
above_first after (suc position) (task ∷ rest) split = rw (le-ltb after task.spec.pid (omega (arith, split.0))) (above_first after position rest split.1)

-- a position with a task is one of the list
pub get_within : {X : Type 0} (xs : List X) (position : ℕ) (x : X) → slice_get xs position ≡ Some x → position < length xs
get_within [] position x is = absurd cc
get_within (first ∷ rest) zero x is = omega arith
get_within (first ∷ rest) (suc position) x is = omega (arith, get_within rest position x is)

-- the task at a position has its pid there
pub at_get : (low position : ℕ) (tasks : List Task) (task : Task) → RisesFrom low tasks → slice_get tasks position ≡ Some task →
    (low ≤ task.spec.pid) × IsAt task.spec.pid position tasks
at_get low position [] task rises is = absurd cc
at_get low zero (first ∷ rest) task rises is =
    let same : first ≡ task = cc in
    (rw same at rises.0, (ap (λ (t : Task). t.spec.pid) same, rw same at rises.1))
at_get low (suc position) (first ∷ rest) task rises is =
    let later = at_get (first.spec.pid + 1) position rest task rises.1 is in
    (omega (arith, rises.0, later.0), (omega (arith, later.0), later.1))
