-- Answers: what a call about a guard answers, and what it makes of the guard.
use Rattle.std.specs.Prelude.{◌≡◌, ℕ, ◌<◌, IsTrue, not, if◌then◌else◌, [], ◌∷◌, ◌++◌, length}
use Rattle.cs_types.specs.declared.view.GuardPlace.TheVariants.{Active, Dropped}
use Rattle.cs_types.specs.Guards.{GuardState, is_bench, is_active}
use Rattle.ptrace_check.specs.declared.answer.TeachAnswer.{TeachAnswer}
use Rattle.ptrace_check.specs.declared.answer.TeachAnswer.TheVariants.{Taught, NoGuard, Full, OutOfMemory}
use Rattle.ptrace_check.specs.declared.answer.LoadAnswer.{LoadAnswer}
use Rattle.ptrace_check.specs.declared.answer.LoadAnswer.TheVariants as load_with
use Rattle.ptrace_check.specs.declared.answer.UnloadAnswer.{UnloadAnswer}
use Rattle.ptrace_check.specs.declared.answer.UnloadAnswer.TheVariants as unload_with

-- ---- teaching a guard on the bench

-- What an answer to a pair that is to be taught says of the guard: whether it stands on the bench, and how many pairs
-- it has and can have. Nothing is said of a lack of memory.
abbrev pub IsTeachAnswer : GuardState → ℕ → TeachAnswer → Type 0
IsTeachAnswer guard cap Taught = IsTrue (is_bench guard.place) × (length guard.pairs < cap)
IsTeachAnswer guard cap NoGuard = IsTrue (not (is_bench guard.place))
IsTeachAnswer guard cap (Full named) = IsTrue (is_bench guard.place) × (named ≡ cap) × (length guard.pairs ≡ cap)
IsTeachAnswer guard cap OutOfMemory = IsTrue (is_bench guard.place)

-- A pair that was taught stands after those before it, and what was refused changes nothing.
abbrev pub with_answer : TeachAnswer → ℕ × ℕ → GuardState → GuardState
with_answer Taught pair guard = record guard { pairs = guard.pairs ++ pair ∷ [] }
with_answer NoGuard pair guard = guard
with_answer (Full named) pair guard = guard
with_answer OutOfMemory pair guard = guard

-- ---- loading a guard on the bench, and dropping one that is active

abbrev pub load_answer : GuardState → LoadAnswer
load_answer guard = if is_bench guard.place then load_with.Loaded else load_with.NoGuard

abbrev pub loaded : GuardState → GuardState
loaded guard = if is_bench guard.place then record guard { place = Active } else guard

abbrev pub unload_answer : GuardState → UnloadAnswer
unload_answer guard = if is_active guard.place then unload_with.Dropped else unload_with.NoGuard

abbrev pub unloaded : GuardState → GuardState
unloaded guard = if is_active guard.place then record guard { place = Dropped; pairs = [] } else guard

-- A guard that is dropped can be taught nothing.
abbrev pub cap_without : GuardState → ℕ → ℕ
cap_without guard cap = if is_active guard.place then 0 else cap
