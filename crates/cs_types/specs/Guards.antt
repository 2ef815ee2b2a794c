-- Guards: security modules beside the capability module, which are asked about an access and refuse listed pairs of
-- real users (what a module's `ptrace_access_check` hook does is this project's).
use Rattle.std.specs.Prelude.{ℕ, ◌+◌, Bool, true, false, ◌==◌, ◌&&◌, not, if◌then◌else◌, List, [], ◌∷◌, ◌++◌, map, filter, fold, slice_index_or, slice_set}
use Rattle.std.specs.List.{list_any, range_with_len}
use Rattle.cs_types.specs.declared.scenario.Teach.{Teach}
use Rattle.cs_types.specs.declared.view.GuardPlace.{GuardPlace}
use Rattle.cs_types.specs.declared.view.GuardPlace.TheVariants.{Bench, Active, Dropped}

-- a guard: where it is, the pairs of real user ids, a caller's and a target's, that it refuses, and how often it was
-- asked
pub record GuardState : Type 0 where
  pub place : GuardPlace
  pub pairs : List (ℕ × ℕ)
  pub asked : ℕ

-- the guards of a core by their numbers, and the numbers of those that are active, in the order in which they were
-- loaded
pub record GuardList : Type 0 where
  pub all : List GuardState
  pub active : List ℕ

-- what stands for a guard that is not there
abbrev pub no_guard : GuardState
no_guard = record { place = Dropped; pairs = []; asked = 0 }

-- the guard of this number
abbrev pub guard_of : GuardList → ℕ → GuardState
guard_of guards index = slice_index_or guards.all index no_guard

-- the guard of this number is this one
abbrev pub with_guard : GuardList → ℕ → GuardState → GuardList
with_guard guards index guard = record guards { all = slice_set guards.all index guard }

-- ---- the start

-- the pairs that these lines have for a guard, in their order
abbrev pub taught : List Teach → ℕ → List (ℕ × ℕ)
taught teaches index = map (λ teach. (teach.from, teach.to)) (filter (λ teach. teach.guard == index) teaches)

-- a guard on the bench that was never asked, with the pairs of its lines
abbrev pub on_bench : List Teach → ℕ → GuardState
on_bench teaches index = record { place = Bench; pairs = taught teaches index; asked = 0 }

-- this number of such guards
abbrev pub guards_on_bench : List Teach → ℕ → GuardList
guards_on_bench teaches count = record { all = map (on_bench teaches) (range_with_len 0 count); active = [] }

-- ---- load and unload (`security_add_hooks`; at which moments is this project's rule)

-- whether a guard stands on the bench, and whether it is active
abbrev pub is_bench : GuardPlace → Bool
is_bench Bench = true
is_bench Active = false
is_bench Dropped = false

abbrev pub is_active : GuardPlace → Bool
is_active Bench = false
is_active Active = true
is_active Dropped = false

-- A guard on the bench becomes active, and is asked after those that were loaded before it.
abbrev pub load : GuardList → ℕ → GuardList
load guards index =
    if is_bench (guard_of guards index).place
    then record (with_guard guards index (record (guard_of guards index) { place = Active })) { active = guards.active ++ index ∷ [] }
    else guards

-- An active guard is dropped, and its pairs with it. Its count stays.
abbrev pub unload : GuardList → ℕ → GuardList
unload guards index =
    if is_active (guard_of guards index).place
    then record (with_guard guards index (record (guard_of guards index) { place = Dropped; pairs = [] })) {
      active = filter (λ other. not (other == index)) guards.active;
    }
    else guards

-- ---- asking

-- whether a guard refuses a pair
abbrev pub refuses : GuardState → ℕ × ℕ → Bool
refuses guard pair = list_any (λ refused. (pair.0 == refused.0) && (pair.1 == refused.1)) guard.pairs

-- The guard of this number was asked once more.
abbrev pub asked_once : GuardList → ℕ → GuardList
asked_once guards index =
    with_guard guards index (record (guard_of guards index) { asked = (guard_of guards index).asked + 1 })

-- The guards of these numbers were asked, each once for each time that it is named.
abbrev pub asked_each : GuardList → List ℕ → GuardList
asked_each guards indices = fold asked_once guards indices

-- Conditions are tried in turn, each with the guards that are asked for it. These are the guards that are asked up to
-- the first condition that holds, and for that one.
abbrev pub asked_until : List (Bool × List ℕ) → List ℕ
asked_until [] = []
asked_until (tried ∷ rest) = tried.1 ++ (if tried.0 then [] else asked_until rest)
