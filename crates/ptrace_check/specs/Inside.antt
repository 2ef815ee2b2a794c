-- How the guards of a core are kept: a seat for each, and the numbers of those that are active.
use Rattle.std.specs.Prelude.{ℕ, ◌+◌, ◌≤◌, ◌==◌, List, length, map, count_by, if◌then◌else◌}
use Rattle.cs_types.specs.Guards.{GuardState, GuardList, guard_of, is_bench, is_active}
use Rattle.ptrace_check.specs.Guards.{Seated, Guarded, most_guards}

-- the guards in these seats, of which those of these numbers are active
abbrev pub guards_in : List Seated → List ℕ → GuardList
guards_in seats active = record { all = map (λ seat. seat.guard) seats; active = active }

abbrev pub kept : List Seated → List ℕ → Guarded
kept seats active = record { guards = guards_in seats active; caps = map (λ seat. seat.cap) seats }

-- how many guards stand on the bench
abbrev pub bench_count : List GuardState → ℕ
bench_count guards = count_by (λ guard. is_bench guard.place) guards

-- how often a number stands in the order of loading, and how often it may
abbrev pub turns_of : List ℕ → ℕ → ℕ
turns_of active index = count_by (λ other. other == index) active

abbrev pub most_turns : GuardState → ℕ
most_turns guard = if is_active guard.place then 1 else 0

-- Only an active guard stands in the order of loading, and once. With those on the bench these are at most all guards,
-- and there are places for all.
pub record AreKept (guards : GuardList) (places : ℕ) : Type 0 where
  pub once : (index : ℕ) → turns_of guards.active index ≤ most_turns (guard_of guards index)
  pub parts : length guards.active + bench_count guards.all ≤ length guards.all
  pub fits : length guards.all ≤ places
  pub few : length guards.all ≤ most_guards
