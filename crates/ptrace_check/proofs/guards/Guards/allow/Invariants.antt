use Rattle.std.proofs.Common.{◌≡◌, map, take, true, ℕ}
use Rattle.std.specs.Prelude.{not}
use Rattle.std.specs.List.{list_all}
use Rattle.cs_types.specs.Guards.{guard_of, refuses, asked_each}
use Rattle.ptrace_check.specs.Guards.{Seated}
use Rattle.ptrace_check.specs.Inside.{guards_in}
use Rattle.ptrace_check.proofs.guards.Guards.allow.Given as goal

abbrev pub invariant-loop-position : goal.invariant-loop-position
invariant-loop-position g l =
    let first = l.initial.self-inside in
    let guards = guards_in first.seats.items first.active.items in
    record {
      active : l.self-inside.active ≡ first.active;
      asked : guards_in l.self-inside.seats.items first.active.items ≡ asked_each guards (take l.position first.active.items);
      caps : map (λ (seat : Seated). seat.cap) l.self-inside.seats.items ≡ map (λ (seat : Seated). seat.cap) first.seats.items;
      allowed : list_all (λ (index : ℕ). not (refuses (guard_of guards index) (l.from, l.to))) (take l.position first.active.items) ≡ true;
    }
