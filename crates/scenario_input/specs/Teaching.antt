-- Teaching: which teach line of a scenario is the first that cannot be carried out (this project's rule).
use Rattle.std.specs.Prelude.{◌≡◌, ℕ, ◌==◌, nat_lt, not, if◌then◌else◌, List, [], ◌∷◌, ◌++◌, length, take, slice_get, slice_index_or, Option, Some, None}
use Rattle.std.specs.List.{enumerate_from, filter_map}
use Rattle.std.specs.Option.{option_map}
use Rattle.cs_types.specs.declared.scenario.Teach.{Teach}
use Rattle.cs_types.specs.Guards.{GuardList, taught, guards_on_bench}
use Rattle.scenario_input.specs.declared.stop.Stop.{Stop}
use Rattle.scenario_input.specs.declared.stop.Stop.TheVariants.{BadGuard, OutOfMemory}
use Rattle.scenario_input.specs.declared.stop.GuardKind.{GuardKind}
use Rattle.scenario_input.specs.declared.stop.GuardKind.TheVariants.{NoGuard, Full}

-- what is wrong with a teach line after these others, by how many pairs each guard that was handed in can be taught: it names
-- none of them, or one that has as many pairs as that
abbrev pub fault_of : List ℕ → List Teach → Teach → Option GuardKind
fault_of caps earlier teach =
    if not (nat_lt teach.guard (length caps))
    then Some NoGuard
    else (if length (taught earlier teach.guard) == slice_index_or caps teach.guard 0 then Some Full else None)

-- a teach line, and what is wrong with it
pub record BadTeach : Type 0 where
  pub line : ℕ
  pub kind : GuardKind

-- a teach line with which something is wrong after these others
abbrev pub bad_line : List ℕ → List Teach → Teach → Option BadTeach
bad_line caps earlier teach = option_map (λ kind. record { line = teach.line; kind = kind }) (fault_of caps earlier teach)

-- all such lines, each after those that stand before it
abbrev pub bad_lines : List ℕ → List Teach → List BadTeach
bad_lines caps teaches = filter_map (λ numbered. bad_line caps (take numbered.0 teaches) numbered.1) (enumerate_from 0 teaches)

-- the first of them
abbrev pub first_bad : List ℕ → List Teach → Option BadTeach
first_bad caps teaches = slice_get (bad_lines caps teaches) 0

-- why the guards are not taught what these lines say: of a bad line the first, or there was no memory
abbrev pub IsTeachStop : Option BadTeach → Stop → Type 0
IsTeachStop bad (BadGuard line kind) = bad ≡ Some (record { line = line; kind = kind })
IsTeachStop bad OutOfMemory = Unit {0}
IsTeachStop bad stop = ⊥

-- what comes of one line, where the guards have what the earlier lines say
pub record Teaches (caps : List ℕ) (earlier : List Teach) (teach : Teach) (now : GuardList) : Type 0 where
  pub fits : fault_of caps earlier teach ≡ None
  pub guards : now ≡ guards_on_bench (earlier ++ teach ∷ []) (length caps)
