-- Steals: what a try to steal finds, and whether its source is left idle.
use Rattle.std.proofs.Common.{◌≡◌, ℕ, Bool, sym, ◌∙◌, inl, inr}
use Rattle.std.specs.Prelude.{◌&&◌, ◌||◌, ◌==◌, not, filter, is_some, is_none, Some, None}
use Rattle.std.proofs.lemmas.Bool.{cases_Bool, cond-true, cond-false}
use Rattle.cs_types.specs.declared.task.Task.{Task}
use Rattle.cs_types.specs.Room.{RoomState, sibling_of}
use Rattle.cs_types.specs.Order.{goes_before}
use Rattle.cs_types.specs.Selection.{first_on, queued_with}
use Rattle.cs_types.specs.Steal.{source_of, may_steal, stolen}
use Rattle.cs_types.proofs.Filtered.{Contains-filter_parts}
use Rattle.task_table.specs.Table.{Rises}
use Rattle.core_lanes.specs.Queued.{IsOf}
use Rattle.cookie_steal.proofs.Enumerated.{foremost_parts}
use Rattle.cookie_steal.proofs.Candidates.{candidate_parts}
use Rattle.core_lanes.proofs.Queues.{is_of}

-- what is stolen is a task of the room
pub stolen_there : (room : RoomState) (thief : ℕ) (task : Task) → Rises room.tasks → stolen room thief ≡ Some task → IsOf room.tasks task
unfolding stolen
stolen_there room thief task rises found =
    let source = source_of room thief in
    let may = may_steal (sibling_of room thief) (sibling_of room source) in
    let queued = queued_with room room.core_cookie source in
    elim (cases_Bool ((room.core_cookie == 0) || is_some (sibling_of room thief).run)) [
      | inl not_so ↦ let none = sym (cond-true _ None _ not_so) ∙ found in absurd cc
      | inr so ↦
          let first = foremost_parts goes_before (filter may queued) task (sym (cond-false _ None _ so) ∙ found) in
          is_of room.tasks task rises (candidate_parts room.core_cookie source room.tasks task (Contains-filter_parts may queued task first.0).0).0
    ]

-- whether the source becomes pending, as the code tests it
abbrev pub is_left : RoomState → ℕ → Bool
is_left room source = is_none (first_on room source) && is_none (sibling_of room source).run && not (room.forced == 0)
