-- Clocks: what a new slice and renewed leasts make of a room.
use Rattle.std.proofs.Common.{◌≡◌, ℕ, zero, suc, ◌+◌, ◌<◌, Bool, false, cond, List, [], ◌∷◌, ◌++◌, map, take, drop, length, get_or, refl, sym, ap, ◌∙◌, Option, Some}
use Rattle.std.specs.Prelude.{find, max, nat_lt}
use Rattle.std.specs.Option.{option_map_or}
use Rattle.cs_types.specs.Order.{foremost}
use Rattle.std.specs.List.{enumerate_from}
use Rattle.std.proofs.lemmas.List.{append-nil}
use Rattle.std.proofs.Math.Seq.{take-length, drop-length}
use Rattle.cs_types.specs.declared.task.Task.{Task}
use Rattle.cs_types.specs.Room.{RoomState, SiblingState, absent, has_pid, sibling_of, queued_on, with_task, with_sibling}
use Rattle.cs_types.specs.Time.{rotates, has_used_slice, begin_slice, least_of, fair_times, with_leasts}
use Rattle.core_lanes.specs.Queued.{smallest_vtime}
use Rattle.task_table.specs.Table.{Rises}
use Rattle.core_lanes.proofs.Lists.{placed_more, placed_at}
use Rattle.core_clock.specs.Time.{with_ages}
use Rattle.core_lanes.proofs.Replaced.{replaced-itself}

-- ---- a new slice

-- a task in its own place changes nothing
pub with_task-same : (room : RoomState) (task : Task) → Rises room.tasks → find (has_pid task.spec.pid) room.tasks ≡ Some task → with_task room task ≡ room
with_task-same room task rises found =
    ap (λ (tasks : List Task). let now : RoomState = record room { tasks = tasks } in now)
    (replaced-itself task room.tasks rises found)

-- a new slice, by what is asked of the task
abbrev pub sliced_by : RoomState → Task → Bool → Bool → RoomState
sliced_by room task used behind =
    record (with_task room (record task {
      used = cond used 0 task.used;
      stamp = cond behind room.next_stamp task.stamp;
    })) { next_stamp = cond behind (room.next_stamp + 1) room.next_stamp }

pub sliced_is : (room : RoomState) (cpu : ℕ) (task : Task) (used behind : Bool) → has_used_slice task ≡ used → rotates room cpu task ≡ behind →
    sliced_by room task used behind ≡ begin_slice room cpu task
sliced_is room cpu task used behind is_used is_behind = λ i. sliced_by room task (sym is_used i) (sym is_behind i)

-- where nothing is asked of it it goes on
pub sliced_not : (room : RoomState) (cpu : ℕ) (task : Task) → Rises room.tasks → find (has_pid task.spec.pid) room.tasks ≡ Some task →
    has_used_slice task ≡ false → rotates room cpu task ≡ false → room ≡ begin_slice room cpu task
sliced_not room cpu task rises found used behind =
    sym (with_task-same room task rises found) ∙ sliced_is room cpu task false false used behind

-- ---- the siblings

module _ (delta : ℕ) where
  -- the sibling at a place, which has run delta ns longer, with its least renewed
  abbrev pub renewed : RoomState → ℕ × SiblingState → SiblingState
  renewed room place = record place.1 { ran = place.1.ran + delta; least = least_of room place.0 }

  -- the room with one so
  abbrev pub with_renewed : RoomState → ℕ → RoomState
  with_renewed room cpu = with_sibling room cpu (renewed room (cpu, sibling_of room cpu))

  -- that is what the smallest of its fair tasks makes of its least
  pub renewed_is : (room : RoomState) (cpu : ℕ) (sibling : SiblingState) (found : Option ℕ) → sibling_of room cpu ≡ sibling → found ≡ smallest_vtime (queued_on room cpu) →
      with_sibling room cpu (record sibling { ran = sibling.ran + delta; least = option_map_or (λ smallest. max sibling.least smallest) found sibling.least }) ≡ with_renewed room cpu
  renewed_is room cpu sibling found there is =
      sym (λ i. with_sibling room cpu (record (there i) { ran = (there i).ran + delta; least = option_map_or (λ smallest. max (there i).least smallest) (sym is i) (there i).least }))

  -- the room whose first siblings are so
  abbrev pub renewed_first : ℕ → RoomState → RoomState
  renewed_first count room =
      record room { siblings = map (renewed room) (enumerate_from 0 (take count room.siblings)) ++ drop count room.siblings }

  -- the next one is what it was
  pub renewed_next : (cpu : ℕ) (room : RoomState) → cpu < length room.siblings → sibling_of (renewed_first cpu room) cpu ≡ sibling_of room cpu
  renewed_next cpu room below = placed_at (renewed room) 0 room.siblings cpu absent below

  -- the least of a sibling that had this one
  abbrev least_from : RoomState → ℕ → ℕ → ℕ
  least_from room cpu least = option_map_or (λ smallest. max least smallest) (foremost nat_lt (fair_times room cpu)) least

  -- one sibling more
  pub renewed_more : (cpu : ℕ) (room : RoomState) → cpu < length room.siblings → with_renewed (renewed_first cpu room) cpu ≡ renewed_first (cpu + 1) room
  renewed_more cpu room below =
      let now = renewed_first cpu room in
      let before = get_or now.siblings cpu absent in
      ap (λ (siblings : List SiblingState). let after : RoomState = record room { siblings = siblings } in after)
      (placed_more (renewed room) room.siblings now.siblings cpu (record before { ran = before.ran + delta; least = least_of now cpu }) absent below refl
      (ap (λ (sibling : SiblingState). let after : SiblingState = record before { ran = before.ran + delta; least = least_from room cpu sibling.least } in after)
      (renewed_next cpu room below)))

  -- a least is the same among siblings that have run longer
  same_least : (siblings : List SiblingState) (cpu : ℕ) →
      (get_or (map (λ (sibling : SiblingState). record sibling { ran = sibling.ran + delta }) siblings) cpu absent).least ≡ (get_or siblings cpu absent).least
  same_least [] cpu = refl
  same_least (sibling ∷ siblings) zero = refl
  same_least (sibling ∷ siblings) (suc cpu) = same_least siblings cpu

  -- each has run longer before its least is renewed, or with that
  at_once : (room : RoomState) (n : ℕ) (siblings : List SiblingState) →
      map (renewed room) (enumerate_from n siblings)
      ≡ map (λ (numbered : ℕ × SiblingState). record numbered.1 { least = least_of (with_ages delta room) numbered.0 })
      (enumerate_from n (map (λ (sibling : SiblingState). record sibling { ran = sibling.ran + delta }) siblings))
  at_once room n [] = refl
  at_once room n (sibling ∷ siblings) =
      λ i. (record sibling { ran = sibling.ran + delta; least = least_from room n (sym (same_least room.siblings n) i) }) ∷ at_once room (n + 1) siblings i

  -- and all
  pub renewed_all : (count : ℕ) (room : RoomState) → count ≡ length room.siblings → renewed_first count room ≡ with_leasts (with_ages delta room)
  renewed_all count room all =
      ap (λ (siblings : List SiblingState). let now : RoomState = record room { siblings = siblings } in now)
      ((λ i. map (renewed room) (enumerate_from 0 ((ap (λ n. take n room.siblings) all ∙ take-length room.siblings) i)) ++ (ap (λ n. drop n room.siblings) all ∙ drop-length room.siblings) i)
      ∙ append-nil (map (renewed room) (enumerate_from 0 room.siblings))
      ∙ at_once room 0 room.siblings)
