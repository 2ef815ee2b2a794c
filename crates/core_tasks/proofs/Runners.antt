-- Runners: where each sibling runs a task that is at home there, only the home of a task can run it.
use Rattle.std.proofs.Common.{◌≡◌, ◌≢◌, ℕ, zero, suc, ◌<◌, false, cond, List, [], ◌∷◌, map, length, set, get_or, refl, subst, sym, ap, ◌∙◌, arith, Option, Some, None}
use Rattle.std.specs.Prelude.{◌||◌, IfSome, IsSomeAnd}
use Rattle.std.specs.Option.{option_map}
use Rattle.std.proofs.lemmas.Bool.{cond_both, ne_eqb}
use Rattle.cs_types.specs.declared.task.Task.{Task}
use Rattle.cs_types.specs.Room.{RoomState, SiblingState, absent, task_of, sibling_of}
use Rattle.cs_types.specs.Selection.{is_run}
use Rattle.cs_types.specs.Prctl.{Setting, is_set, runs_one, set_cookies}
use Rattle.cs_laws.proofs.Spots.{find-map}
use Rattle.task_table.specs.Table.{Table}
use Rattle.core_lanes.specs.declared.queue.SiblingQueue.{Ghosts}
use Rattle.core_lanes.specs.declared.lanes.Core.{Core}
use Rattle.core_lanes.specs.Queued.{IsOf}
use Rattle.core_lanes.specs.Lanes.{lane_state, room_of, RunTheirOwn}
use Rattle.core_lanes.proofs.Stays.{some_beside}
use Rattle.core_tasks.specs.declared.state.State.{State}
use Rattle.core_tasks.specs.State.{both, room_with}
use Rattle.core_tasks.specs.Cookies.{flagged_for, RunsAtMostAt}
use Rattle.std.proofs.Math.Bool.{or-false}

-- ---- a change that leaves all of a list but one alone

module _ {X : Type 0} (f : X → X) (d : X) where
  none_changed : (xs : List X) → ((k : ℕ) → f (get_or xs k d) ≡ get_or xs k d) → map f xs ≡ xs
  none_changed [] same = refl
  none_changed (x ∷ xs) same = cc (same zero, none_changed xs (λ k. same (suc k)))

  -- it is one of that one
  pub changed_at : (xs : List X) (i : ℕ) → i < length xs → ((k : ℕ) → k ≢ i → f (get_or xs k d) ≡ get_or xs k d) →
      set xs i (f (get_or xs i d)) ≡ map f xs
  changed_at [] i below same = absurd (omega (arith, below))
  changed_at (x ∷ xs) zero below same = ap (λ (ys : List X). f x ∷ ys) (sym (none_changed xs (λ k. same (suc k) (λ is. omega (arith, is)))))
  changed_at (x ∷ xs) (suc i) below same =
      let here : f x ≡ x = same zero (λ is. omega (arith, is)) in
      let there = changed_at xs i (omega (arith, below)) (λ k differs. same (suc k) (λ is. differs (omega (arith, is)))) in
      cc (here, there)

-- ---- the sibling that runs a task

-- one that does not run the task stays as it is
pub flagged_nothing : (pid : ℕ) (sibling : SiblingState) → is_run sibling.run (Some pid) ≡ false → flagged_for pid sibling ≡ sibling
flagged_nothing pid sibling other =
    ap (λ b. let same : SiblingState = record sibling { pending = sibling.pending || b } in same) other
    ∙ ap (λ b. let same : SiblingState = record sibling { pending = b } in same) (or-false sibling.pending)

-- no sibling but its home runs a living task
pub runs_at_home : {Q : Type 0} {g : Ghosts Q} (pair : Core Q g × Table) (task : Task) → RunTheirOwn pair → IsOf pair.1.tasks task →
    RunsAtMostAt task.home task.spec.pid (map lane_state pair.0.lanes.items)
runs_at_home {Q} {g} pair task own there cpu away = other (sibling_of room cpu).run (own some_beside cpu) where
  room : RoomState
  room = room_of some_beside pair

  IsHome : Option Task → Type 0
  IsHome found = IsSomeAnd found (λ one. one.home ≡ cpu)

  other : (run : Option ℕ) → IfSome run (λ pid. IsHome (task_of room pid)) → is_run run (Some task.spec.pid) ≡ false
  other None home = refl
  other (Some pid) home = ne_eqb pid task.spec.pid (λ same. away (sym (subst IsHome there (subst (λ n. IsHome (task_of room n)) same home))))

-- ---- cookies that are set

-- a setting moves no task, and no sibling runs another
module _ (set : Setting) where
  abbrev given : Task → Task
  given task = cond (is_set set task.spec.pid) (record task { cookie = set.cookie }) task

  same_home : (cpu : ℕ) (found : Option Task) → IsSomeAnd found (λ task. task.home ≡ cpu) → IsSomeAnd (option_map given found) (λ task. task.home ≡ cpu)
  same_home cpu None home = absurd home
  same_home cpu (Some task) home =
      cond_both (is_set set task.spec.pid) (record task { cookie = set.cookie }) task (λ (t : Task). t.home ≡ cpu) (λ _. home) (λ _. home)

  home_kept : (room : RoomState) (cpu pid : ℕ) → IsSomeAnd (task_of room pid) (λ task. task.home ≡ cpu) → IsSomeAnd (task_of (set_cookies room set) pid) (λ task. task.home ≡ cpu)
  home_kept room cpu pid home =
      subst (λ (found : Option Task). IsSomeAnd found (λ task. task.home ≡ cpu))
      (sym (find-map given
      (λ task. cond_both (is_set set task.spec.pid) (record task { cookie = set.cookie }) task (λ (t : Task). t.spec.pid ≡ task.spec.pid) (λ _. refl) (λ _. refl)) pid room.tasks))
      (same_home cpu (task_of room pid) home)

  same_run : (siblings : List SiblingState) (cpu : ℕ) →
      (get_or (map (λ (sibling : SiblingState). record sibling { pending = sibling.pending || runs_one set sibling }) siblings) cpu absent).run ≡ (get_or siblings cpu absent).run
  same_run [] cpu = refl
  same_run (sibling ∷ siblings) zero = refl
  same_run (sibling ∷ siblings) (suc cpu) = same_run siblings cpu

-- so each sibling still runs its own
pub own_kept : {Q G : Type 0} {g : Ghosts Q} (old new : State Q G g) (set : Setting) →
    room_with [] new ≡ set_cookies (room_with [] old) set → RunTheirOwn (both old) → RunTheirOwn (both new)
own_kept {Q} {G} {g} old new set is own beside cpu =
    let room : RoomState = room_with [] old in
    subst (λ (after : RoomState). IfSome (sibling_of after cpu).run (λ pid. IsSomeAnd (task_of after pid) (λ task. task.home ≡ cpu))) (sym is)
    (subst (λ (run : Option ℕ). IfSome run (λ pid. IsSomeAnd (task_of (set_cookies room set) pid) (λ task. task.home ≡ cpu))) (sym (same_run set room.siblings cpu))
    (by_run (sibling_of room cpu).run (own beside cpu))) where
      by_run : (run : Option ℕ) → IfSome run (λ pid. IsSomeAnd (task_of (room_with [] old) pid) (λ task. task.home ≡ cpu)) →
          IfSome run (λ pid. IsSomeAnd (task_of (set_cookies (room_with [] old) set) pid) (λ task. task.home ≡ cpu))
      by_run None home = tt
      by_run (Some pid) home = home_kept set (room_with [] old) cpu pid home
