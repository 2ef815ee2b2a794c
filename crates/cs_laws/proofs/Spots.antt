-- Spots: what matters of a task for where it may run, by its pid: whether it is queued, its home and its cookie; and how it
-- changes with the list of tasks.
use Rattle.std.proofs.Common.{◌≡◌, ℕ, ◌<◌, Bool, cond, true, false, List, [], ◌∷◌, map, refl, sym, ap, ◌∙◌, inl, inr, arith, Option, Some, None}
use Rattle.std.specs.Prelude.{find, filter, not, ◌==◌}
use Rattle.std.specs.List.{AllByRecursion}
use Rattle.std.specs.Option.{option_map}
use Rattle.std.proofs.lemmas.Bool.{cases_Bool, cond_both, cond-true, cond-false, eqb-true, eq-eqb}
use Rattle.std.proofs.lemmas.Bool.Decides.{nat_tests}
use Rattle.cs_types.specs.declared.task.Task.{Task}
use Rattle.cs_types.specs.Room.{RoomState, has_pid, inserted}
use Rattle.cs_types.proofs.Foremost.{find_passes, each_weaker}
use Rattle.cs_types.proofs.Inserted.{find-inserted}
use Rattle.cs_laws.proofs.Rising.{Rises}

-- ---- spots

pub record Spot : Type 0 where
  pub queued : Bool
  pub home : ℕ
  pub cookie : ℕ

abbrev pub spot_of : Task → Spot
spot_of task = record { queued = task.queued; home = task.home; cookie = task.cookie }

-- the spot of the living task with the pid, of these tasks and of a room
abbrev pub spot_in : List Task → ℕ → Option Spot
spot_in tasks pid = option_map spot_of (find (has_pid pid) tasks)

abbrev pub spot_at : RoomState → ℕ → Option Spot
spot_at room pid = spot_in room.tasks pid

-- ---- each task is found by its pid

above_low : (low high : ℕ) (tasks : List Task) → Rises low high tasks → AllByRecursion (λ task. low < task.spec.pid) tasks
above_low low high [] rises = tt
above_low low high (task ∷ tasks) rises =
    let first = rises.0 in
    (first, each_weaker (λ t. task.spec.pid < t.spec.pid) (λ t. low < t.spec.pid) tasks (λ t more. omega (arith, first, more)) (above_low task.spec.pid high tasks rises.1))

found_later : (task : Task) (tasks rest : List Task) → AllByRecursion (λ t. task.spec.pid < t.spec.pid) rest →
    AllByRecursion (λ t. find (has_pid t.spec.pid) tasks ≡ Some t) rest →
    AllByRecursion (λ t. find (has_pid t.spec.pid) (task ∷ tasks) ≡ Some t) rest
found_later task tasks [] above found = tt
found_later task tasks (t ∷ rest) above found =
    let less = above.0 in
    let other : (task.spec.pid == t.spec.pid) ≡ false = grind (arith, nat_tests) in
    (cond-false (task.spec.pid == t.spec.pid) (Some task) (find (has_pid t.spec.pid) tasks) other ∙ found.0, found_later task tasks rest above.1 found.1)

-- Of tasks by rising pid each is found by its own.
pub each_is_found : (low high : ℕ) (tasks : List Task) → Rises low high tasks → AllByRecursion (λ task. find (has_pid task.spec.pid) tasks ≡ Some task) tasks
each_is_found low high [] rises = tt
each_is_found low high (task ∷ tasks) rises = (
  cond-true (task.spec.pid == task.spec.pid) (Some task) _ (eq-eqb _ _ refl),
  found_later task tasks tasks (above_low task.spec.pid high tasks rises.1) (each_is_found task.spec.pid high tasks rises.1),
)

-- ---- a search by pid in a changed list

spot-cond : (b : Bool) (task : Task) (found : Option Task) → option_map spot_of (cond b (Some task) found) ≡ cond b (Some (spot_of task)) (option_map spot_of found)
spot-cond true task found = refl
spot-cond false task found = refl

-- where each task keeps its pid
pub find-map : (f : Task → Task) → ((task : Task) → (f task).spec.pid ≡ task.spec.pid) → (pid : ℕ) (tasks : List Task) →
    find (has_pid pid) (map f tasks) ≡ option_map f (find (has_pid pid) tasks)
find-map f same pid [] = refl
find-map f same pid (task ∷ tasks) =
    ap (λ n. cond (n == pid) (Some (f task)) (find (has_pid pid) (map f tasks))) (same task)
    ∙ elim (cases_Bool (task.spec.pid == pid)) [
      | inl pass ↦ simp (pass)
      | inr fail ↦ simp (fail, find-map f same pid tasks)
    ]

-- so where each keeps its spot, the spots are the same
pub spot_in-map : (f : Task → Task) → ((task : Task) → (f task).spec.pid ≡ task.spec.pid) → ((task : Task) → spot_of (f task) ≡ spot_of task) →
    (tasks : List Task) (pid : ℕ) → spot_in (map f tasks) pid ≡ spot_in tasks pid
spot_in-map f same alike tasks pid = ap (option_map spot_of) (find-map f same pid tasks) ∙ go (find (has_pid pid) tasks) where
  go : (found : Option Task) → option_map spot_of (option_map f found) ≡ option_map spot_of found
  go None = refl
  go (Some task) = ap Some (alike task)

-- a task in the place of the one with its pid
abbrev pub replaced_by : Task → Task → Task
replaced_by task other = cond (has_pid task.spec.pid other) task other

pub find-replaced : (task old : Task) (tasks : List Task) → find (has_pid task.spec.pid) tasks ≡ Some old → (pid : ℕ) →
    find (has_pid pid) (map (replaced_by task) tasks) ≡ cond (pid == task.spec.pid) (Some task) (find (has_pid pid) tasks)
find-replaced task old tasks found pid =
    find-map (replaced_by task)
    (λ other. cond_both (has_pid task.spec.pid other) task other (λ (t : Task). t.spec.pid ≡ other.spec.pid) (λ is. sym (eqb-true other.spec.pid task.spec.pid is)) (λ _. refl))
    pid tasks
    ∙ elim (cases_Bool (pid == task.spec.pid)) [
      | inl same ↦ here (eqb-true pid task.spec.pid same) ∙ sym (cond-true (pid == task.spec.pid) (Some task) (find (has_pid pid) tasks) same)
      | inr other ↦ there other (find (has_pid pid) tasks) refl ∙ sym (cond-false (pid == task.spec.pid) (Some task) (find (has_pid pid) tasks) other)
    ] where
      here : pid ≡ task.spec.pid → option_map (replaced_by task) (find (has_pid pid) tasks) ≡ Some task
      here same =
          ap (λ n. option_map (replaced_by task) (find (has_pid n) tasks)) same
          ∙ (ap (option_map (replaced_by task)) found
          ∙ ap Some (cond-true (has_pid task.spec.pid old) task old (find_passes (has_pid task.spec.pid) tasks old found)))

      there : (pid == task.spec.pid) ≡ false → (one : Option Task) → find (has_pid pid) tasks ≡ one → option_map (replaced_by task) one ≡ one
      there other None e = refl
      there other (Some one) e =
          let its = eqb-true one.spec.pid pid (find_passes (has_pid pid) tasks one e) in
          ap Some (cond-false (has_pid task.spec.pid one) task one (ap (λ n. n == task.spec.pid) its ∙ other))

pub spot_in-replaced : (task old : Task) (tasks : List Task) → find (has_pid task.spec.pid) tasks ≡ Some old → (pid : ℕ) →
    spot_in (map (replaced_by task) tasks) pid ≡ cond (pid == task.spec.pid) (Some (spot_of task)) (spot_in tasks pid)
spot_in-replaced task old tasks found pid =
    ap (option_map spot_of) (find-replaced task old tasks found pid) ∙ spot-cond (pid == task.spec.pid) task (find (has_pid pid) tasks)

-- so one with the same spot changes no spot
pub spot_in-alike : (task old : Task) (tasks : List Task) → find (has_pid task.spec.pid) tasks ≡ Some old → spot_of task ≡ spot_of old → (pid : ℕ) →
    spot_in (map (replaced_by task) tasks) pid ≡ spot_in tasks pid
spot_in-alike task old tasks found alike pid =
    spot_in-replaced task old tasks found pid
    ∙ cond_both (pid == task.spec.pid) (Some (spot_of task)) (spot_in tasks pid) (λ one. one ≡ spot_in tasks pid)
    (λ same. sym (ap (spot_in tasks) (eqb-true pid task.spec.pid same) ∙ (ap (option_map spot_of) found ∙ ap Some (sym alike)))) (λ _. refl)

-- a task that goes
pub spot_in-without : (gone : ℕ) (tasks : List Task) (pid : ℕ) →
    spot_in (filter (λ other. not (has_pid gone other)) tasks) pid ≡ cond (pid == gone) None (spot_in tasks pid)
spot_in-without gone [] pid = cond_both (pid == gone) None None (λ (one : Option Spot). None ≡ one) (λ _. refl) (λ _. refl)
spot_in-without gone (task ∷ tasks) pid =
    elim (cases_Bool (task.spec.pid == gone)) [
      | inl is ↦ elim (cases_Bool (pid == gone)) [
        | inl same ↦ simp (is, same, spot_in-without gone tasks pid)
        | inr other ↦ let no : (task.spec.pid == pid) ≡ false = grind (arith, nat_tests) in simp (is, other, no, spot_in-without gone tasks pid)
      ]
      | inr is ↦ elim (cases_Bool (task.spec.pid == pid)) [
        | inl here ↦ let no : (pid == gone) ≡ false = grind (arith, nat_tests) in simp (is, here, no)
        | inr there ↦ simp (is, there, spot_in-without gone tasks pid)
      ]
    ]

-- a task that comes
pub spot_in-inserted : (task : Task) (tasks : List Task) (pid : ℕ) →
    spot_in (inserted task tasks) pid ≡ cond (pid == task.spec.pid) (Some (spot_of task)) (spot_in tasks pid)
spot_in-inserted task tasks pid =
    ap (option_map spot_of) (find-inserted task tasks pid) ∙ spot-cond (pid == task.spec.pid) task (find (has_pid pid) tasks)
