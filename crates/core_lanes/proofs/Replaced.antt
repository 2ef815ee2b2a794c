-- Replaced: a task in the place of the one with its pid.
use Rattle.std.proofs.Common.{◌≡◌, ◌⊎◌, inl, inr, ℕ, ◌+◌, ◌<◌, ◌≤◌, true, false, List, [], ◌∷◌, map, refl, subst, sym, ap, ◌∙◌, Some, Bool, cond}
use Rattle.std.specs.Prelude.{find, ◌==◌, All, IsTrue, length}
use Rattle.std.proofs.lemmas.Bool.{cond_both, cond-true, cond-false, cases_Bool, eqb-true, eq-eqb}
use Rattle.task_table.specs.Table.{Table, IsSound as IsTable, Rises, RisesFrom}
use Rattle.std.proofs.lemmas.List.Elements.{All-map, All-weaker}
use Rattle.cs_types.specs.declared.task.Task.{Task}
use Rattle.cs_types.specs.Room.{has_pid, with_task}
use Rattle.cs_laws.proofs.Spots.{replaced_by, find-replaced}
use Rattle.core_lanes.specs.Queued.{queued_at, IsOf, HasOwnStamp, AreStamped}
use Rattle.core_lanes.specs.declared.queue.SiblingQueue.{Ghosts}
use Rattle.core_lanes.specs.declared.lanes.Core.{Core}
use Rattle.core_lanes.specs.Lanes.{BareCore, bare, room_by, Agree, AreHeld, IsFit, MayStamp, FitsIn, Knows, Replaces}
use Rattle.core_lanes.specs.Numbers.{numbers_by}
use Rattle.core_lanes.specs.Changes.{Kept, identity_of, kept_of, Changes}
use Rattle.core_lanes.proofs.Queues.{is_on, others-absent, others-replaced}
use Rattle.core_lanes.proofs.Stays.{as_many_bare}
use Rattle.task_table.proofs.Tables.{changed_each}
use Rattle.std.proofs.lemmas.List.{map-id}
use Rattle.cs_laws.proofs.Tasks.{found_again}
use Rattle.cs_types.proofs.Foremost.{find_passes}

-- what holds of all, and of the one that takes a place
pub All-replaced : (P : Task → Type 0) (task : Task) (tasks : List Task) → P task → All P tasks → All P (map (replaced_by task) tasks)
All-replaced P task tasks here all =
    All-map P (replaced_by task) tasks
    (All-weaker P (λ (t : Task). P (replaced_by task t)) (λ t h. cond_both (has_pid task.spec.pid t) task t P (λ _. here) (λ _. h)) tasks all)

module _ (task old : Task) (tasks : List Task) (there : find (has_pid task.spec.pid) tasks ≡ Some old) where
  -- it is one of them
  pub is_of : IsOf (map (replaced_by task) tasks) task
  is_of = find-replaced task old tasks there task.spec.pid ∙ cond-true _ (Some task) (find (has_pid task.spec.pid) tasks) (eq-eqb task.spec.pid task.spec.pid refl)

  -- and each other one was there
  pub was_of : (other : Task) → IsOf (map (replaced_by task) tasks) other → (other ≡ task) ⊎ IsOf tasks other
  was_of other now =
      let found = sym (find-replaced task old tasks there other.spec.pid) ∙ now in
      elim (cases_Bool (other.spec.pid == task.spec.pid)) [
        | inl same ↦
            let is : Some task ≡ Some other = sym (cond-true _ (Some task) (find (has_pid other.spec.pid) tasks) same) ∙ found in
            inl cc
        | inr differs ↦ inr (sym (cond-false _ (Some task) (find (has_pid other.spec.pid) tasks) differs) ∙ found)
      ]

  -- so it has a stamp of its own still
  pub own_stamp : HasOwnStamp tasks task → HasOwnStamp (map (replaced_by task) tasks) task
  own_stamp own other now queued same =
      elim (was_of other now) [
        | inl is ↦ ap (λ (t : Task). t.spec.pid) is
        | inr before ↦ own other before queued same
      ]

  pub stamped-replaced : (next : ℕ) → (IsTrue task.queued → MayStamp next tasks task) → AreStamped next tasks → AreStamped next (map (replaced_by task) tasks)
  stamped-replaced next may stamped = record {
    below = All-replaced (λ (t : Task). IsTrue t.queued → t.stamp < next) task tasks (λ queued. (may queued).below) stamped.below;
    distinct = λ one now queued other now_other queued_other same.
        elim (was_of one now) [
          | inl is ↦
              own_stamp (may (subst (λ (t : Task). IsTrue t.queued) is queued)).own other now_other queued_other (same ∙ ap (λ (t : Task). t.stamp) is)
              ∙ ap (λ (t : Task). t.spec.pid) (sym is)
          | inr before ↦
              elim (was_of other now_other) [
                | inl is ↦
                    ap (λ (t : Task). t.spec.pid) is
                    ∙ sym ((may (subst (λ (t : Task). IsTrue t.queued) is queued_other)).own one before queued (sym same ∙ ap (λ (t : Task). t.stamp) is))
                | inr was ↦ stamped.distinct one before queued other was queued_other same
              ]
        ];
  }

-- a task in its own place changes nothing
pub replaced-itself : (task : Task) (tasks : List Task) → Rises tasks → IsOf tasks task → map (replaced_by task) tasks ≡ tasks
replaced-itself task tasks rises there = changed_each (λ one. one) tasks task rises there ∙ (λ i. map (λ one. both (has_pid task.spec.pid one) one i) tasks) ∙ map-id tasks where
  both : (b : Bool) (one : Task) → cond b one one ≡ one
  both true one = refl
  both false one = refl

-- the pids rise still
pub rises-replaced : (task : Task) (tasks : List Task) → Rises tasks → Rises (map (replaced_by task) tasks)
rises-replaced task tasks rises = go 0 tasks rises where
  same_pid : (t : Task) → (replaced_by task t).spec.pid ≡ t.spec.pid
  same_pid t =
      elim (cases_Bool (has_pid task.spec.pid t)) [
        | inl here ↦ ap (λ (x : Task). x.spec.pid) (cond-true (has_pid task.spec.pid t) task t here) ∙ sym (eqb-true t.spec.pid task.spec.pid here)
        | inr other ↦ ap (λ (x : Task). x.spec.pid) (cond-false (has_pid task.spec.pid t) task t other)
      ]

  go : (low : ℕ) (ts : List Task) → RisesFrom low ts → RisesFrom low (map (replaced_by task) ts)
  go low [] rises = tt
  go low (t ∷ ts) rises =
      subst (λ n. (low ≤ n) × RisesFrom (n + 1) (map (replaced_by task) ts)) (sym (same_pid t)) (rises.0, go (t.spec.pid + 1) ts rises.1)

-- a sibling on which neither is queued has the same tasks queued
pub queued_at-replaced : (task old : Task) (tasks : List Task) (cpu : ℕ) → Rises tasks → find (has_pid task.spec.pid) tasks ≡ Some old →
    is_on cpu old ≡ false → is_on cpu task ≡ false → queued_at (map (replaced_by task) tasks) cpu ≡ queued_at tasks cpu
queued_at-replaced task old tasks cpu rises there off_old off =
    sym (others-absent task.spec.pid cpu (map (replaced_by task) tasks) task (rises-replaced task tasks rises) (is_of task old tasks there) off)
    ∙ others-replaced task tasks cpu
    ∙ others-absent task.spec.pid cpu tasks old rises there off_old

-- each keeps its pid and cookie, where the one that takes a place has the cookie of the one that had it
pub identities-replaced : (task old : Task) (tasks : List Task) → Rises tasks → find (has_pid task.spec.pid) tasks ≡ Some old → task.cookie ≡ old.cookie →
    map identity_of (map (replaced_by task) tasks) ≡ map identity_of tasks
identities-replaced task old tasks rises there cookie = swap tasks ∙ ap (map identity_of) (replaced-itself old tasks rises (found_again task.spec.pid tasks old there)) where
  pid : task.spec.pid ≡ old.spec.pid
  pid = sym (eqb-true old.spec.pid task.spec.pid (find_passes (has_pid task.spec.pid) tasks old there))

  one : (t : Task) (b : Bool) → identity_of (cond b task t) ≡ identity_of (cond b old t)
  one t true = λ i. (pid i, cookie i)
  one t false = refl

  swap : (ts : List Task) → map identity_of (map (replaced_by task) ts) ≡ map identity_of (map (replaced_by old) ts)
  swap [] = refl
  swap (t ∷ ts) = λ i. (one t (has_pid task.spec.pid t) ∙ ap (λ n. identity_of (cond (has_pid n t) old t)) pid) i ∷ swap ts i

-- a core and a table agree still where a task that fits takes the place of the one with its pid, and the queues hold it so
pub agree-replaced : {Q : Type 0} {g : Ghosts Q} (old new : Core Q g) (before now : Table) (task : Task) → FitsIn (old, before) task → bare new ≡ bare old →
    now ≡ record before { tasks = map (replaced_by task) before.tasks } → IsTable now → AreHeld (new, now) → Agree (new, now)
agree-replaced old new before now task fits same changed sound held =
    let apart = fits.apart in
    let after : Table = record before { tasks = map (replaced_by task) before.tasks } in
    record {
      table = sound;
      few_tasks = subst (λ (t : Table). t.limit ≤ 256) (sym changed) apart.agree.few_tasks;
      tasks = subst (λ (t : Table). All (IsFit (length new.lanes.items)) t.tasks) (sym changed)
          (subst (λ n. All (IsFit n) after.tasks) (sym (as_many_bare old new same))
          (All-replaced (IsFit (length old.lanes.items)) task before.tasks apart.fits apart.agree.tasks));
      stamped = subst (λ (t : Table). AreStamped new.next_stamp t.tasks) (sym changed)
          (subst (λ (core : BareCore). AreStamped core.next_stamp after.tasks) (sym same)
          (stamped-replaced task apart.old before.tasks apart.there old.next_stamp fits.stamp apart.agree.stamped));
      held = held;
    }

-- a task that is known fits in the place of the one with its pid
pub fits_known : {Q : Type 0} {g : Ghosts Q} (both : Core Q g × Table) (task : Task) → Knows both task → FitsIn both task
fits_known both task knows = record { apart = knows.known.apart; stamp = knows.stamp }

-- where it stands there, the room is the one with this task
pub changes_known : {Q : Type 0} {g : Ghosts Q} (core now : Core Q g) (table after : Table) (task : Task) →
    Knows (core, table) task → Replaces task (core, table) (now, after) → Changes (core, table) (now, after) (λ room. with_task room task)
changes_known core now table after task knows replaced =
    let apart = knows.known.apart in
    record {
      room = λ beside i. room_by beside (replaced.bare i) (replaced.table i);
      numbers = λ i. numbers_by (replaced.bare i) (replaced.table i);
      stays = record {
        agree = λ agree. replaced.agree;
        kept = (λ i. record {
          siblings = as_many_bare core now replaced.bare i;
          limit = (replaced.table i).limit;
          identities = map identity_of (replaced.table i).tasks;
        })
            ∙ ap (λ (identities : List (ℕ × ℕ)). let kept : Kept = record (kept_of (core, table)) { identities = identities } in kept)
            (identities-replaced task apart.old table.tasks apart.agree.table.rising apart.there knows.known.cookie);
      };
    }

-- and so where the queues hold it
pub changes_replaced : {Q : Type 0} {g : Ghosts Q} (old new : Core Q g) (before after : Table) (task : Task) → Knows (old, before) task → bare new ≡ bare old →
    after ≡ record before { tasks = map (replaced_by task) before.tasks } → IsTable after → AreHeld (new, after) → Changes (old, before) (new, after) (λ room. with_task room task)
changes_replaced old new before after task knows same changed sound held = changes_known old new before after task knows (record {
  table = changed;
  bare = same;
  agree = agree-replaced old new before after task (fits_known (old, before) task knows) same changed sound held;
})
