-- Timed: a task in the place of what it was, where its times alone are others.
use Rattle.std.proofs.Common.{◌≡◌, ℕ, ◌<◌, ◌≤◌, Bool, true, false, cond, List, map, refl, sym, ap, ◌∙◌, subst, get_or, eqb-true}
use Rattle.std.specs.Prelude.{find, Some, IsTrue, length, All}
use Rattle.cs_types.specs.declared.task.Task.{Task}
use Rattle.cs_types.specs.declared.task.TaskSpec.{TaskSpec}
use Rattle.cs_types.specs.Scenario.{IsPolicy}
use Rattle.cs_types.specs.Queue.{queued_of}
use Rattle.cs_types.specs.Room.{has_pid, with_task}
use Rattle.cs_laws.proofs.Spots.{replaced_by}
use Rattle.cs_types.proofs.Foremost.{find_passes}
use Rattle.cs_laws.proofs.Tasks.{found_again}
use Rattle.task_table.specs.Table.{Table, Rises, IsSound as IsTable}
use Rattle.task_table.proofs.Tables.{changed_each}
use Rattle.core_lanes.specs.declared.queue.SiblingQueue.{Ghosts}
use Rattle.core_lanes.specs.declared.lanes.Core.{Core}
use Rattle.core_lanes.specs.Queued.{IsOf, AreStamped, queued_at}
use Rattle.core_lanes.specs.Lanes.{BareCore, bare, room_by, IsFit, Agree, AreHeld, Knows}
use Rattle.core_lanes.specs.Numbers.{numbers_by}
use Rattle.core_lanes.specs.Changes.{Kept, identity_of, Changes}
use Rattle.core_lanes.proofs.Queues.{is_on, queued_at-map}
use Rattle.core_lanes.proofs.Replaced.{stamped-replaced, All-replaced, identities-replaced}
use Rattle.core_lanes.proofs.Stays.{as_many_bare, found_in}

-- a task is the same but for its times
pub record KeepsTask (old new : Task) : Type 0 where
  pub spec : new.spec ≡ old.spec
  pub cookie : new.cookie ≡ old.cookie
  pub home : new.home ≡ old.home
  pub queued : new.queued ≡ old.queued
  pub stamp : new.stamp ≡ old.stamp

-- so the core knows it in place of the one that it was
pub knows-alike : {Q : Type 0} {g : Ghosts Q} (both : Core Q g × Table) (task old : Task) → Agree both → IsOf both.1.tasks old → KeepsTask old task → Knows both task
knows-alike both task old agree there keeps =
    let count = length both.0.lanes.items in
    let fit = found_in (IsFit count) old.spec.pid both.1.tasks old agree.tasks there in
    record {
      known = record {
        apart = record {
          agree = agree;
          old = old;
          there = subst (λ (spec : TaskSpec). find (has_pid spec.pid) both.1.tasks ≡ Some old) (sym keeps.spec) there;
          fits = record {
            home = subst (λ (n : ℕ). n < count) (sym keeps.home) fit.home;
            policy = subst (λ (spec : TaskSpec). IsPolicy spec.policy) (sym keeps.spec) fit.policy;
          };
        };
        cookie = keeps.cookie;
      };
      stamp = λ queued.
          let was : IsTrue old.queued = sym keeps.queued ∙ queued in
          record {
            below = subst (λ (n : ℕ). n < both.0.next_stamp) (sym keeps.stamp)
                (found_in (λ (t : Task). IsTrue t.queued → t.stamp < both.0.next_stamp) old.spec.pid both.1.tasks old agree.stamped.below there was);
            own = λ other is on same.
                agree.stamped.distinct old there was other is on (same ∙ keeps.stamp) ∙ ap (λ (spec : TaskSpec). spec.pid) (sym keeps.spec);
          };
    }

-- a change of the one with a pid puts it into its own place
pub timed_is : (f : Task → Task) (pid : ℕ) (tasks : List Task) (was : Task) → Rises tasks → find (has_pid pid) tasks ≡ Some was → (f was).spec ≡ was.spec →
    map (λ other. cond (has_pid pid other) (f other) other) tasks ≡ map (replaced_by (f was)) tasks
timed_is f pid tasks was rises found spec =
    let at : was.spec.pid ≡ pid = eqb-true was.spec.pid pid (find_passes (has_pid pid) tasks was found) in
    ap (λ n. map (λ other. cond (has_pid n other) (f other) other) tasks) (sym at)
    ∙ sym (changed_each f tasks was rises (found_again pid tasks was found))
    ∙ ap (λ (s : TaskSpec). map (λ other. cond (has_pid s.pid other) (f was) other) tasks) (sym spec)

module _ {Q : Type 0} {g : Ghosts Q} (old new : Core Q g) (before after : Table) (pid : ℕ) (was : Task) (f : Task → Task) (keeps : KeepsTask was (f was))
    (agree : Agree (old, before)) (found : find (has_pid pid) before.tasks ≡ Some was)
    (given : after ≡ record before { tasks = map (λ other. cond (has_pid pid other) (f other) other) before.tasks }) where
  pub table_timed : after ≡ record before { tasks = map (replaced_by (f was)) before.tasks }
  table_timed = given ∙ ap (λ (ts : List Task). let table : Table = record before { tasks = ts } in table) (timed_is f pid before.tasks was agree.table.rising found keeps.spec)

  -- and the room becomes the one with it, where the queues hold it
  pub changes_timed : bare new ≡ bare old → IsTable after → AreHeld (new, after) → Changes (old, before) (new, after) (λ room. with_task room (f was))
  changes_timed same sound held =
      let now = f was in
      let tasks = map (replaced_by now) before.tasks in
      let knows = knows-alike (old, before) now was agree (found_again pid before.tasks was found) keeps in
      let apart = knows.known.apart in
      let many = as_many_bare old new same in
      let is = table_timed in
      record {
        room = λ beside i. room_by beside (same i) (is i);
        numbers = λ i. numbers_by (same i) (is i);
        stays = record {
          agree = λ _. record {
            table = sound;
            few_tasks = subst (λ (t : Table). t.limit ≤ 256) (sym is) agree.few_tasks;
            tasks = subst (λ (t : Table). All (IsFit (length new.lanes.items)) t.tasks) (sym is)
                (subst (λ n. All (IsFit n) tasks) (sym many) (All-replaced (IsFit (length old.lanes.items)) now before.tasks apart.fits agree.tasks));
            stamped = subst (λ (t : Table). AreStamped new.next_stamp t.tasks) (sym is)
                (subst (λ (core : BareCore). AreStamped core.next_stamp tasks) (sym same)
                (stamped-replaced now apart.old before.tasks apart.there old.next_stamp knows.stamp agree.stamped));
            held = held;
          };
          kept = (λ i. record { siblings = many i; limit = (is i).limit; identities = map identity_of (is i).tasks })
              ∙ ap (λ (identities : List (ℕ × ℕ)). let kept : Kept = record {
                siblings = length old.lanes.items;
                limit = before.limit;
                identities = identities;
              } in kept) (identities-replaced now apart.old before.tasks agree.table.rising apart.there knows.known.cookie);
        };
      }

-- no queue knows what a task has used of its slice
abbrev using : ℕ → ℕ → Task → Task
using pid used task = cond (has_pid pid task) (record task { used = used }) task

-- so each holds the same where that alone changes
queued_at-used : (pid used cpu : ℕ) (tasks : List Task) → queued_at (map (using pid used) tasks) cpu ≡ queued_at tasks cpu
queued_at-used pid used cpu tasks = queued_at-map (using pid used) tasks cpu (λ k d below. let one = get_or tasks k d in same one (has_pid pid one)) where
  same : (one : Task) (b : Bool) → let now : Task = cond b (record one { used = used }) one in (is_on cpu now ≡ is_on cpu one) × (queued_of now ≡ queued_of one)
  same one true = (refl, refl)
  same one false = (refl, refl)

-- where that alone changes, the room is the old one with it, and the queues hold what they held
pub changes_used : {Q : Type 0} {g : Ghosts Q} (core : Core Q g) (before after : Table) (pid used : ℕ) (was : Task) → Agree (core, before) → find (has_pid pid) before.tasks ≡ Some was →
    after ≡ record before { tasks = map (using pid used) before.tasks } → IsTable after → Changes (core, before) (core, after) (λ room. with_task room (record was { used = used }))
changes_used {g = g} core before after pid used was agree found given sound =
    let run : Task → Task = λ task. record task { used = used } in
    changes_timed core core before after pid was run (record { spec = refl; cookie = refl; home = refl; queued = refl; stamp = refl })
    agree found given refl sound
    (λ cpu queue at.
    subst (λ (t : Table). g.holds queue t.limit (queued_at t.tasks cpu)) (sym given)
    (subst (λ qs. g.holds queue before.limit qs) (sym (queued_at-used pid used cpu before.tasks)) (agree.held cpu queue at)))
