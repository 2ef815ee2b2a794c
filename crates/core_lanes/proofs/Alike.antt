-- Alike: a task in the place of one that the queues have alike changes no queue.
use Rattle.std.proofs.Common.{◌≡◌, inl, inr, ℕ, ◌-◌, true, List, map, arith, refl, sym, ap, ◌∙◌, Some, Contains}
use Rattle.std.specs.Prelude.{find, ◌&&◌, ◌==◌}
use Rattle.std.proofs.lemmas.Bool.{and_parts, cond-true, cond-false, cases_Bool, eqb-true}
use Rattle.cs_types.specs.declared.task.Task.{Task}
use Rattle.cs_types.specs.declared.task.Policy.{Policy}
use Rattle.cs_types.specs.declared.task.Policy.TheVariants.{Stop, Deadline, Fifo, Rr, Fair}
use Rattle.cs_types.specs.declared.queue.Queued.{Queued}
use Rattle.cs_types.specs.Order.{class_of, priority_of}
use Rattle.cs_types.specs.Queue.{rank_by, queued_of}
use Rattle.cs_types.specs.Room.{has_pid}
use Rattle.cs_laws.proofs.Spots.{replaced_by}
use Rattle.task_table.specs.Table.{Rises}
use Rattle.core_lanes.specs.Queued.{queued_at, is_peer_of, is_alike, IsOf}
use Rattle.core_lanes.proofs.Queues.{is_on, is_of, queued_at-map}
use Rattle.std.proofs.lemmas.List.Elements.{All-weaker, All-contains_itself}

-- policies of one class and one priority have the same ranks
same_rank : (p q : Policy) (deadline vtime : ℕ) → class_of q ≡ class_of p → priority_of q ≡ priority_of p → rank_by p deadline vtime ≡ rank_by q deadline vtime
same_rank Stop Stop deadline vtime class priority = refl
same_rank (Deadline a) (Deadline b) deadline vtime class priority = refl
same_rank (Fifo a) (Fifo b) deadline vtime class priority = ap (λ n. 99 - n) (sym priority)
same_rank (Fifo a) (Rr b) deadline vtime class priority = ap (λ n. 99 - n) (sym priority)
same_rank (Rr a) (Fifo b) deadline vtime class priority = ap (λ n. 99 - n) (sym priority)
same_rank (Rr a) (Rr b) deadline vtime class priority = ap (λ n. 99 - n) (sym priority)
same_rank (Fair a) (Fair b) deadline vtime class priority = refl
same_rank p q deadline vtime class priority = absurd (omega (arith, class))

-- what tasks that are alike have in common
record AreAlike (old task : Task) : Type 0 where
  queued : old.queued ≡ task.queued
  home : old.home ≡ task.home
  stamp : old.stamp ≡ task.stamp
  cookie : old.cookie ≡ task.cookie
  class : class_of old.spec.policy ≡ class_of task.spec.policy
  rank : rank_by old.spec.policy old.deadline old.vtime ≡ rank_by task.spec.policy task.deadline task.vtime

are_alike : (old task : Task) → is_alike old task ≡ true → AreAlike old task
are_alike old task alike =
    let h = and_parts _ (is_peer_of old task) alike in
    let f = and_parts _ (old.vtime == task.vtime) h.0 in
    let e = and_parts _ (old.deadline == task.deadline) f.0 in
    let d = and_parts _ (old.cookie == task.cookie) e.0 in
    let c = and_parts _ (old.stamp == task.stamp) d.0 in
    let b = and_parts _ (old.home == task.home) c.0 in
    let a = and_parts old.queued task.queued b.0 in
    let k = and_parts (class_of task.spec.policy == class_of old.spec.policy) (priority_of task.spec.policy == priority_of old.spec.policy) h.1 in
    let class = eqb-true (class_of task.spec.policy) (class_of old.spec.policy) k.0 in
    let priority = eqb-true (priority_of task.spec.policy) (priority_of old.spec.policy) k.1 in
    record {
      queued = a.0 ∙ sym a.1;
      home = eqb-true old.home task.home b.1;
      stamp = eqb-true old.stamp task.stamp c.1;
      cookie = eqb-true old.cookie task.cookie d.1;
      class = sym class;
      rank = same_rank old.spec.policy task.spec.policy old.deadline old.vtime class priority
          ∙ (λ i. rank_by task.spec.policy (eqb-true old.deadline task.deadline e.1 i) (eqb-true old.vtime task.vtime f.1 i));
    }

-- each queue holds the same once a task has taken the place of one that is alike
pub queued_at-alike : (task old : Task) (tasks : List Task) (cpu : ℕ) → Rises tasks → find (has_pid task.spec.pid) tasks ≡ Some old →
    is_alike old task ≡ true → queued_at (map (replaced_by task) tasks) cpu ≡ queued_at tasks cpu
queued_at-alike task old tasks cpu rises there alike =
    queued_at-map (replaced_by task) tasks cpu (All-weaker (Contains tasks) Same (λ one within. same one (is_of tasks one rises within)) tasks (All-contains_itself tasks)) where
      Same : Task → Type 0
      Same one = (is_on cpu (replaced_by task one) ≡ is_on cpu one) × (queued_of (replaced_by task one) ≡ queued_of one)

      same : (one : Task) → IsOf tasks one → (is_on cpu (replaced_by task one) ≡ is_on cpu one) × (queued_of (replaced_by task one) ≡ queued_of one)
      same one found =
          elim (cases_Bool (has_pid task.spec.pid one)) [
            | inl here ↦
                let at : one.spec.pid ≡ task.spec.pid = eqb-true one.spec.pid task.spec.pid here in
                let both : Some old ≡ Some one = sym there ∙ ap (λ n. find (has_pid n) tasks) (sym at) ∙ found in
                let is : old ≡ one = cc in
                let are = are_alike old task alike in
                let now : replaced_by task one ≡ task = cond-true (has_pid task.spec.pid one) task one here in
                let pids : task.spec.pid ≡ old.spec.pid = sym at ∙ ap (λ (t : Task). t.spec.pid) (sym is) in
                let queued : queued_of task ≡ queued_of old =
                λ i. let one : Queued = record { pid = pids i; class = sym are.class i; rank = sym are.rank i; stamp = sym are.stamp i; cookie = sym are.cookie i } in one in
                (ap (is_on cpu) now ∙ (λ i. sym are.queued i && (sym are.home i == cpu)) ∙ ap (is_on cpu) is, ap queued_of now ∙ queued ∙ ap queued_of is)
            | inr other ↦ let now = cond-false (has_pid task.spec.pid one) task one other in (ap (is_on cpu) now, ap queued_of now)
          ]
