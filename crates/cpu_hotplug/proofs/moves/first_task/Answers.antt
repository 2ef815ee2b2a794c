use Rattle.std.proofs.Common.{◌≡◌, ◌≢◌, ◌∙◌, ℕ, List, [], Option, Some, refl, sym, subst, ap, arith}
use Rattle.std.specs.Prelude.{find}
use Rattle.std.specs.Option.{IsSome, option_map}
use Rattle.cs_types.specs.declared.task.Task.{Task}
use Rattle.cs_types.specs.declared.queue.Queued.{Queued}
use Rattle.cs_types.specs.Room.{has_pid}
use Rattle.cs_types.specs.Order.{first_of}
use Rattle.cs_types.specs.Queue.{queued_of}
use Rattle.task_table.specs.Table.{Rises}
use Rattle.core_lanes.specs.Queued.{queued_among}
use Rattle.core_lanes.proofs.Stays.{some_beside}
use Rattle.core_lanes.proofs.Counted.{of_one}
use Rattle.cpu_hotplug.specs.Leaves.{IsQueuedAt}
use Rattle.cpu_hotplug.proofs.Past.{first_queued}
use Rattle.cpu_hotplug.proofs.moves.first_task.Goals as goal

-- the first task, as the queue answers it
module _ (cpu : ℕ) (tasks : List Task) (rises : Rises tasks) (some : queued_among tasks cpu ≢ []) (answer : Option Queued)
    (is : answer ≡ option_map queued_of (first_of (queued_among tasks cpu))) where
  abbrev first : Task
  first = (first_queued cpu tasks rises some).0

  answered : answer ≡ Some (queued_of first)
  answered = is ∙ ap (option_map queued_of) (first_queued cpu tasks rises some).1

  -- and as the table finds it
  found : (queued : Queued) (task : Option Task) → answer ≡ Some queued → task ≡ find (has_pid queued.pid) tasks → task ≡ Some first
  found queued task one there =
      let both : Some queued ≡ Some (queued_of first) = sym one ∙ answered in
      let same : queued ≡ queued_of first = cc in
      there ∙ ap (λ (q : Queued). find (has_pid q.pid) tasks) same ∙ (first_queued cpu tasks rises some).2.there

  is_first : (queued : Queued) (task : Option Task) (result : Task) → answer ≡ Some queued → task ≡ find (has_pid queued.pid) tasks → task ≡ Some result →
      IsQueuedAt cpu tasks result
  is_first queued task result one there given =
      let both : Some result ≡ Some first = sym given ∙ found queued task one there in
      let same : result ≡ first = cc in
      subst (IsQueuedAt cpu tasks) (sym same) (first_queued cpu tasks rises some).2

pub unwrap-first-requires : goal.unwrap-first-requires
unwrap-first-requires g c =
    subst IsSome (sym (answered c.args.cpu c.args.table.now.tasks c.requires.at.agree.table.rising c.requires.some c.first_on.result (c.first_on.ensures.first some_beside))) refl

pub unwrap-requires : goal.unwrap-requires
unwrap-requires g c =
    subst IsSome (sym (found c.args.cpu c.args.table.now.tasks c.requires.at.agree.table.rising c.requires.some c.first_on.result (c.first_on.ensures.first some_beside)
    c.unwrap-first.result c.task_of.result c.unwrap-first.ensures c.task_of.ensures.task)) refl

pub returns-clause-first : goal.returns-clause-first
returns-clause-first g c =
    is_first c.args.cpu c.args.table.now.tasks c.requires.at.agree.table.rising c.requires.some c.first_on.result (c.first_on.ensures.first some_beside)
    c.unwrap-first.result c.task_of.result c.unwrap.result c.unwrap-first.ensures c.task_of.ensures.task c.unwrap.ensures

pub returns-clause-counted : goal.returns-clause-counted
returns-clause-counted g c =
    omega (arith, c.first_on.ensures.counted, of_one g.Q.SiblingQueue.most_compared g.met.Q.SiblingQueue.rises c.args.table.now.tasks c.args.cpu)
