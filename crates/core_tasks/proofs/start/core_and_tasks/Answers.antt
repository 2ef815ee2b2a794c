use Rattle.std.proofs.Common.{◌≡◌, ◌∙◌, sym, ap, subst, length}
use Rattle.std.proofs.lemmas.List.{length-map, length-replicate}
use Rattle.cs_types.specs.Scenario.{AreDistinct}
use Rattle.cs_types.specs.Room.{asleep_tasks, idle}
use Rattle.core_lanes.specs.Lanes.{BareCore, lane_state}
use Rattle.core_tasks.proofs.Starts.{fit-asleep, all_asleep, none_queued, stamped-asleep}
use Rattle.core_tasks.proofs.start.core_and_tasks.Goals as goal

pub asleep_tasks-requires-clause-distinct : goal.asleep_tasks-requires-clause-distinct
asleep_tasks-requires-clause-distinct g c = subst AreDistinct (sym c.items.ensures) c.requires.distinct

pub asleep_tasks-requires-clause-few : goal.asleep_tasks-requires-clause-few
asleep_tasks-requires-clause-few g c = rw c.items.ensures c.requires.few_tasks

pub of-requires : goal.of-requires
of-requires g c = c.requires.siblings.1

pub returns : goal.returns
returns g c =
    let specs = c.args.scenario.now.tasks in
    let siblings = c.args.scenario.now.siblings in
    let playable = c.requires in
    let core = c.in_ok-core.core in
    let made = c.in_ok-core.ensures.bare in
    let limit = c.in_ok-tasks.ensures.limit in
    let tasks : c.in_ok-tasks.tasks.tasks ≡ asleep_tasks specs = c.in_ok-tasks.ensures.tasks ∙ ap asleep_tasks c.items.ensures in
    let count : length core.lanes.items ≡ siblings =
    sym (length-map core.lanes.items lane_state) ∙ ap (λ (b : BareCore). length b.siblings) made ∙ length-replicate siblings idle in
    record {
      core = made;
      tasks = λ i. record { tasks = tasks i; totals = c.in_ok-tasks.tasks.totals; limit = limit i };
      totals = c.in_ok-tasks.ensures.totals;
      agree = record {
        table = c.in_ok-tasks.ensures.sound;
        few_tasks = rw limit playable.task_limit.1;
        tasks = rw (count, tasks) (fit-asleep siblings specs playable.tasks);
        stamped = rw tasks (stamped-asleep core.next_stamp (asleep_tasks specs) (all_asleep specs));
        held = λ cpu queue at. rw (limit, tasks, none_queued (asleep_tasks specs) cpu (all_asleep specs)) (c.in_ok-core.ensures.held cpu queue at);
      };
    }
