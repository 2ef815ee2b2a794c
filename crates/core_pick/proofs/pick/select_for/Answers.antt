use Rattle.std.proofs.Common.{◌≡◌, ◌∙◌, ◌<◌, ◌≤◌, ap, sym, subst, refl, cond, map, arith, length, get_or}
use Rattle.std.specs.Prelude.{Some, None, ◌||◌, ◌==◌, List}
use Rattle.std.proofs.lemmas.List.{length-map}
use Rattle.cs_types.specs.Selection.{choice, select_for, forced_count, occupation_of, cookie_of, lead_from, task_after_selection}
use Rattle.cs_laws.proofs.Selections.{occupied}
use Rattle.core_lanes.specs.Lanes.{Beside, at, lane_state, room_of, bare}
use Rattle.core_lanes.specs.Numbers.{numbers_by}
use Rattle.bounded_list.proofs.Items.{with_items_is}
use Rattle.core_lanes.proofs.Stays.{some_beside, number_of, queue_of}
use Rattle.core_pick.specs.declared.choice.Choice.{Choice}
use Rattle.core_pick.specs.Choice.{run_of, choice_of, IsPlan}
use Rattle.core_pick.proofs.Choices.{numbers_of_own, queues_of_own, choices_as_many, at_number, run_of-choice_of}
use Rattle.core_pick.proofs.Remembered.{stays-remembered}
use Rattle.core_pick.proofs.pick.select_for.Given.{Over}
use Rattle.core_pick.proofs.pick.select_for.Goals as goal

pub choose-forced-requires-clause-firsts : goal.choose-forced-requires-clause-firsts
choose-forced-requires-clause-firsts g c beside = c.requires.may.asked.each beside

pub begin-requires-clause-occupied : goal.begin-requires-clause-occupied
begin-requires-clause-occupied g c some =
    let room = room_of some_beside (c.args.core.now, c.args.table.now) in
    let counts = c.choose-forced.ensures.gets.counts_are some_beside in
    let lead = c.requires.may.asked.lead some_beside in
    let below : c.args.cpu < length room.siblings = omega (arith, length-map c.args.core.now.lanes.items lane_state, c.requires.may.at.cpu) in
    let has : 0 < forced_count room (cookie_of (lead_from room c.args.cpu)) = subst (λ n. 0 < n) (counts.forced ∙ ap (forced_count room) lead) some in
    subst (λ n. 0 < n) (sym (counts.occupation ∙ ap (occupation_of room) lead)) (occupied room c.args.cpu below has)

pub update-requires-clause-each : goal.update-requires-clause-each
update-requires-clause-each g c = choices_as_many (room_of some_beside (c.args.core.now, c.args.table.now)) c.args.cookie _ (c.choose-forced.ensures.gets.each some_beside) ∙ length-map c.args.core.now.lanes.items lane_state ∙ sym (ap length c.deref_mut.ensures.value)

pub update-requires-clause-few : goal.update-requires-clause-few
update-requires-clause-few g c = subst (λ n. n ≤ 16) (sym (ap length c.deref_mut.ensures.value)) c.args.core.now.few

pub bounds-choices-cpu : goal.bounds-choices-cpu
bounds-choices-cpu g c = subst (λ n. c.args.cpu < n) (sym (choices_as_many (room_of some_beside (c.args.core.now, c.args.table.now)) c.args.cookie _ (c.choose-forced.ensures.gets.each some_beside) ∙ length-map c.args.core.now.lanes.items lane_state)) c.requires.may.at.cpu

pub invariant_of-core : goal.invariant_of-core
invariant_of-core g c =
    let kept_lanes = with_items_is c.args.core.now.lanes c.update.new.lanes (c.update.auto.lanes ∙ ap length c.deref_mut.ensures.value) in
    record { few = subst (λ n. n ≤ 16) (sym (ap length kept_lanes ∙ c.update.auto.lanes ∙ ap length c.deref_mut.ensures.value)) c.args.core.now.few }

pub returns-clause-counted : goal.returns-clause-counted
returns-clause-counted g c longest longer = c.choose-forced.ensures.counted longest longer

-- by what siblings and tasks are changed
plan : (g : Over) (c : goal.After-run g) (beside : Beside) →
    IsPlan (room_of (at c.args.now beside) (c.args.core.now, c.args.table.now)) c.args.cookie c.choose-forced.new.choices c.choose-forced.result.occupation c.renews_snapshots-renews.result
plan g c beside =
    let now = at c.args.now beside in
    let count = c.count.ensures.count in
    let forced = (c.choose-forced.ensures.gets.counts_are now).forced in
    record {
      each = c.choose-forced.ensures.gets.each now;
      occupied = (c.choose-forced.ensures.gets.counts_are now).occupation;
      renewed = c.renews_snapshots-renews.ensures ∙ (λ i. (count i == 0) || (forced i == 0));
    }

tasks_are : (g : Over) (c : goal.After-run g) (beside : Beside) →
    c.update.new.tasks ≡ record c.args.table.now { tasks = map (task_after_selection (room_of (at c.args.now beside) (c.args.core.now, c.args.table.now)) c.args.cookie) c.args.table.now.tasks }
tasks_are g c beside =
    (c.update.ensures.hands (room_of (at c.args.now beside) (c.args.core.now, c.args.table.now)) c.args.cookie (sym (ap (map lane_state) c.deref_mut.ensures.value)) (plan g c beside)).tasks

pub returns-clause-selects : goal.returns-clause-selects
unfolding select_for
returns-clause-selects g c = record {
  room = λ beside.
      let now = at c.args.now beside in
      let room = room_of now (c.args.core.now, c.args.table.now) in
      let forced = (c.choose-forced.ensures.gets.counts_are now).forced in
      let occupation = (c.choose-forced.ensures.gets.counts_are now).occupation in
      let begun = c.begin.ensures.count ∙ forced in
      let chosen = c.begin.ensures.occupation ∙ occupation in
      let started = c.begin.ensures.started ∙ ap (λ n. cond (n == 0) None (Some c.args.now)) forced in
      let kept_lanes = with_items_is c.args.core.now.lanes c.update.new.lanes (c.update.auto.lanes ∙ ap length c.deref_mut.ensures.value) in
      let siblings = ap (map lane_state) kept_lanes
      ∙ (c.update.ensures.hands room c.args.cookie (sym (ap (map lane_state) c.deref_mut.ensures.value)) (plan g c beside)).states in
      let table = tasks_are g c beside in
      λ i. record room {
        task_limit = (table i).limit;
        tasks = (table i).tasks;
        siblings = siblings i;
        core_cookie = c.args.cookie;
        forced = begun i;
        occupation = chosen i;
        started = started i;
      };
  numbers =
      let kept_lanes = with_items_is c.args.core.now.lanes c.update.new.lanes (c.update.auto.lanes ∙ ap length c.deref_mut.ensures.value) in
      let own = ap (map number_of) kept_lanes ∙ numbers_of_own c.update.new.lanes _ c.update.ensures.own ∙ ap (map number_of) c.deref_mut.ensures.value in
      λ i. record (numbers_by (bare c.args.core.now) (tasks_are g c some_beside i)) { intervals = c.begin.ensures.intervals i; own = own i };
  stays =
      let kept_lanes = with_items_is c.args.core.now.lanes c.update.new.lanes (c.update.auto.lanes ∙ ap length c.deref_mut.ensures.value) in
      stays-remembered _ _ (λ task. (task_after_selection (room_of (at c.args.now some_beside) (c.args.core.now, c.args.table.now)) c.args.cookie task).occupation)
      (tasks_are g c some_beside) c.update.ensures.sound
      (ap (map queue_of) kept_lanes ∙ queues_of_own c.update.new.lanes _ c.update.ensures.own ∙ ap (map queue_of) c.deref_mut.ensures.value) refl;
  gets = λ beside.
      let room = room_of beside (c.args.core.now, c.args.table.now) in
      c.run.ensures
      ∙ ap (λ (choices : List Choice). run_of (get_or choices c.args.cpu _)) (c.choose-forced.ensures.gets.each beside)
      ∙ ap run_of (at_number (λ cpu. choice_of (choice room c.args.cookie cpu)) (length room.siblings) c.args.cpu _ (omega (arith, length-map c.args.core.now.lanes.items lane_state, c.requires.may.at.cpu)))
      ∙ run_of-choice_of (choice room c.args.cookie c.args.cpu);
  forced = λ beside. c.begin.ensures.count ∙ (c.choose-forced.ensures.gets.counts_are beside).forced;
}
