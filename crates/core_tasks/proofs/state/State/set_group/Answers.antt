use Rattle.std.proofs.Common.{◌≡◌, ◌∙◌, ◌+◌, ◌*◌, ◌≤◌, List, Some, None, [], ◌∷◌, sym, ap, subst, refl, length, arith, ltb}
use Rattle.std.specs.Prelude.{◌&&◌, filter}
use Rattle.std.proofs.lemmas.List.Sums.{length-filter, count_by-le-length}
use Rattle.cs_types.specs.declared.task.Task.{Task}
use Rattle.cs_types.specs.Room.{RoomState}
use Rattle.cs_types.specs.Prctl.{set_cookies}
use Rattle.cs_types.specs.Touches.{setting_touches}
use Rattle.task_table.specs.declared.group.Group.{Group}
use Rattle.core_lanes.specs.Numbers.{touched}
use Rattle.core_tasks.specs.State.{room_with, state_numbers}
use Rattle.task_table.specs.Group.{is_in_group, group_above}
use Rattle.task_table.proofs.Tables.{above_kept}
use Rattle.core_tasks.specs.Cookies.{setting}
use Rattle.core_tasks.proofs.States.{both_stay, same_stays}
use Rattle.core_tasks.proofs.Runners.{own_kept}
use Rattle.core_tasks.proofs.Counted.{as_many_set, one_less, no_more_members}
use Rattle.core_tasks.proofs.Settings.{member_next, member_none, member_there, group_done, group_room, group_numbers, group_touches}
use Rattle.core_tasks.proofs.state.State.set_group.Goals as goal

few_members : (group : _) (tasks : List Task) → length (group_above group 0 tasks) ≤ length tasks
few_members group tasks =
    omega (arith, length-filter (λ task. is_in_group group task && ltb 0 task.spec.pid) tasks, count_by-le-length (λ task. is_in_group group task && ltb 0 task.spec.pid) tasks)

none_left : (tasks : List Task) → length tasks ≤ 0 → tasks ≡ []
none_left [] few = refl
none_left (task ∷ tasks) few = absurd (omega arith)

-- those above 0 are of the group
members_above : (group : Group) (tasks : List Task) → length (group_above group 0 tasks) ≤ length (filter (is_in_group group) tasks)
members_above group [] = omega arith
members_above group (task ∷ tasks) = grind (arith, members_above group tasks)

pub loop-init : goal.loop-init
loop-init g c =
    let tasks = c.args.self.now.tasks.tasks in
    let members = c.below-after.ensures.members in
    record {
      stays = same_stays;
      own = c.requires.own;
      room = λ intervals. ap (λ (left : List Task). set_cookies (room_with intervals c.args.self.now) (setting left c.args.cookie)) members;
      numbers = ap (λ (left : List Task). touched (setting_touches (setting left c.args.cookie)) (state_numbers c.args.self.now)) members;
      left = omega (arith, ap length members, members_above c.args.group tasks, c.most_in-end.ensures.most);
      compared = omega (arith, ap (λ (left : List Task). length left * g.Q.SiblingQueue.most_compared (length tasks)) members);
    }

pub returns-in_default-clause-sets : goal.returns-in_default-clause-sets
returns-in_default-clause-sets g c =
    group_done c.args.self.now c.loop.self c.args.cookie (group_above c.args.group c.loop.after c.loop.self.tasks.tasks) (group_above c.args.group 0 c.args.self.now.tasks.tasks)
    c.loop.invariant.room c.loop.invariant.numbers
    (member_none c.args.group c.loop.after c.loop.self.tasks.tasks c.next_in.ensures.sound.rising None (c.in_default.ensures ∙ c.next_in.ensures.next)) c.loop.invariant.stays

pub loop-preserved : goal.loop-preserved
loop-preserved g c =
    let tasks = c.loop.self.tasks.tasks in
    let task = c.in-Some.task in
    let left = group_above c.args.group c.loop.after tasks in
    let all = group_above c.args.group 0 c.args.self.now.tasks.tasks in
    let rest = group_above c.args.group task.spec.pid c.set_cookie.new.self.tasks.tasks in
    let kept : rest ≡ group_above c.args.group task.spec.pid tasks =
    ap (λ (room : RoomState). group_above c.args.group task.spec.pid room.tasks) (c.set_cookie.ensures.sets.room [])
    ∙ above_kept c.args.group c.args.cookie task tasks in
    let is : left ≡ task ∷ rest =
    member_next c.args.group c.loop.after tasks c.next_in.ensures.sound.rising (Some task) (c.in-Some.ensures ∙ c.next_in.ensures.next)
    ∙ ap (λ (ts : List Task). task ∷ ts) (sym kept) in
    record {
      stays = both_stay c.loop.invariant.stays c.set_cookie.ensures.sets.stays;
      own = own_kept c.loop.self c.set_cookie.new.self (setting (task ∷ []) c.args.cookie) (c.set_cookie.ensures.sets.room []) c.loop.invariant.own;
      room = group_room c.args.self.now c.loop.self c.args.cookie left all c.loop.invariant.room c.loop.invariant.numbers c.set_cookie.new.self task rest is c.set_cookie.ensures.sets;
      numbers = group_numbers c.args.self.now c.loop.self c.args.cookie left all c.loop.invariant.room c.loop.invariant.numbers c.set_cookie.new.self task rest is c.set_cookie.ensures.sets;
      left = omega (arith, ap length is, c.loop.invariant.left);
      compared =
          let many = as_many_set (room_with [] c.args.self.now) (room_with [] c.loop.self) (setting all c.args.cookie) (setting left c.args.cookie) (c.loop.invariant.room []) in
          one_less c.args.comparisons.now c.loop.comparisons c.set_cookie.new.comparisons (length left) (length rest) (length all) _ (ap length is) c.loop.invariant.compared
          (subst (λ n. c.set_cookie.new.comparisons ≤ c.loop.comparisons + 1 * g.Q.SiblingQueue.most_compared n) many c.set_cookie.ensures.counted);
    }

pub returns-clause-sets : goal.returns-clause-sets
returns-clause-sets g c =
    let left = group_above c.args.group c.loop.after c.loop.self.tasks.tasks in
    group_done c.args.self.now c.loop.self c.args.cookie left (group_above c.args.group 0 c.args.self.now.tasks.tasks)
    c.loop.invariant.room c.loop.invariant.numbers (none_left left (omega (arith, c.loop.invariant.left, c.loop-test.false))) c.loop.invariant.stays

pub set_cookie-requires : goal.set_cookie-requires
set_cookie-requires g c = record {
  may = record {
    sound = c.loop.invariant.stays.sound c.requires.sound;
    own = c.loop.invariant.own;
    touches = omega (
      arith,
      group_touches c.args.self.now c.loop.self c.args.cookie (group_above c.args.group c.loop.after c.loop.self.tasks.tasks) (group_above c.args.group 0 c.args.self.now.tasks.tasks)
          c.loop.invariant.room c.loop.invariant.numbers,
      few_members c.args.group c.args.self.now.tasks.tasks,
      c.requires.touches,
    );
  };
  there =
      member_there c.args.group c.loop.after c.loop.self.tasks.tasks c.next_in.ensures.sound.rising (Some c.in-Some.task) (c.in-Some.ensures ∙ c.next_in.ensures.next);
}

pub returns-in_default-clause-counted : goal.returns-in_default-clause-counted
returns-in_default-clause-counted g c =
    let tasks = c.args.self.now.tasks.tasks in
    no_more_members _ _ (length (group_above c.args.group c.loop.after c.loop.self.tasks.tasks)) _ _ _ c.loop.invariant.compared (few_members c.args.group tasks)

pub returns-clause-counted : goal.returns-clause-counted
returns-clause-counted g c =
    let tasks = c.args.self.now.tasks.tasks in
    no_more_members _ _ (length (group_above c.args.group c.loop.after c.loop.self.tasks.tasks)) _ _ _ c.loop.invariant.compared (few_members c.args.group tasks)
