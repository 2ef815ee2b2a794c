use Rattle.std.proofs.Common.{◌+◌, ◌*◌, ◌<◌, ◌≤◌, ◌^◌, ◌∙◌, ap, sym, subst, map, length, refl, arith}
use Rattle.std.specs.Prelude.{All}
use Rattle.std.proofs.lemmas.List.Elements.{All-weaker}
use Rattle.cs_types.specs.declared.task.Task.{Task}
use Rattle.cs_types.specs.Room.{RoomState, SiblingState}
use Rattle.cs_types.specs.Time.{with_leasts, advanced}
use Rattle.core_lanes.specs.Lanes.{at, lane_state}
use Rattle.core_lanes.specs.Changes.{Kept}
use Rattle.core_lanes.specs.Comparisons.{ComparesFor}
use Rattle.core_lanes.proofs.Stays.{some_beside, both_stay}
use Rattle.core_clock.specs.Time.{with_ages}
use Rattle.core_lanes.proofs.Counted.{no_more_live, later, and_then}
use Rattle.core_clock.proofs.time.advance.Goals as goal

pub grow_tasks-requires : goal.grow_tasks-requires
grow_tasks-requires g c = record {
  agree = c.requires.agree;
  own = c.requires.own;
  used = All-weaker (λ (task : Task). task.used ≤ c.args.now) (λ (task : Task). task.used < 2 ^ 56) (λ task is. omega (arith, is, c.requires.clock)) c.args.table.now.tasks c.requires.used;
  vtimes = c.requires.low.vtimes;
  short = c.requires.short;
}

pub renew_siblings-requires : goal.renew_siblings-requires
renew_siblings-requires g c = record {
  agree = c.grow_tasks.ensures.changes.stays.agree c.requires.agree;
  ran = subst (All (λ (sibling : SiblingState). sibling.ran + c.args.delta < 2 ^ 64))
      (sym (ap (λ (room : RoomState). room.siblings) (c.grow_tasks.ensures.changes.room some_beside)))
      (All-weaker (λ (sibling : SiblingState). sibling.ran ≤ c.args.now) (λ (sibling : SiblingState). sibling.ran + c.args.delta < 2 ^ 64)
      (λ sibling is. omega (arith, is, c.requires.clock, c.requires.short)) (map lane_state c.args.core.now.lanes.items) c.requires.ran);
}

pub returns-clause-advances : goal.returns-clause-advances
unfolding advanced
returns-clause-advances g c = record {
  clock = refl;
  room = λ beside.
      let later = at (c.args.now + c.args.delta) beside in
      c.renew_siblings.ensures.changes.room later ∙ ap (λ (room : RoomState). with_leasts (with_ages c.args.delta room)) (c.grow_tasks.ensures.changes.room later);
  numbers = c.renew_siblings.ensures.changes.numbers ∙ c.grow_tasks.ensures.changes.numbers;
  stays = both_stay c.grow_tasks.ensures.changes.stays c.renew_siblings.ensures.changes.stays;
}

pub returns-clause-counted : goal.returns-clause-counted
returns-clause-counted g c =
    let siblings = length c.args.core.now.lanes.items in
    let grown = c.grow_tasks.new in
    let end = c.renew_siblings.new.comparisons in
    let stays = c.grow_tasks.ensures.changes.stays in
    let renews = subst (λ n. ComparesFor n (grown.core, grown.table) grown.comparisons end) (ap (λ (kept : Kept). kept.siblings) stays.kept) c.renew_siblings.ensures.counted in
    and_then (2 * siblings) siblings (3 * siblings) (c.args.core.now, c.args.table.now) _ _ _ (omega arith) c.grow_tasks.ensures.counted
    (later g.met.Q.SiblingQueue.rises siblings (grown.core, grown.table) (c.args.core.now, c.args.table.now) _ _ (no_more_live stays) renews)
