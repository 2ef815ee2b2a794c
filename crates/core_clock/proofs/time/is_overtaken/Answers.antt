use Rattle.std.proofs.Common.{◌≡◌, ℕ, ◌∙◌, ap, sym, ltb, Option, Some, None, true, false, arith}
use Rattle.std.specs.Prelude.{◌&&◌}
use Rattle.std.specs.List.{list_any}
use Rattle.std.specs.Option.{option_map_or}
use Rattle.cs_types.specs.declared.task.Task.{Task}
use Rattle.cs_types.specs.Room.{RoomState, queued_on}
use Rattle.cs_types.specs.Order.{is_fair}
use Rattle.cs_types.specs.Time.{others_on, is_overtaken}
use Rattle.task_table.specs.Table.{Rises}
use Rattle.core_lanes.specs.Queued.{IsOf, smallest_vtime}
use Rattle.core_lanes.specs.Lanes.{room_of}
use Rattle.core_lanes.proofs.Stays.{policies_of}
use Rattle.core_lanes.proofs.Counted.{of_one}
use Rattle.core_clock.proofs.Peers.{overtaken_by}
use Rattle.core_clock.proofs.Changes.{held_at}
use Rattle.core_clock.proofs.time.is_overtaken.Goals as goal

pub smallest_vtime-requires : goal.smallest_vtime-requires
smallest_vtime-requires g c = record { policies = policies_of (c.args.core.now, c.args.table.now) c.requires.at.agree; holds = held_at (c.args.core.now, c.args.table.now) c.args.cpu c.index.result.now c.requires.at.agree c.requires.at.cpu c.index.ensures }

pub returns-then-not-is_fair-clause-overtaken : goal.returns-then-not-is_fair-clause-overtaken
returns-then-not-is_fair-clause-overtaken g c beside =
    let task = c.args.task.now in
    let others = others_on (room_of beside (c.args.core.now, c.args.table.now)) c.args.cpu task in
    ap (λ b. b && list_any (λ other. is_fair other && ltb other.vtime task.vtime) others) (sym c.if-not-is_fair.true ∙ c.is_fair.ensures)

-- a fair task is overtaken where the smallest of those there is smaller
by_smallest : (room : RoomState) (cpu : ℕ) (task : Task) → Rises room.tasks → IsOf room.tasks task → is_fair task ≡ true →
    (found : Option ℕ) → found ≡ smallest_vtime (queued_on room cpu) → option_map_or (λ time. ltb time task.vtime) found false ≡ is_overtaken room cpu task
by_smallest room cpu task rises there fair found is =
    ap (λ (one : Option ℕ). option_map_or (λ time. ltb time task.vtime) one false) is
    ∙ overtaken_by room cpu task rises there
    ∙ ap (λ b. b && list_any (λ other. is_fair other && ltb other.vtime task.vtime) (others_on room cpu task)) (sym fair)

pub returns-in-Some-clause-overtaken : goal.returns-in-Some-clause-overtaken
returns-in-Some-clause-overtaken g c beside =
    by_smallest (room_of beside (c.args.core.now, c.args.table.now)) c.args.cpu c.args.task.now c.requires.at.agree.table.rising c.requires.there
    (sym c.is_fair.ensures ∙ c.if-not-is_fair.false) (Some c.in-Some.smallest) (sym c.in-Some.is ∙ c.smallest_vtime.ensures.answer)

pub returns-in-None-clause-overtaken : goal.returns-in-None-clause-overtaken
returns-in-None-clause-overtaken g c beside =
    by_smallest (room_of beside (c.args.core.now, c.args.table.now)) c.args.cpu c.args.task.now c.requires.at.agree.table.rising c.requires.there
    (sym c.is_fair.ensures ∙ c.if-not-is_fair.false) None (sym c.in-None.is ∙ c.smallest_vtime.ensures.answer)

pub returns-in-Some-clause-counted : goal.returns-in-Some-clause-counted
returns-in-Some-clause-counted g c =
    omega (arith, c.smallest_vtime.ensures.counted, of_one g.Q.SiblingQueue.most_compared g.met.Q.SiblingQueue.rises c.args.table.now.tasks c.args.cpu)

pub returns-in-None-clause-counted : goal.returns-in-None-clause-counted
returns-in-None-clause-counted g c =
    omega (arith, c.smallest_vtime.ensures.counted, of_one g.Q.SiblingQueue.most_compared g.met.Q.SiblingQueue.rises c.args.table.now.tasks c.args.cpu)
