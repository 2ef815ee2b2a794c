use Rattle.std.proofs.Common.{◌≡◌, ℕ, Bool, ◌∙◌, ap, sym, not, true, false, refl, rules, ltb, arith}
use Rattle.std.specs.Prelude.{◌&&◌, ◌==◌}
use Rattle.std.specs.List.{list_any}
use Rattle.cs_types.specs.declared.task.Task.{Task}
use Rattle.cs_types.specs.Room.{RoomState, SiblingState, sibling_of}
use Rattle.cs_types.specs.Order.{is_fair}
use Rattle.cs_types.specs.Time.{others_on, is_to_yield, patience}
use Rattle.core_lanes.specs.Lanes.{room_of}
use Rattle.core_lanes.proofs.Stays.{lane_at, policies_of}
use Rattle.core_lanes.proofs.Counted.{of_one}
use Rattle.core_clock.proofs.Peers.{fair_peers}
use Rattle.core_clock.proofs.Changes.{held_at}
use Rattle.core_clock.proofs.time.is_to_yield.Goals as goal

pub has_peer-requires : goal.has_peer-requires
has_peer-requires g c = record { table = c.requires.at.agree.table; there = c.requires.there; search = record { policies = policies_of (c.args.core.now, c.args.table.now) c.requires.at.agree; holds = held_at (c.args.core.now, c.args.table.now) c.args.cpu c.index-lane.result.now c.requires.at.agree c.requires.at.cpu c.index-lane.ensures } }

-- a fair task that has run so long while a sibling is forced idle is to yield where no other fair one is there
where_alone : (room : RoomState) (cpu : ℕ) (task : Task) → is_fair task ≡ true → (room.forced == 0) ≡ false → ltb (sibling_of room cpu).ran patience ≡ false →
    is_to_yield room cpu task ≡ not (list_any is_fair (others_on room cpu task))
where_alone room cpu task fair forced ran =
    (λ i. fair i && not (list_any is_fair (others_on room cpu task)) && not (forced i) && not (ran i)) ∙ alone (not (list_any is_fair (others_on room cpu task))) where
      alone : (b : Bool) → (true && b && true && true) ≡ b
      alone true = refl
      alone false = refl

pub returns-then-lane-ge-PATIENCE-clause-yields : goal.returns-then-lane-ge-PATIENCE-clause-yields
returns-then-lane-ge-PATIENCE-clause-yields g c beside =
    let room = room_of beside (c.args.core.now, c.args.table.now) in
    let task = c.args.task.now in
    let fair : is_fair task ≡ true = search rules in
    let forced : (c.args.core.now.account.count == 0) ≡ false = search rules in
    let ran : ltb c.index-lane.result.now.ran patience ≡ false = search rules in
    let here = lane_at c.args.core.now.lanes.items c.args.cpu c.index-lane.result.now c.requires.at.cpu c.index-lane.ensures in
    ap not (c.has_peer.ensures.answer ∙ fair_peers room c.args.cpu task fair)
    ∙ sym (where_alone room c.args.cpu task fair forced (ap (λ (sibling : SiblingState). ltb sibling.ran patience) here ∙ ran))

pub returns-then-lane-ge-PATIENCE-clause-counted : goal.returns-then-lane-ge-PATIENCE-clause-counted
returns-then-lane-ge-PATIENCE-clause-counted g c =
    omega (arith, c.has_peer.ensures.counted, of_one g.Q.SiblingQueue.most_compared g.met.Q.SiblingQueue.rises c.args.table.now.tasks c.args.cpu)
