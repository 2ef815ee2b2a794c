use Rattle.std.proofs.Common.{◌∙◌, ap, sym, arith}
use Rattle.std.specs.Prelude.{◌&&◌}
use Rattle.std.specs.List.{list_any}
use Rattle.cs_types.specs.Time.{is_peer, others_on}
use Rattle.core_lanes.specs.Lanes.{room_of}
use Rattle.core_lanes.proofs.Stays.{policies_of}
use Rattle.core_lanes.proofs.Counted.{of_one}
use Rattle.core_clock.proofs.Peers.{rr_peers}
use Rattle.core_clock.proofs.Changes.{held_at}
use Rattle.core_clock.proofs.time.rotates.Goals as goal

pub has_peer-requires : goal.has_peer-requires
has_peer-requires g c = record { table = c.requires.at.agree.table; there = c.requires.there; search = record { policies = policies_of (c.args.core.now, c.args.table.now) c.requires.at.agree; holds = held_at (c.args.core.now, c.args.table.now) c.args.cpu c.index.result.now c.requires.at.agree c.requires.at.cpu c.index.ensures } }

pub returns-else-has_used_slice-clause-rotates : goal.returns-else-has_used_slice-clause-rotates
returns-else-has_used_slice-clause-rotates g c beside =
    let room = room_of beside (c.args.core.now, c.args.table.now) in
    c.if-has_used_slice.false
    ∙ ap (λ b. b && list_any (is_peer c.args.task.now) (others_on room c.args.cpu c.args.task.now)) (sym c.if-has_used_slice.false ∙ c.has_used_slice.ensures)

pub returns-then-has_used_slice-clause-rotates : goal.returns-then-has_used_slice-clause-rotates
returns-then-has_used_slice-clause-rotates g c beside =
    let room = room_of beside (c.args.core.now, c.args.table.now) in
    let task = c.args.task.now in
    let used = sym c.has_used_slice.ensures ∙ c.if-has_used_slice.true in
    c.has_peer.ensures.answer ∙ rr_peers room c.args.cpu task used
    ∙ ap (λ b. b && list_any (is_peer task) (others_on room c.args.cpu task)) (sym used)

pub returns-then-has_used_slice-clause-counted : goal.returns-then-has_used_slice-clause-counted
returns-then-has_used_slice-clause-counted g c =
    omega (arith, c.has_peer.ensures.counted, of_one g.Q.SiblingQueue.most_compared g.met.Q.SiblingQueue.rises c.args.table.now.tasks c.args.cpu)
