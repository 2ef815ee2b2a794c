use Rattle.std.proofs.Common.{ℕ, ◌≤◌, List, map, get_or, sym, ◌∙◌, subst, arith}
use Rattle.std.proofs.lemmas.List.{length-map}
use Rattle.core_lanes.specs.Queued.{queued_among, mover_of}
use Rattle.tree_queue.specs.Arrivals.{BeginsBelow}
use Rattle.tree_queue.proofs.Begins.{begins_later, room_more, begins_more}
use Rattle.tree_queue.proofs.arrivals.tell_entries.Goals as goal
use Rattle.tree_queue.proofs.arrivals.tell_entries.Goals.{then-above-next+then-next-until+then-is_there, else-above-next}

pub bounds-movers-told : goal.bounds-movers-told
bounds-movers-told c =
    let queued = queued_among c.args.table.now.tasks c.args.cpu in
    let entry = get_or c.args.entries.now c.loop-entry.entry-index (0, 0) in
    room_more (map mover_of queued) c.loop-entry.above c.loop-entry.told c.loop-entry.movers c.loop-entry.invariant.below
    (omega (arith, c.loop-entry.invariant.each, c.requires.each, length-map queued mover_of)) c.after-next.result entry (c.is_there.ensures c.if-is_there.true)
    (c.after-next.ensures (omega (arith, c.if-above-next.true))) c.if-above-next.true

pub loop-entry-preserved : goal.loop-entry-preserved
loop-entry-preserved c =
    let queued = queued_among c.args.table.now.tasks c.args.cpu in
    let all = map mover_of queued in
    let was = c.loop-entry in
    let entry = get_or c.args.entries.now was.entry-index (0, 0) in
    let next = c.after-next.result in
    elim c.if-above-next.branch [
      | then-above-next+then-next-until+then-is_there w ↦
          let more = begins_more all was.above was.told was.movers was.invariant.below (omega (arith, was.invariant.each, c.requires.each, length-map queued mover_of))
          next entry (w.is_there.ensures w.if-is_there.true) (c.after-next.ensures (omega (arith, w.if-above-next.true))) w.if-above-next.true in
          record {
            each = c.if-above-next.auto.movers ∙ was.invariant.each;
            below = subst (λ (s : ℕ × (ℕ × List ℕ)). BeginsBelow all s.0 s.1.0 s.1.1) (λ i. (sym w.above-is i, (sym w.told-is i, sym w.movers-is i))) more;
            order = subst (λ above. above ≤ c.args.until) (sym w.above-is) w.if-next-until.true;
          }
      | else-above-next w ↦ record {
        each = c.if-above-next.auto.movers ∙ was.invariant.each;
        below = subst (λ (s : ℕ × (ℕ × List ℕ)). BeginsBelow all s.0 s.1.0 s.1.1) (λ i. (sym w.above-is i, (sym w.told-is i, sym w.movers-is i))) was.invariant.below;
        order = subst (λ above. above ≤ c.args.until) (sym w.above-is) was.invariant.order;
      }
    ]

pub returns-clause-below : goal.returns-clause-below
returns-clause-below c =
    begins_later (map mover_of (queued_among c.args.table.now.tasks c.args.cpu)) c.loop-entry.above c.args.until c.loop-entry.told c.loop-entry.movers c.loop-entry.invariant.order c.loop-entry.invariant.below
