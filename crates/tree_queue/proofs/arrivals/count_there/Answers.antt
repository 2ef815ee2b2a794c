use Rattle.std.proofs.Common.{◌+◌, map, inl, inr, sym, subst, arith}
use Rattle.std.specs.Prelude.{Contains}
use Rattle.std.specs.List.{slice_index_or}
use Rattle.std.proofs.lemmas.Bool.{cases_order}
use Rattle.core_lanes.specs.Queued.{queued_among, mover_of}
use Rattle.tree_queue.proofs.arrivals.count_there.Goals as goal

pub loop-place-preserved : goal.loop-place-preserved
loop-place-preserved c = record {
  there = λ place less.
      elim (cases_order place c.loop-place.place) [
        | inl same ↦
            subst (λ n. Contains (map mover_of (queued_among c.args.table.now.tasks c.args.cpu)) (c.args.base + n, slice_index_or c.args.moved.now n 0)) (sym same)
            (c.is_there.ensures c.if-not-is_there.false)
        | inr (inl before) ↦ c.loop-place.invariant.there place before
        | inr (inr behind) ↦ absurd (omega (arith, less, behind))
      ];
}
