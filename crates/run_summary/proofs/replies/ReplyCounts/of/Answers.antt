use Rattle.std.proofs.Common.{◌∙◌, sym, take, arith}
use Rattle.std.proofs.lemmas.List.{length-take-le}
use Rattle.run_summary.proofs.Counts.{replies_more, replies_below}
use Rattle.run_summary.proofs.replies.ReplyCounts.of.Goals as goal

pub add-requires : goal.add-requires
add-requires g c =
    let history = g.R.Room.history c.args.room.now in
    replies_below (take c.loop-place.place history) _ c.loop-place.counts c.loop-place.invariant
    (omega (arith, length-take-le c.loop-place.place history (omega (arith, c.length-place-end.ensures.length, c.loop-place-test.true)), c.loop-place-test.true))

pub loop-place-preserved : goal.loop-place-preserved
loop-place-preserved g c =
    replies_more (g.R.Room.history c.args.room.now) c.loop-place.place c.unwrap-entry.result c.loop-place.counts _
    (sym c.unwrap-entry.ensures ∙ c.entry.ensures) c.loop-place.invariant c.add.ensures
