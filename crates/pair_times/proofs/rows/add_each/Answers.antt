use Rattle.std.proofs.Common.{cond, ap, arith}
use Rattle.std.proofs.lemmas.List.{length-take-le}
use Rattle.pair_times.proofs.Once.{both_more, both_new}
use Rattle.pair_times.proofs.Among.{pairs_among-more}
use Rattle.pair_times.proofs.rows.add_each.Goals as goal

pub add_with-requires-clause-fits : goal.add_with-requires-clause-fits
add_with-requires-clause-fits c a b lt joined =
    let none = ap (λ t. cond t c.args.time 0) (both_new c.args.keys.now c.loop-index.index 0 a b c.requires.distinct c.loop-index-test.true joined) in
    omega (arith, c.loop-index.invariant.times a b lt, none, c.requires.fits a b lt)

pub loop-index-preserved : goal.loop-index-preserved
loop-index-preserved c =
    record {
      rows = c.add_with.ensures.rows;
      times = λ a b lt.
          omega (
            arith,
            both_more c.args.keys.now c.loop-index.index 0 a b c.args.time c.requires.distinct c.loop-index-test.true lt,
            c.add_with.ensures.times a b lt,
            c.loop-index.invariant.times a b lt,
          );
      few = omega (arith, c.add_with.ensures.few, c.loop-index.invariant.few, pairs_among-more c.loop-index.index, length-take-le c.loop-index.index c.args.keys.now (omega (arith, c.loop-index-test.true)));
      capacity = omega (arith, c.add_with.ensures.capacity, c.loop-index.invariant.capacity);
    }
