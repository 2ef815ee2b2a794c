use Rattle.std.proofs.Common.{◌≢◌, ◌<◌, cond, get_or, ap, arith}
use Rattle.std.specs.Prelude.{min, max}
use Rattle.pair_times.proofs.Once.{joins_more, joins_new, joins_here}
use Rattle.pair_times.proofs.rows.add_with.Goals as goal

pub add-requires-clause-fits : goal.add-requires-clause-fits
add-requires-clause-fits c =
    let others = c.args.others.now in
    let i = c.loop-other.other-index in
    let few = c.loop-other-test.true in
    let other = get_or others i 0 in
    let apart : other ≢ c.args.key = c.requires.apart i 0 few in
    let low = min c.args.key other in
    let high = max c.args.key other in
    let lt : low < high = omega (arith, apart) in
    let old = c.loop-other.invariant.times low high lt in
    let none = ap (λ b. cond b c.args.time 0) (joins_new c.args.key others i 0 c.requires.distinct few apart) in
    let fits = c.requires.fits low high lt (joins_here c.args.key others i 0 few apart) in
    rw (c.min.ensures, c.max.ensures) (omega (arith, old, none, fits))

pub loop-other-preserved : goal.loop-other-preserved
loop-other-preserved c =
    let others = c.args.others.now in
    let i = c.loop-other.other-index in
    let few = c.loop-other-test.true in
    let apart : get_or others i 0 ≢ c.args.key = c.requires.apart i 0 few in
    record {
      rows = c.add.ensures.rows;
      times = λ a b lt.
          let more = joins_more c.args.key others i 0 a b c.args.time c.requires.distinct few apart lt in
          let added = rw (c.min.ensures, c.max.ensures) at (c.add.ensures.times a b) in
          omega (arith, more, added, c.loop-other.invariant.times a b lt);
      few = omega (arith, c.add.ensures.few, c.loop-other.invariant.few);
      capacity = omega (arith, c.add.ensures.capacity, c.loop-other.invariant.capacity);
    }
