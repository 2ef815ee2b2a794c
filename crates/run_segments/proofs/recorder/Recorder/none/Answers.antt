use Rattle.cs_types.specs.History.{fold_of}
use Rattle.std.proofs.Common.{[]}
use Rattle.run_segments.proofs.Recorded.{none_kept}
use Rattle.run_segments.proofs.recorder.Recorder.none.Goals as goal

pub returns : goal.returns
returns c = λ opening same.
    none_kept opening c.args.siblings c.in_ok-none.field-0 c.in_ok-none-2.field-0 same c.in_ok-none.ensures (c.in_ok-none-2.ensures (fold_of opening []))
