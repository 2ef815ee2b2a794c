use Rattle.std.proofs.Common.{◌≡◌, ◌+◌, ◌<◌, length, sym, ap, ◌∙◌, subst, arith, None}
use Rattle.cs_types.specs.History.{fold_of}
use Rattle.run_segments.specs.declared.segments.Segment.{Segment}
use Rattle.run_segments.specs.Segments.{segment_in}
use Rattle.run_segments.specs.Kept.{Kept, last_span, kept_with}
use Rattle.run_segments.proofs.Placed.{length-kept_with}
use Rattle.run_segments.proofs.Steps.{IsAt, begun_is, at_start, at_next, at_end}
use Rattle.run_segments.proofs.recorder.Recorder.keep_each.Goals as goal

pub loop-cpu-init : goal.loop-cpu-init
loop-cpu-init g c =
    record {
      each = c.requires.each;
      marks = c.requires.marks;
      kept = λ spans span same now ends lasts total are.
          at_start (g.R.Room.opening c.args.room.now).scenario.siblings spans span c.args.self.now.segments (now ∙ sym total) are;
    }

pub loop-cpu-preserved : goal.loop-cpu-preserved
loop-cpu-preserved g c =
    let opening = g.R.Room.opening c.args.room.now in
    let room = fold_of opening (g.R.Room.history c.args.room.now) in
    let siblings = opening.scenario.siblings in
    let cpu = c.loop-cpu.cpu in
    let before = c.loop-cpu.self.segments in
    let now_does = c.now_of-now in
    let next : Segment = record { from = c.args.from; to = c.args.to; cpu = cpu; pid = now_does.result.pid; group = now_does.result.group; doing = now_does.result.doing; pending = now_does.result.pending } in
    record {
      each = ap (λ (kept : Kept). length kept.places) c.in_ok-keep.ensures ∙ length-kept_with next before ∙ c.loop-cpu.invariant.each;
      marks = now_does.ensures.marks;
      kept = λ spans span same now ends lasts total are.
          let last = last_span None spans in
          let old = c.args.self.now.segments.segments in
          let below : cpu < siblings = omega (arith, c.loop-cpu-test.true, c.siblings-cpu-end.ensures.siblings) in
          let is : next ≡ segment_in span cpu = begun_is span room cpu c.args.from c.args.to _ _ _ _ same now ends now_does.ensures.pid now_does.ensures.group now_does.ensures.doing now_does.ensures.pending in
          subst (IsAt siblings last span old (cpu + 1)) (sym (c.in_ok-keep.ensures ∙ ap (λ (s : Segment). kept_with s before) is))
          (at_next siblings last span old cpu before below lasts (c.loop-cpu.invariant.kept spans span same now ends lasts total are));
    }

pub returns-clause-kept : goal.returns-clause-kept
returns-clause-kept g c = λ spans span same now ends lasts total are.
    let siblings = (g.R.Room.opening c.args.room.now).scenario.siblings in
    let all : c.loop-cpu.cpu ≡ siblings = omega (arith, c.loop-cpu-test.false, c.loop-cpu.auto.cpu-end, c.siblings-cpu-end.ensures.siblings) in
    at_end siblings spans span c.args.self.now.segments c.loop-cpu.self.segments (now ∙ sym total) lasts are
    (subst (λ n. IsAt siblings (last_span None spans) span c.args.self.now.segments.segments n c.loop-cpu.self.segments) all
    (c.loop-cpu.invariant.kept spans span same now ends lasts total are))
