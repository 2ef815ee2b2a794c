use Rattle.std.proofs.Common.{◌≡◌, ◌∙◌, [], refl}
use Rattle.std.specs.List.{flat_map}
use Rattle.std.proofs.lemmas.Result.{on_ok_weaker}
use Rattle.cs_outside.specs.Device.{appended}
use Rattle.scenario_text.specs.Text.{line}
use Rattle.cs_outside.proofs.Reached.{all_left, none_left, line_more, line_prefix}
use Rattle.times_report.specs.Summary.{pair_lines, side_lines}
use Rattle.times_report.proofs.Left.{part_out, part_begun, last_part}
use Rattle.times_report.proofs.texts.write_side.Goals as goal

pub returns-in_err-write_all-clause-prefix : goal.returns-in_err-write_all-clause-prefix
returns-in_err-write_all-clause-prefix g c =
    line_prefix _ _ _ _ _ _ _ (all_left line (g.K.Sink.written c.args.sink.now) (side_lines c.args.by c.args.times c.args.pairs.now))
    (c.as_bytes.ensures ∙ c.side_line.ensures) c.write_all.ensures.prefix

pub returns-clause-ok : goal.returns-clause-ok
returns-clause-ok g c =
    let lines = pair_lines c.args.by c.args.pairs.now in
    on_ok_weaker {Q = g.K.Sink.written c.write_pairs.new.sink ≡ appended (g.K.Sink.written c.args.sink.now) (flat_map line (side_lines c.args.by c.args.times c.args.pairs.now))} c.write_pairs.result
    (λ sent. none_left _ _ _ (part_out _ _ lines lines [] _ _ refl
    (last_part _ _ lines _ (line_more _ _ _ _ _ _ _ (all_left line (g.K.Sink.written c.args.sink.now) (side_lines c.args.by c.args.times c.args.pairs.now))
    (c.as_bytes.ensures ∙ c.side_line.ensures) c.in_ok-write_all.ensures.ok)) sent)) c.write_pairs.ensures.ok

pub returns-clause-prefix : goal.returns-clause-prefix
returns-clause-prefix g c =
    let lines = pair_lines c.args.by c.args.pairs.now in
    part_begun _ _ lines lines [] _ _ refl
    (last_part _ _ lines _ (line_more _ _ _ _ _ _ _ (all_left line (g.K.Sink.written c.args.sink.now) (side_lines c.args.by c.args.times c.args.pairs.now))
    (c.as_bytes.ensures ∙ c.side_line.ensures) c.in_ok-write_all.ensures.ok)) c.write_pairs.ensures.prefix
