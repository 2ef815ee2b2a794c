use Rattle.std.proofs.Common.{◌+◌, sym, ap, ◌∙◌, refl, arith}
use Rattle.std.proofs.lemmas.Bool.{not-true, not-false}
use Rattle.scenario_text.specs.Text.{line, users_words, users_in}
use Rattle.cs_outside.proofs.Reached.{all_left, none_left, whole_prefix, line_more, line_prefix}
use Rattle.scenario_writer.proofs.Counted.{counted_none, count_new, count_old, line_here, lines_end}
use Rattle.scenario_writer.proofs.Items.{line_left, lines_written}
use Rattle.scenario_writer.proofs.scenario.write_users.Goals as goal
use Rattle.scenario_writer.proofs.scenario.write_users.Goals.{then-are_new+in_ok-write_all, else-are_new}

pub loop-place-init : goal.loop-place-init
loop-place-init g c = record {
  left = all_left line (g.K.Sink.written c.args.sink.now) (users_words (users_in c.args.version c.args.tasks.now));
  numbered = sym (counted_none c.args.tasks.now);
  small = omega arith;
  faultless = refl;
}

pub returns-in_err-write_all-clause-prefix : goal.returns-in_err-write_all-clause-prefix
returns-in_err-write_all-clause-prefix g c =
    let so_far = c.loop-place.invariant in
    let here = line_here c.args.tasks.now c.loop-place.place _ c.loop-place-test.true c.args.version c.loop-place.number c.if-version-ne2.false so_far.numbered (not-true _ (sym c.if-are_new.ensures)) in
    line_prefix _ _ _ _ _ _ _ (line_left _ c.loop-place.number _ _ _ _ here.0 here.1 so_far.left) (c.as_bytes.ensures ∙ c.user_line.ensures) c.write_all.ensures.prefix

pub loop-place-preserved : goal.loop-place-preserved
loop-place-preserved g c =
    let tasks = c.args.tasks.now in
    let so_far = c.loop-place.invariant in
    elim c.if-are_new.branch [
      | then-are_new+in_ok-write_all w ↦
          let new = not-true _ (sym w.if-are_new.ensures) in
          let here = line_here tasks c.loop-place.place _ c.loop-place-test.true c.args.version c.loop-place.number c.if-version-ne2.false so_far.numbered new in
          rw (w.number-is, w.sink-is)
          (record {
            left = line_more _ _ _ _ _ _ _ (line_left _ c.loop-place.number _ _ _ _ here.0 here.1 so_far.left) (w.as_bytes.ensures ∙ w.user_line.ensures) w.in_ok-write_all.ensures.ok;
            numbered = ap (λ n. n + 1) so_far.numbered ∙ sym (count_new tasks c.loop-place.place _ c.loop-place-test.true new);
            small = omega arith;
            faultless = w.in_ok-write_all.ensures.faultless ∙ so_far.faultless;
          })
      | else-are_new w ↦
          rw (w.number-is, w.sink-is)
          (record {
            left = so_far.left;
            numbered = so_far.numbered ∙ sym (count_old tasks c.loop-place.place _ c.loop-place-test.true (not-false _ (sym w.if-are_new.ensures)));
            small = omega arith;
            faultless = so_far.faultless;
          })
    ]

pub returns-clause-ok : goal.returns-clause-ok
returns-clause-ok g c =
    let so_far = c.loop-place.invariant in
    let past = lines_end c.args.version c.args.tasks.now c.loop-place.number c.loop-place.place c.if-version-ne2.false so_far.numbered (omega (arith, c.loop-place-test.false)) in
    none_left _ _ _ (lines_written _ c.loop-place.number _ _ _ past so_far.left)

pub returns-clause-prefix : goal.returns-clause-prefix
returns-clause-prefix g c = whole_prefix _ _ _ (returns-clause-ok g c)
