use Rattle.std.proofs.Common.{◌≡◌, ◌+◌, ◌-◌, ◌∙◌, sym, ap, take, drop, false, arith}
use Rattle.std.specs.List.{position_from, list_any}
use Rattle.std.proofs.lemmas.List.{drop-drop}
use Rattle.task_table.specs.Inside.{tells_group}
use Rattle.task_table.proofs.Blocks.{passed}
use Rattle.task_table.proofs.entry.clear_to.Goals as goal

pub loop-preserved : goal.loop-preserved
loop-preserved c =
    let test = tells_group c.args.group in
    let entries = c.args.entries.now in
    let clear = c.loop.clear in
    let block : clear + 16 - clear ≡ 16 = omega arith in
    let none : list_any test (take 16 (drop clear entries)) ≡ false =
    ap (λ n. list_any test (take n (drop clear entries))) (sym block) ∙ sym c.has_any.ensures ∙ c.if-has_any.false in
    record {
      at = omega (arith, c.loop.invariant.at);
      first = c.loop.invariant.first ∙ passed test clear 16 (drop clear entries) none ∙ ap (position_from test (clear + 16)) (drop-drop 16 clear entries);
    }
