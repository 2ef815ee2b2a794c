use Rattle.std.proofs.Common.{◌∙◌, sym, ap}
use Rattle.std.specs.List.{position}
use Rattle.std.proofs.lemmas.List.{take_rest}
use Rattle.task_table.specs.Inside.{tells_group}
use Rattle.task_table.proofs.Blocks.{first_near, first_behind}
use Rattle.task_table.proofs.entry.search.Goals as goal

pub returns-in-Some : goal.returns-in-Some
returns-in-Some c =
    sym (first_near (tells_group c.args.group) c.min-near.result c.in-Some.position c.args.entries.now (sym c.first_among.ensures ∙ c.in-Some.is))

pub returns-in_err-position : goal.returns-in_err-position
returns-in_err-position c =
    c.from_residual.ensures
    ∙ sym (first_behind (tells_group c.args.group) c.min-near.result c.clear_to-clear.result c.args.entries.now (sym c.first_among.ensures ∙ c.in_default.is) c.clear_to-clear.ensures.first _
    (sym (c.in_err-position.was) ∙ c.first_among-2.ensures ∙ ap (position (tells_group c.args.group)) (take_rest c.args.entries.now c.clear_to-clear.result)))

pub returns : goal.returns
returns c =
    sym (first_behind (tells_group c.args.group) c.min-near.result c.clear_to-clear.result c.args.entries.now (sym c.first_among.ensures ∙ c.in_default.is) c.clear_to-clear.ensures.first _
    (sym (c.in_ok-position.was) ∙ c.first_among-2.ensures ∙ ap (position (tells_group c.args.group)) (take_rest c.args.entries.now c.clear_to-clear.result)))
