use Rattle.std.proofs.Common.{sym, subst, ◌∙◌, length, List, map}
use Rattle.std.specs.Prelude.{Contains}
use Rattle.std.proofs.lemmas.Result.{IfOk-at_ok}
use Rattle.core_lock.specs.Passes.{PassState}
use Rattle.lock_rows.proofs.TwoPasses.{numbers}
use Rattle.lock_rows.proofs.passes.finished.Goals as goal

pub finish-requires-clause-numbers : goal.finish-requires-clause-numbers
finish-requires-clause-numbers g c number lt =
    subst (λ (passes : List PassState). Contains (map (λ (pass : PassState). pass.progress.number) passes) number)
    (sym (c.of.ensures ∙ IfOk-at_ok _ c.expect-passes.ensures c.from_array.ensures.items))
    (numbers c.args.first c.args.second (length c.args.shared.lists) number c.requires.two c.requires.first.1 c.requires.second.1 lt)
