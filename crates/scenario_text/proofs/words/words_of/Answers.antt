use Rattle.std.proofs.Common.{◌∙◌, ◌+◌, Err, List, [], ◌++◌, take, sym, ap, arith}
use Rattle.std.proofs.lemmas.Result.{err_from_is_err_and}
use Rattle.scenario_text.specs.Words.{Word}
use Rattle.scenario_text.specs.Faults.{words_in}
use Rattle.scenario_text.specs.Reading.{texts}
use Rattle.scenario_text.proofs.Cuts.{one_more, none_more, counted_more, bad_word, all_words}
use Rattle.scenario_text.proofs.words.words_of.Goals as goal

pub returns-in_err-put : goal.returns-in_err-put
unfolding words_in
returns-in_err-put c =
    let words = take c.loop-word.count c.loop-word.slots in
    let fault = err_from_is_err_and c.from_residual.result c.from_residual.ensures.1 in
    let cut = c.loop-word.invariant.0 ∙ ap (λ (ws : List Word). texts words ++ ws) c.in-Some.ensures.pieces in
    rw (fault.1, fault.2)
    (bad_word (words_in c.args.line.now) (words_in c.in-Some.more.now) words c.loop-word.count c.in-Some.word c.loop-word.invariant.3 cut c.in_err-put.ensures.1 ∙ ap Err (sym c.in_err-put.ensures.0))

pub loop-word-preserved : goal.loop-word-preserved
unfolding words_in
loop-word-preserved c =
    let words = take c.loop-word.count c.loop-word.slots in
    let new = take (c.loop-word.count + 1) c.put.new.slots in
    let added = c.in_ok-put.ensures in (
      one_more (words_in c.args.line.now) (words_in c.in-Some.more.now) (words_in c.loop-word.rest.now) words new c.in-Some.word c.loop-word.invariant.0 c.in-Some.ensures.pieces added.0,
      omega (arith, added.2),
      none_more words new c.in-Some.word c.loop-word.invariant.2 added.1 added.0,
      counted_more words new c.in-Some.word c.loop-word.count c.loop-word.invariant.3 added.0,
    )

pub returns-in_err-put-2 : goal.returns-in_err-put-2
unfolding words_in
returns-in_err-put-2 c =
    let words = take c.loop-word.count c.loop-word.slots in
    let fault = err_from_is_err_and c.from_residual-in_err-put-2.result c.from_residual-in_err-put-2.ensures.1 in
    let cut = c.loop-word.invariant.0 ∙ ap (λ (ws : List Word). texts words ++ ws) c.in_default.ensures.pieces in
    rw (fault.1, fault.2)
    (bad_word (words_in c.args.line.now) [] words c.loop-word.count c.loop-word.rest c.loop-word.invariant.3 cut c.in_err-put-2.ensures.1 ∙ ap Err (sym c.in_err-put-2.ensures.0))

pub returns : goal.returns
unfolding words_in
returns c =
    let words = take c.loop-word.count c.loop-word.slots in
    let new = take (c.loop-word.count + 1) c.put-2.new.slots in
    let added = c.in_ok-put-2.ensures in
    all_words (words_in c.args.line.now) new
    (one_more (words_in c.args.line.now) [] (words_in c.loop-word.rest.now) words new c.loop-word.rest c.loop-word.invariant.0 c.in_default.ensures.pieces added.0)
    (omega (arith, added.2, counted_more words new c.loop-word.rest c.loop-word.count c.loop-word.invariant.3 added.0))
    (none_more words new c.loop-word.rest c.loop-word.invariant.2 added.1 added.0)
