use Rattle.std.proofs.Common.{List, Err, Ok, ap, ◌∙◌}
use Rattle.cs_types.specs.declared.task.Creds.{Creds}
use Rattle.std.proofs.lemmas.Result.{err_from_is_err_and}
use Rattle.scenario_text.specs.Reading.{contents, lent, line_of}
use Rattle.scenario_text.proofs.UsualLines.{untaken, formless, line_checked}
use Rattle.scenario_text.proofs.reading.next_line.Goals as goal

pub returns-in_err-words : goal.returns-in_err-words
returns-in_err-words c =
    let fault = err_from_is_err_and c.from_residual.result c.from_residual.ensures.1 in
    rw (fault.1, fault.2) (untaken c.args.head (contents c.args.plan.now) c.args.lines.now c.next_line.new.self _ c.in_err-words.ensures)

pub returns-in_err-line : goal.returns-in_err-line
returns-in_err-line c =
    let fault = err_from_is_err_and c.from_residual-in_err-line.result c.from_residual-in_err-line.ensures.1 in
    rw (fault.1, fault.2)
    (formless c.args.head (contents c.args.plan.now) c.args.lines.now c.next_line.new.self c.in_ok-words.words.now c.in_ok-words.ensures c.place.result c.place.ensures _ (c.in_err-line.ensures ∙ ap (λ (us : List Creds). line_of c.args.head.version c.args.head.siblings us c.place.result (lent c.in_ok-words.words.now)) c.deref.ensures.value))

pub returns-in_err-check : goal.returns-in_err-check
returns-in_err-check c =
    let fault = err_from_is_err_and c.from_residual-in_err-check.result c.from_residual-in_err-check.ensures.1 in
    rw (fault.1, fault.2)
    (line_checked c.args.head (contents c.args.plan.now) c.args.lines.now c.next_line.new.self c.in_ok-words.words.now c.in_ok-words.ensures c.place.result c.place.ensures c.in_ok-line.line (c.in_ok-line.ensures ∙ ap (λ (us : List Creds). line_of c.args.head.version c.args.head.siblings us c.place.result (lent c.in_ok-words.words.now)) c.deref.ensures.value) (Err c.in_err-check.field-0.0) c.in_err-check.ensures)

pub returns : goal.returns
returns c =
    (line_checked c.args.head (contents c.args.plan.now) c.args.lines.now c.next_line.new.self c.in_ok-words.words.now c.in_ok-words.ensures c.place.result c.place.ensures c.in_ok-line.line (c.in_ok-line.ensures ∙ ap (λ (us : List Creds). line_of c.args.head.version c.args.head.siblings us c.place.result (lent c.in_ok-words.words.now)) c.deref.ensures.value) (Ok tt) c.in_ok-check.ensures)
