use Rattle.std.proofs.lemmas.Result.{err_from_is_err_and}
use Rattle.scenario_text.specs.Reading.{line_as, version_reading, siblings_reading}
use Rattle.scenario_text.proofs.Beginnings.{told_fault, told_line, version_good, version_bad, count_good, count_bad, head_found}
use Rattle.scenario_text.proofs.head.next_head.Goals as goal

pub returns-in_err-version : goal.returns-in_err-version
returns-in_err-version c =
    let all = c.args.lines.now in
    let fault = err_from_is_err_and c.from_residual.result c.from_residual.ensures.1 in
    rw (fault.1, fault.2)
    (told_fault (line_as version_reading all) c.next_version.new.lines 1 all c.next_version.result c.on_line.result c.next_version.ensures c.on_line.ensures (λ kind e. version_bad all kind c.requires e) _ c.in_err-version.was)

pub returns-in_err-siblings : goal.returns-in_err-siblings
returns-in_err-siblings c =
    let all = c.args.lines.now in
    let fault = err_from_is_err_and c.from_residual-in_err-siblings.result c.from_residual-in_err-siblings.ensures.1 in
    let first = version_good all _ _ (told_line (line_as version_reading all) c.next_version.new.lines 1 c.next_version.result c.on_line.result c.next_version.ensures c.on_line.ensures _ c.in_ok-version.was) in
    let lines = c.next_version.new.lines in
    rw (fault.1, fault.2)
    (told_fault (line_as (siblings_reading c.in_ok-version.version) lines) c.next_siblings.new.lines 2 all c.next_siblings.result c.on_line-2.result c.next_siblings.ensures c.on_line-2.ensures (count_bad all c.in_ok-version.version first.1 lines first.0) _ c.in_err-siblings.was)

pub returns : goal.returns
returns c =
    let all = c.args.lines.now in
    let first = version_good all _ _ (told_line (line_as version_reading all) c.next_version.new.lines 1 c.next_version.result c.on_line.result c.next_version.ensures c.on_line.ensures _ c.in_ok-version.was) in
    let lines = c.next_version.new.lines in
    let second = count_good all c.in_ok-version.version first.1 lines first.0 _ _ (told_line (line_as (siblings_reading c.in_ok-version.version) lines) c.next_siblings.new.lines 2 c.next_siblings.result c.on_line-2.result c.next_siblings.ensures c.on_line-2.ensures _ c.in_ok-siblings.was) in
    head_found all c.next_siblings.new.lines c.in_ok-version.version c.in_ok-siblings.siblings first.1 second.1 second.0 c.next_limits.result c.on_line-3.result c.next_limits.new.lines c.next_limits.ensures c.on_line-3.ensures
