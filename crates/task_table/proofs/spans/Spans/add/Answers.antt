use Rattle.std.proofs.Common.{◌<◌, length, set, subst, sym, arith}
use Rattle.task_table.specs.declared.spans.Span.{Span}
use Rattle.task_table.specs.Grouping.{span_at, Joins, OthersStay}
use Rattle.task_table.proofs.Grouping.{spans_insert, read_at, written_at, others_stay}
use Rattle.task_table.proofs.spans.Spans.add.Goals as goal

pub returns : goal.returns
returns c members position spans =
    let old = c.args.self.now.all.items in
    let place = c.place_of-place.result in
    let new = set old place c.joined.result in
    let inside : place < length old = omega (arith, c.place_of-place.ensures.within, c.args.self.now.each) in
    let read = read_at old place c.index.result.now inside c.index.ensures in
    let joins : Joins c.args.pid (span_at old place) (span_at new place) =
    subst (Joins c.args.pid (span_at old place)) (sym (written_at old place c.joined.result inside))
    (subst (λ (span : Span). Joins c.args.pid span c.joined.result) (sym read) c.joined.ensures) in
    spans_insert old new members position (c.args.number, c.args.pid) spans
    (subst (λ p. Joins c.args.pid (span_at old p) (span_at new p)) c.place_of-place.ensures.place joins)
    (subst (λ p. OthersStay p old new) c.place_of-place.ensures.place (others_stay old place c.joined.result))
