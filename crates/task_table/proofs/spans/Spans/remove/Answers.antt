use Rattle.std.proofs.Common.{◌<◌, ◌-◌, length, set, subst, sym, ap, arith}
use Rattle.task_table.specs.declared.spans.Span.{Span}
use Rattle.task_table.specs.Grouping.{span_at, Leaves, OthersStay}
use Rattle.task_table.proofs.Grouping.{spans_remove, read_at, written_at, others_stay}
use Rattle.task_table.proofs.spans.Spans.remove.Goals as goal

pub returns : goal.returns
returns c members position pid has spans =
    let old = c.args.self.now.all.items in
    let place = c.place_of.result in
    let span = c.index_mut.result.now in
    let left : Span = record { count = span.count - 1; least = span.least } in
    let new = set old place left in
    let inside : place < length old = omega (arith, c.place_of.ensures.within, c.args.self.now.each) in
    let read = read_at old place span inside c.index_mut.ensures.value in
    let leaves : Leaves (span_at old place) (span_at new place) =
    subst (Leaves (span_at old place)) (sym (written_at old place left inside))
    (record {
      count = omega (arith, ap (λ (s : Span). s.count) read, c.requires.some, ap (λ p. (span_at old p).count) c.place_of.ensures.place);
      least = ap (λ (s : Span). s.least) (sym read);
    }) in
    spans_remove old new members position (c.args.number, pid) spans has
    (subst (λ p. Leaves (span_at old p) (span_at new p)) c.place_of.ensures.place leaves)
    (subst (λ p. OthersStay p old new) c.place_of.ensures.place (others_stay old place left))
