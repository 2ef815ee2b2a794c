use Rattle.std.proofs.Common.{◌∙◌, Some, sym, ap, arith}
use Rattle.std.proofs.lemmas.List.{map-set, length-map}
use Rattle.task_table.specs.declared.slots.Slot.TheVariants.{Filled}
use Rattle.task_table.specs.Links.{task_of}
use Rattle.task_table.proofs.Links.{first_within, read_at_first, first_is_not_filled, linked_push, linked_fill, count_fill}
use Rattle.task_table.proofs.Writes.{Updates-set}
use Rattle.task_table.proofs.slots.Slots.fill.Goals as goal

-- each slot that was used has a task
pub invariant_of-self : goal.invariant_of-self
invariant_of-self c =
    rw (c.len-self-inside.ensures, c.push.ensures.items)
    (linked_push c.self.inside.all.items c.self.inside.first_empty c.args.task c.self.invariant (c.if-key-len.true ∙ c.len.ensures))

-- ---- one has none

pub index-requires : goal.index-requires
index-requires c = first_within c.self.inside.all.items c.self.inside.first_empty c.self.invariant (λ at_end. c.if-key-len.false (at_end ∙ sym c.len.ensures))

pub index_mut-requires : goal.index_mut-requires
index_mut-requires c = first_within c.self.inside.all.items c.self.inside.first_empty c.self.invariant (λ at_end. c.if-key-len.false (at_end ∙ sym c.len.ensures))

pub unreachable-requires : goal.unreachable-requires
unreachable-requires c =
    let slots = c.self.inside.all.items in
    let first = c.self.inside.first_empty in
    let read = read_at_first slots first _ c.self.invariant (λ at_end. c.if-key-len.false (at_end ∙ sym c.len.ensures)) c.index.ensures in
    first_is_not_filled slots first c.in_default.field-0 c.self.invariant (read ∙ ap Some c.in_default.is)

pub invariant_of-self-2 : goal.invariant_of-self-2
invariant_of-self-2 c =
    let slots = c.self.inside.all.items in
    let first = c.self.inside.first_empty in
    let read = read_at_first slots first _ c.self.invariant (λ at_end. c.if-key-len.false (at_end ∙ sym c.len.ensures)) c.index.ensures in
    linked_fill slots first c.in-Empty.next c.args.task c.self.invariant (read ∙ ap Some c.in-Empty.is)

pub returns-clause-updates : goal.returns-clause-updates
returns-clause-updates c =
    let slots = c.self.inside.all.items in
    let first = c.self.inside.first_empty in
    let within = first_within slots first c.self.invariant (λ at_end. c.if-key-len.false (at_end ∙ sym c.len.ensures)) in
    rw (← c.self.view_is) (Updates-set _ _ first _ (omega (arith, within, length-map slots task_of)) (map-set task_of slots first (Filled c.args.task)))

pub returns-clause-count : goal.returns-clause-count
returns-clause-count c =
    let slots = c.self.inside.all.items in
    let first = c.self.inside.first_empty in
    let read = read_at_first slots first _ c.self.invariant (λ at_end. c.if-key-len.false (at_end ∙ sym c.len.ensures)) c.index.ensures in
    rw (← c.self.view_is) (count_fill slots first c.in-Empty.next c.args.task (read ∙ ap Some c.in-Empty.is))
