use Rattle.std.proofs.lemmas.List.{map-set}
use Rattle.task_table.proofs.Links.{filled_at, linked_remove, count_remove}
use Rattle.task_table.proofs.Writes.{filled_within, Updates-set}
use Rattle.task_table.proofs.slots.Slots.remove.Goals as goal

pub invariant_of-self : goal.invariant_of-self
invariant_of-self c =
    let found = filled_at c.self.inside.all.items c.args.key (rw (← c.self.view_is) at c.requires) in
    linked_remove c.self.inside.all.items c.self.inside.first_empty c.args.key found.0 c.self.invariant found.1

pub returns-clause-updates : goal.returns-clause-updates
returns-clause-updates c = Updates-set _ _ c.args.key _ (filled_within c.args.self.now c.args.key c.requires) (rw (← c.self.view_is, map-set))

pub returns-clause-count : goal.returns-clause-count
returns-clause-count c =
    let found = filled_at c.self.inside.all.items c.args.key (rw (← c.self.view_is) at c.requires) in
    rw (← c.self.view_is) (count_remove c.self.inside.all.items c.self.inside.first_empty c.args.key found.0 found.1)
