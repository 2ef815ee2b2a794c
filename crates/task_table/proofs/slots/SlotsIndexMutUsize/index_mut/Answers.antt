use Rattle.std.proofs.Common.{None, refl, sym, ap, ◌∙◌}
use Rattle.std.proofs.lemmas.List.{map-set, get_or-map}
use Rattle.std.proofs.lemmas.Option.{slice_get_within}
use Rattle.task_table.specs.Links.{task_of}
use Rattle.task_table.proofs.Links.{filled_at, linked_write}
use Rattle.task_table.proofs.slots.SlotsIndexMutUsize.index_mut.Goals as goal

pub invariant_of-self-lent : goal.invariant_of-self-lent
invariant_of-self-lent c task =
    let found = filled_at c.self.inside.all.items c.args.key (rw (← c.self.view_is) at c.requires) in
    linked_write c.self.inside.all.items c.self.inside.first_empty c.args.key found.0 task c.self.invariant found.1

pub returns : goal.returns
returns c =
    let found = filled_at c.self.inside.all.items c.args.key (rw (← c.self.view_is) at c.requires) in
    let within = slice_get_within c.self.inside.all.items c.args.key _ found.1 in
    let value = get_or-map task_of c.self.inside.all.items c.args.key c.index_mut.result.now None within in (
      (refl, λ task. rw (← c.self.view_is, map-set)),
      record { writes_back = tt; value = rw (← c.self.view_is) (value ∙ ap task_of (sym c.index_mut.ensures.value) ∙ c.task_mut.ensures.value) },
    )
