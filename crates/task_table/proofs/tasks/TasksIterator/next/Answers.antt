use Rattle.std.proofs.Common.{refl, ◌≡◌, ◌-◌, ◌∙◌, ◌∷◌, ◌+◌, List, length, filter, take, drop, subst, sym, ap, arith, [], ◌≤◌}
use Rattle.std.proofs.lemmas.List.{take_rest}
use Rattle.std.proofs.lemmas.List.Quantifiers.{position-Some}
use Rattle.cs_types.specs.declared.task.Task.{Task}
use Rattle.task_table.specs.declared.entry.Entry.{Entry}
use Rattle.task_table.specs.Group.{is_in_group}
use Rattle.task_table.specs.Inside.{tasks_at, tells_group, IsWalk}
use Rattle.task_table.proofs.Held.{steps_from, steps_out, goes_on}
use Rattle.task_table.proofs.Walks.{walk_from, walked_to, walked_out}
use Rattle.task_table.proofs.tasks.TasksIterator.next.Goals as goal

part : (c : goal.After-get) → take (length c.self.inside.entries.now - (c.in_ok-position.position + 1)) (drop (c.in_ok-position.position + 1) c.self.inside.entries.now)
    ≡ drop (c.in_ok-position.position + 1) c.self.inside.entries.now
part c = take_rest c.self.inside.entries.now (c.in_ok-position.position + 1)

none : Entry
none = record { pid = 0; tgid = 0; pgid = 0; key = 0; forced = 0 }

pub invariant_of-self : goal.invariant_of-self
invariant_of-self c =
    let slots = c.self.inside.slots.now in
    let group = c.self.inside.group in
    let entries = c.self.inside.entries.now in
    let first = walked_to slots entries c.self.invariant group c.in_ok-position.position none (sym c.first_in.ensures ∙ c.in_ok-position.was) in
    subst (λ es. IsWalk slots es group c.in_ok-behind.behind) (sym (part c))
    (walk_from slots entries c.self.invariant (c.in_ok-position.position + 1) c.in_ok-behind.behind
    (omega (arith, ap length first.2, c.self.invariant.bound, c.in_ok-behind.ensures)))

pub returns-in_err-position-clause-steps : goal.returns-in_err-position-clause-steps
returns-in_err-position-clause-steps c =
    steps_out c.args.self.now c.from_residual-in_err-position.result c.from_residual-in_err-position.ensures
    (sym c.self.view_is
    ∙ walked_out c.self.inside.slots.now c.self.inside.entries.now c.self.invariant c.self.inside.group (sym c.first_in.ensures ∙ c.in_err-position.was))

pub returns-clause-steps : goal.returns-clause-steps
returns-clause-steps c =
    let slots = c.self.inside.slots.now in
    let first = walked_to slots c.self.inside.entries.now c.self.invariant c.self.inside.group c.in_ok-position.position _
    (sym c.first_in.ensures ∙ c.in_ok-position.was) in
    steps_from _ c.get.result _ first.0 (c.get.ensures ∙ first.1)
    (sym c.self.view_is ∙ first.2
    ∙ ap (λ (entries : List Entry). first.0 ∷ filter (is_in_group c.self.inside.group) (tasks_at slots entries)) (sym (part c)))

pub returns-clause-goes : goal.returns-clause-goes
returns-clause-goes c = goes_on (λ _. tt) c.args.self.now c.get.result _ (returns-clause-steps c)

-- where none is left, there is none
none_left : (tasks : List Task) → length tasks ≤ 0 → tasks ≡ []
none_left [] few = refl
none_left (task ∷ tasks) few = absurd (omega arith)

pub returns-in_err-behind-clause-steps : goal.returns-in_err-behind-clause-steps
returns-in_err-behind-clause-steps c =
    steps_out c.args.self.now c.from_residual.result c.from_residual.ensures
    (none_left c.args.self.now (omega (arith, ap length c.self.view_is, c.self.invariant.bound, c.in_err-behind.ensures)))

-- ---- where it stands

pub bounds-self-inside-position : goal.bounds-self-inside-position
bounds-self-inside-position c =
    (position-Some (tells_group c.self.inside.group) c.self.inside.entries.now c.in_ok-position.position none (sym c.first_in.ensures ∙ c.in_ok-position.was)).0

pub slice_bounds-self-count : goal.slice_bounds-self-count
slice_bounds-self-count c =
    omega (arith, (position-Some (tells_group c.self.inside.group) c.self.inside.entries.now c.in_ok-position.position none (sym c.first_in.ensures ∙ c.in_ok-position.was)).0)

pub returns-in_err-position-clause-goes : goal.returns-in_err-position-clause-goes
returns-in_err-position-clause-goes c = goes_on (λ _. tt) c.args.self.now c.from_residual-in_err-position.result _ (returns-in_err-position-clause-steps c)

pub returns-in_err-behind-clause-goes : goal.returns-in_err-behind-clause-goes
returns-in_err-behind-clause-goes c = goes_on (λ _. tt) c.args.self.now c.from_residual.result _ (returns-in_err-behind-clause-steps c)
