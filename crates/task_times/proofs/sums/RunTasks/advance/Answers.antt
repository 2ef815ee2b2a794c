use Rattle.std.proofs.Common.{◌≡◌, ℕ, ◌<◌, ◌-◌, List, length, get_or, sym, ap, ◌∙◌, subst, arith}
use Rattle.std.proofs.lemmas.List.{with_items_is}
use Rattle.cs_types.specs.History.{fold_of}
use Rattle.task_times.specs.declared.times.TaskTimes.{TaskTimes}
use Rattle.task_times.specs.declared.times.CookieTimes.{CookieTimes}
use Rattle.task_times.specs.Living.{doing_at}
use Rattle.task_times.specs.TaskSums.{TaskSums, with_span, with_doers}
use Rattle.task_times.proofs.Summed.{rows_for, room_for_lived, room_for_had, sums_so_far-advance}
use Rattle.task_times.proofs.sums.RunTasks.advance.Goals as goal

pub add_to_each-requires-clause-rows : goal.add_to_each-requires-clause-rows
add_to_each-requires-clause-rows g c =
    rows_for _ (g.R.Room.opening c.args.room.now) (g.R.Room.history c.args.room.now) _ _ c.requires.playable c.requires.few
    (c.as_mut_slice.ensures.value ∙ ap (λ (s : TaskSums). s.tasks) (c.self.view_is ∙ c.requires.times))
    (c.as_mut_slice-2.ensures.value ∙ ap (λ (s : TaskSums). s.cookies) (c.self.view_is ∙ c.requires.times))

pub add_to_each-requires-clause-lived : goal.add_to_each-requires-clause-lived
add_to_each-requires-clause-lived g c =
    room_for_lived _ (g.R.Room.opening c.args.room.now) (g.R.Room.history c.args.room.now) _ c.args.time _ c.requires.events (omega (arith, c.requires.few, c.requires.fits)) c.requires.time
    (c.as_mut_slice.ensures.value ∙ ap (λ (s : TaskSums). s.tasks) (c.self.view_is ∙ c.requires.times)) (omega arith)

pub add_to_each-requires-clause-had : goal.add_to_each-requires-clause-had
add_to_each-requires-clause-had g c =
    room_for_had _ (g.R.Room.opening c.args.room.now) (g.R.Room.history c.args.room.now) _ c.args.time _ c.requires.playable c.requires.events (omega (arith, c.requires.few, c.requires.fits)) c.requires.time
    (c.as_mut_slice-2.ensures.value ∙ ap (λ (s : TaskSums). s.cookies) (c.self.view_is ∙ c.requires.times)) (omega arith)

pub returns : goal.returns
returns g c = λ entry is.
    let opening = g.R.Room.opening c.args.room.now in
    let history = g.R.Room.history c.args.room.now in
    let room = fold_of opening history in
    let inside = c.self.inside in
    let old : TaskSums = record { entries = length inside.cookies.items - 1; tasks = inside.tasks.items; cookies = inside.cookies.items } in
    let long : length c.add_to_each.new.tasks ≡ length inside.tasks.items = omega (arith, ap length c.as_mut_slice.ensures.value, c.add_to_each.auto.tasks) in
    let wide : length c.add_to_each.new.cookies ≡ length inside.cookies.items = omega (arith, ap length c.as_mut_slice-2.ensures.value, c.add_to_each.auto.cookies) in
    let rows = with_items_is inside.tasks c.add_to_each.new.tasks (long ∙ sym inside.tasks.ok.0) in
    let parts = with_items_is inside.cookies c.add_to_each.new.cookies (wide ∙ sym inside.cookies.ok.0) in
    (λ i. record { entries = length (parts i) - 1; tasks = rows i; cookies = parts i })
    ∙ sums_so_far-advance _ opening history c.args.time old c.add_to_each.new.tasks c.add_to_each.new.cookies entry is
    (c.self.view_is ∙ c.requires.times) long wide
    (subst
    (λ (xs : List TaskTimes). (pid : ℕ) (none : TaskTimes) → pid < length xs →
    get_or c.add_to_each.new.tasks pid none ≡ with_span (doing_at room pid) c.args.time (get_or xs pid none))
    c.as_mut_slice.ensures.value c.add_to_each.ensures.tasks)
    (subst
    (λ (xs : List CookieTimes). (cookie : ℕ) (none : CookieTimes) → cookie < length xs →
    get_or c.add_to_each.new.cookies cookie none ≡ with_doers room cookie c.args.time (get_or xs cookie none))
    c.as_mut_slice-2.ensures.value c.add_to_each.ensures.cookies)
