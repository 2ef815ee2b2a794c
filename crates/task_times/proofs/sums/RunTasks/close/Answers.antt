use Rattle.std.proofs.Common.{◌≡◌, ◌-◌, length, sym, ap, ◌∙◌, arith}
use Rattle.std.proofs.lemmas.List.{with_items_is}
use Rattle.cs_types.specs.History.{fold_of}
use Rattle.task_times.specs.TaskSums.{TaskSums}
use Rattle.task_times.proofs.Charged.{living_rows, ended_rows, ended_few, tasks_long, each_row, rows_charged}
use Rattle.task_times.proofs.Counted.{rows_below, uncharged, cookies_wide, each_part, sums_charged, charged_at}
use Rattle.task_times.proofs.Always.{lived_at, clock_at, had_at}
use Rattle.task_times.proofs.Ended.{ended_at_end}
use Rattle.task_times.proofs.sums.RunTasks.close.Goals as goal

pub charge_each-requires-clause-rows : goal.charge_each-requires-clause-rows
charge_each-requires-clause-rows g c =
    living_rows _ (g.R.Room.opening c.args.room.now) (g.R.Room.history c.args.room.now) _ _ c.requires.playable c.requires.few
    (tasks_long _ (g.R.Room.opening c.args.room.now) (g.R.Room.history c.args.room.now) _
    (c.as_mut_slice.ensures.value ∙ ap (λ (s : TaskSums). s.tasks) (c.self.view_is ∙ c.requires.times)))
    (omega (arith, c.requires.fits))

pub charge_each-requires-clause-ended : goal.charge_each-requires-clause-ended
charge_each-requires-clause-ended g c =
    ended_rows _ (g.R.Room.opening c.args.room.now) (g.R.Room.history c.args.room.now) _ c.requires.playable c.requires.few
    (tasks_long _ (g.R.Room.opening c.args.room.now) (g.R.Room.history c.args.room.now) _
    (c.as_mut_slice.ensures.value ∙ ap (λ (s : TaskSums). s.tasks) (c.self.view_is ∙ c.requires.times)))

pub charge_each-requires-clause-few : goal.charge_each-requires-clause-few
charge_each-requires-clause-few g c =
    ended_few _ (g.R.Room.opening c.args.room.now) (g.R.Room.history c.args.room.now) c.requires.playable c.requires.few c.requires.fits

pub charge_cookies-requires-clause-rows : goal.charge_cookies-requires-clause-rows
charge_cookies-requires-clause-rows g c =
    let opening = g.R.Room.opening c.args.room.now in
    let history = g.R.Room.history c.args.room.now in
    let inside = c.self.inside in
    let was = c.self.view_is ∙ c.requires.times in
    let long : length c.charge_each.new.tasks ≡ length inside.tasks.items = omega (arith, ap length c.as_mut_slice.ensures.value, c.charge_each.auto.tasks) in
    rows_below _ opening history _ _ c.requires.playable c.requires.few
    (c.as_slice.ensures.value ∙ with_items_is inside.tasks c.charge_each.new.tasks (long ∙ sym inside.tasks.ok.0)
    ∙ rows_charged _ opening history inside.tasks.items c.charge_each.new.tasks (ap (λ (s : TaskSums). s.tasks) was) long
    (each_row (fold_of opening history) _ _ c.charge_each.new.tasks c.as_mut_slice.ensures.value c.charge_each.ensures))
    (cookies_wide _ opening history _ (c.as_mut_slice-2.ensures.value ∙ ap (λ (s : TaskSums). s.cookies) was))

pub charge_cookies-requires-clause-fits : goal.charge_cookies-requires-clause-fits
charge_cookies-requires-clause-fits g c = λ k d under.
    let opening = g.R.Room.opening c.args.room.now in
    let history = g.R.Room.history c.args.room.now in
    let was = c.self.view_is ∙ c.requires.times in
    omega (
      arith,
      uncharged _ opening history _ (c.as_mut_slice-2.ensures.value ∙ ap (λ (s : TaskSums). s.cookies) was) k d under,
      c.as_slice.type_inv.0,
    )

pub returns-clause-times : goal.returns-clause-times
returns-clause-times g c =
    let opening = g.R.Room.opening c.args.room.now in
    let history = g.R.Room.history c.args.room.now in
    let inside = c.self.inside in
    let old : TaskSums = record { entries = length inside.cookies.items - 1; tasks = inside.tasks.items; cookies = inside.cookies.items } in
    let was = c.self.view_is ∙ c.requires.times in
    let long : length c.charge_each.new.tasks ≡ length inside.tasks.items = omega (arith, ap length c.as_mut_slice.ensures.value, c.charge_each.auto.tasks) in
    let wide : length c.charge_cookies.new.cookies ≡ length inside.cookies.items = omega (arith, ap length c.as_mut_slice-2.ensures.value, c.charge_cookies.auto.cookies) in
    let rows = with_items_is inside.tasks c.charge_each.new.tasks (long ∙ sym inside.tasks.ok.0) in
    let parts = with_items_is inside.cookies c.charge_cookies.new.cookies (wide ∙ sym inside.cookies.ok.0) in
    (λ i. record { entries = length (parts i) - 1; tasks = rows i; cookies = parts i })
    ∙ sums_charged _ opening history old c.charge_each.new.tasks c.charge_cookies.new.cookies was
    (rows_charged _ opening history old.tasks c.charge_each.new.tasks (ap (λ (s : TaskSums). s.tasks) was) long
    (each_row (fold_of opening history) _ _ c.charge_each.new.tasks c.as_mut_slice.ensures.value c.charge_each.ensures)) wide
    (each_part _ _ _ _ c.charge_cookies.new.cookies (c.as_slice.ensures.value ∙ rows) c.as_mut_slice-2.ensures.value c.charge_cookies.ensures)

pub returns-clause-adds_up : goal.returns-clause-adds_up
returns-clause-adds_up g c = lived_at _ (g.R.Room.opening c.args.room.now) (g.R.Room.history c.args.room.now) _ (returns-clause-times g c)

pub returns-clause-clock : goal.returns-clause-clock
returns-clause-clock g c = clock_at _ (g.R.Room.opening c.args.room.now) (g.R.Room.history c.args.room.now) _ c.requires.playable (returns-clause-times g c)

pub returns-clause-shared : goal.returns-clause-shared
returns-clause-shared g c = had_at _ (g.R.Room.opening c.args.room.now) (g.R.Room.history c.args.room.now) _ (returns-clause-times g c)

pub returns-clause-ended : goal.returns-clause-ended
returns-clause-ended g c =
    ended_at_end _ (g.R.Room.opening c.args.room.now) (g.R.Room.history c.args.room.now) _ c.requires.playable c.requires.few (returns-clause-times g c)

pub returns-clause-charged : goal.returns-clause-charged
returns-clause-charged g c =
    charged_at _ (g.R.Room.opening c.args.room.now) (g.R.Room.history c.args.room.now) _ c.requires.playable c.requires.few (returns-clause-times g c)
