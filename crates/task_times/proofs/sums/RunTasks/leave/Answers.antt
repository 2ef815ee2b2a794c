use Rattle.std.proofs.Common.{◌-◌, length, set, ap, ◌∙◌, arith}
use Rattle.std.proofs.lemmas.List.{get_or_default}
use Rattle.cs_types.specs.History.{moment_of, fold_of}
use Rattle.task_times.specs.TaskSums.{TaskSums, counted_for}
use Rattle.task_times.proofs.Leaving.{leaving_of, none_leaving, none_leaving_there}
use Rattle.task_times.proofs.Summed.{leaver_row, leaver_cookie-le, sums_so_far-leave, sums_so_far-stay}
use Rattle.task_times.proofs.sums.RunTasks.leave.Goals as goal

pub index_mut-requires : goal.index_mut-requires
index_mut-requires g c =
    let opening = g.R.Room.opening c.args.room.now in
    let history = g.R.Room.history c.args.room.now in
    let leaving = leaving_of (moment_of opening history) c.args.cpu c.in-Some-cpu.view c.in-Some.cookie c.in-Some-cpu.ensures.view c.in-Some.ensures in
    let low = leaver_row _ opening history c.args.cpu _ _ c.self.inside.tasks.items c.requires.playable c.requires.few leaving (ap (λ (s : TaskSums). s.tasks) (c.self.view_is ∙ c.requires.times)) in
    omega (arith, low, c.self.inside.tasks.ok.0)

pub count_for-requires : goal.count_for-requires
count_for-requires g c =
    let opening = g.R.Room.opening c.args.room.now in
    let history = g.R.Room.history c.args.room.now in
    let leaving = leaving_of (moment_of opening history) c.args.cpu c.in-Some-cpu.view c.in-Some.cookie c.in-Some-cpu.ensures.view c.in-Some.ensures in
    omega (arith, leaver_cookie-le _ opening history c.args.cpu _ _ c.requires.playable c.requires.few leaving, c.requires.fits)

pub returns-in-Some-cpu : goal.returns-in-Some-cpu
returns-in-Some-cpu g c = λ entry is.
    let opening = g.R.Room.opening c.args.room.now in
    let history = g.R.Room.history c.args.room.now in
    let inside = c.self.inside in
    let old : TaskSums = record { entries = length inside.cookies.items - 1; tasks = inside.tasks.items; cookies = inside.cookies.items } in
    let leaving = leaving_of (moment_of opening history) c.args.cpu c.in-Some-cpu.view c.in-Some.cookie c.in-Some-cpu.ensures.view c.in-Some.ensures in
    let run = c.in-Some-cpu.view.run in
    let low = leaver_row _ opening history c.args.cpu _ _ old.tasks c.requires.playable c.requires.few leaving (ap (λ (s : TaskSums). s.tasks) (c.self.view_is ∙ c.requires.times)) in
    sums_so_far-leave _ opening history c.args.cpu _ _ old _ entry leaving is (c.self.view_is ∙ c.requires.times) low
    (λ none. ap (set old.tasks run) (c.count_for.ensures ∙ ap (counted_for c.in-Some.cookie) (c.index_mut.ensures.value ∙ get_or_default old.tasks run _ none low)))

pub returns-in_default : goal.returns-in_default
returns-in_default g c = λ entry is.
    let opening = g.R.Room.opening c.args.room.now in
    let history = g.R.Room.history c.args.room.now in
    c.requires.times ∙ sums_so_far-stay _ opening history c.args.cpu entry (none_leaving (fold_of opening history) c.args.cpu c.in_default.ensures) is

pub returns-in_default-cpu : goal.returns-in_default-cpu
returns-in_default-cpu g c = λ entry is.
    let opening = g.R.Room.opening c.args.room.now in
    let history = g.R.Room.history c.args.room.now in
    c.requires.times ∙ sums_so_far-stay _ opening history c.args.cpu entry (none_leaving_there (moment_of opening history) c.args.cpu c.in_default-cpu.ensures.view) is
