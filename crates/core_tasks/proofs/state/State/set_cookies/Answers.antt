use Rattle.std.proofs.Common.{◌∙◌, ◌≡◌, ◌≤◌, ℕ, List, Some, length, sym, ap, ◌∷◌, [], arith}
use Rattle.std.specs.Prelude.{find}
use Rattle.std.proofs.Math.Nat.{le-add_right, mul-le-mul_right}
use Rattle.cs_types.specs.declared.task.Task.{Task}
use Rattle.cs_types.specs.Room.{has_pid}
use Rattle.task_table.proofs.Tables.{found_alone, found_none}
use Rattle.prctl_core.specs.Plan.{named}
use Rattle.core_tasks.proofs.Settings.{sets_none, sets_alike, named_threads, named_process}
use Rattle.core_tasks.proofs.state.State.set_cookies.Goals as goal

pub returns-in-Nobody-clause-sets : goal.returns-in-Nobody-clause-sets
returns-in-Nobody-clause-sets g c =
    sets_alike c.args.self.now c.args.self.now [] _ c.args.cookie (ap (λ to. named to c.args.self.now.tasks.tasks) (sym c.in-Nobody.is)) (sets_none c.args.self.now c.args.cookie)

pub returns-in-Some-clause-sets : goal.returns-in-Some-clause-sets
returns-in-Some-clause-sets g c =
    let tasks = c.args.self.now.tasks.tasks in
    sets_alike c.args.self.now c.set_cookie.new.self (c.in-Some.task ∷ []) _ c.args.cookie
    (sym (ap (λ to. named to tasks) c.in-One.is ∙ found_alone 0 c.in-One.pid tasks c.in-Some.task c.requires.sound.agree.table.rising (sym c.in-Some.ensures.task)))
    c.set_cookie.ensures.sets

pub returns-in_default-clause-sets : goal.returns-in_default-clause-sets
returns-in_default-clause-sets g c =
    let tasks = c.args.self.now.tasks.tasks in
    sets_alike c.args.self.now c.args.self.now [] _ c.args.cookie
    (sym (ap (λ to. named to tasks) c.in-One.is ∙ found_none c.in-One.pid tasks (sym c.in_default.ensures.task)))
    (sets_none c.args.self.now c.args.cookie)

pub returns-in-Threads-clause-sets : goal.returns-in-Threads-clause-sets
returns-in-Threads-clause-sets g c =
    let tasks = c.args.self.now.tasks.tasks in
    sets_alike c.args.self.now c.set_group.new.self _ _ c.args.cookie
    (named_threads _ c.in-Threads.tgid tasks c.requires.sound.pids ∙ ap (λ to. named to tasks) (sym c.in-Threads.is)) c.set_group.ensures.sets

pub returns-in-Process-clause-sets : goal.returns-in-Process-clause-sets
returns-in-Process-clause-sets g c =
    let tasks = c.args.self.now.tasks.tasks in
    sets_alike c.args.self.now c.set_group-in-Process.new.self _ _ c.args.cookie
    (named_process _ c.in-Process.pgid tasks c.requires.sound.pids ∙ ap (λ to. named to tasks) (sym c.in-Process.is)) c.set_group-in-Process.ensures.sets

pub set_group-requires : goal.set_group-requires
set_group-requires g c = c.requires

pub set_group-requires-in-Process : goal.set_group-requires-in-Process
set_group-requires-in-Process g c = c.requires

pub returns-in-Threads-clause-counted : goal.returns-in-Threads-clause-counted
returns-in-Threads-clause-counted g c = c.set_group.ensures.counted

pub returns-in-Process-clause-counted : goal.returns-in-Process-clause-counted
returns-in-Process-clause-counted g c = c.set_group-in-Process.ensures.counted

pub set_cookie-requires : goal.set_cookie-requires
set_cookie-requires g c = record {
  may = record { sound = c.requires.sound; own = c.requires.own; touches = omega (arith, c.requires.touches) };
  there = c.in-Some.ensures.there;
}

-- where a task was found, one lives
one_lives : (pid : ℕ) (tasks : List Task) (task : Task) → find (has_pid pid) tasks ≡ Some task → 1 ≤ length tasks
one_lives pid [] task is = absurd cc
one_lives pid (first ∷ rest) task is = omega arith

pub returns-in-Some-clause-counted : goal.returns-in-Some-clause-counted
returns-in-Some-clause-counted g c =
    let tasks = c.args.self.now.tasks.tasks in
    omega (
      arith,
      c.set_cookie.ensures.counted,
      mul-le-mul_right (g.Q.SiblingQueue.most_compared (length tasks)) (one_lives c.in-One.pid tasks c.in-Some.task (sym c.in-Some.ensures.task)),
    )

pub returns-in-Nobody-clause-counted : goal.returns-in-Nobody-clause-counted
returns-in-Nobody-clause-counted g c = le-add_right c.args.comparisons.now _

pub returns-in_default-clause-counted : goal.returns-in_default-clause-counted
returns-in_default-clause-counted g c = le-add_right c.args.comparisons.now _
