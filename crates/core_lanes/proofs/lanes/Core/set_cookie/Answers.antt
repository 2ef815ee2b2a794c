use Rattle.std.proofs.Common.{◌≡◌, ◌<◌, ℕ, refl, sym, subst, ap, ◌∙◌, map}
use Rattle.std.specs.Prelude.{length, IsTrue}
use Rattle.cs_types.specs.declared.task.Task.{Task}
use Rattle.cs_laws.proofs.Spots.{replaced_by}
use Rattle.task_table.specs.Table.{Table}
use Rattle.task_table.proofs.Tables.{changed_each}
use Rattle.core_lanes.specs.Lanes.{IsFit, FitsIn, AreHeld}
use Rattle.core_lanes.proofs.Replaced.{replaced-itself, agree-replaced}
use Rattle.core_lanes.proofs.Stays.{found_in}
use Rattle.core_lanes.proofs.lanes.Core.set_cookie.Goals as goal

pub returns-then-task-cookie-clause-replaces : goal.returns-then-task-cookie-clause-replaces
returns-then-task-cookie-clause-replaces g c =
    let task = c.args.task.now in
    let before = c.args.table.now in
    let with_it : ℕ → Table = λ cookie. record before { tasks = map (replaced_by (record task { cookie = cookie })) before.tasks } in
    record {
      table = (λ i. record before { tasks = sym (replaced-itself task before.tasks c.requires.agree.table.rising c.requires.there) i }) ∙ ap with_it c.if-task-cookie.true;
      bare = refl;
      agree = c.requires.agree;
    }

pub set_cookie_in_queue-requires : goal.set_cookie_in_queue-requires
set_cookie_in_queue-requires g c =
    let agree = c.requires.agree in
    record {
      table = agree.table;
      there = c.requires.there;
      home = (found_in (IsFit (length c.args.self.now.lanes.items)) c.args.task.now.spec.pid c.args.table.now.tasks c.args.task.now agree.tasks c.requires.there).home;
      held = agree.held;
    }

pub returns-clause-replaces : goal.returns-clause-replaces
returns-clause-replaces g c =
    let task = c.args.task.now in
    let now : Task = record task { cookie = c.args.cookie } in
    let old = c.args.self.now in
    let before = c.args.table.now in
    let agree = c.requires.agree in
    let there = c.requires.there in
    let fit = found_in (IsFit (length old.lanes.items)) task.spec.pid before.tasks task agree.tasks there in
    let fits : FitsIn (old, before) now = record {
      apart = record { agree = agree; old = task; there = there; fits = record { home = fit.home; policy = fit.policy } };
      stamp = λ queued. record {
        below = found_in (λ (t : Task). IsTrue t.queued → t.stamp < old.next_stamp) task.spec.pid before.tasks task agree.stamped.below there queued;
        own = agree.stamped.distinct task there queued;
      };
    } in
    let new = c.set_cookie_in_queue.new.self in
    let same = c.set_cookie_in_queue.ensures.queues.bare in
    let after : Table = record before { tasks = map (replaced_by now) before.tasks } in
    let changed : c.give_cookie.new.self ≡ after =
    c.give_cookie.ensures.given
    ∙ (λ i. record before { tasks = sym (changed_each (λ t. record t { cookie = c.args.cookie }) before.tasks task agree.table.rising there) i }) in
    let held = subst (λ (t : Table). AreHeld (new, t)) (sym changed) c.set_cookie_in_queue.ensures.queues.held in
    record { table = changed; bare = same; agree = agree-replaced old new before c.give_cookie.new.self now fits same changed c.give_cookie.ensures.sound held }
