use Rattle.std.proofs.Common.{◌≡◌, ◌+◌, ap, ◌∙◌, refl, sym, subst, length, arith}
use Rattle.std.specs.Prelude.{All, Some, find, unwrap_or}
use Rattle.std.specs.Option.{IsSome}
use Rattle.std.proofs.lemmas.List.Elements.{All-weaker}
use Rattle.cs_types.specs.declared.task.Task.{Task}
use Rattle.cs_types.specs.Room.{has_pid, inserted}
use Rattle.cs_types.specs.Step.{child_of, with_child}
use Rattle.cs_types.proofs.Inserted.{All-inserted, found-inserted}
use Rattle.task_table.specs.Table.{Table, total_among}
use Rattle.core_lanes.specs.Queued.{IsOf}
use Rattle.core_lanes.specs.Lanes.{bare, room_by, IsFit}
use Rattle.core_lanes.proofs.Stays.{found_in}
use Rattle.core_tasks.specs.State.{beside_of, room_with, state_numbers, IsGiven, IsGone}
use Rattle.core_tasks.proofs.Lives.{next_is_unused, agree-inserted, gone-inserted, caller_of}
use Rattle.core_tasks.proofs.state.State.make_child.Goals as goal

pub fork-requires-clause-unused : goal.fork-requires-clause-unused
fork-requires-clause-unused g c =
    let old = c.args.self.now in
    next_is_unused old.next_pid old.tasks.tasks c.requires.sound.pids

pub unwrap-requires : goal.unwrap-requires
unwrap-requires g c =
    let old = c.args.self.now in
    let by = caller_of old.tasks (find (has_pid c.args.caller) old.tasks.tasks) (sym c.fork.ensures.answer ∙ c.in_ok-fork.was) in
    let child = child_of by.0 c.args.thread old.next_pid in
    let inserted = c.in_ok-fork.ensures.child by.0 by.1 in
    subst IsSome (sym (c.task_of.ensures.task ∙ ap (λ (table : Table). find (has_pid old.next_pid) table.tasks) inserted ∙ found-inserted child old.tasks.tasks)) refl

pub returns : goal.returns
returns g c =
    let old = c.args.self.now in
    let next = old.next_pid in
    let tasks = old.tasks.tasks in
    let by = caller_of old.tasks (find (has_pid c.args.caller) tasks) (sym c.fork.ensures.answer ∙ c.in_ok-fork.was) in
    let child = child_of by.0 c.args.thread next in
    let more : Table = record old.tasks { tasks = inserted child tasks; totals = c.fork.new.table.totals } in
    let made : c.fork.new.table ≡ more = c.in_ok-fork.ensures.child by.0 by.1 in
    let there : find (has_pid next) c.fork.new.table.tasks ≡ Some child =
    ap (λ (table : Table). find (has_pid next) table.tasks) made ∙ found-inserted child tasks in
    let is : c.unwrap.result ≡ child = ap (λ one. unwrap_or one c.unwrap.result) (sym c.unwrap.ensures ∙ c.task_of.ensures.task ∙ there) in (
      by.0,
      by.1,
      record {
        allowed = by.2;
        is = is;
        there = subst (λ (task : Task). IsOf c.fork.new.table.tasks task) (sym is) there;
        room = λ intervals.
            (λ i. room_by (record (beside_of intervals old) { cookie_limit = c.fork.ensures.limit i; next_pid = next + 1; next_cookie = c.fork.ensures.next i }) (bare old.core) (made i))
            ∙ ap (with_child (room_with intervals old)) (sym is);
        numbers = λ i. record (state_numbers old) { totals = λ pid. c.fork.ensures.totals pid i + total_among old.ended.items pid };
        stays = record {
          sound = λ sound.
              let count = length old.core.lanes.items in
              let fit = found_in (IsFit count) c.args.caller tasks by.0 sound.agree.tasks by.1 in
              let given = found_in (λ (task : Task). IsGiven next task.spec.pid) c.args.caller tasks by.0 sound.pids by.1 in
              record {
                agree = agree-inserted old.core old.tasks c.fork.new.table child made (next_is_unused next tasks sound.pids) refl
                    (record { home = fit.home; policy = fit.policy }) c.fork.ensures.sound sound.agree;
                limit = ap (λ (table : Table). table.limit) made ∙ sound.limit;
                user_top = sound.user_top;
                pids = subst (λ (t : Table). All (λ (task : Task). IsGiven (next + 1) task.spec.pid) t.tasks) (sym made)
                    (All-inserted (λ (task : Task). IsGiven (next + 1) task.spec.pid) child tasks (omega (arith, given.0, given.1), omega arith)
                    (All-weaker (λ (task : Task). IsGiven next task.spec.pid) (λ (task : Task). IsGiven (next + 1) task.spec.pid) (λ task is. (is.0, omega (arith, is.1))) tasks sound.pids));
                ended = subst (λ (t : Table). All (IsGone (next + 1) t.tasks old.ended.items) old.ended.items) (sym made) (gone-inserted next tasks child old.ended.items refl sound.ended);
                refs = c.fork.ensures.agree;
              };
          siblings = refl;
          ends = refl;
        };
      },
    )

pub fork-requires-clause-limit : goal.fork-requires-clause-limit
fork-requires-clause-limit g c = c.requires.sound.limit

pub fork-requires-clause-agree : goal.fork-requires-clause-agree
fork-requires-clause-agree g c = c.requires.sound.refs
