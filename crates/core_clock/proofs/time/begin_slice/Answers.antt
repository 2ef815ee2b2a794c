use Rattle.std.proofs.Common.{◌+◌, ◌≤◌, ◌≡◌, ◌∙◌, Some, sym, subst, refl, true, false, arith}
use Rattle.std.proofs.lemmas.Bool.{and_parts}
use Rattle.cs_types.specs.declared.task.Task.{Task}
use Rattle.cs_types.specs.Time.{has_used_slice, rotates, begin_slice}
use Rattle.cs_laws.proofs.Tasks.{found_again}
use Rattle.core_lanes.specs.Lanes.{Beside, room_of}
use Rattle.core_lanes.specs.Changes.{Changes}
use Rattle.core_lanes.proofs.Stays.{both_stay, same_stays, stamp_next, stamped_later}
use Rattle.core_lanes.proofs.Timed.{KeepsTask, knows-alike, changes_used}
use Rattle.core_clock.proofs.Changes.{changes_as}
use Rattle.core_clock.proofs.Clocks.{sliced_is, sliced_not}
use Rattle.core_clock.proofs.time.begin_slice.Goals as goal

pub change-requires : goal.change-requires
change-requires g c =
    let next = c.args.core.now.next_stamp in
    let later : next ≤ next + 1 = omega arith in
    let tasks = c.args.table.now.tasks in
    let task = c.unwrap-task.result in
    let there = found_again c.args.pid tasks task (sym c.task_of.ensures.task ∙ c.unwrap-task.ensures) in
    let keeps : KeepsTask task task = record { spec = refl; cookie = refl; home = refl; queued = refl; stamp = refl } in
    let known = knows-alike (c.args.core.now, c.args.table.now) task task c.requires.agree there keeps in
    record {
      known = record {
        apart = record {
          agree = (stamped_later c.args.core.now _ c.args.table.now refl later).agree c.requires.agree;
          old = task;
          there = there;
          fits = record { home = known.known.apart.fits.home; policy = known.known.apart.fits.policy };
        };
        cookie = refl;
      };
      stamp = λ queued. stamp_next next tasks _ refl c.requires.agree.stamped;
    }

pub returns-then-rotates-clause-changes : goal.returns-then-rotates-clause-changes
returns-then-rotates-clause-changes g c cpu task found tests =
    let next = c.args.core.now.next_stamp in
    let later : next ≤ next + 1 = omega arith in
    let both : Some c.unwrap-task.result ≡ Some task = sym c.unwrap-task.ensures ∙ c.task_of.ensures.task ∙ found in
    let same : c.unwrap-task.result ≡ task = cc in
    let one = c.unwrap-task.result in
    let turns : (beside : Beside) → c.args.rotates ≡ rotates (room_of beside (c.args.core.now, c.args.table.now)) cpu one =
    subst (λ (one : Task). (beside : Beside) → c.args.rotates ≡ rotates (room_of beside (c.args.core.now, c.args.table.now)) cpu one) (sym same) tests.peers in
    let begins : Changes (c.args.core.now, c.args.table.now) (c.change.new.self, c.change.new.table) (λ room. begin_slice room cpu one) = record {
      room = λ beside.
          let room = room_of beside (c.args.core.now, c.args.table.now) in
          let behind = sym (turns beside) ∙ c.if-rotates.true in
          let used : has_used_slice one ≡ true = (and_parts (has_used_slice one) _ behind).0 in
          c.change.ensures.changes.room beside ∙ sliced_is room cpu one true true used behind;
      numbers = c.change.ensures.changes.numbers;
      stays = both_stay (stamped_later c.args.core.now _ c.args.table.now refl later) c.change.ensures.changes.stays;
    } in
    subst (λ (one : Task). Changes (c.args.core.now, c.args.table.now) (c.change.new.self, c.change.new.table) (λ room. begin_slice room cpu one)) same begins

pub returns-then-used-clause-changes : goal.returns-then-used-clause-changes
returns-then-used-clause-changes g c cpu task found tests =
    changes_as (λ beside.
    sliced_is (room_of beside (c.args.core.now, c.args.table.now)) cpu task true false (sym tests.slice ∙ c.if-used.true) (sym (tests.peers beside) ∙ c.if-rotates.false))
    (changes_used c.args.core.now c.args.table.now c.set_used.new.self c.args.pid 0 task c.requires.agree found c.set_used.ensures.given c.set_used.ensures.sound)

pub returns-else-used-clause-changes : goal.returns-else-used-clause-changes
returns-else-used-clause-changes g c cpu task found tests = record {
  room = λ beside.
      sliced_not (room_of beside (c.args.core.now, c.args.table.now)) cpu task c.requires.agree.table.rising (found_again c.args.pid c.args.table.now.tasks task found)
      (sym tests.slice ∙ c.if-used.false) (sym (tests.peers beside) ∙ c.if-rotates.false);
  numbers = refl;
  stays = same_stays;
}
