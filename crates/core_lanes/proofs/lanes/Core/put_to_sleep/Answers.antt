use Rattle.std.proofs.Common.{◌≡◌, Some, refl, sym, subst, ap, ◌∙◌, length, map, false}
use Rattle.std.specs.Prelude.{find, option_copied}
use Rattle.cs_types.specs.declared.task.Task.{Task}
use Rattle.cs_types.specs.Room.{has_pid}
use Rattle.cs_types.specs.Queueing.{dequeue}
use Rattle.cs_laws.proofs.Spots.{replaced_by}
use Rattle.cs_laws.proofs.Tasks.{found_again}
use Rattle.task_table.specs.Table.{Table}
use Rattle.core_lanes.specs.Lanes.{IsFit, AreHeld, Knows}
use Rattle.core_lanes.specs.Changes.{Touches}
use Rattle.core_lanes.specs.Numbers.{touched}
use Rattle.core_lanes.proofs.Queues.{others-absent, others-replaced}
use Rattle.core_lanes.proofs.Replaced.{is_of, rises-replaced, changes_replaced}
use Rattle.core_lanes.proofs.Stays.{found_in, both_stay}
use Rattle.core_lanes.proofs.Timed.{timed_is}
use Rattle.core_lanes.proofs.lanes.Core.put_to_sleep.Goals as goal

pub take-requires : goal.take-requires
take-requires g c =
    let pid = c.args.pid in
    let tasks = c.args.table.now.tasks in
    let was = c.unwrap-task.result.now in
    let found : find (has_pid pid) tasks ≡ Some was = sym c.find.ensures.task ∙ ap option_copied c.unwrap-task.ensures in
    record {
      table = c.find.ensures.sound;
      there = found_again pid tasks was found;
      home = (found_in (IsFit (length c.args.self.now.lanes.items)) pid tasks was c.requires.agree.tasks found).home;
      held = c.requires.agree.held;
    }

pub returns-clause-touches : goal.returns-clause-touches
returns-clause-touches g c task is =
    let old = c.args.self.now in
    let mid = c.take.new.self in
    let before = c.args.table.now in
    let after = c.put_to_sleep.new.self in
    let pid = c.args.pid in
    let agree = c.requires.agree in
    let was = c.unwrap-task.result.now in
    let found : find (has_pid pid) before.tasks ≡ Some was = sym c.find.ensures.task ∙ ap option_copied c.unwrap-task.ensures in
    let there = found_again pid before.tasks was found in
    let both : Some was ≡ Some task = sym found ∙ is in
    let same : was ≡ task = cc in
    let asleep : Task = record was { queued = false } in
    let fit = found_in (IsFit (length old.lanes.items)) pid before.tasks was agree.tasks found in
    let knows : Knows (old, before) asleep = record {
      known = record {
        apart = record { agree = agree; old = was; there = there; fits = record { home = fit.home; policy = fit.policy } };
        cookie = refl;
      };
      stamp = λ queued. absurd cc;
    } in
    let changed : after ≡ record before { tasks = map (replaced_by asleep) before.tasks } =
    c.put_to_sleep.ensures.asleep
    ∙ (λ i. record before { tasks = timed_is (λ (t : Task). record t { queued = false }) pid before.tasks was agree.table.rising found refl i }) in
    let held : AreHeld (mid, after) = subst (λ (t : Table). AreHeld (mid, t)) (sym changed) (
    λ cpu queue at.
    subst (λ qs. g.Q.SiblingQueue.holds queue before.limit qs)
    (sym (others-replaced asleep before.tasks cpu) ∙ others-absent was.spec.pid cpu (map (replaced_by asleep) before.tasks) asleep (rises-replaced asleep before.tasks agree.table.rising) (is_of asleep was before.tasks there) refl)
    (c.take.ensures.queues.held cpu queue at)
    ) in
    let slept = changes_replaced old mid before after asleep knows c.take.ensures.queues.bare changed c.put_to_sleep.ensures.sound held in
    let touch = c.touch.ensures after in
    subst (λ (t : Task). Touches 1 (old, before) (c.touch.new.self, after) (λ room. dequeue room t)) same (record {
      room = λ beside. touch.room beside ∙ slept.room beside;
      numbers = touch.numbers ∙ ap (touched 1) slept.numbers;
      stays = both_stay slept.stays touch.stays;
    })
