use Rattle.std.proofs.Common.{◌≡◌, ◌<◌, ◌≤◌, ◌+◌, ◌*◌, arith, refl, sym, subst, ap, ◌∙◌, length}
use Rattle.std.specs.Prelude.{option_copied}
use Rattle.std.proofs.lemmas.Bool.{eqb-true}
use Rattle.cs_types.specs.Room.{has_pid}
use Rattle.cs_types.proofs.Foremost.{find_passes}
use Rattle.cs_laws.proofs.Tasks.{found_again}
use Rattle.task_table.specs.Table.{Table}
use Rattle.core_lanes.specs.Queued.{HasOwnStamp}
use Rattle.core_lanes.specs.Lanes.{IsFit, AreHeld, AreHeldBut}
use Rattle.core_lanes.proofs.Alike.{queued_at-alike}
use Rattle.core_lanes.proofs.Queues.{others-replaced}
use Rattle.core_lanes.proofs.Replaced.{is_of, own_stamp, changes_replaced}
use Rattle.core_lanes.proofs.Stays.{found_in, as_many_bare}
use Rattle.cs_laws.proofs.Spots.{replaced_by}
use Rattle.std.proofs.lemmas.List.{length-map}
use Rattle.core_lanes.proofs.lanes.Core.change.Goals as goal

pub returns-then-is_alike-clause-changes : goal.returns-then-is_alike-clause-changes
returns-then-is_alike-clause-changes g c =
    let task = c.args.task in
    let before = c.args.table.now in
    let agree = c.requires.known.apart.agree in
    let changed = c.change.ensures.changed in
    let there = sym c.find.ensures.task ∙ ap option_copied c.unwrap-old.ensures in
    let alike = sym c.is_alike.ensures ∙ c.if-is_alike.true in
    let held : AreHeld (c.args.self.now, c.change.new.self) =
    subst (λ (t : Table). AreHeld (c.args.self.now, t)) (sym changed) (
    λ cpu queue at.
    subst (λ qs. g.Q.SiblingQueue.holds queue before.limit qs) (sym (queued_at-alike task c.unwrap-old.result.now before.tasks cpu agree.table.rising there alike))
    (agree.held cpu queue at)
    ) in
    let core = c.args.self.now in
    changes_replaced core core before c.change.new.self task c.requires refl changed c.change.ensures.sound held

pub take-requires : goal.take-requires
take-requires g c =
    let tasks = c.args.table.now.tasks in
    let found = sym c.find.ensures.task ∙ ap option_copied c.unwrap-old.ensures in
    record {
      table = c.requires.known.apart.agree.table;
      there = found_again c.args.task.spec.pid tasks c.unwrap-old.result.now found;
      home = (found_in (IsFit (length c.args.self.now.lanes.items)) c.args.task.spec.pid tasks c.unwrap-old.result.now c.requires.known.apart.agree.tasks found).home;
      held = c.requires.known.apart.agree.held;
    }

pub put-requires-clause-home : goal.put-requires-clause-home
put-requires-clause-home g c =
    let apart = c.requires.known.apart in
    let task = c.args.task in
    let before = c.args.table.now in
    let pid : c.unwrap-old.result.now.spec.pid ≡ task.spec.pid =
    eqb-true _ task.spec.pid (find_passes (has_pid task.spec.pid) before.tasks c.unwrap-old.result.now (sym c.find.ensures.task ∙ ap option_copied c.unwrap-old.ensures)) in
    let held = subst (λ n. AreHeldBut n (c.take.new.self, before)) pid c.take.ensures.queues.held in
    record {
      table = c.change-2.ensures.sound;
      there = rw c.change-2.ensures.changed (is_of c.args.task apart.old c.args.table.now.tasks apart.there);
      home = subst (λ n. c.args.task.home < n) (sym (as_many_bare c.args.self.now c.take.new.self c.take.ensures.queues.bare)) apart.fits.home;
      held = subst (λ (table : Table). AreHeldBut task.spec.pid (c.take.new.self, table)) (sym c.change-2.ensures.changed)
          (λ cpu queue at. subst (λ qs. g.Q.SiblingQueue.holds queue before.limit qs) (sym (others-replaced task before.tasks cpu)) (held cpu queue at));
    }

pub put-requires-clause-stamp : goal.put-requires-clause-stamp
put-requires-clause-stamp g c queued =
    let apart = c.requires.known.apart in
    subst (λ (table : Table). HasOwnStamp table.tasks c.args.task) (sym c.change-2.ensures.changed)
    (own_stamp c.args.task apart.old c.args.table.now.tasks apart.there (c.requires.stamp queued).own)

pub returns-clause-changes : goal.returns-clause-changes
returns-clause-changes g c =
    let core = c.args.self.now in
    let before = c.args.table.now in
    changes_replaced core c.put.new.self before c.change-2.new.self c.args.task c.requires (c.put.ensures.queues.bare ∙ c.take.ensures.queues.bare) c.change-2.ensures.changed
    c.change-2.ensures.sound c.put.ensures.queues.held

pub returns-clause-counted : goal.returns-clause-counted
returns-clause-counted g c =
    let many = ap (λ (t : Table). length t.tasks) c.change-2.ensures.changed ∙ length-map c.args.table.now.tasks (replaced_by c.args.task) in
    let put = subst (λ n. c.put.new.comparisons ≤ c.take.new.comparisons + 1 * g.Q.SiblingQueue.most_compared n) many c.put.ensures.counted in
    omega (arith, c.take.ensures.counted, put)
