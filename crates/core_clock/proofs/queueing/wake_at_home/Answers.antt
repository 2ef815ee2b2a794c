use Rattle.std.proofs.Common.{ap, ◌∙◌, ◌<◌, ℕ, refl, sym, subst, length}
use Rattle.std.specs.Prelude.{find, Some, ◌≡◌}
use Rattle.cs_types.specs.declared.task.Task.{Task}
use Rattle.cs_types.specs.Scenario.{IsPolicy}
use Rattle.cs_types.specs.Room.{RoomState, flag, has_pid}
use Rattle.cs_types.specs.declared.task.Policy.{Policy}
use Rattle.cs_types.specs.declared.task.Policy.TheVariants.{Stop}
use Rattle.cs_types.specs.Queueing.{enqueue, preempts, refreshed, refreshed_by}
use Rattle.core_lanes.specs.Lanes.{at, room_of}
use Rattle.core_lanes.proofs.Stays.{both_stay, some_beside}
use Rattle.core_lanes.specs.declared.queue.SiblingQueue.{Ghosts}
use Rattle.core_lanes.specs.declared.lanes.Core.{Core}
use Rattle.task_table.specs.Table.{Table}
use Rattle.core_clock.proofs.Changes.{still_below}
use Rattle.core_clock.proofs.queueing.wake_at_home.Goals as goal

-- a task that is refreshed is the same but for its times
refreshed_keeps : (room : RoomState) (policy : Policy) (task : Task) → let fresh = refreshed_by room policy task in fresh ≡ record task { vtime = fresh.vtime; deadline = fresh.deadline }
refreshed_keeps room Stop task = refl
refreshed_keeps room policy task = refl

abbrev Keeps : Task → Task → Type 0
Keeps old new = new ≡ record old { vtime = new.vtime; deadline = new.deadline }

keeps : {Q : Type 0} {g : Ghosts Q} (both : Core Q g × Table) (now : ℕ) (task fresh : Task) → fresh ≡ refreshed (room_of (at now some_beside) both) task → Keeps task fresh
keeps both now task fresh is =
    subst (Keeps task) (sym is) (refreshed_keeps (room_of (at now some_beside) both) task.spec.policy task)

pub flag-requires : goal.flag-requires
flag-requires g c = still_below c.wake.ensures.touches.stays c.requires.may.knows.apart.fits.home

pub preempts-preempts-requires : goal.preempts-preempts-requires
preempts-preempts-requires g c = subst (λ (t : Task). t.home < length c.args.core.now.lanes.items) (sym (keeps (c.args.core.now, c.args.table.now) c.args.now c.args.task c.refresh.new.task (c.refresh.ensures some_beside c.args.table.now))) c.requires.may.knows.apart.fits.home

pub wake-requires : goal.wake-requires
wake-requires g c =
    let apart = c.requires.may.knows.apart in
    let task = c.args.task in
    let fresh = c.refresh.new.task in
    let is = keeps (c.args.core.now, c.args.table.now) c.args.now task fresh (c.refresh.ensures some_beside c.args.table.now) in
    record {
      may = record {
        knows = record {
          apart = record {
            agree = apart.agree;
            old = apart.old;
            there = subst (λ (t : Task). find (has_pid t.spec.pid) c.args.table.now.tasks ≡ Some apart.old) (sym is) apart.there;
            fits = record {
              home = subst (λ (t : Task). t.home < length c.args.core.now.lanes.items) (sym is) apart.fits.home;
              policy = subst (λ (t : Task). IsPolicy t.spec.policy) (sym is) apart.fits.policy;
            };
          };
          cookie = ap (λ (t : Task). t.cookie) is ∙ c.requires.may.knows.cookie;
        };
        stamp = c.requires.may.stamp;
        touches = c.requires.may.touches;
      };
      asleep = c.requires.asleep;
      is = is
          ∙ ap (λ (t : Task). let then : Task = record t { vtime = fresh.vtime; deadline = fresh.deadline } in then) c.requires.is
          ∙ (λ i. record apart.old { home = (sym is i).home; queued = (sym is i).queued; vtime = fresh.vtime; deadline = fresh.deadline });
    }

pub returns-clause-touches : goal.returns-clause-touches
returns-clause-touches g c =
    let raised = c.flag.ensures c.wake.new.table in
    record {
      room = λ beside.
          let room = room_of (at c.args.now beside) (c.args.core.now, c.args.table.now) in
          raised.room (at c.args.now beside)
          ∙ ap (λ (now : RoomState). flag now c.args.task.home c.preempts-preempts.result) (c.wake.ensures.touches.room (at c.args.now beside))
          ∙ ap (flag (enqueue room c.refresh.new.task) c.args.task.home) (c.preempts-preempts.ensures (at c.args.now beside))
          ∙ ap (λ (fresh : Task). flag (enqueue room fresh) c.args.task.home (preempts room fresh)) (c.refresh.ensures beside c.args.table.now);
      numbers = raised.numbers ∙ c.wake.ensures.touches.numbers;
      stays = both_stay c.wake.ensures.touches.stays raised.stays;
    }
