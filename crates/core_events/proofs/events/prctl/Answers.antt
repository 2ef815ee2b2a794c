use Rattle.std.proofs.Common.{length, sym, arith}
use Rattle.cs_types.specs.declared.event.Event.TheVariants.{Prctl}
use Rattle.core_tasks.specs.State.{beside_of}
use Rattle.core_events.proofs.Compared.{for_event}
use Rattle.core_events.proofs.events.prctl.Goals as goal

pub prctl-requires : goal.prctl-requires
prctl-requires g c =
    let state = c.args.state.now in
    let ready = c.requires.ready in
    record {
      sound = ready.sound;
      own = ready.own;
      siblings = λ intervals. sym (c.is_smt_off-smt_off.ensures (beside_of intervals state) state.tasks);
      touches = ready.spares.touches;
      serial = ready.spares.serial;
      asked = ready.spares.asked;
    }

pub returns-clause-counted : goal.returns-clause-counted
returns-clause-counted g c = for_event g.met.Q.SiblingQueue.rises (length c.args.state.now.tasks.tasks) c.args.state.now (Prctl c.args.pid c.args.ask) _ _ (omega arith) c.prctl.ensures.counted
