use Rattle.std.proofs.Common.{[], cond, refl, sym, subst, length-set}
use Rattle.std.specs.Prelude.{◌==◌, All}
use Rattle.std.proofs.lemmas.Bool.{cond-true, cond-false, eq-eqb, ne_eqb}
use Rattle.std.proofs.lemmas.List.{map-set}
use Rattle.core_lanes.specs.Queued.{queued_at}
use Rattle.core_lanes.specs.Lanes.{IsFit, queues_of}
use Rattle.core_lanes.proofs.Stays.{queue_of, queue_at}
use Rattle.core_lanes.proofs.Queues.{held-set}
use Rattle.core_lanes.proofs.AtHome.{bare_home}
use Rattle.core_lanes.proofs.lanes.Core.empty_queue.Goals as goal

-- ---- the call

pub clear-requires : goal.clear-requires
clear-requires g c =
    let leaving = c.args.leaving in
    let lane = c.index_mut.result.now in
    c.requires.agree.agree.held leaving lane.queue (queue_at c.args.self.now.lanes.items leaving lane c.requires.agree.cpu c.index_mut.ensures.value)

-- ---- the siblings

pub returns-clause-away : goal.returns-clause-away
returns-clause-away g c =
    let table = c.args.table.now in
    let agree = c.requires.agree.agree in
    let leaving = c.args.leaving in
    let lanes = c.args.self.now.lanes.items in
    let lane = c.index_mut.result.now in
    let after = record lane { queue = c.clear.new.self } in
    record {
      bare = bare_home c.args.self.now leaving lane c.clear.new.self c.index_mut.ensures.value;
      held = record {
        table = agree.table;
        few_tasks = agree.few_tasks;
        tasks = subst (λ n. All (IsFit n) table.tasks) (sym (length-set lanes leaving after)) agree.tasks;
        stamped = agree.stamped;
        held = rw (map-set queue_of lanes leaving after)
            (held-set (λ cpu x. g.Q.SiblingQueue.holds x table.limit (queued_at table.tasks cpu))
            (λ cpu x. g.Q.SiblingQueue.holds x table.limit (cond (cpu == leaving) [] (queued_at table.tasks cpu))) (queues_of c.args.self.now) leaving c.clear.new.self
            (λ cpu x other held.
            subst (λ qs. g.Q.SiblingQueue.holds x table.limit qs) (sym (cond-false (cpu == leaving) [] (queued_at table.tasks cpu) (ne_eqb cpu leaving other))) held)
            agree.held
            (subst (λ qs. g.Q.SiblingQueue.holds c.clear.new.self table.limit qs) (sym (cond-true (leaving == leaving) [] (queued_at table.tasks leaving) (eq-eqb leaving leaving refl)))
            c.clear.ensures));
      };
    }
