use Rattle.std.proofs.Common.{◌≡◌, ◌≢◌, ◌<◌, map, List, inl, inr, sym, subst, ap, ◌∙◌, length, arith}
use Rattle.std.specs.Prelude.{slice_get, ◌==◌}
use Rattle.bounded_list.specs.Bounded.{Bounded, with_items}
use Rattle.bounded_list.proofs.Items.{with_items_is, length-with_items}
use Rattle.std.proofs.lemmas.Bool.{cases_Bool, eqb-true, eqb-false}
use Rattle.std.proofs.lemmas.List.{map-set, length-map}
use Rattle.std.proofs.Math.ListN.{length-set}
use Rattle.std.proofs.Math.Seq.{map-set_same}
use Rattle.core_lanes.specs.Queued.{queued_at}
use Rattle.core_lanes.specs.Lanes.{lane_state, bare}
use Rattle.core_lanes.specs.declared.lane.Lane.{Lane}
use Rattle.core_lanes.proofs.Stays.{number_of, queue_of, queue_at}
use Rattle.core_lanes.proofs.Queues.{held-set}
use Rattle.core_lanes.proofs.Counted.{of_one}
use Rattle.core_lanes.proofs.lanes.Core.exchange.Goals as goal

-- what was written over all siblings is what is there, where it says the same of each
written : {Q : Type 0} (lanes : Bounded (Lane Q)) (was now : List (Lane Q)) → was ≡ lanes.items → map lane_state now ≡ map lane_state was → (with_items lanes now).items ≡ now
written lanes was now are states =
    with_items_is lanes now (sym (length-map now lane_state) ∙ ap length states ∙ length-map was lane_state ∙ ap length are)

pub swap_queues-requires-clause-within : goal.swap_queues-requires-clause-within
swap_queues-requires-clause-within g c =
    let many = sym (ap length c.deref_mut.ensures.value) in
    (subst (λ n. c.args.from < n) many c.requires.cpu, subst (λ n. c.args.to < n) many c.requires.other)

pub index_mut-requires : goal.index_mut-requires
index_mut-requires g c = omega (arith, c.requires.other, length-with_items c.args.self.now.lanes c.swap_queues.new.lanes)

pub renew-requires : goal.renew-requires
renew-requires g c =
    let swap = c.swap_queues.ensures in
    let was = c.deref_mut.ensures.value in
    let is = written c.args.self.now.lanes c.deref_mut.result.now c.swap_queues.new.lanes was swap.states in
    let lanes = (with_items c.args.self.now.lanes c.swap_queues.new.lanes).items in
    let many : length lanes ≡ length c.args.self.now.lanes.items =
    ap length is ∙ sym (length-map c.swap_queues.new.lanes lane_state) ∙ ap length swap.states ∙ length-map c.deref_mut.result.now lane_state ∙ ap length was in
    let lane = c.index_mut.result.now in
    c.requires.full lane.queue
    (ap (λ ls. slice_get (map queue_of ls) c.args.from) (sym was)
    ∙ sym swap.second ∙ ap (λ ls. slice_get (map queue_of ls) c.args.to) (sym is)
    ∙ queue_at lanes c.args.to lane (omega (arith, many, c.requires.other)) c.index_mut.ensures.value)

pub returns-clause-queues : goal.returns-clause-queues
returns-clause-queues g c =
    let table = c.args.table.now in
    let swap = c.swap_queues.ensures in
    let was = c.deref_mut.ensures.value in
    let is = written c.args.self.now.lanes c.deref_mut.result.now c.swap_queues.new.lanes was swap.states in
    let lanes = (with_items c.args.self.now.lanes c.swap_queues.new.lanes).items in
    let lane = c.index_mut.result.now in
    let after = record lane { queue = c.renew.new.self } in
    let states = map-set_same lane_state lanes c.args.to after lane (ap lane_state c.index_mut.ensures.value)
    ∙ ap (map lane_state) is ∙ swap.states ∙ ap (map lane_state) was in
    let numbers = map-set_same number_of lanes c.args.to after lane (ap number_of c.index_mut.ensures.value)
    ∙ ap (map number_of) is ∙ swap.numbers ∙ ap (map number_of) was in
    record {
      bare = λ i. record (bare c.args.self.now) { siblings = states i; own = numbers i };
      held = rw (map-set queue_of lanes c.args.to after)
          (held-set (λ cpu x. cpu ≢ c.args.to → g.Q.SiblingQueue.holds x table.limit (queued_at table.tasks cpu))
          (λ cpu x. g.Q.SiblingQueue.holds x table.limit (queued_at table.tasks cpu)) (map queue_of lanes) c.args.to c.renew.new.self
          (λ cpu x other held. held other)
          (λ cpu x at other. elim (cases_Bool (cpu == c.args.from)) [
            | inl here ↦
                let home = eqb-true cpu c.args.from here in
                subst (λ n. g.Q.SiblingQueue.holds x table.limit (queued_at table.tasks n)) (sym home)
                (c.requires.empty x
                (ap (λ ls. slice_get (map queue_of ls) c.args.to) (sym was)
                ∙ sym swap.first ∙ ap (λ ls. slice_get (map queue_of ls) c.args.from) (sym is) ∙ ap (slice_get (map queue_of lanes)) (sym home) ∙ at))
            | inr apart ↦
                let not_from = eqb-false cpu c.args.from apart in
                c.requires.rest cpu x not_from other
                (ap (λ ls. slice_get (map queue_of ls) cpu) (sym was)
                ∙ sym (swap.rest cpu not_from other) ∙ ap (λ ls. slice_get (map queue_of ls) cpu) (sym is) ∙ at)
          ])
          c.renew.ensures.holds);
    }

pub returns-clause-counted : goal.returns-clause-counted
returns-clause-counted g c =
    omega (arith, c.renew.ensures.counted, of_one g.Q.SiblingQueue.most_compared g.met.Q.SiblingQueue.rises c.args.table.now.tasks c.args.to)

pub invariant_of-self : goal.invariant_of-self
invariant_of-self g c =
    let lanes = (with_items c.args.self.now.lanes c.swap_queues.new.lanes).items in
    let swap = c.swap_queues.ensures in
    let was = c.deref_mut.ensures.value in
    let is = written c.args.self.now.lanes c.deref_mut.result.now c.swap_queues.new.lanes was swap.states in
    let many : length lanes ≡ length c.args.self.now.lanes.items =
    ap length is ∙ sym (length-map c.swap_queues.new.lanes lane_state) ∙ ap length swap.states ∙ length-map c.deref_mut.result.now lane_state ∙ ap length was in
    record { few = omega (arith, length-set lanes c.args.to (record c.index_mut.result.now { queue = c.renew.new.self }), many, c.args.self.now.few) }
