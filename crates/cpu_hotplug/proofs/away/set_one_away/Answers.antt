use Rattle.std.proofs.Common.{refl, ◌≡◌, ◌++◌, take, drop, ◌<◌, ◌+◌, ◌∙◌, ℕ, List, ap, sym, subst, set, map, length, get_or, eqb, arith, eq-eqb, ne_eqb}
use Rattle.std.specs.List.{enumerate_from}
use Rattle.std.proofs.Math.Seq.{take-length, drop-length}
use Rattle.std.proofs.lemmas.List.{append-nil, map-set, length-map, get_or_default}
use Rattle.std.proofs.lemmas.Bool.{cond-true, cond-false}
use Rattle.cs_types.specs.Room.{SiblingState, absent}
use Rattle.cs_types.specs.Hotplug.{away, stand_by, left}
use Rattle.core_lanes.specs.Lanes.{lane_state}
use Rattle.core_lanes.proofs.Lists.{placed_more}
use Rattle.core_lanes.specs.declared.lane.Lane.{Lane}
use Rattle.core_lanes.specs.Changes.{ChangesLanes}
use Rattle.cpu_hotplug.specs.Leaves.{ChangesLane}
use Rattle.core_lanes.proofs.Stays.{lane_at, numbers_kept, queues_kept}
use Rattle.cpu_hotplug.proofs.away.set_one_away.Goals.{then-other-cpu, else-other-cpu}
use Rattle.cpu_hotplug.proofs.away.set_one_away.Goals as goal

pub loop-other-init : goal.loop-other-init
loop-other-init g c = record { states = refl; numbers = refl; queues = refl }

-- one sibling more is as it is to be
one_more : {Q : Type 0} (cpu other : ℕ) (start lanes : List (Lane Q)) (lane now : Lane Q) (change : SiblingState → SiblingState) →
    other < length lanes → length lanes ≡ length start → lane ≡ get_or lanes other lane → ChangesLane lane now change →
    change (lane_state lane) ≡ left cpu (other, lane_state lane) →
    ChangesLanes start lanes (λ siblings. map (left cpu) (enumerate_from 0 (take other siblings)) ++ drop other siblings) →
    ChangesLanes start (set lanes other now) (λ siblings. map (left cpu) (enumerate_from 0 (take (other + 1) siblings)) ++ drop (other + 1) siblings)
one_more cpu other start lanes lane now change inside many is changes as_left so_far =
    let states = map lane_state start in
    record {
      states = map-set lane_state lanes other now
          ∙ placed_more (left cpu) states (map lane_state lanes) other (lane_state now) absent (omega (arith, inside, many, length-map start lane_state)) so_far.states
          (changes.state ∙ as_left ∙ ap (λ (state : SiblingState). left cpu (other, state)) (sym (lane_at lanes other lane inside is)));
      numbers = numbers_kept lanes other lane now is changes.number ∙ so_far.numbers;
      queues = queues_kept lanes other lane now is changes.queue ∙ so_far.queues;
    }

pub loop-other-preserved : goal.loop-other-preserved
loop-other-preserved g c =
    let lanes = c.loop-other.lanes in
    let other = c.loop-other.other in
    let cpu = c.args.cpu in
    let lane = get_or lanes other c.index-lanes-other.result in
    let inside : other < length lanes = omega (arith, c.loop-other-test.true, c.loop-other.auto.lanes) in
    let is = get_or_default lanes other c.index-lanes-other.result lane inside in
    let after = λ (ls : List (Lane g.row.Q.Denot)). ChangesLanes c.args.lanes.now ls (λ siblings. map (left cpu) (enumerate_from 0 (take (other + 1) siblings)) ++ drop (other + 1) siblings) in
    elim c.if-other-cpu.branch [
      | then-other-cpu w ↦
          subst after (sym w.lanes-is) (one_more cpu other c.args.lanes.now lanes lane w.away.new.lane away inside c.loop-other.auto.lanes is w.away.ensures
          (sym (cond-true (eqb other cpu) (away (lane_state lane)) (stand_by (lane_state lane)) (eq-eqb other cpu w.if-other-cpu.true))) c.loop-other.invariant)
      | else-other-cpu w ↦
          subst after (sym w.lanes-is) (one_more cpu other c.args.lanes.now lanes lane w.stand_by.new.lane stand_by inside c.loop-other.auto.lanes is w.stand_by.ensures
          (sym (cond-false (eqb other cpu) (away (lane_state lane)) (stand_by (lane_state lane)) (ne_eqb other cpu w.if-other-cpu.false))) c.loop-other.invariant)
    ]

pub returns : goal.returns
returns g c =
    let states = map lane_state c.args.lanes.now in
    let all : c.loop-other.other ≡ length states = omega (arith, length-map c.args.lanes.now lane_state, c.loop-other-test.false, c.loop-other.auto.other-end) in
    record {
      states = c.loop-other.invariant.states
          ∙ (λ k. map (left c.args.cpu) (enumerate_from 0 (take (all k) states)) ++ drop (all k) states)
          ∙ (λ k. map (left c.args.cpu) (enumerate_from 0 (take-length states k)) ++ drop-length states k)
          ∙ append-nil (map (left c.args.cpu) (enumerate_from 0 states));
      numbers = c.loop-other.invariant.numbers;
      queues = c.loop-other.invariant.queues;
    }
