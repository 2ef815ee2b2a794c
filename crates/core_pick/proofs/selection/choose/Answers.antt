use Rattle.std.proofs.Common.{◌≡◌, ◌∙◌, ℕ, ◌+◌, ◌*◌, ◌<◌, ◌≤◌, ◌++◌, List, refl, ap, sym, subst, cond, map, take, drop, length, get_or, arith}
use Rattle.std.specs.Prelude.{count_by}
use Rattle.std.specs.List.{range_with_len, enumerate_from}
use Rattle.std.proofs.Math.Seq.{take-length, drop-length}
use Rattle.std.proofs.lemmas.List.{append-nil, length-map}
use Rattle.std.proofs.lemmas.List.FromFn.{length-map-range_with_len}
use Rattle.cs_types.specs.Selection.{first_on, choice}
use Rattle.core_lanes.specs.declared.lane.Lane.{Lane}
use Rattle.core_lanes.specs.Lanes.{Beside, lane_state, room_of}
use Rattle.core_lanes.proofs.Lists.{placed_at, placed_more}
use Rattle.core_lanes.proofs.Stays.{some_beside, lane_at, queue_at, policies_of}
use Rattle.core_pick.specs.declared.choice.Choice.{Choice}
use Rattle.core_pick.specs.Choice.{choice_of, gets_none, gets_task}
use Rattle.core_pick.proofs.Asked.{one_more}
use Rattle.core_pick.proofs.Choices.{at_number, map-enumerate_from, count_more, few_counted, all_forced, all_occupied}
use Rattle.core_pick.proofs.selection.choose.Given.{Over}
use Rattle.core_pick.proofs.selection.choose.Goals.{Start}
use Rattle.core_pick.proofs.selection.choose.Goals as goal

-- what a read past the last would give
abbrev no_choice : Choice
no_choice = record { cookie = 0; pid = 0; class = 0 }

-- there are as many as siblings, and those are few
module _ (g : Over) (c : Start g) where
  many : length c.args.choices.now ≡ length c.args.core.now.lanes.items
  many =
      let room = room_of some_beside (c.args.core.now, c.args.table.now) in
      ap length (c.requires.firsts some_beside) ∙ length-map-range_with_len (λ cpu. choice_of (first_on room cpu)) 0 (length room.siblings) ∙ length-map c.args.core.now.lanes.items lane_state

pub overflow_cast-cpu : goal.overflow_cast-cpu
overflow_cast-cpu g c = omega (arith, c.loop-cpu-test.true, many g (goal.at.overflow_cast-cpu g c).Start, c.args.core.now.few)

pub offset_bounds-lanes-cpu : goal.offset_bounds-lanes-cpu
offset_bounds-lanes-cpu g c = omega (arith, ap length c.as_slice-lanes.ensures.value, c.loop-cpu-test.true, many g (goal.at.offset_bounds-lanes-cpu g c).Start)

pub bounds-lanes-cpu : goal.bounds-lanes-cpu
bounds-lanes-cpu g c = omega (arith, ap length c.as_slice-lanes.ensures.value, c.loop-cpu-test.true, many g (goal.at.bounds-lanes-cpu g c).Start)

pub settle-counts-requires-clause-search : goal.settle-counts-requires-clause-search
settle-counts-requires-clause-search g c =
    let lanes = c.args.core.now.lanes.items in
    let cpu = c.loop-cpu.cpu in
    let lane = c.index-lanes-cpu.result in
    let below : cpu < length lanes = omega (arith, c.loop-cpu-test.true, many g (goal.at.settle-counts-requires-clause-search g c).Start) in
    record {
      policies = policies_of (c.args.core.now, c.args.table.now) c.requires.agree;
      holds = c.requires.agree.held cpu lane.queue (queue_at lanes cpu lane below (c.index-lanes-cpu.is ∙ ap (λ (lanes : List (Lane g.row.Q.Denot)). get_or lanes cpu lane) c.as_slice-lanes.ensures.value));
    }

pub settle-counts-requires-clause-may : goal.settle-counts-requires-clause-may
settle-counts-requires-clause-may g c =
    let room = room_of some_beside (c.args.core.now, c.args.table.now) in
    let all = many g (goal.at.settle-counts-requires-clause-may g c).Start in
    record {
      forced = omega (arith, c.loop-cpu.invariant.forced some_beside, few_counted (gets_none room c.args.cookie) c.loop-cpu.cpu, c.loop-cpu-test.true, all, c.args.core.now.few);
      occupation = omega (arith, c.loop-cpu.invariant.occupation some_beside, few_counted (gets_task room c.args.cookie) c.loop-cpu.cpu, c.loop-cpu-test.true, all, c.args.core.now.few);
    }

pub loop-cpu-preserved : goal.loop-cpu-preserved
loop-cpu-preserved g c =
    let cpu = c.loop-cpu.cpu in
    let core = c.args.cookie in
    let below : cpu < length c.args.core.now.lanes.items = omega (arith, c.loop-cpu-test.true, many g (goal.at.loop-cpu-preserved g c).Start) in
    let lanes = c.args.core.now.lanes.items in
    let lane = c.index-lanes-cpu.result in
    let at = lane_at lanes cpu lane below (c.index-lanes-cpu.is ∙ ap (λ (lanes : List (Lane g.row.Q.Denot)). get_or lanes cpu lane) c.as_slice-lanes.ensures.value) in
    let was = λ (beside : Beside).
    let room = room_of beside (c.args.core.now, c.args.table.now) in
    let inside : cpu < length room.siblings = omega (arith, below, length-map c.args.core.now.lanes.items lane_state) in
    let gets : ℕ × Choice → Choice = λ numbered. choice_of (choice room core numbered.0) in
    ap (λ (choices : List Choice). get_or choices cpu no_choice) (c.loop-cpu.invariant.made beside)
    ∙ placed_at gets 0 c.args.choices.now cpu no_choice c.loop-cpu-test.true
    ∙ ap (λ (choices : List Choice). get_or choices cpu no_choice) (c.requires.firsts beside)
    ∙ at_number (λ cpu. choice_of (first_on room cpu)) (length room.siblings) cpu no_choice inside in
    record {
      made = λ beside.
          let room = room_of beside (c.args.core.now, c.args.table.now) in
          let gets : ℕ × Choice → Choice = λ numbered. choice_of (choice room core numbered.0) in
          placed_more gets c.args.choices.now c.loop-cpu.choices cpu c.settle-counts.new.given no_choice c.loop-cpu-test.true (c.loop-cpu.invariant.made beside)
          (c.settle-counts.ensures.answer (room_of beside (c.args.core.now, c.args.table.now)) refl at (was beside)).gets;
      forced = λ beside.
          let p = gets_none (room_of beside (c.args.core.now, c.args.table.now)) core in
          (c.settle-counts.ensures.answer (room_of beside (c.args.core.now, c.args.table.now)) refl at (was beside)).counts.forced ∙ ap (λ n. n + cond (p cpu) 1 0) (c.loop-cpu.invariant.forced beside) ∙ sym (count_more p cpu);
      occupation = λ beside.
          let p = gets_task (room_of beside (c.args.core.now, c.args.table.now)) core in
          (c.settle-counts.ensures.answer (room_of beside (c.args.core.now, c.args.table.now)) refl at (was beside)).counts.occupation ∙ ap (λ n. n + cond (p cpu) 1 0) (c.loop-cpu.invariant.occupation beside) ∙ sym (count_more p cpu);
      asked = λ longest longer.
          let rises = g.met.Q.SiblingQueue.rises _ _ (longer cpu below) in
          one_more _ _ _ cpu _ (c.loop-cpu.invariant.asked longest longer) (omega (arith, c.settle-counts.ensures.counted, rises));
    }

pub returns-clause-counted : goal.returns-clause-counted
returns-clause-counted g c longest longer =
    let all : c.loop-cpu.cpu ≡ length c.args.core.now.lanes.items = omega (arith, c.loop-cpu-test.false, c.loop-cpu.auto.cpu-end, many g (goal.at.returns-clause-counted g c).Start) in
    subst (λ n. c.loop-cpu.comparisons ≤ c.args.comparisons.now + n * g.Q.SiblingQueue.most_compared longest) all (c.loop-cpu.invariant.asked longest longer)

pub returns-clause-gets : goal.returns-clause-gets
returns-clause-gets g c = record {
  each = λ beside.
      let room = room_of beside (c.args.core.now, c.args.table.now) in
      let choices = c.args.choices.now in
      let gets : ℕ × Choice → Choice = λ numbered. choice_of (choice room c.args.cookie numbered.0) in
      let get : ℕ → Choice = λ cpu. choice_of (choice room c.args.cookie cpu) in
      let all : c.loop-cpu.cpu ≡ length choices = omega (arith, c.loop-cpu-test.false, c.loop-cpu.auto.cpu-end) in
      let as_many : length choices ≡ length room.siblings = omega (arith, many g (goal.at.returns-clause-gets g c).Start, length-map c.args.core.now.lanes.items lane_state) in
      c.loop-cpu.invariant.made beside
      ∙ ap (λ n. map gets (enumerate_from 0 (take n choices)) ++ drop n choices) all
      ∙ (λ i. map gets (enumerate_from 0 (take-length choices i)) ++ drop-length choices i)
      ∙ append-nil (map gets (enumerate_from 0 choices))
      ∙ map-enumerate_from get 0 choices ∙ ap (λ n. map get (range_with_len 0 n)) as_many;
  counts_are = λ beside.
      let room = room_of beside (c.args.core.now, c.args.table.now) in
      let all : c.loop-cpu.cpu ≡ length room.siblings = omega (arith, c.loop-cpu-test.false, c.loop-cpu.auto.cpu-end, many g (goal.at.returns-clause-gets g c).Start, length-map c.args.core.now.lanes.items lane_state) in
      record {
        forced = c.loop-cpu.invariant.forced beside ∙ ap (λ n. count_by (gets_none room c.args.cookie) (range_with_len 0 n)) all ∙ all_forced room c.args.cookie;
        occupation = c.loop-cpu.invariant.occupation beside ∙ ap (λ n. count_by (gets_task room c.args.cookie) (range_with_len 0 n)) all ∙ all_occupied room c.args.cookie;
      };
}
