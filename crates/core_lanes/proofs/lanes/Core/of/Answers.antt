use Rattle.std.proofs.Common.{◌+◌, length-append, Some, ◌≡◌, ◌∙◌, ◌++◌, ◌∷◌, [], ap, subst, sym, arith, inl, inr}
use Rattle.std.specs.Prelude.{replicate, length, map, slice_get}
use Rattle.std.proofs.lemmas.List.{map_push, replicate-append-replicate}
use Rattle.cs_types.specs.Room.{idle}
use Rattle.forceidle_account.specs.Account.{Account}
use Rattle.core_lanes.specs.Lanes.{BareCore, bare_start, lane_state}
use Rattle.core_lanes.proofs.Stays.{number_of, queue_of}
use Rattle.core_lanes.proofs.Starts.{slice_get-more}
use Rattle.core_lanes.proofs.lanes.Core.of.Goals as goal

pub loop-preserved : goal.loop-preserved
loop-preserved g c =
    let so_far = c.loop.invariant in
    let lane = c.with_queue.result in
    let items = c.push.ensures.items in
    let longer : length c.push.new.self.items ≡ length c.loop.lanes.items + 1 = ap length items ∙ length-append c.loop.lanes.items (lane ∷ []) in
    record {
      some = omega (arith, longer, so_far.counted, c.loop-test.true);
      spare = omega (arith, c.push.ensures.room, so_far.spare);
      counted = omega (arith, longer, so_far.counted);
      states = ap (λ xs. map lane_state xs) items ∙ map_push lane_state c.loop.lanes.items lane
          ∙ (λ i. so_far.states i ++ lane_state (c.with_queue.ensures i) ∷ [])
          ∙ replicate-append-replicate (length c.loop.lanes.items) 1 idle
          ∙ ap (λ n. replicate n idle) (sym longer);
      numbers = ap (λ xs. map number_of xs) items ∙ map_push number_of c.loop.lanes.items lane
          ∙ (λ i. so_far.numbers i ++ number_of (c.with_queue.ensures i) ∷ [])
          ∙ replicate-append-replicate (length c.loop.lanes.items) 1 0
          ∙ ap (λ n. replicate n 0) (sym longer);
      held = λ cpu queue at.
          elim (slice_get-more (map queue_of c.loop.lanes.items) (queue_of lane) queue cpu
          (ap (λ xs. slice_get xs cpu) (sym (ap (λ xs. map queue_of xs) items ∙ map_push queue_of c.loop.lanes.items lane)) ∙ at)) [
            | inl before ↦ so_far.held cpu queue before
            | inr is ↦
                subst (λ q. g.Q.SiblingQueue.holds q c.args.tasks []) (sym (is ∙ ap queue_of c.with_queue.ensures))
                (c.in_ok-with_capacity.ensures)
          ];
    }

pub loop-init : goal.loop-init
loop-init g c =
    let made = c.in_ok-lanes.ensures in
    record {
      some = omega (arith, ap length made.items);
      spare = omega (arith, made.room);
      counted = ap length made.items;
      states = ap (λ xs. map lane_state xs) made.items ∙ ap (λ n. replicate n idle) (sym (ap length made.items));
      numbers = ap (λ xs. map number_of xs) made.items ∙ ap (λ n. replicate n 0) (sym (ap length made.items));
      held = λ cpu queue at. let none : slice_get [] cpu ≡ Some queue = ap (λ xs. slice_get (map queue_of xs) cpu) (sym made.items) ∙ at in absurd cc;
    }

pub push-requires : goal.push-requires
push-requires g c = record { room = omega (arith, c.loop.invariant.spare, c.loop.invariant.counted, c.loop-test.true) }

pub invariant_of-result : goal.invariant_of-result
invariant_of-result g c = record { few = omega (arith, c.loop.invariant.some, c.requires) }

pub returns : goal.returns
returns g c =
    let so_far = c.loop.invariant in
    let all : length c.loop.lanes.items ≡ c.args.siblings = omega (arith, so_far.counted, so_far.some, c.loop-test.false) in
    let states = so_far.states ∙ ap (λ n. replicate n idle) all in
    let numbers = so_far.numbers ∙ ap (λ n. replicate n 0) all in
    let shut = c.closed.ensures in
    record {
      bare = λ i.
          let account : Account = record { count = shut.count i; occupation = shut.occupation i; started = shut.started i; intervals = shut.intervals i } in
          let core : BareCore = record (bare_start c.args.siblings) { account = account; siblings = states i; own = numbers i } in
          core;
      held = so_far.held;
    }
