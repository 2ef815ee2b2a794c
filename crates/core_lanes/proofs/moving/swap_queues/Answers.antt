use Rattle.std.proofs.Common.{◌<◌, ◌≤◌, ◌++◌, ℕ, List, length, map, refl, sym, ap, ◌∙◌, subst, Some, arith}
use Rattle.std.specs.Prelude.{slice_get}
use Rattle.core_lanes.specs.declared.lane.Lane.{Lane}
use Rattle.core_lanes.specs.Lanes.{lane_state}
use Rattle.core_lanes.specs.Exchanges.{Exchange}
use Rattle.core_lanes.proofs.Stays.{number_of, queue_of}
use Rattle.core_lanes.proofs.Exchanged.{kept-with_queue, low-with_queue, low-before, high-with_queue, high-before, rest-set, with_queue}
use Rattle.core_lanes.proofs.moving.swap_queues.Goals.{then-one-other, else-one-other}
use Rattle.core_lanes.proofs.moving.swap_queues.Goals as goal

-- the one of two that is named first may be either
turned : {Q : Type 0} (one other : ℕ) (old new : List (Lane Q)) → Exchange one other old new → Exchange other one old new
turned one other old new is = record {
  states = is.states;
  numbers = is.numbers;
  first = is.second;
  second = is.first;
  rest = λ cpu first second. is.rest cpu second first;
}

pub split_at_mut-front-requires : goal.split_at_mut-front-requires
split_at_mut-front-requires g c = elim c.if-one-other.branch [
  | then-one-other w ↦ subst (λ (both : ℕ × ℕ). both.1 ≤ length c.args.lanes.now) (sym w.low-is) (omega (arith, c.requires.within.1))
  | else-one-other w ↦ subst (λ (both : ℕ × ℕ). both.1 ≤ length c.args.lanes.now) (sym w.low-is) (omega (arith, c.requires.within.0))
]

pub bounds-front-low : goal.bounds-front-low
bounds-front-low g c = subst (λ n. c.if-one-other.low.0 < n) (sym c.split_at_mut-front.ensures.front_len) (elim c.if-one-other.branch [
  | then-one-other w ↦ subst (λ (both : ℕ × ℕ). both.0 < both.1) (sym w.low-is) w.if-one-other.true
  | else-one-other w ↦ subst (λ (both : ℕ × ℕ). both.0 < both.1) (sym w.low-is) (omega (arith, w.if-one-other.false, c.requires.two))
])

pub bounds-back-0 : goal.bounds-back-0
bounds-back-0 g c =
    let below : c.if-one-other.low.1 < length c.args.lanes.now = elim c.if-one-other.branch [
      | then-one-other w ↦ subst (λ (both : ℕ × ℕ). both.1 < length c.args.lanes.now) (sym w.low-is) c.requires.within.1
      | else-one-other w ↦ subst (λ (both : ℕ × ℕ). both.1 < length c.args.lanes.now) (sym w.low-is) c.requires.within.0
    ] in
    omega (arith, below, c.split_at_mut-front.ensures.back_len)

pub returns : goal.returns
returns g c =
    let lanes = c.args.lanes.now in
    let both = c.if-one-other.low in
    let order : (both.0 < both.1) × (both.1 < length lanes) = elim c.if-one-other.branch [
      | then-one-other w ↦ subst (λ (pair : ℕ × ℕ). (pair.0 < pair.1) × (pair.1 < length lanes)) (sym w.low-is) (w.if-one-other.true, c.requires.within.1)
      | else-one-other w ↦ subst (λ (pair : ℕ × ℕ). (pair.0 < pair.1) × (pair.1 < length lanes)) (sym w.low-is) (omega (arith, w.if-one-other.false, c.requires.two), c.requires.within.0)
    ] in
    let parts = c.split_at_mut-front in
    let front = parts.result.0.now in
    let back = parts.result.1.now in
    let value = parts.ensures.value in
    let low : both.0 < length front = omega (arith, parts.ensures.front_len, order.0) in
    let some : 0 < length back = omega (arith, parts.ensures.back_len, order.1) in
    let x = c.swap.new.x in
    let y = c.swap.new.y in
    let of = c.index-front-low.result in
    let head = c.index-back-0.result in
    let new = with_queue front both.0 of x ++ with_queue back 0 head y in
    let is : Exchange both.0 both.1 lanes new = record {
      states = kept-with_queue lane_state front back both.0 of head x y refl refl ∙ ap (map lane_state) (sym value);
      numbers = kept-with_queue number_of front back both.0 of head x y refl refl ∙ ap (map number_of) (sym value);
      first = low-with_queue front (with_queue back 0 head y) both.0 of x low
          ∙ ap Some c.swap.ensures.x_after
          ∙ sym (high-before front back head some)
          ∙ (λ i. slice_get (map queue_of (sym value i)) (parts.ensures.front_len i));
      second = ap (slice_get (map queue_of new)) (sym parts.ensures.front_len)
          ∙ high-with_queue front back both.0 of head x y some
          ∙ ap Some c.swap.ensures.y_after
          ∙ sym (low-before front back both.0 of low)
          ∙ ap (λ lanes. slice_get (map queue_of lanes) both.0) (sym value);
      rest = λ cpu one other.
          rest-set front back both.0 _ _ cpu one (λ e. other (e ∙ parts.ensures.front_len))
          ∙ ap (λ lanes. slice_get (map queue_of lanes) cpu) (sym value);
    } in
    elim c.if-one-other.branch [
      | then-one-other w ↦ subst (λ (pair : ℕ × ℕ). Exchange pair.0 pair.1 lanes new) w.low-is is
      | else-one-other w ↦ turned c.args.other c.args.one lanes new (subst (λ (pair : ℕ × ℕ). Exchange pair.0 pair.1 lanes new) w.low-is is)
    ]

pub offset_bounds-0 : goal.offset_bounds-0
offset_bounds-0 g c = omega arith

pub swap-requires : goal.swap-requires
swap-requires g c κs lives = lives
