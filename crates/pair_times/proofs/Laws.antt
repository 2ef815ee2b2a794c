-- Laws: what the times of the pairs of every run keep.
use Rattle.std.proofs.Common.{◌≡◌, ℕ, ◌<◌, ◌≤◌, true, false, cond, List, [], ◌∷◌, length, get_or, refl, sym, ap, ◌∙◌, zero-add, arith, Option, Some, None}
use Rattle.std.specs.Prelude.{◌==◌, ◌&&◌, All}
use Rattle.std.specs.List.{AllByRecursion}
use Rattle.std.specs.Option.{option_map_or}
use Rattle.std.proofs.lemmas.Bool.{and_parts, and_from, cond-true, eq-eqb, eqb-true}
use Rattle.std.proofs.lemmas.List.Folds.{Any-from_list_any}
use Rattle.std.proofs.lemmas.List.FromFn.{length-range_with_len, get_or-range_with_len}
use Rattle.std.proofs.lemmas.List.Sums.{sum_by_more_le}
use Rattle.cs_types.specs.Room.{RoomState}
use Rattle.run_times.specs.declared.by.By.{By}
use Rattle.run_times.specs.Doing.{key_run, siblings_of, some_apart}
use Rattle.run_times.specs.Times.{Span, time_in}
use Rattle.run_times.proofs.Exposed.{apart_by}
use Rattle.run_times.proofs.Spans.{time_in-le}
use Rattle.pair_times.specs.declared.rows.PairTime.{PairTime}
use Rattle.pair_times.specs.Pairs.{runs_key, run_both, ArePairsIn}

runs_it : (run : Option ℕ) (key : ℕ) → option_map_or (λ own. own == key) run false ≡ true → run ≡ Some key
runs_it None key is = absurd cc
runs_it (Some own) key is = ap Some (eqb-true own key is)

-- the sibling that runs a task with a key
ran_at : (by : By) (room : RoomState) (key : ℕ) → runs_key by room key ≡ true → (cpu : ℕ) × (cpu < length room.siblings) × (key_run by room cpu ≡ Some key)
ran_at by room key runs =
    let n = length room.siblings in
    let some = Any-from_list_any (λ cpu. option_map_or (λ own. own == key) (key_run by room cpu) false) (siblings_of room) runs in
    let few : some.0 < n = omega (arith, some.2, length-range_with_len 0 n) in
    let is : some.0 ≡ some.1 = sym (get_or-range_with_len 0 n some.0 some.1 few ∙ zero-add some.0) ∙ some.3 in (
      some.0,
      few,
      ap (key_run by room) is ∙ runs_it (key_run by room some.1) key some.4,
    )

-- tasks of two that run side by side are told apart
apart_if : (by : By) (room : RoomState) (a b : ℕ) → a < b → run_both by a b room ≡ true → some_apart by room ≡ true
apart_if by room a b lt both =
    let parts = and_parts (runs_key by room a) (runs_key by room b) both in
    let one = ran_at by room a parts.0 in
    let other = ran_at by room b parts.1 in
    apart_by by room one.0 other.0 a b one.1 other.1 one.2 other.2 (omega (arith, lt))

covered : (by : By) (a b : ℕ) → a < b → (spans : List Span) → AllByRecursion (λ span. run_both by a b span.room ≡ true → some_apart by span.room ≡ true) spans
covered by a b lt [] = tt
covered by a b lt (span ∷ spans) = (apart_if by span.room a b lt, covered by a b lt spans)

-- No pair runs side by side for longer than any do.
pub rows-le : (by : By) (spans : List Span) (rows : List PairTime) → ArePairsIn by spans rows → All (λ row. row.time ≤ time_in (some_apart by) spans) rows
rows-le by spans rows are k d few =
    let row = get_or rows k d in
    let own = λ (r : PairTime). cond (r.low == row.low && r.high == row.high) r.time 0 in
    let its : own row ≡ row.time =
    cond-true (row.low == row.low && row.high == row.high) row.time 0 (and_from (row.low == row.low) (row.high == row.high) (eq-eqb row.low row.low refl) (eq-eqb row.high row.high refl)) in
    let lt : row.low < row.high = (are.order.sound k d few).0 in
    omega (
      arith,
      its,
      sum_by_more_le own rows k d few,
      are.times row.low row.high lt,
      time_in-le (run_both by row.low row.high) (some_apart by) spans (covered by row.low row.high lt spans),
    )
