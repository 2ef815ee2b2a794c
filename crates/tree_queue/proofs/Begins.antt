-- Begins: a list that is written from its beginning, and has a place for each task.
use Rattle.std.proofs.Common.{◌≡◌, ℕ, ◌+◌, ◌<◌, ◌≤◌, List, [], ◌∷◌, ◌++◌, length, take, drop, take_all, get_or, sym, ap, ◌∙◌, subst, length-append, length-drop, length-set, length-take-le, arith}
use Rattle.std.specs.Prelude.{Contains, slice_set}
use Rattle.std.proofs.lemmas.List.{get_or-take, take-append-le, take_more_set}
use Rattle.tree_queue.specs.Arrivals.{AreBelow, BeginsBelow}
use Rattle.tree_queue.proofs.Told.{below_later, below_more, below_run, few_below}

-- stamps that are below one are below any greater one
pub begins_later : (all : List (ℕ × ℕ)) (above next told : ℕ) (pids : List ℕ) → above ≤ next → BeginsBelow all above told pids → BeginsBelow all next told pids
begins_later all above next told pids le was = record { within = was.within; below = below_later all above next (take told pids) le was.below }

module _ (all : List (ℕ × ℕ)) (above told : ℕ) (pids : List ℕ) (was : BeginsBelow all above told pids) (places : length pids ≡ length all) where
  -- one more
  module _ (next : ℕ) (mover : ℕ × ℕ) (there : Contains all mover) (past : next ≡ mover.0 + 1) (less : above < next) where
    more : AreBelow all next (take told pids ++ mover.1 ∷ [])
    more = below_more all above next mover (take told pids) was.below there past less

    pub room_more : told < length pids
    room_more =
        omega (arith, few_below all next (take told pids ++ mover.1 ∷ []) more, length-append (take told pids) (mover.1 ∷ []), length-take-le told pids was.within, places)

    pub begins_more : BeginsBelow all next (told + 1) (slice_set pids told mover.1)
    begins_more = record {
      within = omega (arith, room_more, length-set pids told mover.1);
      below = subst (AreBelow all next) (sym (take_more_set pids told mover.1 room_more)) more;
    }

  -- the first of some with stamps in a row
  module _ (rest : List ℕ) (n : ℕ) (few : n ≤ length rest) (there : (place : ℕ) → place < n → Contains all (above + place, get_or rest place 0)) where
    pub many : length (take n rest) ≡ n
    many = length-take-le n rest few

    run : AreBelow all (above + n) (take told pids ++ take n rest)
    run =
        subst (λ m. AreBelow all (above + m) (take told pids ++ take n rest)) many
        (below_run all above (take n rest) (take told pids) was.below
        (λ place less.
        let lower : place < n = omega (arith, less, many) in
        subst (λ pid. Contains all (above + place, pid)) (sym (get_or-take n rest place 0 lower)) (there place lower)))

    pub room_run : told + n ≤ length pids
    room_run =
        omega (arith, few_below all (above + n) (take told pids ++ take n rest) run, length-append (take told pids) (take n rest), length-take-le told pids was.within, many, places)

    abbrev now : List ℕ
    now = take told pids ++ take n rest ++ drop (told + n) pids

    pub length_run : length now ≡ length pids
    length_run =
        omega (
          arith,
          length-append (take told pids ++ take n rest) (drop (told + n) pids),
          length-append (take told pids) (take n rest),
          length-take-le told pids was.within,
          many,
          length-drop (told + n) pids,
          room_run,
        )

    pub now_is : take told pids ++ take n rest ++ drop (told + length (take n rest)) pids ≡ now
    now_is = ap (λ m. take told pids ++ take n rest ++ drop (told + m) pids) many

    pub begins_run : (next : ℕ) → above + n ≤ next → BeginsBelow all next (told + n) now
    begins_run next le =
        let front = take told pids ++ take n rest in
        let long : length front ≡ told + n = omega (arith, length-append (take told pids) (take n rest), length-take-le told pids was.within, many) in
        let is : take (told + n) now ≡ front =
        take-append-le (told + n) front (drop (told + n) pids) (omega (arith, long)) ∙ take_all (told + n) front (omega (arith, long)) in
        record {
          within = omega (arith, length_run, room_run);
          below = below_later all (above + n) next (take (told + n) now) le (subst (AreBelow all (above + n)) (sym is) run);
        }
