-- Onlines: the lowest sibling that is online, and how many are, counted among the siblings and among their numbers.
use Rattle.std.proofs.Common.{◌≡◌, ℕ, zero, suc, ◌+◌, ◌<◌, Bool, true, false, List, [], ◌∷◌, ◌++◌, map, refl, sym, ap, ◌∙◌, length, get_or, arith, Some, None}
use Rattle.std.specs.Prelude.{find, filter, unwrap_or}
use Rattle.std.specs.List.{range_with_len}
use Rattle.std.proofs.lemmas.Bool.{cond-true, cond-false}
use Rattle.std.proofs.lemmas.List.{length-map}
use Rattle.cs_types.specs.Room.{SiblingState, online, is_online, absent}
use Rattle.cs_types.proofs.Foremost.{find-append_none}
use Rattle.task_table.specs.Table.{Table}
use Rattle.core_lanes.specs.declared.queue.SiblingQueue.{Ghosts}
use Rattle.core_lanes.specs.declared.lane.Lane.{Lane}
use Rattle.core_lanes.specs.declared.lanes.Core.{Core}
use Rattle.core_lanes.specs.Lanes.{Beside, lane_state, room_of}
use Rattle.core_lanes.proofs.Lists.{filter-map, range_more, places}
use Rattle.core_lanes.proofs.Stays.{lane_at}

-- ---- the lowest sibling that passes

-- one more number that does not pass
pub none_more : (p : ℕ → Bool) (n : ℕ) → find p (range_with_len 0 n) ≡ None → p n ≡ false → find p (range_with_len 0 (n + 1)) ≡ None
none_more p n none fails =
    let next : n + 1 ≡ suc n = omega arith in
    let same : 0 + n ≡ n = omega arith in
    ap (λ m. find p (range_with_len 0 m)) next ∙ ap (find p) (range_more 0 n) ∙ ap (λ m. find p (range_with_len 0 n ++ m ∷ [])) same ∙ find-append_none p (range_with_len 0 n) (n ∷ []) none ∙ cond-false (p n) (Some n) None fails

-- a search that comes to nothing in a part of a range goes on behind the first
later : (p : ℕ → Bool) (a place n : ℕ) → find p (range_with_len a (suc place)) ≡ None →
    (find p (range_with_len (a + 1) place) ≡ None → find p (range_with_len (a + 1) n) ≡ Some (a + suc place)) → find p (range_with_len a (suc n)) ≡ Some (a + suc place)
later p a place n none next = by_first (p a) refl where
  by_first : (b : Bool) → p a ≡ b → find p (range_with_len a (suc n)) ≡ Some (a + suc place)
  by_first true is =
      let found : Some a ≡ None = sym (cond-true (p a) (Some a) (find p (range_with_len (a + 1) place)) is) ∙ none in
      absurd cc
  by_first false is =
      cond-false (p a) (Some a) (find p (range_with_len (a + 1) n)) is
      ∙ next (sym (cond-false (p a) (Some a) (find p (range_with_len (a + 1) place)) is) ∙ none)

-- the first that passes is found, in a range from any number on
first_from : (p : ℕ → Bool) (a place n : ℕ) → place < n → find p (range_with_len a place) ≡ None → p (a + place) ≡ true → find p (range_with_len a n) ≡ Some (a + place)
first_from p a place zero below none passes = absurd (omega arith)
first_from p a zero (suc n) below none passes =
    let here : a + 0 ≡ a = omega arith in
    cond-true (p a) (Some a) _ (ap p (sym here) ∙ passes) ∙ ap Some (sym here)
first_from p a (suc place) (suc n) below none passes =
    let next : a + 1 + place ≡ a + suc place = omega arith in
    later p a place n none (λ rest. first_from p (a + 1) place n (omega arith) rest (ap p next ∙ passes) ∙ ap Some next)

-- and in one from 0 on
pub first_found : (p : ℕ → Bool) (place n : ℕ) → place < n → find p (range_with_len 0 place) ≡ None → p place ≡ true → unwrap_or (find p (range_with_len 0 n)) 0 ≡ place
first_found p place n below none passes =
    let e : 0 + place ≡ place = omega arith in
    ap (λ found. unwrap_or found 0) (first_from p 0 place n below none (ap p e ∙ passes)) ∙ e

-- whether a sibling is online, as the code reads it
pub online_is : {Q : Type 0} {g : Ghosts Q} (beside : Beside) (both : Core Q g × Table) (cpu : ℕ) (x : Lane Q) → cpu < length both.0.lanes.items → x ≡ get_or both.0.lanes.items cpu x →
    is_online (room_of beside both) cpu ≡ x.online
online_is beside both cpu x below is = ap (λ (sibling : SiblingState). sibling.online) (lane_at both.0.lanes.items cpu x below is)

-- ---- how many

-- as many pass of a list as of its places
length-filter_places : {X : Type 0} (p : X → Bool) (xs : List X) (d : X) →
    length (filter p xs) ≡ length (filter (λ i. p (get_or xs i d)) (range_with_len 0 (length xs)))
length-filter_places {X} p xs d =
    let range = range_with_len 0 (length xs) in
    ap (λ (ys : List X). length (filter p ys)) (sym (places xs d))
    ∙ ap length (filter-map (λ i. get_or xs i d) p range)
    ∙ length-map (filter (λ i. p (get_or xs i d)) range) (λ i. get_or xs i d)

pub length-online : {Q : Type 0} {g : Ghosts Q} (beside : Beside) (both : Core Q g × Table) →
    length (filter (λ lane. lane.online) both.0.lanes.items) ≡ length (online (room_of beside both))
length-online {Q} beside both =
    let lanes = both.0.lanes.items in
    sym (length-map (filter (λ (lane : Lane Q). lane.online) lanes) lane_state)
    ∙ ap length (sym (filter-map lane_state (λ (sibling : SiblingState). sibling.online) lanes))
    ∙ length-filter_places (λ (sibling : SiblingState). sibling.online) (map lane_state lanes) absent
