-- Played: what passes that have made all their steps leave in the room.
use Rattle.std.proofs.Common.{◌≡◌, ℕ, ◌<◌, List, [], map, length, get_or, refl, sym, ap, ◌∙◌, subst, arith}
use Rattle.std.specs.Prelude.{All, Contains}
use Rattle.std.specs.List.{AllZip, range_with_len}
use Rattle.std.proofs.Math.Seq.{take-length}
use Rattle.std.proofs.lemmas.List.{length-map, get_or-map}
use Rattle.std.proofs.lemmas.List.FromFn.{length-map-range_with_len, get_or-map-range_with_len}
use Rattle.std.proofs.lemmas.List.Elements.{All-map, All-get_or, All-from_get_or, AllZip-get_or, length_all_zip}
use Rattle.cs_types.specs.declared.event.Actor.{Actor}
use Rattle.cs_types.specs.declared.event.Step.{Step}
use Rattle.cs_types.specs.History.{History, events_by}
use Rattle.core_lock.specs.Lists.{list_at, actor_of, HasNoList, events_first}
use Rattle.core_lock.specs.Passes.{Lock, PassState, HasOwn, list_of, fresh_pass, fresh_passes}
use Rattle.sibling_workers.specs.Working.{HasWorked, HasAll}

-- the passes of a lock are of it
pub fresh_locks : (lock : Lock) (passes : List PassState) → passes ≡ fresh_passes lock → All (λ (pass : PassState). pass.lock ≡ lock) passes
fresh_locks lock passes fresh =
    subst (All (λ (pass : PassState). pass.lock ≡ lock)) (sym fresh)
    (All-map (λ (pass : PassState). pass.lock ≡ lock) (fresh_pass lock) (range_with_len 0 (length lock.lists)) (λ k d lt. refl))

module _ (lock : Lock) (old passes : List PassState) (fresh : old ≡ fresh_passes lock) (worked : AllZip HasWorked old passes) where
  all_worked : AllZip HasWorked (fresh_passes lock) passes
  all_worked = subst (λ (ps : List PassState). AllZip HasWorked ps passes) fresh worked

  count : length passes ≡ length lock.lists
  count = sym (length_all_zip HasWorked (fresh_passes lock) passes all_worked) ∙ length-map-range_with_len (fresh_pass lock) 0 (length lock.lists)

  abbrev first : PassState
  first = fresh_pass lock 0

  -- what the worker of a list left
  at : (k : ℕ) → k < length lock.lists → HasWorked (fresh_pass lock k) (get_or passes k first)
  at k lt =
      let n = length lock.lists in
      let inside : k < length (fresh_passes lock) = subst (λ (m : ℕ). k < m) (sym (length-map-range_with_len (fresh_pass lock) 0 n)) lt in
      subst (λ (p : PassState). HasWorked p (get_or passes k first)) (get_or-map-range_with_len (fresh_pass lock) 0 n k k first lt (omega arith))
      (AllZip-get_or HasWorked (fresh_passes lock) passes k first first all_worked inside)

  pub locks : All (λ (pass : PassState). pass.lock ≡ lock) passes
  locks = All-from_get_or (λ (pass : PassState). pass.lock ≡ lock) passes first (λ k lt. (at k (subst (λ (m : ℕ). k < m) count lt)).lock)

  pub numbers : (number : ℕ) → number < length lock.lists → Contains (map (λ (pass : PassState). pass.progress.number) passes) number
  numbers k lt =
      let number_of : PassState → ℕ = λ pass. pass.progress.number in
      let inside : k < length passes = subst (λ (m : ℕ). k < m) (sym count) lt in (
        k,
        subst (λ (m : ℕ). k < m) (sym (length-map passes number_of)) inside,
        get_or-map number_of passes k first k inside ∙ (at k lt).number,
      )

  own : (history : History) → All (λ (pass : PassState). HasOwn pass history) passes → (k : ℕ) → k < length lock.lists →
      events_by (actor_of (list_at lock.lists k)) history ≡ map (λ (made : Step). made.event) (list_at lock.lists k)
  own history each k lt =
      let pass = get_or passes k first in
      let done = at k lt in
      let steps : list_of pass ≡ list_at lock.lists k = λ i. list_at (done.lock i).lists (done.number i) in
      let inside : k < length passes = subst (λ (m : ℕ). k < m) (sym count) lt in
      let has : HasOwn pass history = All-get_or (λ (p : PassState). HasOwn p history) passes k first inside each in
      ap (λ (l : List Step). events_by (actor_of l) history) (sym steps) ∙ has
      ∙ ap (λ (m : ℕ). events_first m (list_of pass)) done.spent
      ∙ ap (map (λ (made : Step). made.event)) (take-length (list_of pass) ∙ steps)

  pub has_all : (lists : List (List Step)) (history : History) → lock.lists ≡ lists → All (λ (pass : PassState). HasOwn pass history) passes →
      ((actor : Actor) → HasNoList lock.lists actor → events_by actor history ≡ []) →
      HasAll lists history
  has_all lists history same each no_other =
      subst (λ (ls : List (List Step)). HasAll ls history) same (record { own = own history each; no_other = no_other })
