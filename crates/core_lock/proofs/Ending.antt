-- Ending: what the room that is left tells of the passes.
use Rattle.std.proofs.Common.{◌≡◌, ℕ, ◌+◌, ◌<◌, ◌≤◌, List, [], map, length, get_or, sym, ap, ◌∙◌, subst, arith, Option, Some}
use Rattle.std.specs.Prelude.{All, Contains}
use Rattle.std.proofs.lemmas.List.Elements.{All-get_or, All-from_get_or, All-contains}
use mathlib.Core.Option.{some, some-injective}
use mathlib.Core.List.{IsPrefix}
use lib.ListN.{get_elem?, length-map}
use Rattle.std.proofs.lemmas.List.{get_or-map}
use Rattle.atomic_table.specs.Table.{Me, Final, Seen}
use Rattle.atomic_table.specs.Seated.{TableId}
use Rattle.cs_types.specs.declared.event.Actor.{Actor}
use Rattle.cs_types.specs.Room.{Opening}
use Rattle.cs_types.specs.History.{History, events_by}
use Rattle.core_lock.specs.declared.view.Progress.{Progress}
use Rattle.core_lock.specs.declared.view.Beginning.{Beginning}
use Rattle.core_lock.specs.declared.view.View.{View}
use Rattle.core_lock.specs.declared.view.View.TheVariants.{Idle}
use Rattle.core_lock.specs.Lists.{list_at, actor_of, HasNoList, events_first}
use Rattle.core_lock.specs.Board.{fresh, IsKept}
use Rattle.core_lock.specs.Passes.{Lock, PassState, HasOwn, lock_of}
use Rattle.core_lock.proofs.Dealing.{IsIn, IsLeft, closes}

-- each number of a list stands among what the seat has
covers : (lock : Lock) (passes : List PassState) (all : List Progress) → All (λ (pass : PassState). Contains all pass.progress) passes →
    (number : ℕ) → Contains (map (λ (pass : PassState). pass.progress.number) passes) number → (p : Progress) × Contains all p × (p.number ≡ number)
covers lock passes all has number there =
    let d : PassState = record { lock = lock; progress = fresh 0 } in
    let k = there.0 in
    let lt : k < length passes = omega (arith, there.1, length-map passes (λ (pass : PassState). pass.progress.number)) in
    let pass = get_or passes k d in (
      pass.progress,
      All-get_or (λ (p : PassState). Contains all p.progress) passes k d lt has,
      sym (get_or-map (λ (p : PassState). p.progress.number) passes k d number lt) ∙ there.2,
    )

module _ {R : Type 0} (opening : R → Opening) (history : R → History) (spare : R → ℕ) (key : Beginning R) where
  -- the room comes out of the slot
  pub comes_out : (lock : Lock) (table : TableId) (seat : ℕ) (me : Me (Option R) (View R)) (begun : Beginning R) (all : List Progress) (passes : List PassState) (words : List ℕ) (slots : List (Option R)) (taken : Option R) →
      lock_of opening spare table key ≡ lock → me ≡ (Idle begun all, []) → All (λ (pass : PassState). Contains all pass.progress) passes →
      ((number : ℕ) → number < length lock.lists → Contains (map (λ (pass : PassState). pass.progress.number) passes) number) →
      Final (Seen (IsKept opening history spare key) seat me.0) words slots → get_elem? slots 0 ≡ some taken → (room : R) × (taken ≡ Some room) × IsLeft opening history spare key room all
  comes_out lock table seat me begun all passes words slots taken view idle has numbers final took =
      let P : Me (Option R) (View R) → Type 0 = λ m. Final (Seen (IsKept opening history spare key) seat m.0) words slots in
      let left = closes opening history spare key seat begun all words slots
      (λ number lt. covers lock passes all has number (numbers number (subst (λ (l : Lock). number < length l.lists) view lt))) (subst P idle final)
      in
      (left.0, some-injective taken (Some left.0) (sym took ∙ left.1), left.2)

  module _ (lock : Lock) (table : TableId) (view : lock_of opening spare table key ≡ lock) (all : List Progress) (passes : List PassState)
      (of : All (λ (pass : PassState). pass.lock ≡ lock) passes) (has : All (λ (pass : PassState). Contains all pass.progress) passes) (room : R) (left : IsLeft opening history spare key room all) where
    pub left_opening : opening room ≡ lock.opening
    left_opening = left.opened ∙ ap (λ (l : Lock). l.opening) view

    pub left_spare : spare room + length (history room) ≡ lock.spare
    left_spare = left.spares ∙ ap (λ (l : Lock). l.spare) view

    pub left_no_other : (actor : Actor) → HasNoList lock.lists actor → events_by actor (history room) ≡ []
    left_no_other actor other =
        left.no_other actor (subst (λ (l : Lock). HasNoList l.lists actor) (sym view) other)

    abbrev nobody : PassState
    nobody = record { lock = lock; progress = fresh 0 }

    -- what is known of each pass
    each : (k : ℕ) → k < length passes → IsIn opening history spare key (history room) (get_or passes k nobody).progress
    each k lt = All-contains (IsIn opening history spare key (history room)) all (get_or passes k nobody).progress left.each (All-get_or (λ (pass : PassState). Contains all pass.progress) passes k nobody lt has)

    pub left_seen : All (λ (pass : PassState). IsPrefix pass.progress.seen (history room)) passes
    left_seen = All-from_get_or (λ (pass : PassState). IsPrefix pass.progress.seen (history room)) passes nobody (λ k lt. (each k lt).seen)

    pub left_note : All (λ (pass : PassState). pass.progress.note ≤ length (history room)) passes
    left_note = All-from_get_or (λ (pass : PassState). pass.progress.note ≤ length (history room)) passes nobody (λ k lt. (each k lt).note)

    pub left_own : All (λ (pass : PassState). HasOwn pass (history room)) passes
    left_own = All-from_get_or (λ (pass : PassState). HasOwn pass (history room)) passes nobody
        (λ k lt.
        let pass = get_or passes k nobody in
        let lists = ap (λ (l : Lock). l.lists) (view ∙ sym (All-get_or (λ (p : PassState). p.lock ≡ lock) passes k nobody lt of)) in
        subst (λ ls. events_by (actor_of (list_at ls pass.progress.number)) (history room) ≡ events_first pass.progress.made (list_at ls pass.progress.number)) lists (each k lt).own)
