-- Workers: which actors have a list, as far as the order was gone through.
use Rattle.std.proofs.Common.{◌≡◌, ℕ, ◌+◌, Bool, true, false, List, [], ◌∷◌, ◌++◌, map, sym, ap, ◌∙◌, arith, append-nil}
use Rattle.std.specs.Prelude.{filter}
use Rattle.std.specs.List.{range_with_len}
use Rattle.std.proofs.lemmas.List.Elements.{filter-append}
use Rattle.std.proofs.lemmas.List.{map-append}
use Rattle.std.proofs.lemmas.List.FromFn.{map-range_with_len_more}
use Rattle.cs_types.specs.declared.event.Actor.{Actor}
use Rattle.cs_types.specs.declared.event.Step.{Step}
use Rattle.sibling_workers.specs.Race.{actor_at, has_step, steps_by}

-- the lists of the actors up to a place
abbrev pub lists_to : List Step → ℕ → List (List Step)
lists_to steps place = map (steps_by steps) (filter (has_step steps) (map actor_at (range_with_len 0 place)))

-- the next actor of the order passes the test, or is left out
passes_more : (p : Actor → Bool) (place : ℕ) → p (actor_at place) ≡ true →
    filter p (map actor_at (range_with_len 0 (place + 1))) ≡ filter p (map actor_at (range_with_len 0 place)) ++ actor_at place ∷ []
passes_more p place passes =
    ap (filter p) (map-range_with_len_more actor_at 0 place place (omega arith))
    ∙ filter-append p (map actor_at (range_with_len 0 place)) (actor_at place ∷ [])
    ∙ ap (λ (actors : List Actor). filter p (map actor_at (range_with_len 0 place)) ++ actors) (simp passes)

fails_more : (p : Actor → Bool) (place : ℕ) → p (actor_at place) ≡ false →
    filter p (map actor_at (range_with_len 0 (place + 1))) ≡ filter p (map actor_at (range_with_len 0 place))
fails_more p place fails =
    ap (filter p) (map-range_with_len_more actor_at 0 place place (omega arith))
    ∙ filter-append p (map actor_at (range_with_len 0 place)) (actor_at place ∷ [])
    ∙ ap (λ (actors : List Actor). filter p (map actor_at (range_with_len 0 place)) ++ actors) (simp fails)
    ∙ append-nil (filter p (map actor_at (range_with_len 0 place)))

-- one more list
pub lists_more : (steps : List Step) (place : ℕ) (lists now : List (List Step)) (own : List Step) (actor : Actor) → lists ≡ lists_to steps place →
    now ≡ lists ++ own ∷ [] → own ≡ steps_by steps actor → actor ≡ actor_at place → has_step steps actor ≡ true → now ≡ lists_to steps (place + 1)
lists_more steps place lists now own actor are more is at passes =
    more ∙ ap (λ (ls : List (List Step)). ls ++ own ∷ []) are
    ∙ ap (λ (l : List Step). lists_to steps place ++ l ∷ []) (is ∙ ap (steps_by steps) at)
    ∙ sym (map-append (steps_by steps) (filter (has_step steps) (map actor_at (range_with_len 0 place))) (actor_at place ∷ []))
    ∙ ap (map (steps_by steps)) (sym (passes_more (has_step steps) place (sym (ap (has_step steps) at) ∙ passes)))

-- an actor with no step has no list
pub lists_same : (steps : List Step) (place : ℕ) (lists : List (List Step)) (actor : Actor) → lists ≡ lists_to steps place →
    actor ≡ actor_at place → has_step steps actor ≡ false → lists ≡ lists_to steps (place + 1)
lists_same steps place lists actor are at fails =
    are ∙ ap (map (steps_by steps)) (sym (fails_more (has_step steps) place (sym (ap (has_step steps) at) ∙ fails)))
