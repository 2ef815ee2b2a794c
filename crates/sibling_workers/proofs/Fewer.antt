-- Fewer: a history that has the events of these steps, actor by actor, has no more entries than there are steps.
use Rattle.std.proofs.Common.{◌≡◌, ◌+◌, ◌≤◌, suc, Bool, true, false, List, [], ◌∷◌, ◌++◌, map, length, refl, sym, ap, ◌∙◌, subst, inl, inr, arith}
use Rattle.std.specs.Prelude.{filter}
use mathlib.Core.Bool.{cond}
use Rattle.std.proofs.lemmas.Bool.{cases_Bool}
use Rattle.cs_types.specs.declared.event.Actor.{Actor}
use Rattle.cs_types.specs.declared.event.Event.{Event}
use Rattle.cs_types.specs.declared.event.Step.{Step}
use Rattle.cs_types.specs.declared.reply.Entry.{Entry}
use Rattle.cs_types.specs.Scenario.{is_actor}
use Rattle.cs_types.specs.History.{History, events_by}
use Rattle.sibling_workers.specs.Race.{events_in}
use Rattle.sibling_workers.proofs.Own.{is_actor-same, same_actor, events_in-append}

-- the steps without the actor's first
abbrev remove_first : Actor → List Step → List Step
remove_first actor [] = []
remove_first actor (s ∷ ss) = cond (is_actor s.actor actor) ss (s ∷ remove_first actor ss)

abbrev mine : Actor → List Step → List Step
mine actor steps = filter (λ (made : Step). is_actor made.actor actor) steps

abbrev entries : Actor → History → History
entries actor history = filter (λ (entry : Entry). is_actor entry.actor actor) history

abbrev events_if : Bool → Step → List Step → List Event
events_if b s steps = map (λ (made : Step). made.event) (cond b (s ∷ steps) steps)

tails : (x y : Event) (xs ys : List Event) → x ∷ xs ≡ y ∷ ys → xs ≡ ys
tails x y xs ys e = cc

-- another's step is passed over
passed_over : (actor : Actor) (s : Step) (ss : List Step) → is_actor s.actor actor ≡ false → events_in actor (s ∷ ss) ≡ events_in actor ss
passed_over actor s ss other = subst (λ (b : Bool). events_if b s (mine actor ss) ≡ events_in actor ss) (sym other) refl

entry_passed_over : (actor : Actor) (x : Entry) (xs : History) → is_actor x.actor actor ≡ false → events_by actor (x ∷ xs) ≡ events_by actor xs
entry_passed_over actor x xs other =
    subst (λ (b : Bool). map (λ (entry : Entry). entry.event) (cond b (x ∷ entries actor xs) (entries actor xs)) ≡ events_by actor xs) (sym other) refl

own_entry : (actor : Actor) (x : Entry) (xs : History) → is_actor x.actor actor ≡ true → events_by actor (x ∷ xs) ≡ x.event ∷ events_by actor xs
own_entry actor x xs own =
    subst (λ (b : Bool). map (λ (entry : Entry). entry.event) (cond b (x ∷ entries actor xs) (entries actor xs)) ≡ x.event ∷ events_by actor xs) (sym own) refl

removed_length : (actor : Actor) (steps : List Step) (e : Event) (es : List Event) → events_in actor steps ≡ e ∷ es →
    length steps ≡ length (remove_first actor steps) + 1
removed_length actor [] e es is = absurd cc
removed_length actor (s ∷ ss) e es is =
    let rest = remove_first actor ss in
    elim (cases_Bool (is_actor s.actor actor)) [
      | inl same ↦ subst (λ (b : Bool). suc (length ss) ≡ length (cond b ss (s ∷ rest)) + 1) (sym same) (omega arith)
      | inr other ↦
          let more = removed_length actor ss e es (sym (passed_over actor s ss other) ∙ is) in
          subst (λ (b : Bool). suc (length ss) ≡ length (cond b ss (s ∷ rest)) + 1) (sym other) (omega (arith, more))
    ]

removed_own : (actor : Actor) (steps : List Step) (e : Event) (es : List Event) → events_in actor steps ≡ e ∷ es →
    events_in actor (remove_first actor steps) ≡ es
removed_own actor [] e es is = absurd cc
removed_own actor (s ∷ ss) e es is =
    let rest = remove_first actor ss in
    elim (cases_Bool (is_actor s.actor actor)) [
      | inl same ↦
          let first : s.event ∷ events_in actor ss ≡ e ∷ es = subst (λ (b : Bool). events_if b s (mine actor ss) ≡ e ∷ es) same is in
          subst (λ (b : Bool). events_in actor (cond b ss (s ∷ rest)) ≡ es) (sym same) (tails s.event e (events_in actor ss) es first)
      | inr other ↦
          let more = removed_own actor ss e es (sym (passed_over actor s ss other) ∙ is) in
          subst (λ (b : Bool). events_in actor (cond b ss (s ∷ rest)) ≡ es) (sym other) (passed_over actor s rest other ∙ more)
    ]

removed_else : (actor by : Actor) (steps : List Step) → is_actor actor by ≡ false → events_in by (remove_first actor steps) ≡ events_in by steps
removed_else actor by [] else = refl
removed_else actor by (s ∷ ss) else =
    let rest = remove_first actor ss in
    elim (cases_Bool (is_actor s.actor actor)) [
      | inl same ↦
          let others = subst (λ (a : Actor). is_actor a by ≡ false) (sym (same_actor s.actor actor same)) else in
          subst (λ (b : Bool). events_in by (cond b ss (s ∷ rest)) ≡ events_in by (s ∷ ss)) (sym same) (sym (passed_over by s ss others))
      | inr other ↦
          let more : events_in by (s ∷ rest) ≡ events_in by (s ∷ ss) =
          events_in-append by (s ∷ []) rest ∙ ap (λ (es : List Event). events_in by (s ∷ []) ++ es) (removed_else actor by ss else)
          ∙ sym (events_in-append by (s ∷ []) ss)
          in
          subst (λ (b : Bool). events_in by (cond b ss (s ∷ rest)) ≡ events_in by (s ∷ ss)) (sym other) more
    ]

pub few_entries : (history : History) (steps : List Step) → ((actor : Actor) → events_by actor history ≡ events_in actor steps) → length history ≤ length steps
few_entries [] steps same = omega arith
few_entries (x ∷ xs) steps same =
    let actor = x.actor in
    let is : events_in actor steps ≡ x.event ∷ events_by actor xs = sym (same actor) ∙ own_entry actor x xs (is_actor-same actor) in
    let rest : (by : Actor) → events_by by xs ≡ events_in by (remove_first actor steps) =
    λ by. elim (cases_Bool (is_actor actor by)) [
      | inl own ↦ subst (λ (a : Actor). events_by a xs ≡ events_in a (remove_first actor steps)) (same_actor actor by own) (sym (removed_own actor steps x.event (events_by actor xs) is))
      | inr else ↦ sym (entry_passed_over by x xs else) ∙ same by ∙ sym (removed_else actor by steps else)
    ]
    in
    omega (arith, removed_length actor steps x.event (events_by actor xs) is, few_entries xs (remove_first actor steps) rest)
