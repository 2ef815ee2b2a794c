-- Extending: what is left of the scripts once steps were made, and a run that begins with these.
use Rattle.std.proofs.Common.{◌≡◌, ℕ, ◌+◌, ◌≤◌, zero, suc, true, false, List, [], ◌∷◌, ◌++◌, length, Option, Some, None, refl, sym, ap, ◌∙◌, subst, arith, inl, inr, append_assoc, append-nil}
use mathlib.Core.List.{IsPrefix}
use Rattle.std.proofs.lemmas.Bool.{cases_Bool}
use Rattle.std.proofs.lemmas.List.{nil_from_length}
use Rattle.cs_types.specs.declared.event.Actor.{Actor}
use Rattle.cs_types.specs.declared.event.Event.{Event}
use Rattle.cs_types.specs.declared.event.Step.{Step}
use Rattle.cs_types.specs.declared.reply.Entry.{Entry}
use Rattle.cs_types.specs.Scenario.{is_actor, script}
use Rattle.cs_types.specs.Room.{Opening}
use Rattle.cs_types.specs.History.{History, Moment, moment_of, entry_of, history_of, events_by}
use Rattle.cs_types.specs.Drain.{next_to_schedule, entry_by_end, IsEndFrom}
use Rattle.cs_laws.proofs.Histories.{moment_of-push, history_of-push, IsLegal-history_of, events_by-file}
use Rattle.cs_laws.proofs.Drains.{next_is_none}
use Rattle.cs_laws.proofs.Measures.{measure}
use Rattle.cs_laws.proofs.Drained.{measure-push, none_at_zero}
use Rattle.sibling_workers.specs.Race.{IsRaced, events_in}
use Rattle.sibling_workers.proofs.Own.{is_actor-same, same_actor, events_in-append}
use Rattle.trace_check.proofs.Advances.{events_own, events_other}

-- ---- one step out of a list

-- the first step of the actor stands there, and these are the others
record IsOut (actor : Actor) (event : Event) (more : List Event) (steps : List Step) : Type 0 where
  rest : List Step
  count : length steps ≡ length rest + 1
  own : events_in actor rest ≡ more
  others : (other : Actor) → is_actor actor other ≡ false → events_in other steps ≡ events_in other rest

out : (actor : Actor) (event : Event) (more : List Event) (steps : List Step) → events_in actor steps ≡ event ∷ more → IsOut actor event more steps
out actor event more [] is = absurd cc
out actor event more (step ∷ steps) is = elim (cases_Bool (is_actor step.actor actor)) [
  | inl own ↦
      let same : step.event ∷ events_in actor steps ≡ event ∷ more = sym (events_own actor step steps own) ∙ is in
      record {
        rest = steps;
        count = omega arith;
        own = cc;
        others = λ other differs.
            events_other other step steps
            (ap (λ (a : Actor). is_actor a other) (same_actor step.actor actor own) ∙ differs);
      }
  | inr not_own ↦
      let rest = out actor event more steps (sym (events_other actor step steps not_own) ∙ is) in
      record {
        rest = step ∷ rest.rest;
        count = let held = rest.count in omega (arith, held);
        own = events_other actor step rest.rest not_own ∙ rest.own;
        others = λ other differs. elim (cases_Bool (is_actor step.actor other)) [
          | inl its ↦
              events_own other step steps its
              ∙ ap (λ (events : List Event). step.event ∷ events) (rest.others other differs)
              ∙ sym (events_own other step rest.rest its)
          | inr not_its ↦ events_other other step steps not_its ∙ rest.others other differs ∙ sym (events_other other step rest.rest not_its)
        ];
      }
]

-- ---- what is left

-- some of these steps were made, each actor's in its order, and these are left
pub record Remains (steps made : List Step) : Type 0 where
  pub rest : List Step
  pub count : length made + length rest ≡ length steps
  pub events : (actor : Actor) → events_in actor steps ≡ events_in actor made ++ events_in actor rest

pub remains : (steps made : List Step) → ((actor : Actor) → IsPrefix (events_in actor made) (events_in actor steps)) → Remains steps made
remains steps [] prefix = record { rest = steps; count = omega arith; events = λ actor. refl }
remains steps (first ∷ made) prefix =
    let own : is_actor first.actor first.actor ≡ true = is_actor-same first.actor in
    let begun = prefix first.actor in
    let is : events_in first.actor steps ≡ first.event ∷ (events_in first.actor made ++ begun.0) =
    sym begun.1 ∙ ap (λ (events : List Event). events ++ begun.0) (events_own first.actor first made own) in
    let taken = out first.actor first.event _ steps is in
    let later = remains taken.rest made (λ actor. elim (cases_Bool (is_actor first.actor actor)) [
      | inl its ↦
          subst (λ (a : Actor). IsPrefix (events_in a made) (events_in a taken.rest)) (same_actor first.actor actor its) (begun.0, sym taken.own)
      | inr not_its ↦
          let of = prefix actor in
          (of.0, ap (λ (events : List Event). events ++ of.0) (sym (events_other actor first made not_its)) ∙ of.1 ∙ taken.others actor not_its)
    ]) in
    record {
      rest = later.rest;
      count = let all = taken.count in let held = later.count in omega (arith, all, held);
      events = λ actor. elim (cases_Bool (is_actor first.actor actor)) [
        | inl its ↦
            subst (λ (a : Actor). events_in a steps ≡ events_in a (first ∷ made) ++ events_in a later.rest) (same_actor first.actor actor its)
            (is
            ∙ ap (λ (events : List Event). first.event ∷ events) (sym taken.own ∙ later.events first.actor)
            ∙ ap (λ (events : List Event). events ++ events_in first.actor later.rest) (sym (events_own first.actor first made own)))
        | inr not_its ↦
            taken.others actor not_its ∙ later.events actor
            ∙ ap (λ (events : List Event). events ++ events_in actor later.rest) (sym (events_other actor first made not_its))
      ];
    }

-- once as many steps were made as there are, each actor has made its script
pub all_made : (steps made : List Step) → ((actor : Actor) → IsPrefix (events_in actor made) (events_in actor steps)) → length made ≡ length steps →
    (actor : Actor) → events_in actor made ≡ events_in actor steps
all_made steps made prefix count actor = go (remains steps made prefix) where
  go : Remains steps made → events_in actor made ≡ events_in actor steps
  go left =
      let none : left.rest ≡ [] = nil_from_length left.rest (let all = left.count in omega (arith, all, count)) in
      sym (left.events actor ∙ ap (λ (rest : List Step). events_in actor made ++ events_in actor rest) none ∙ append-nil (events_in actor made))

-- ---- the history of steps

-- with more steps it goes on
pub goes_on : (opening : Opening) (made rest : List Step) → (more : History) × (history_of opening (made ++ rest) ≡ history_of opening made ++ more)
goes_on opening made [] = ([], ap (history_of opening) (append-nil made) ∙ sym (append-nil (history_of opening made)))
goes_on opening made (step ∷ rest) =
    let past = history_of opening made in
    let entry = entry_of (moment_of opening past) step in
    let later = goes_on opening (made ++ step ∷ []) rest in (
      entry ∷ later.0,
      ap (history_of opening) (sym (append_assoc made (step ∷ []) rest)) ∙ later.1
          ∙ ap (λ (history : History). history ++ later.0) (history_of-push opening made step)
          ∙ append_assoc past (entry ∷ []) later.0,
    )

-- its events are those of the steps
pub events_of : (opening : Opening) (made : List Step) (actor : Actor) → events_by actor (history_of opening made) ≡ events_in actor made
events_of opening made actor = events_by-file (record opening { scenario = record opening.scenario { steps = made } }) actor

-- ---- the end

-- from each history on the final drain comes to its end
pub record Ends (opening : Opening) (past : History) : Type 0 where
  pub made : List Entry
  pub ends : IsEndFrom (moment_of opening past) made

ends_within : (n : ℕ) (opening : Opening) (past : History) → measure (moment_of opening past) ≤ n → Ends opening past
ends_within zero opening past low = record { made = []; ends = next_is_none (moment_of opening past) (none_at_zero (moment_of opening past) low) }
ends_within (suc k) opening past low = go (next_to_schedule (moment_of opening past)) refl (λ longer less. ends_within k opening longer less) where
  go : (who : Option ℕ) → next_to_schedule (moment_of opening past) ≡ who →
      ((longer : History) → measure (moment_of opening longer) ≤ k → Ends opening longer) → Ends opening past
  go None none shorter = record { made = []; ends = next_is_none (moment_of opening past) none }
  go (Some cpu) found shorter =
      let entry = entry_by_end (moment_of opening past) cpu in
      let less = measure-push opening past cpu found in
      let later = shorter (past ++ entry ∷ []) (omega (arith, less, low)) in
      record {
        made = entry ∷ later.made;
        ends = (cpu, found, refl, subst (λ (m : Moment). IsEndFrom m later.made) (moment_of-push opening past entry) later.ends);
      }

pub ends : (opening : Opening) (past : History) → Ends opening past
ends opening past = ends_within (measure (moment_of opening past)) opening past (omega arith)

-- ---- a run

-- a run whose first entries are those of these steps
pub record HasRun (opening : Opening) (made : List Step) : Type 0 where
  pub history : History
  pub raced : IsRaced opening history
  pub more : History
  pub is : history ≡ history_of opening made ++ more

pub has_run : (opening : Opening) (made : List Step) → ((actor : Actor) → IsPrefix (events_in actor made) (script opening.scenario actor)) → HasRun opening made
has_run opening made prefix =
    let left = remains opening.scenario.steps made prefix in
    let all = made ++ left.rest in
    let past = history_of opening all in
    let end = ends opening past in
    let on = goes_on opening made left.rest in
    record {
      history = past ++ end.made;
      raced = record {
        played = past;
        legal = IsLegal-history_of opening all;
        shuffle = λ actor. events_of opening all actor ∙ events_in-append actor made left.rest ∙ sym (left.events actor);
        drained = record { made = end.made; added = refl; ends = end.ends };
      };
      more = on.0 ++ end.made;
      is = ap (λ (history : History). history ++ end.made) on.1 ∙ append_assoc (history_of opening made) on.0 end.made;
    }
