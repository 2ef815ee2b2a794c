-- Turns: how the scripts and the history go on by one turn.
use Rattle.std.proofs.Common.{◌≡◌, Bool, List, [], ◌∷◌, ◌++◌, length, refl, sym, ap, ◌∙◌, inl, inr, append_assoc, append-nil, Some}
use Rattle.std.specs.Prelude.{filter, slice_get, All}
use Rattle.std.proofs.lemmas.Bool.{cases_Bool}
use Rattle.std.proofs.lemmas.List.Elements.{All-head, All-tail, All-weaker, All-filter, All-same, All-map}
use Rattle.cs_types.specs.declared.event.Actor.{Actor}
use Rattle.cs_types.specs.declared.event.Event.{Event}
use Rattle.cs_types.specs.declared.event.Step.{Step}
use Rattle.cs_types.specs.declared.reply.Reply.{Reply}
use Rattle.cs_types.specs.declared.reply.Entry.{Entry}
use Rattle.cs_types.specs.declared.scenario.Scenario.{Scenario}
use Rattle.cs_types.specs.Scenario.{is_actor, script, IsEvent, IsStep, IsPlayable}
use Rattle.cs_types.specs.History.{History, events_by}
use Rattle.sibling_workers.specs.Race.{events_in}
use Rattle.sibling_workers.proofs.Own.{is_actor-same}
use Rattle.scripted_room.specs.Scripts.{step_of}
use Rattle.scripted_room.specs.declared.turn.Turn.TheVariants.{Made, Finished}

abbrev entry_with : Actor → Event → Reply → Entry
entry_with actor event reply = record { actor = actor; event = event; reply = reply }

-- the events of an actor go on by its step
pub events_by-push : (a : Actor) (history : History) (actor : Actor) (event : Event) (reply : Reply) →
    events_by a (history ++ entry_with actor event reply ∷ []) ≡ events_by a history ++ events_in a (step_of actor event ∷ [])
events_by-push a [] actor event reply =
    elim (cases_Bool (is_actor actor a)) [
      | inl same ↦ simp same
      | inr other ↦ simp other
    ]
events_by-push a (x ∷ xs) actor event reply =
    let rest = events_by-push a xs actor event reply in
    elim (cases_Bool (is_actor x.actor a)) [
      | inl same ↦ simp (same, rest)
      | inr other ↦ simp (other, rest)
    ]

-- the scripts go on by a step that is taken from what is left and made
pub scripts_more : (scenario : Scenario) (history : History) (left rest : List Step) (actor : Actor) (event : Event) (reply : Reply) →
    ((a : Actor) → events_by a history ++ events_in a left ≡ script scenario a) →
    ((a : Actor) → events_in a left ≡ events_in a (step_of actor event ∷ []) ++ events_in a rest) →
    (a : Actor) → events_by a (history ++ entry_with actor event reply ∷ []) ++ events_in a rest ≡ script scenario a
scripts_more scenario history left rest actor event reply scripts taken a =
    ap (λ (es : List Event). es ++ events_in a rest) (events_by-push a history actor event reply)
    ∙ append_assoc (events_by a history) (events_in a (step_of actor event ∷ [])) (events_in a rest)
    ∙ ap (λ (es : List Event). events_by a history ++ es) (sym (taken a))
    ∙ scripts a

-- the script has the event where the entries have come to
pub script_at : (scenario : Scenario) (history : History) (left rest : List Step) (actor : Actor) (event : Event) →
    ((a : Actor) → events_by a history ++ events_in a left ≡ script scenario a) →
    ((a : Actor) → events_in a left ≡ events_in a (step_of actor event ∷ []) ++ events_in a rest) →
    events_by actor history ++ event ∷ events_in actor rest ≡ script scenario actor
script_at scenario history left rest actor event scripts taken =
    let own : events_in actor (step_of actor event ∷ []) ≡ event ∷ [] = simp (is_actor-same actor) in
    ap (λ (es : List Event). events_by actor history ++ (es ++ events_in actor rest)) (sym own)
    ∙ ap (λ (es : List Event). events_by actor history ++ es) (sym (taken actor))
    ∙ scripts actor

pub slice_get-append : (xs ys : List Event) (y : Event) → slice_get (xs ++ y ∷ ys) (length xs) ≡ Some y
slice_get-append [] ys y = refl
slice_get-append (x ∷ xs) ys y = slice_get-append xs ys y

-- what holds of each event holds of the one between two parts
each_middle : (P : Event → Type 0) (xs ys : List Event) (y : Event) → All P (xs ++ y ∷ ys) → P y
each_middle P [] ys y each = All-head P y ys each
each_middle P (x ∷ xs) ys y each = each_middle P xs ys y (All-tail P x (xs ++ y ∷ ys) each)

-- the events of a script keep their limits
pub script_event : (scenario : Scenario) (actor : Actor) (past rest : List Event) (event : Event) → IsPlayable scenario →
    past ++ event ∷ rest ≡ script scenario actor → IsEvent scenario.siblings event
script_event scenario actor past rest event playable is =
    let n = scenario.siblings in
    let own : Step → Bool = λ s. is_actor s.actor actor in
    let events = All-weaker (IsStep n) (λ s. IsEvent n s.event) (λ s step. step.event) scenario.steps playable.steps in
    let kept = All-filter own (λ s. IsEvent n s.event) scenario.steps events in
    each_middle (IsEvent n) past rest event
    (All-same (IsEvent n) (past ++ event ∷ rest) (script scenario actor) is (All-map (IsEvent n) (λ (s : Step). s.event) (filter own scenario.steps) kept))

-- where all of a list comes first, nothing follows
pub nothing_follows : (xs ys : List Event) → xs ++ ys ≡ xs → ys ≡ []
nothing_follows [] ys e = e
nothing_follows (x ∷ xs) ys e = nothing_follows xs ys cc

-- of two lists whose join is empty the second is empty
second_empty : (xs ys : List Event) → [] ≡ xs ++ ys → ys ≡ []
second_empty [] ys e = sym e
second_empty (x ∷ xs) ys e = absurd cc

-- an actor that has made its whole script makes no more
pub still_made : (scenario : Scenario) (past now : History) (left rest made : List Step) (a : Actor) →
    events_by a past ++ events_in a left ≡ script scenario a → events_by a now ++ events_in a rest ≡ script scenario a →
    events_in a left ≡ events_in a made ++ events_in a rest → events_by a past ≡ script scenario a → events_by a now ≡ script scenario a
still_made scenario past now left rest made a before after taken whole =
    let none : events_in a left ≡ [] = nothing_follows (events_by a past) (events_in a left) (before ∙ sym whole) in
    let none_after : events_in a rest ≡ [] = second_empty (events_in a made) (events_in a rest) (sym none ∙ taken) in
    sym (append-nil (events_by a now)) ∙ ap (λ (es : List Event). events_by a now ++ es) (sym none_after) ∙ after

-- a turn that made a step has not found the script made
pub made_not_finished : (reply : Reply) → Made reply ≡ Finished → ⊥
made_not_finished reply same = absurd cc

-- an actor to whom no step is left has made its whole script
pub whole_script : (scenario : Scenario) (history : History) (left : List Step) (actor : Actor) →
    events_by actor history ++ events_in actor left ≡ script scenario actor → events_in actor left ≡ [] → events_by actor history ≡ script scenario actor
whole_script scenario history left actor parts none =
    sym (append-nil (events_by actor history)) ∙ ap (λ (es : List Event). events_by actor history ++ es) (sym none) ∙ parts
