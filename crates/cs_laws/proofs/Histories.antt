-- Histories: how a moment and a legal history go on by one step, and what holds of the history that steps make.
use Rattle.std.proofs.Common.{◌≡◌, ℕ, ◌+◌, ◌<◌, suc, true, false, cond, List, [], ◌∷◌, ◌++◌, map, length, take, get_or, refl, sym, ap, ◌∙◌, subst}
use Rattle.std.proofs.lemmas.List.{take_more}
use Rattle.std.specs.Prelude.{filter}
use Rattle.cs_types.specs.declared.event.Actor.{Actor}
use Rattle.cs_types.specs.declared.event.Event.{Event}
use Rattle.cs_types.specs.declared.event.Step.{Step}
use Rattle.cs_types.specs.declared.reply.Entry.{Entry}
use Rattle.cs_types.specs.declared.reply.Reply.{Reply}
use Rattle.cs_types.specs.Scenario.{is_actor, script}
use Rattle.cs_types.specs.Room.{Opening}
use Rattle.cs_types.specs.History.{History, Moment, beginning, step_at, next, after, moment_of, reply_to, IsLegal, events_by, entry_of, made_from, history_of, file}

-- one more entry is one more step
pub after-push : (moment : Moment) (entries : List Entry) (entry : Entry) →
    after moment (entries ++ entry ∷ []) ≡ next (after moment entries) entry
after-push moment [] entry = refl
after-push moment (first ∷ entries) entry = after-push (next moment first) entries entry

pub moment_of-push : (opening : Opening) (history : History) (entry : Entry) →
    moment_of opening (history ++ entry ∷ []) ≡ next (moment_of opening history) entry
moment_of-push opening history entry = after-push (beginning opening) history entry

-- one more step is one more entry
pub made_from-push : (moment : Moment) (steps : List Step) (made : Step) →
    made_from moment (steps ++ made ∷ []) ≡ made_from moment steps ++ entry_of (after moment (made_from moment steps)) made ∷ []
made_from-push moment [] made = refl
made_from-push moment (first ∷ steps) made =
    ap (λ (h : History). entry_of moment first ∷ h) (made_from-push (next moment (entry_of moment first)) steps made)

pub history_of-push : (opening : Opening) (steps : List Step) (made : Step) →
    history_of opening (steps ++ made ∷ [])
    ≡ history_of opening steps ++ entry_of (moment_of opening (history_of opening steps)) made ∷ []
history_of-push opening steps made = made_from-push (beginning opening) steps made

pub length-made_from : (moment : Moment) (steps : List Step) → length (made_from moment steps) ≡ length steps
length-made_from moment [] = refl
length-made_from moment (first ∷ steps) = ap suc (length-made_from (next moment (entry_of moment first)) steps)

pub length-history_of : (opening : Opening) (steps : List Step) → length (history_of opening steps) ≡ length steps
length-history_of opening steps = length-made_from (beginning opening) steps

-- each reply that steps make is the one at its place
legal_from : (moment : Moment) (steps : List Step) (prefix : History) (entry : Entry) (rest : List Entry) →
    made_from moment steps ≡ prefix ++ entry ∷ rest → entry.reply ≡ (step_at (after moment prefix) entry.event).reply
legal_from moment [] [] entry rest e = absurd cc
legal_from moment [] (x ∷ prefix) entry rest e = absurd cc
legal_from moment (first ∷ steps) [] entry rest e =
    let same : entry_of moment first ≡ entry = cc in
    subst (λ (x : Entry). x.reply ≡ (step_at moment x.event).reply) same refl
legal_from moment (first ∷ steps) (x ∷ prefix) entry rest e =
    let same : entry_of moment first ≡ x = cc in
    let tail : made_from (next moment (entry_of moment first)) steps ≡ prefix ++ entry ∷ rest = cc in
    subst (λ (y : Entry). entry.reply ≡ (step_at (after moment (y ∷ prefix)) entry.event).reply) same
    (legal_from (next moment (entry_of moment first)) steps prefix entry rest tail)

-- what steps make is legal
pub IsLegal-history_of : (opening : Opening) (steps : List Step) → IsLegal opening (history_of opening steps)
IsLegal-history_of opening steps past entry rest e = legal_from (beginning opening) steps past entry rest e

events_from : (actor : Actor) (moment : Moment) (steps : List Step) →
    events_by actor (made_from moment steps) ≡ map (λ made. made.event) (filter (λ made. is_actor made.actor actor) steps)
events_from actor moment [] = refl
events_from actor moment (first ∷ steps) =
    let rest = events_from actor (next moment (entry_of moment first)) steps in
    elim (is_actor first.actor actor) as (λ b. map (λ (e : Entry). e.event) (cond b (entry_of moment first ∷ filter (λ e. is_actor e.actor actor) (made_from (next moment (entry_of moment first)) steps)) (filter (λ e. is_actor e.actor actor) (made_from (next moment (entry_of moment first)) steps))) ≡ map (λ (m : Step). m.event) (cond b (first ∷ filter (λ m. is_actor m.actor actor) steps) (filter (λ m. is_actor m.actor actor) steps))) [
      | true ↦ ap (λ (es : List Event). first.event ∷ es) rest
      | false ↦ rest
    ]

-- in the file's history each actor makes its script
pub events_by-file : (opening : Opening) (actor : Actor) → events_by actor (file opening) ≡ script opening.scenario actor
events_by-file opening actor = events_from actor (beginning opening) opening.scenario.steps

-- ---- a list of steps that is made one by one

abbrev entry_with : Step → Reply → Entry
entry_with made reply = record { actor = made.actor; event = made.event; reply = reply }

-- the history of one more step of the list
pub history_more : (opening same : Opening) (steps : List Step) (i : ℕ) (d : Step) (past now : History) (reply : Reply) →
    i < length steps → past ≡ history_of opening (take i steps) → same ≡ opening →
    now ≡ past ++ record { actor = (get_or steps i d).actor; event = (get_or steps i d).event; reply = reply } ∷ [] →
    reply ≡ reply_to same past (get_or steps i d).event →
    now ≡ history_of opening (take (i + 1) steps)
history_more opening same steps i d past now reply lt so_far alike one_more told =
    let made = get_or steps i d in
    let told' : reply ≡ reply_to opening past made.event = told ∙ ap (λ (s : Opening). reply_to s past made.event) alike in
    one_more
    ∙ ap (λ (r : Reply). past ++ entry_with made r ∷ []) told'
    ∙ ap (λ (h : History). h ++ entry_of (moment_of opening h) made ∷ []) so_far
    ∙ sym (history_of-push opening (take i steps) made)
    ∙ ap (history_of opening) (sym (take_more steps i d lt))
