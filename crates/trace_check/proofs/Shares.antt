-- Shares: a run whose output has the lines of the entries of these steps begins with these entries.
use Rattle.std.proofs.Common.{◌≡◌, ℕ, ◌+◌, ◌<◌, ◌≤◌, suc, List, [], ◌∷◌, ◌++◌, length, map, take, refl, sym, ap, ◌∙◌, subst, arith, inl, inr, append_assoc, append-nil}
use mathlib.Core.List.{IsPrefix}
use Rattle.std.specs.List.{flat_map, AllByRecursion}
use Rattle.std.specs.Prelude.{filter}
use Rattle.std.proofs.lemmas.Bool.{cases_Bool}
use Rattle.std.proofs.lemmas.List.{append_cancel_left, length-append, map-append}
use Rattle.std.proofs.lemmas.List.Elements.{filter-append, recursion_from_All}
use Rattle.cs_types.specs.declared.event.Actor.{Actor}
use Rattle.cs_types.specs.declared.event.Event.{Event}
use Rattle.cs_types.specs.declared.event.Step.{Step}
use Rattle.cs_types.specs.declared.reply.Entry.{Entry}
use Rattle.cs_types.specs.Scenario.{is_actor, script, IsStep, IsPlayable}
use Rattle.cs_types.specs.Room.{Opening}
use Rattle.cs_types.specs.History.{History, Moment, next, moment_of, entry_of, made_from, history_of, events_by}
use Rattle.cs_laws.proofs.Histories.{moment_of-push, history_of-push, length-history_of}
use Rattle.cs_laws.proofs.Drains.{IsLegal-drained}
use Rattle.scenario_text.specs.Text.{entry_text}
use Rattle.scenario_text.specs.Entry.{FitsReply}
use Rattle.sibling_workers.specs.Race.{IsRaced, events_in}
use Rattle.sibling_workers.proofs.Own.{is_actor-same, events_in-append}
use Rattle.trace_check.specs.Lines.{lines_of}
use Rattle.trace_check.specs.Scripts.{rank, BeginsWith}
use Rattle.trace_check.specs.Verdicts.{IsNext}
use Rattle.trace_check.specs.Following.{step_of}
use Rattle.trace_check.proofs.Actors.{no_feed, begins_with_one}
use Rattle.trace_check.proofs.Advances.{events_own}
use Rattle.trace_check.proofs.Known.{in_script, known_step, made_step}
use Rattle.trace_check.proofs.Runs.{entry_begins, text_begins, one_line}
use Rattle.trace_check.proofs.Extending.{events_of, remains}

-- ---- the events of entries

pub events_by-append : (actor : Actor) (past more : History) → events_by actor (past ++ more) ≡ events_by actor past ++ events_by actor more
events_by-append actor past more =
    ap (map (λ (e : Entry). e.event)) (filter-append (λ (e : Entry). is_actor e.actor actor) past more)
    ∙ map-append (λ (e : Entry). e.event) (filter (λ (e : Entry). is_actor e.actor actor) past) (filter (λ (e : Entry). is_actor e.actor actor) more)

events_by-own : (entry : Entry) (more : History) → events_by entry.actor (entry ∷ more) ≡ entry.event ∷ events_by entry.actor more
events_by-own entry more = rw (is_actor-same entry.actor) refl

-- ---- the steps of a shuffle are as many as those of the scenario

steps_of : History → List Step
steps_of history = map step_of history

events_in-steps : (actor : Actor) (history : History) → events_in actor (map step_of history) ≡ events_by actor history
events_in-steps actor [] = refl
events_in-steps actor (entry ∷ history) = elim (cases_Bool (is_actor entry.actor actor)) [
  | inl own ↦ rw own (ap (λ (events : List Event). entry.event ∷ events) (events_in-steps actor history))
  | inr other ↦ rw other (events_in-steps actor history)
]

kept_length : (history : History) → length (map step_of history) ≡ length history
kept_length [] = refl
kept_length (entry ∷ history) = ap suc (kept_length history)

none_left : (rest : List Step) → ((actor : Actor) → events_in actor rest ≡ []) → length rest ≡ 0
none_left [] none = refl
none_left (step ∷ rest) none =
    let some : step.event ∷ events_in step.actor rest ≡ [] =
    sym (events_own step.actor step rest (is_actor-same step.actor)) ∙ none step.actor in
    absurd cc

pub shuffle_length : (steps : List Step) (played : History) → ((actor : Actor) → events_by actor played ≡ events_in actor steps) → length played ≡ length steps
shuffle_length steps played shuffle =
    let made = map step_of played in
    let same : (actor : Actor) → events_in actor made ≡ events_in actor steps = λ actor. events_in-steps actor played ∙ shuffle actor in
    let left = remains steps made (λ actor. ([], append-nil (events_in actor made) ∙ same actor)) in
    let none = none_left left.rest (λ actor.
    sym (append_cancel_left (events_in actor made) [] (events_in actor left.rest) (append-nil (events_in actor made) ∙ same actor ∙ left.events actor))) in
    let all = left.count in
    let kept : length made ≡ length played = kept_length played in
    omega (arith, none, all, kept)

-- a run has an entry of each
pub long_run : (opening : Opening) (run : History) → IsRaced opening run → length opening.scenario.steps ≤ length run
long_run opening run raced =
    let whole = shuffle_length opening.scenario.steps raced.played raced.shuffle in
    let all = ap length raced.drained.added ∙ length-append raced.played raced.drained.made in
    omega (arith, whole, all)

-- ---- an entry before the final drain

-- where a list is a prefix of another, an element before its end stands in it
inside : (past : History) (entry : Entry) (more played end : History) → past ++ entry ∷ more ≡ played ++ end → length past < length played →
    (rest : History) × (played ≡ past ++ entry ∷ rest)
inside past entry more [] end is below = absurd (omega (arith, below))
inside [] entry more (first ∷ played) end is below = (played, cc)
inside (x ∷ past) entry more (first ∷ played) end is below =
    let same : x ≡ first = cc in
    let tail : past ++ entry ∷ more ≡ played ++ end = cc in
    let rest = inside past entry more played end tail (omega (arith, below)) in
    (rest.0, (λ i. sym same i ∷ rest.1 i))

-- it is of the next step of its actor
pub record IsStepAt (opening : Opening) (past : History) (entry : Entry) : Type 0 where
  pub known : rank entry.actor < 24
  pub next : IsNext opening.scenario past (step_of entry)
  pub limits : IsStep opening.scenario.siblings (step_of entry)
  pub is : entry ≡ entry_of (moment_of opening past) (step_of entry)

pub step_at : (opening : Opening) (run past more : History) (entry : Entry) → IsPlayable opening.scenario → IsRaced opening run →
    run ≡ past ++ entry ∷ more → length past < length opening.scenario.steps → IsStepAt opening past entry
step_at opening run past more entry playable raced is below =
    let played = raced.played in
    let long = shuffle_length opening.scenario.steps played raced.shuffle in
    let here = inside past entry more played raced.drained.made (sym is ∙ raced.drained.added) (omega (arith, long, below)) in
    let events : events_by entry.actor past ++ entry.event ∷ events_by entry.actor here.0 ≡ script opening.scenario entry.actor =
    ap (λ (es : List Event). events_by entry.actor past ++ es) (sym (events_by-own entry here.0))
    ∙ sym (events_by-append entry.actor past (entry ∷ here.0))
    ∙ ap (events_by entry.actor) (sym here.1)
    ∙ raced.shuffle entry.actor in
    let legal = IsLegal-drained opening played run raced.legal raced.drained in
    let own = of_script opening entry (events_by entry.actor past) (events_by entry.actor here.0) playable events in
    record {
      known = known_step opening.scenario.siblings entry.actor entry.event playable.siblings.1 own;
      next = (events_by entry.actor here.0, append_assoc (events_by entry.actor past) (entry.event ∷ []) (events_by entry.actor here.0) ∙ events);
      limits = own;
      is = λ i. record { actor = entry.actor; event = entry.event; reply = legal past entry more is i };
    }
  where
    of_script : (opening : Opening) (entry : Entry) (before after : List Event) → IsPlayable opening.scenario →
        before ++ entry.event ∷ after ≡ script opening.scenario entry.actor → IsStep opening.scenario.siblings (step_of entry)
    of_script opening entry before after playable is =
        in_script (IsStep opening.scenario.siblings) entry.actor opening.scenario.steps entry.event before after
        (recursion_from_All (IsStep opening.scenario.siblings) opening.scenario.steps playable.steps) (sym is)

-- ---- the entries are those of the steps

-- two texts that begin with an actor's word have one first line only if the actor is one
same_begin : (one other : Entry) (rest : List ℕ) → rank one.actor < 24 → rank other.actor < 24 → (more : List (List ℕ)) →
    lines_of (entry_text one ++ rest) ≡ entry_text other ∷ more → one.actor ≡ other.actor
same_begin one other rest known also more is =
    let begun = entry_begins one rest (no_feed one.actor known) in
    let line : begun.line ≡ entry_text other = (let both : begun.line ∷ begun.more ≡ entry_text other ∷ more = sym begun.lines ∙ is in cc) in
    begins_with_one (entry_text other) one.actor other.actor known also (subst (BeginsWith one.actor) line begun.begins) (text_begins other)

-- the first of so many lines, and the others
first_of : (n : ℕ) (lines : List (List ℕ)) (line : List ℕ) (more : List (List ℕ)) → take (suc n) lines ≡ line ∷ more →
    (rest : List (List ℕ)) × (lines ≡ line ∷ rest)
first_of n [] line more is = absurd cc
first_of n (x ∷ lines) line more is = let same : x ≡ line = cc in (lines, ap (λ (l : List ℕ). l ∷ lines) same)

rest_of : (n : ℕ) (lines : List (List ℕ)) (line : List ℕ) (more : List (List ℕ)) → take (suc n) (line ∷ lines) ≡ line ∷ more → take n lines ≡ more
rest_of n lines line more is = cc

same_step : (one other : Step) → one.actor ≡ other.actor → one.event ≡ other.event → one ≡ other
same_step one other who what =
    ap (λ (a : Actor). record { actor = a; event = one.event }) who ∙ ap (λ (e : Event). record { actor = other.actor; event = e }) what

-- the next step of an actor is one
pub same_event : (opening : Opening) (past : History) (one other : Step) → one.actor ≡ other.actor → IsNext opening.scenario past one →
    IsNext opening.scenario past other → one ≡ other
same_event opening past one other who is also =
    let its : IsPrefix (events_by other.actor past ++ one.event ∷ []) (script opening.scenario other.actor) =
    subst (λ (a : Actor). IsPrefix (events_by a past ++ one.event ∷ []) (script opening.scenario a)) who is in
    let both : one.event ∷ its.0 ≡ other.event ∷ also.0 =
    append_cancel_left (events_by other.actor past) (one.event ∷ its.0) (other.event ∷ also.0)
    (sym (append_assoc (events_by other.actor past) (one.event ∷ []) its.0) ∙ its.1 ∙ sym also.1
    ∙ append_assoc (events_by other.actor past) (other.event ∷ []) also.0) in
    let event : one.event ≡ other.event = cc in
    same_step one other who event

-- the first entries of a run are those of these steps
pub record BeginsRun (moment : Moment) (back : List Step) (more : History) : Type 0 where
  pub rest : History
  pub is : more ≡ made_from moment back ++ rest

-- each of these steps is the next of its actor when it is made
abbrev pub AreNext : Opening → List Step → List Step → Type 0
AreNext opening front back = (actor : Actor) → IsPrefix (events_in actor (front ++ back)) (script opening.scenario actor)

-- the first of these is
first_next : (opening : Opening) (front back : List Step) (past : History) (step : Step) → past ≡ history_of opening front →
    AreNext opening front (step ∷ back) → IsNext opening.scenario past step
first_next opening front back past step is are =
    let prefix = are step.actor in
    let done : events_by step.actor past ≡ events_in step.actor front = ap (events_by step.actor) is ∙ events_of opening front step.actor in (
      events_in step.actor back ++ prefix.0,
      ap (λ (es : List Event). (es ++ step.event ∷ []) ++ (events_in step.actor back ++ prefix.0)) done
          ∙ append_assoc (events_in step.actor front) (step.event ∷ []) (events_in step.actor back ++ prefix.0)
          ∙ sym (append_assoc (events_in step.actor front) (step.event ∷ events_in step.actor back) prefix.0)
          ∙ ap (λ (es : List Event). (events_in step.actor front ++ es) ++ prefix.0) (sym (events_own step.actor step back (is_actor-same step.actor)))
          ∙ ap (λ (es : List Event). es ++ prefix.0) (sym (events_in-append step.actor front (step ∷ back)))
          ∙ prefix.1,
    )

pub shares : (opening : Opening) (run : History) → IsPlayable opening.scenario → IsRaced opening run → (back front : List Step) (past more : History) (moment : Moment) →
    past ≡ history_of opening front → moment ≡ moment_of opening past → run ≡ past ++ more → length front + length back ≤ length opening.scenario.steps →
    AreNext opening front back → AllByRecursion (IsStep opening.scenario.siblings) back →
    AllByRecursion (λ entry. FitsReply entry.reply) (made_from moment back) → (tail : List ℕ) →
    take (length back) (lines_of (flat_map entry_text more ++ tail)) ≡ map entry_text (made_from moment back) → BeginsRun moment back more
shares opening run playable raced [] front past more moment is at split few are limits fits tail same = record { rest = more; is = refl }
shares opening run playable raced (step ∷ back) front past [] moment is at split few are limits fits tail same =
    let all = long_run opening run raced in
    let long : length run ≡ length past = ap length (split ∙ append-nil past) in
    let front_long : length past ≡ length front = ap length is ∙ length-history_of opening front in
    absurd (omega (arith, long, all, front_long, few))
shares opening run playable raced (step ∷ back) front past (entry ∷ more) moment is at split few are limits fits tail same =
    let n = opening.scenario.siblings in
    let made = entry_of moment step in
    let front_long : length past ≡ length front = ap length is ∙ length-history_of opening front in
    let here = step_at opening run past more entry playable raced split (omega (arith, front_long, few)) in
    let next_is = first_next opening front back past step is are in
    let known = known_step n step.actor step.event playable.siblings.1 limits.0 in
    let text = flat_map entry_text more ++ tail in
    let whole : flat_map entry_text (entry ∷ more) ++ tail ≡ entry_text entry ++ text = append_assoc (entry_text entry) (flat_map entry_text more) tail in
    let first = first_of (length back) (lines_of (entry_text entry ++ text)) (entry_text made) (map entry_text (made_from (next moment made) back))
    (ap (λ (t : List ℕ). take (suc (length back)) (lines_of t)) (sym whole) ∙ same) in
    let who : entry.actor ≡ step.actor = same_begin entry made text here.known known first.0 first.1 in
    let what : step_of entry ≡ step = same_event opening past (step_of entry) step who here.next next_is in
    let one : entry ≡ made =
    here.is ∙ ap (entry_of (moment_of opening past)) what ∙ ap (λ (m : Moment). entry_of m step) (sym at) in
    let line = one_line made text (made_step n step.actor step.event playable.siblings.1 limits.0) fits.0 in
    let later : take (length back) (lines_of text) ≡ map entry_text (made_from (next moment made) back) =
    rest_of (length back) (lines_of text) (entry_text made) (map entry_text (made_from (next moment made) back))
    (sym (ap (λ (ls : List (List ℕ)). take (suc (length back)) ls) (ap (λ (e : Entry). lines_of (entry_text e ++ text)) one ∙ line))
    ∙ ap (λ (t : List ℕ). take (suc (length back)) (lines_of t)) (sym whole) ∙ same) in
    let pushed : next moment made ≡ moment_of opening (past ++ made ∷ []) = ap (λ (m : Moment). next m made) at ∙ sym (moment_of-push opening past made) in
    let past_is : past ++ made ∷ [] ≡ history_of opening (front ++ step ∷ []) =
    ap (λ (m : Moment). past ++ entry_of m step ∷ []) at
    ∙ ap (λ (h : History). h ++ entry_of (moment_of opening h) step ∷ []) is
    ∙ sym (history_of-push opening front step) in
    let split_is : run ≡ (past ++ made ∷ []) ++ more =
    split ∙ ap (λ (e : Entry). past ++ e ∷ more) one ∙ sym (append_assoc past (made ∷ []) more) in
    let longer = length-append front (step ∷ []) in
    let rest =
    shares opening run playable raced back (front ++ step ∷ []) (past ++ made ∷ []) more (next moment made) past_is pushed split_is (omega (arith, few, longer))
    (λ actor. subst (λ (steps : List Step). IsPrefix (events_in actor steps) (script opening.scenario actor)) (sym (append_assoc front (step ∷ []) back)) (are actor))
    limits.1 fits.1 tail later in
    record { rest = rest.rest; is = ap (λ (e : Entry). e ∷ more) one ∙ ap (λ (h : History). made ∷ h) rest.is }
