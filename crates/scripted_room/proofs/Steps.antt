-- Steps: how the events of an actor's steps that are left change where one is added or taken.
use Rattle.std.proofs.Common.{◌≡◌, ℕ, zero, suc, ◌+◌, ◌<◌, true, false, List, [], ◌∷◌, ◌++◌, map, length, take, drop, get_or, set, refl, sym, ap, ◌∙◌, subst, inl, inr, arith, length-append, append_assoc, append-nil, drop-cons}
use Rattle.std.specs.Prelude.{◌⊎◌, IfSome, slice_get}
use Rattle.std.proofs.lemmas.Bool.{cases_Bool}
use Rattle.std.proofs.lemmas.List.{take_more}
use Rattle.cs_types.specs.declared.event.Actor.{Actor}
use Rattle.cs_types.specs.declared.event.Event.{Event}
use Rattle.cs_types.specs.declared.event.Step.{Step}
use Rattle.cs_types.specs.Scenario.{is_actor}
use Rattle.sibling_workers.specs.Race.{events_in}
use Rattle.sibling_workers.proofs.Own.{same_actor, events_in-append}
use Rattle.scripted_room.specs.declared.script.Script.{Script}
use Rattle.scripted_room.specs.Scripts.{step_of, steps_from, steps_left}

next_number : (k : ℕ) → suc k ≡ k + 1
next_number k = omega arith

-- another actor has no event among these
pub events_in-others : (by actor : Actor) (events : List Event) → is_actor by actor ≡ false → events_in actor (map (step_of by) events) ≡ []
events_in-others by actor [] other = refl
events_in-others by actor (e ∷ es) other = let rest = events_in-others by actor es other in simp (other, rest)

-- a step is the actor's own, or has no event of it
pub own_or_none : (made : Step) (actor : Actor) → (events_in actor (made ∷ []) ≡ []) ⊎ (made.actor ≡ actor)
own_or_none made actor =
    elim (cases_Bool (is_actor made.actor actor)) [
      | inl same ↦ inr (same_actor made.actor actor same)
      | inr other ↦ inl (simp other)
    ]

-- what holds of the script that is at a place holds of the one that is read there
pub read_at : (scripts : List Script) (k : ℕ) (d : Script) (P : Script → Type 0) → k < length scripts → IfSome (slice_get scripts k) P → P (get_or scripts k d)
read_at [] k d P lt h = absurd (omega arith)
read_at (s ∷ ss) zero d P lt h = h
read_at (s ∷ ss) (suc k) d P lt h = read_at ss k d P (omega arith) h

-- ---- all scripts

pub steps_left-append : (xs ys : List Script) → steps_left (xs ++ ys) ≡ steps_left xs ++ steps_left ys
steps_left-append [] ys = refl
steps_left-append (x ∷ xs) ys =
    ap (λ (steps : List Step). steps_from x ++ steps) (steps_left-append xs ys)
    ∙ sym (append_assoc (steps_from x) (steps_left xs) (steps_left ys))

-- the steps before a script, its own, and those after it
left_split : (scripts : List Script) (k : ℕ) (d : Script) → k < length scripts →
    steps_left scripts ≡ steps_left (take k scripts) ++ (steps_from (get_or scripts k d) ++ steps_left (drop (suc k) scripts))
left_split [] k d lt = absurd (omega arith)
left_split (s ∷ ss) zero d lt = refl
left_split (s ∷ ss) (suc k) d lt =
    ap (λ (steps : List Step). steps_from s ++ steps) (left_split ss k d (omega arith))
    ∙ sym (append_assoc (steps_from s) (steps_left (take k ss)) (steps_from (get_or ss k d) ++ steps_left (drop (suc k) ss)))

left_set : (scripts : List Script) (k : ℕ) (new : Script) → k < length scripts →
    steps_left (set scripts k new) ≡ steps_left (take k scripts) ++ (steps_from new ++ steps_left (drop (suc k) scripts))
left_set [] k new lt = absurd (omega arith)
left_set (s ∷ ss) zero new lt = refl
left_set (s ∷ ss) (suc k) new lt =
    ap (λ (steps : List Step). steps_from s ++ steps) (left_set ss k new (omega arith))
    ∙ sym (append_assoc (steps_from s) (steps_left (take k ss)) (steps_from new ++ steps_left (drop (suc k) ss)))

pub steps_left-split : (scripts : List Script) (k : ℕ) (d : Script) → k < length scripts →
    steps_left scripts ≡ steps_left (take k scripts) ++ (steps_from (get_or scripts k d) ++ steps_left (drop (k + 1) scripts))
steps_left-split scripts k d lt =
    subst (λ (n : ℕ). steps_left scripts ≡ steps_left (take k scripts) ++ (steps_from (get_or scripts k d) ++ steps_left (drop n scripts))) (next_number k) (left_split scripts k d lt)

pub steps_left-set : (scripts : List Script) (k : ℕ) (new : Script) → k < length scripts →
    steps_left (set scripts k new) ≡ steps_left (take k scripts) ++ (steps_from new ++ steps_left (drop (k + 1) scripts))
steps_left-set scripts k new lt =
    subst (λ (n : ℕ). steps_left (set scripts k new) ≡ steps_left (take k scripts) ++ (steps_from new ++ steps_left (drop n scripts))) (next_number k) (left_set scripts k new lt)

-- the events of three parts
events_of_parts : (actor : Actor) (xs ys zs : List Step) →
    events_in actor (xs ++ (ys ++ zs)) ≡ events_in actor xs ++ (events_in actor ys ++ events_in actor zs)
events_of_parts actor xs ys zs =
    events_in-append actor xs (ys ++ zs) ∙ ap (λ (es : List Event). events_in actor xs ++ es) (events_in-append actor ys zs)

-- what is put behind the middle part is put behind all, where it or the last part is empty
put_behind : (p q e z : List Event) → (e ≡ []) ⊎ (z ≡ []) → p ++ ((q ++ e) ++ z) ≡ (p ++ (q ++ z)) ++ e
put_behind p q e z (inl none) = simp (none, append_assoc, append-nil)
put_behind p q e z (inr none) = simp (none, append_assoc, append-nil)

-- what is put before the middle part is put before all, where it or the first part is empty
put_before : (p q e z : List Event) → (e ≡ []) ⊎ (p ≡ []) → p ++ ((e ++ q) ++ z) ≡ e ++ (p ++ (q ++ z))
put_before p q e z (inl none) = simp (none, append_assoc)
put_before p q e z (inr none) = simp (none, append_assoc)

-- a step put at the end of the last script of its actor is the actor's last step
pub events_in-pushed : (scripts : List Script) (k : ℕ) (d new : Script) (made : Step) → k < length scripts →
    steps_from new ≡ steps_from (get_or scripts k d) ++ made ∷ [] →
    events_in made.actor (steps_left (drop (k + 1) scripts)) ≡ [] →
    (actor : Actor) → events_in actor (steps_left (set scripts k new)) ≡ events_in actor (steps_left scripts) ++ events_in actor (made ∷ [])
events_in-pushed scripts k d new made lt grown last actor =
    let before = steps_left (take k scripts) in
    let own = steps_from (get_or scripts k d) in
    let behind = steps_left (drop (k + 1) scripts) in
    let none : (events_in actor (made ∷ []) ≡ []) ⊎ (events_in actor behind ≡ []) =
    elim (own_or_none made actor) [
      | inl other ↦ inl other
      | inr same ↦ inr (subst (λ (a : Actor). events_in a behind ≡ []) same last)
    ]
    in
    ap (events_in actor) (steps_left-set scripts k new lt)
    ∙ events_of_parts actor before (steps_from new) behind
    ∙ ap (λ (steps : List Step). events_in actor before ++ (events_in actor steps ++ events_in actor behind)) grown
    ∙ ap (λ (es : List Event). events_in actor before ++ (es ++ events_in actor behind)) (events_in-append actor own (made ∷ []))
    ∙ put_behind (events_in actor before) (events_in actor own) (events_in actor (made ∷ [])) (events_in actor behind) none
    ∙ ap (λ (es : List Event). es ++ events_in actor (made ∷ [])) (sym (events_of_parts actor before own behind))
    ∙ ap (λ (steps : List Step). events_in actor steps ++ events_in actor (made ∷ [])) (sym (steps_left-split scripts k d lt))

-- a step taken from the first script of its actor that has one is the actor's first step
pub events_in-taken : (scripts : List Script) (k : ℕ) (d new : Script) (made : Step) → k < length scripts →
    steps_from (get_or scripts k d) ≡ made ∷ steps_from new →
    events_in made.actor (steps_left (take k scripts)) ≡ [] →
    (actor : Actor) → events_in actor (steps_left scripts) ≡ events_in actor (made ∷ []) ++ events_in actor (steps_left (set scripts k new))
events_in-taken scripts k d new made lt shrunk first actor =
    let before = steps_left (take k scripts) in
    let rest = steps_from new in
    let behind = steps_left (drop (k + 1) scripts) in
    let none : (events_in actor (made ∷ []) ≡ []) ⊎ (events_in actor before ≡ []) =
    elim (own_or_none made actor) [
      | inl other ↦ inl other
      | inr same ↦ inr (subst (λ (a : Actor). events_in a before ≡ []) same first)
    ]
    in
    ap (events_in actor) (steps_left-split scripts k d lt)
    ∙ events_of_parts actor before (steps_from (get_or scripts k d)) behind
    ∙ ap (λ (steps : List Step). events_in actor before ++ (events_in actor steps ++ events_in actor behind)) shrunk
    ∙ ap (λ (es : List Event). events_in actor before ++ (es ++ events_in actor behind)) (events_in-append actor (made ∷ []) rest)
    ∙ put_before (events_in actor before) (events_in actor rest) (events_in actor (made ∷ [])) (events_in actor behind) none
    ∙ ap (λ (es : List Event). events_in actor (made ∷ []) ++ es) (sym (events_of_parts actor before rest behind))
    ∙ ap (λ (steps : List Step). events_in actor (made ∷ []) ++ events_in actor steps) (sym (steps_left-set scripts k new lt))

-- a script that has one step more
pub length-pushed : (scripts : List Script) (k : ℕ) (d new : Script) (made : Step) → k < length scripts →
    steps_from new ≡ steps_from (get_or scripts k d) ++ made ∷ [] →
    length (steps_left (set scripts k new)) ≡ length (steps_left scripts) + 1
length-pushed scripts k d new made lt grown =
    omega (
      arith,
      ap (length {A = Step}) (steps_left-set scripts k new lt),
      ap (length {A = Step}) (steps_left-split scripts k d lt),
      ap (length {A = Step}) grown,
      length-append (steps_left (take k scripts)) (steps_from new ++ steps_left (drop (k + 1) scripts)),
      length-append (steps_from new) (steps_left (drop (k + 1) scripts)),
      length-append (steps_left (take k scripts)) (steps_from (get_or scripts k d) ++ steps_left (drop (k + 1) scripts)),
      length-append (steps_from (get_or scripts k d)) (steps_left (drop (k + 1) scripts)),
      length-append (steps_from (get_or scripts k d)) (made ∷ []),
    )

-- a script that has one step less
pub length-taken : (scripts : List Script) (k : ℕ) (d new : Script) (made : Step) → k < length scripts →
    steps_from (get_or scripts k d) ≡ made ∷ steps_from new →
    length (steps_left scripts) ≡ length (steps_left (set scripts k new)) + 1
length-taken scripts k d new made lt shrunk =
    omega (
      arith,
      ap (length {A = Step}) (steps_left-set scripts k new lt),
      ap (length {A = Step}) (steps_left-split scripts k d lt),
      ap (length {A = Step}) shrunk,
      length-append (steps_left (take k scripts)) (steps_from new ++ steps_left (drop (k + 1) scripts)),
      length-append (steps_from new) (steps_left (drop (k + 1) scripts)),
      length-append (steps_left (take k scripts)) (steps_from (get_or scripts k d) ++ steps_left (drop (k + 1) scripts)),
      length-append (steps_from (get_or scripts k d)) (steps_left (drop (k + 1) scripts)),
    )

-- ---- searches

-- the scripts from one on have no event of an actor where that one is another's and those after it have none
pub none_from : (scripts : List Script) (k : ℕ) (d : Script) (actor : Actor) → k < length scripts →
    is_actor (get_or scripts k d).actor actor ≡ false → events_in actor (steps_left (drop (k + 1) scripts)) ≡ [] →
    events_in actor (steps_left (drop k scripts)) ≡ []
none_from scripts k d actor lt other rest =
    let s = get_or scripts k d in
    ap (λ (ss : List Script). events_in actor (steps_left ss)) (drop-cons scripts k d lt ∙ ap (λ (n : ℕ). s ∷ drop n scripts) (next_number k))
    ∙ events_in-append actor (steps_from s) (steps_left (drop (k + 1) scripts))
    ∙ ap (λ (es : List Event). es ++ events_in actor (steps_left (drop (k + 1) scripts))) (events_in-others s.actor actor (drop s.place s.events.items) other)
    ∙ rest

-- the scripts up to one have no event of an actor where it and those before it have none
pub none_to : (scripts : List Script) (k : ℕ) (d : Script) (actor : Actor) → k < length scripts →
    events_in actor (steps_from (get_or scripts k d)) ≡ [] → events_in actor (steps_left (take k scripts)) ≡ [] →
    events_in actor (steps_left (take (k + 1) scripts)) ≡ []
none_to scripts k d actor lt own before =
    let s = get_or scripts k d in
    ap (λ (ss : List Script). events_in actor (steps_left ss)) (take_more scripts k d lt)
    ∙ ap (events_in actor) (steps_left-append (take k scripts) (s ∷ []))
    ∙ events_in-append actor (steps_left (take k scripts)) (steps_from s ++ [])
    ∙ ap (λ (es : List Event). es ++ events_in actor (steps_from s ++ [])) before
    ∙ events_in-append actor (steps_from s) []
    ∙ ap (λ (es : List Event). es ++ []) own

-- the steps of a script with one event
pub steps_left-one : (script : Script) (made : Step) → script.actor ≡ made.actor → script.place ≡ 0 → script.events.items ≡ made.event ∷ [] →
    steps_left (script ∷ []) ≡ made ∷ []
steps_left-one script made actor place events =
    ap (λ (a : Actor). map (step_of a) (drop script.place script.events.items) ++ []) actor
    ∙ ap (λ (k : ℕ). map (step_of made.actor) (drop k script.events.items) ++ []) place
    ∙ ap (λ (es : List Event). map (step_of made.actor) es ++ []) events

-- one more script, of one step
pub events_in-new : (scripts all : List Script) (script : Script) (made : Step) → all ≡ scripts ++ script ∷ [] →
    script.actor ≡ made.actor → script.place ≡ 0 → script.events.items ≡ made.event ∷ [] →
    (actor : Actor) → events_in actor (steps_left all) ≡ events_in actor (steps_left scripts) ++ events_in actor (made ∷ [])
events_in-new scripts all script made more by place events actor =
    ap (λ (ss : List Script). events_in actor (steps_left ss)) more
    ∙ ap (events_in actor) (steps_left-append scripts (script ∷ []))
    ∙ events_in-append actor (steps_left scripts) (steps_left (script ∷ []))
    ∙ ap (λ (steps : List Step). events_in actor (steps_left scripts) ++ events_in actor steps) (steps_left-one script made by place events)

pub length-new : (scripts all : List Script) (script : Script) (made : Step) → all ≡ scripts ++ script ∷ [] →
    script.actor ≡ made.actor → script.place ≡ 0 → script.events.items ≡ made.event ∷ [] →
    length (steps_left all) ≡ length (steps_left scripts) + 1
length-new scripts all script made more by place events =
    ap (λ (ss : List Script). length (steps_left ss)) more
    ∙ ap (length {A = Step}) (steps_left-append scripts (script ∷ []))
    ∙ length-append (steps_left scripts) (steps_left (script ∷ []))
    ∙ ap (λ (steps : List Step). length (steps_left scripts) + length steps) (steps_left-one script made by place events)

-- ---- what the calls do

-- what is asked of the script that was found holds of the one that is lent
found_at : (scripts seen : List Script) (k : ℕ) (old : Script) (P : Script → Type 0) → seen ≡ scripts → k < length seen →
    old ≡ get_or scripts k old → IfSome (slice_get seen k) P → P old
found_at scripts seen k old P is lt lent asked =
    subst P (sym lent) (read_at scripts k old P (subst (λ (ss : List Script). k < length ss) is lt) (subst (λ (ss : List Script). IfSome (slice_get ss k) P) is asked))

-- the script at a place, with one more step of its actor
pub pushed_at : (scripts seen : List Script) (k : ℕ) (old new : Script) (made : Step) → seen ≡ scripts → k < length seen →
    old ≡ get_or scripts k old → IfSome (slice_get seen k) (λ script. is_actor script.actor made.actor ≡ true) →
    steps_from new ≡ steps_from old ++ step_of old.actor made.event ∷ [] →
    steps_from new ≡ steps_from (get_or scripts k old) ++ made ∷ []
pushed_at scripts seen k old new made is lt lent asked grown =
    let same = same_actor old.actor made.actor (found_at scripts seen k old (λ script. is_actor script.actor made.actor ≡ true) is lt lent asked) in
    grown ∙ ap (λ (a : Actor). steps_from old ++ step_of a made.event ∷ []) same ∙ ap (λ (s : Script). steps_from s ++ made ∷ []) lent

-- the script at a place, with one step less of its actor
pub taken_at : (scripts seen : List Script) (k : ℕ) (old new : Script) (by : Actor) (event : Event) → seen ≡ scripts → k < length seen →
    old ≡ get_or scripts k old → IfSome (slice_get seen k) (λ script. (is_actor script.actor by ≡ true) × (script.place < length script.events.items)) →
    steps_from old ≡ step_of old.actor event ∷ steps_from new →
    steps_from (get_or scripts k old) ≡ step_of by event ∷ steps_from new
taken_at scripts seen k old new by event is lt lent asked shrunk =
    let found = found_at scripts seen k old (λ script. (is_actor script.actor by ≡ true) × (script.place < length script.events.items)) is lt lent asked in
    ap steps_from (sym lent) ∙ shrunk ∙ ap (λ (a : Actor). step_of a event ∷ steps_from new) (same_actor old.actor by found.0)
