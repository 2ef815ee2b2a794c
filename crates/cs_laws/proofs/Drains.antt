-- Drains: what the end of a run makes: of whom its entries are, that they are legal, and that there is one such end.
use Rattle.std.proofs.Common.{◌≡◌, ℕ, zero, suc, ◌+◌, ◌<◌, ◌≤◌, Bool, true, false, cond, List, [], ◌∷◌, ◌++◌, map, length, refl, sym, ap, ◌∙◌, subst, inl, inr, Some, None, arith}
use Rattle.std.specs.Prelude.{◌⊎◌, filter, All, Contains}
use Rattle.std.specs.List.{AllByRecursion, range_with_len}
use Rattle.std.proofs.lemmas.Bool.{cond_both}
use Rattle.std.proofs.lemmas.List.{map-append, append-nil}
use Rattle.std.proofs.lemmas.List.Elements.{All-append, All-from_recursion, filter-append}
use Rattle.cs_types.specs.declared.event.Actor.{Actor}
use Rattle.cs_types.specs.declared.event.Actor.TheVariants.{End}
use Rattle.cs_types.specs.declared.event.Event.{Event}
use Rattle.cs_types.specs.declared.event.Event.TheVariants.{Resched}
use Rattle.cs_types.specs.declared.event.Step.{Step}
use Rattle.cs_types.specs.declared.reply.Entry.{Entry}
use Rattle.cs_types.specs.Scenario.{is_actor, IsEvent}
use Rattle.cs_types.specs.Room.{Opening, RoomState, sibling_of, online}
use Rattle.cs_types.specs.Touches.{is_fresh}
use Rattle.cs_types.specs.History.{History, Moment, beginning, step_at, next, after, moment_of, IsLegal, events_by, entry_of, made_from, history_of, fold_of, AreEvents}
use Rattle.cs_types.specs.Drain.{pending, is_ready, lowest, next_to_schedule, entry_by_end, IsEndFrom, IsDrained}
use Rattle.cs_laws.proofs.Histories.{IsLegal-history_of}
use Rattle.cs_laws.proofs.Siblings.{kept, kept-schedule, kept-unless_offline, length-alike, is_online-alike, length-fold_of}
use Rattle.cs_types.proofs.Filtered.{each-filter, Contains-filter_parts}
use Rattle.cs_laws.proofs.Selections.{online_parts}

-- ---- who schedules next

-- the lowest that passes, and else the lowest, is of the list, and passes or none does
lowest_of : (p : ℕ → Bool) (xs : List ℕ) (x : ℕ) → lowest (filter p xs ++ xs) ≡ Some x → Contains xs x × ((p x ≡ true) ⊎ (filter p xs ≡ []))
lowest_of p xs x found = go (filter p xs) refl found where
  first : (ys : List ℕ) → lowest ys ≡ Some x → Contains ys x
  first [] found = absurd cc
  first (y ∷ ys) found = let same : y ≡ x = cc in (0, omega arith, same)

  go : (kept : List ℕ) → filter p xs ≡ kept → lowest (kept ++ xs) ≡ Some x → Contains xs x × ((p x ≡ true) ⊎ (filter p xs ≡ []))
  go [] none found = (first xs found, inr none)
  go (y ∷ ys) some found =
      let parts = Contains-filter_parts p xs x (subst (λ zs. Contains zs x) (sym some) (first (y ∷ ys) found)) in (parts.0, inl parts.1)

-- there is none only where the list is empty
lowest_none : (p : ℕ → Bool) (xs : List ℕ) → lowest (filter p xs ++ xs) ≡ None → xs ≡ []
lowest_none p xs none = go (filter p xs) none where
  empty : (ys : List ℕ) → lowest ys ≡ None → ys ≡ []
  empty [] none = refl
  empty (y ∷ ys) none = absurd cc

  go : (kept : List ℕ) → lowest (kept ++ xs) ≡ None → xs ≡ []
  go [] none = empty xs none
  go (y ∷ ys) none = absurd cc

-- Who schedules next is online and pending, and is ready or nobody pending is.
pub next_is_pending : (moment : Moment) (cpu : ℕ) → next_to_schedule moment ≡ Some cpu →
    Contains (pending moment.room) cpu × ((is_ready moment cpu ≡ true) ⊎ (filter (is_ready moment) (pending moment.room) ≡ []))
next_is_pending moment cpu found = lowest_of (is_ready moment) (pending moment.room) cpu found

-- each number is at most every one after it
abbrev Climbs : List ℕ → Type 0
Climbs [] = Unit {0}
Climbs (x ∷ xs) = AllByRecursion (λ y. x ≤ y) xs × Climbs xs

range_from : (low a n : ℕ) → low ≤ a → AllByRecursion (λ y. low ≤ y) (range_with_len a n)
range_from low a zero under = tt
range_from low a (suc n) under = (under, range_from low (a + 1) n (omega arith))

climbs-range : (a n : ℕ) → Climbs (range_with_len a n)
climbs-range a zero = tt
climbs-range a (suc n) = (range_from a (a + 1) n (omega arith), climbs-range (a + 1) n)

climbs-filter : (p : ℕ → Bool) (xs : List ℕ) → Climbs xs → Climbs (filter p xs)
climbs-filter p [] climbs = tt
climbs-filter p (x ∷ xs) climbs =
    cond_both (p x) (x ∷ filter p xs) (filter p xs) Climbs (λ _. (each-filter (λ y. x ≤ y) p xs climbs.0, climbs-filter p xs climbs.1))
    (λ _. climbs-filter p xs climbs.1)

-- Where nobody schedules next, nobody is pending, and the other way round.
pub next_is_none : (moment : Moment) → next_to_schedule moment ≡ None → pending moment.room ≡ []
next_is_none moment none = lowest_none (is_ready moment) (pending moment.room) none

pub none_is_next : (moment : Moment) → pending moment.room ≡ [] → next_to_schedule moment ≡ None
none_is_next moment none = ap (λ cpus. lowest (filter (is_ready moment) cpus ++ cpus)) none

-- the moment after more entries
pub after-append : (moment : Moment) (entries more : List Entry) → after moment (entries ++ more) ≡ after (after moment entries) more
after-append moment [] more = refl
after-append moment (entry ∷ entries) more = after-append (next moment entry) entries more

-- ---- how it ends

-- After the entries of the final drain no sibling is pending.
pub end_is_calm : (moment : Moment) (entries : List Entry) → IsEndFrom moment entries → pending (after moment entries).room ≡ []
end_is_calm moment [] ends = ends
end_is_calm moment (entry ∷ entries) ends = end_is_calm (next moment entry) entries ends.3

pub nobody_pending : (opening : Opening) (past now : History) → IsDrained opening past now → pending (fold_of opening now) ≡ []
nobody_pending opening past now drained =
    ap (λ (history : History). pending (fold_of opening history)) drained.added
    ∙ (ap (λ (last : Moment). pending last.room) (after-append (beginning opening) past drained.made)
    ∙ end_is_calm (moment_of opening past) drained.made drained.ends)

-- A moment has one end, and so a history one that is drained.
one_end : (moment : Moment) (a b : List Entry) → IsEndFrom moment a → IsEndFrom moment b → a ≡ b
one_end moment [] [] calm ends = refl
one_end moment [] (y ∷ ys) calm ends = let none = none_is_next moment calm in let some = ends.1 in absurd cc
one_end moment (x ∷ xs) [] ends calm = let none = none_is_next moment calm in let some = ends.1 in absurd cc
one_end moment (x ∷ xs) (y ∷ ys) one other =
    let found : Some one.0 ≡ Some other.0 = sym one.1 ∙ other.1 in
    let cpu : one.0 ≡ other.0 = cc in
    let same : x ≡ y = one.2 ∙ (ap (entry_by_end moment) cpu ∙ sym other.2) in
    let rest : IsEndFrom (next moment x) ys = subst (λ (entry : Entry). IsEndFrom (next moment entry) ys) (sym same) other.3 in
    λ i. same i ∷ one_end (next moment x) xs ys one.3 rest i

pub drained_alone : (opening : Opening) (past now other : History) → IsDrained opening past now → IsDrained opening past other → now ≡ other
drained_alone opening past now other one two =
    one.added ∙ (ap (λ (made : List Entry). past ++ made) (one_end (moment_of opening past) one.made two.made one.ends two.ends) ∙ sym two.added)

-- ---- it is legal

-- the step of an entry
abbrev step_of : Entry → Step
step_of entry = record { actor = entry.actor; event = entry.event }

made_from-append : (moment : Moment) (steps more : List Step) →
    made_from moment (steps ++ more) ≡ made_from moment steps ++ made_from (after moment (made_from moment steps)) more
made_from-append moment [] more = refl
made_from-append moment (made ∷ steps) more =
    ap (λ (entries : List Entry). entry_of moment made ∷ entries) (made_from-append (next moment (entry_of moment made)) steps more)

-- entries of which each has the reply of the rules are those of their steps
made_more : (moment : Moment) (entry : Entry) (entries : List Entry) → entry_of moment (step_of entry) ≡ entry →
    made_from (next moment entry) (map step_of entries) ≡ entries → made_from moment (map step_of (entry ∷ entries)) ≡ entry ∷ entries
made_more moment entry entries same rest =
    (λ i. same i ∷ made_from (next moment (same i)) (map step_of entries)) ∙ ap (λ (es : List Entry). entry ∷ es) rest

end_is_made : (moment : Moment) (entries : List Entry) → IsEndFrom moment entries → made_from moment (map step_of entries) ≡ entries
end_is_made moment [] ends = refl
end_is_made moment (entry ∷ entries) ends =
    made_more moment entry entries (subst (λ (one : Entry). entry_of moment (step_of one) ≡ one) (sym ends.2) refl)
    (end_is_made (next moment entry) entries ends.3)

made_again : (moment : Moment) (entries : List Entry) →
    ((past : List Entry) (entry : Entry) (rest : List Entry) → entries ≡ past ++ entry ∷ rest → entry.reply ≡ (step_at (after moment past) entry.event).reply) →
    made_from moment (map step_of entries) ≡ entries
made_again moment [] legal = refl
made_again moment (entry ∷ entries) legal =
    made_more moment entry entries (λ i. record { actor = entry.actor; event = entry.event; reply = sym (legal [] entry entries refl) i })
    (made_again (next moment entry) entries (λ past later rest e. legal (entry ∷ past) later rest (ap (λ (es : List Entry). entry ∷ es) e)))

-- A legal history is still legal with the entries of the final drain.
pub IsLegal-drained : (opening : Opening) (past now : History) → IsLegal opening past → IsDrained opening past now → IsLegal opening now
IsLegal-drained opening past now legal drained =
    let steps = map step_of past in
    let more = map step_of drained.made in
    let again : history_of opening steps ≡ past = made_again (beginning opening) past legal in
    let is : history_of opening (steps ++ more) ≡ now =
    made_from-append (beginning opening) steps more
    ∙ (ap (λ (history : History). history ++ made_from (moment_of opening history) more) again
    ∙ (ap (λ (entries : List Entry). past ++ entries) (end_is_made (moment_of opening past) drained.made drained.ends) ∙ sym drained.added)) in
    subst (IsLegal opening) is (IsLegal-history_of opening (steps ++ more))

-- ---- of whom its entries are

-- rooms that are alike have the same siblings online
online-alike : (room other : RoomState) → kept room ≡ kept other → online room ≡ online other
online-alike room other same =
    λ i. filter (λ cpu. is_online-alike room other same cpu i) (range_with_len 0 (length-alike room other same i))

-- A schedule that the end makes leaves the same siblings online.
online-next : (moment : Moment) (cpu : ℕ) → online (next moment (entry_by_end moment cpu)).room ≡ online moment.room
online-next moment cpu =
    let fresh = is_fresh moment.ledger in
    online-alike (next moment (entry_by_end moment cpu)).room moment.room
    (kept-unless_offline moment.room cpu _ (kept-schedule moment.room fresh cpu))

-- an entry of the end, in which a sibling schedules that is online in the room
pub record IsByEnd (room : RoomState) (entry : Entry) : Type 0 where
  pub actor : entry.actor ≡ End
  pub cpu : ℕ
  pub event : entry.event ≡ Resched cpu
  pub up : Contains (online room) cpu

-- a pending sibling is online
pending_up : (room : RoomState) (cpu : ℕ) → Contains (pending room) cpu → Contains (online room) cpu
pending_up room cpu held = (Contains-filter_parts (λ other. (sibling_of room other).pending) (online room) cpu held).0

-- Each entry of the end is of the end, and in it a sibling schedules that is online.
pub drained_by_end : (moment : Moment) (room : RoomState) (entries : List Entry) → online moment.room ≡ online room → IsEndFrom moment entries →
    AllByRecursion (IsByEnd room) entries
drained_by_end moment room [] same ends = tt
drained_by_end moment room (entry ∷ entries) same ends = (
  record {
    actor = ap (λ (one : Entry). one.actor) ends.2;
    cpu = ends.0;
    event = ap (λ (one : Entry). one.event) ends.2;
    up = subst (λ cpus. Contains cpus ends.0) same (pending_up moment.room ends.0 (next_is_pending moment ends.0 ends.1).0);
  },
  drained_by_end (next moment entry) room entries
      (ap (λ (one : Entry). online (next moment one).room) ends.2 ∙ (online-next moment ends.0 ∙ same)) ends.3,
)

by_end_of : (opening : Opening) (past now : History) (drained : IsDrained opening past now) →
    AllByRecursion (IsByEnd (fold_of opening past)) drained.made
by_end_of opening past now drained = drained_by_end (moment_of opening past) (fold_of opening past) drained.made refl drained.ends

-- So each event that it makes is one of the scenario's core.
events_in : (siblings : ℕ) (room : RoomState) (entries : List Entry) → length room.siblings ≡ siblings → AllByRecursion (IsByEnd room) entries →
    AllByRecursion (λ entry. IsEvent siblings entry.event) entries
events_in siblings room [] many by_end = tt
events_in siblings room (entry ∷ entries) many by_end =
    let below : by_end.0.cpu < siblings = omega (arith, many, (online_parts room by_end.0.cpu by_end.0.up).0) in
    (subst (IsEvent siblings) (sym by_end.0.event) below, events_in siblings room entries many by_end.1)

pub AreEvents-drained : (opening : Opening) (past now : History) → AreEvents opening past → IsDrained opening past now → AreEvents opening now
AreEvents-drained opening past now events drained =
    let keeps : Entry → Type 0 = λ entry. IsEvent opening.scenario.siblings entry.event in
    subst (All keeps) (sym drained.added)
    (All-append keeps past drained.made events
    (All-from_recursion keeps drained.made
    (events_in opening.scenario.siblings (fold_of opening past) drained.made (length-fold_of opening past) (by_end_of opening past now drained))))

-- The end adds nothing to the events of another actor, a sibling or a caller.
none_by : (actor : Actor) → is_actor End actor ≡ false → (room : RoomState) (entries : List Entry) → AllByRecursion (IsByEnd room) entries →
    events_by actor entries ≡ []
none_by actor other room [] by_end = refl
none_by actor other room (entry ∷ entries) by_end =
    let kept = filter (λ (e : Entry). is_actor e.actor actor) entries in
    ap (λ b. map (λ (e : Entry). e.event) (cond b (entry ∷ kept) kept)) (ap (λ a. is_actor a actor) by_end.0.actor ∙ other)
    ∙ none_by actor other room entries by_end.1

pub events_by-drained : (opening : Opening) (past now : History) (actor : Actor) → is_actor End actor ≡ false → IsDrained opening past now →
    events_by actor now ≡ events_by actor past
events_by-drained opening past now actor other drained =
    let event : Entry → Event = λ entry. entry.event in
    let test : Entry → Bool = λ entry. is_actor entry.actor actor in
    ap (events_by actor) drained.added
    ∙ (ap (map event) (filter-append test past drained.made)
    ∙ (map-append event (filter test past) (filter test drained.made)
    ∙ (ap (λ events. events_by actor past ++ events) (none_by actor other (fold_of opening past) drained.made (by_end_of opening past now drained))
    ∙ append-nil (events_by actor past))))
