-- Runs: what is so of the history of a run.
use Rattle.std.proofs.Common.{◌≡◌, ◌≢◌, ℕ, ◌<◌, ◌≤◌, Bool, true, false, cond, not, map, filter, List, [], ◌∷◌, ◌++◌, append-nil, refl, sym, ap, ◌∙◌, subst, arith}
use Rattle.std.specs.List.{AllByRecursion}
use Rattle.std.proofs.lemmas.List.{append_assoc}
use Rattle.std.proofs.lemmas.List.Elements.{All-append, All-from_recursion, filter-append, recursion_from_All}
use Rattle.cs_types.specs.declared.event.Actor.{Actor}
use Rattle.cs_types.specs.declared.event.Actor.TheVariants.{Sibling, Caller, End}
use Rattle.cs_types.specs.declared.event.Event.{Event}
use Rattle.cs_types.specs.declared.event.Event.TheVariants.{Turn, Resched, Block, Exit, Tick, Wake, Advance, Fork, Prctl, SetSched, Offline, Online, Load, Unload}
use Rattle.cs_types.specs.declared.event.Step.{Step}
use Rattle.cs_types.specs.declared.reply.Entry.{Entry}
use Rattle.cs_types.specs.Room.{Opening, RoomState}
use Rattle.cs_types.specs.Scenario.{IsEvent, IsMadeBy, IsStep, IsPlayable, is_actor}
use Rattle.cs_types.specs.History.{History, AreEvents, IsLegal, moment_of, fold_of, history_of, events_by, file}
use Rattle.cs_types.specs.Drain.{IsDrained}
use Rattle.cs_laws.proofs.Accounts.{accounted-fold_of}
use Rattle.cs_laws.proofs.Shares.{shared-fold_of}
use Rattle.cs_types.proofs.Foremost.{each_weaker}
use Rattle.cs_laws.proofs.Histories.{IsLegal-history_of, events_by-file}
use Rattle.cs_laws.proofs.Selections.{selects}
use Rattle.cs_laws.proofs.Drains.{drained_alone, nobody_pending, IsLegal-drained, AreEvents-drained, IsByEnd, drained_by_end, events_by-drained}
use Rattle.cs_laws.proofs.Trust.{settled-moment_of, one_cookie}
use Rattle.cs_types.specs.Shuffles.{IsShuffle}
use Rattle.sibling_workers.specs.Race.{IsRaced}
use Rattle.sibling_workers.proofs.Own.{is_actor-same, same_actor}
use Rattle.scenario_text.specs.Entry.{IsMade}
use Rattle.scenario_runner.specs.Outcomes.{DividesIntervals, IsPlayed, IsReplayHistory, before_end, IsRaceHistory}
use Rattle.scenario_runner.proofs.Endings.{AreMade}
use Rattle.scenario_runner.proofs.Totals.{totals-le}

-- ---- the events of a run keep their limits

-- what holds of each step holds of each event of an actor's script
script_events : (P : Actor → Event → Type 0) (actor : Actor) (steps : List Step) → AllByRecursion (λ made. P made.actor made.event) steps →
    AllByRecursion (P actor) (map (λ made. made.event) (filter (λ made. is_actor made.actor actor) steps))
script_events P actor [] all = tt
script_events P actor (made ∷ steps) all =
    let rest = script_events P actor steps all.1 in
    let kept = filter (λ (m : Step). is_actor m.actor actor) steps in
    (elim (is_actor made.actor actor) as (λ b. is_actor made.actor actor ≡ b → AllByRecursion (P actor) (map (λ (m : Step). m.event) (cond b (made ∷ kept) kept))) [
      | true ↦ λ same. (subst (λ (a : Actor). P a made.event) (same_actor made.actor actor same) all.0, rest)
      | false ↦ λ other. rest
    ])
    refl

-- what holds of all events of each actor holds of all
each_actors : (P : Actor → Event → Type 0) (history : History) → ((actor : Actor) → AllByRecursion (P actor) (events_by actor history)) →
    AllByRecursion (λ entry. P entry.actor entry.event) history
each_actors P [] all = tt
each_actors P (entry ∷ rest) all = (own, each_actors P rest others) where
  kept : Actor → Bool → History
  kept actor b = cond b (entry ∷ filter (λ e. is_actor e.actor actor) rest) (filter (λ e. is_actor e.actor actor) rest)

  own : P entry.actor entry.event
  own = (subst (λ (b : Bool). AllByRecursion (P entry.actor) (map (λ (e : Entry). e.event) (kept entry.actor b))) (is_actor-same entry.actor) (all entry.actor)).0

  others : (actor : Actor) → AllByRecursion (P actor) (events_by actor rest)
  others actor =
      (elim (is_actor entry.actor actor) as (λ b. AllByRecursion (P actor) (map (λ (e : Entry). e.event) (kept actor b)) → AllByRecursion (P actor) (events_by actor rest)) [
        | true ↦ λ both. both.1
        | false ↦ λ one. one
      ])
      (all actor)

-- an actor makes an event in a core of so many siblings
abbrev Makes : ℕ → Actor → Event → Type 0
Makes n actor event = IsEvent n event × IsMadeBy actor event

-- in a shuffle of scripts each entry is one of the steps'
shuffle_steps : (opening : Opening) (history : History) → IsPlayable opening.scenario → IsShuffle opening.scenario history →
    AllByRecursion (λ entry. Makes opening.scenario.siblings entry.actor entry.event) history
shuffle_steps opening history playable shuffle =
    let n = opening.scenario.siblings in
    let steps =
    each_weaker (IsStep n) (λ (made : Step). Makes n made.actor made.event) opening.scenario.steps (λ made step. (step.event, step.actor))
    (recursion_from_All (IsStep n) opening.scenario.steps playable.steps) in
    each_actors (Makes n) history
    (λ actor. subst (AllByRecursion (Makes n actor)) (sym (shuffle actor)) (script_events (Makes n) actor opening.scenario.steps steps))

-- so each event is
shuffle_events : (opening : Opening) (history : History) → IsPlayable opening.scenario → IsShuffle opening.scenario history → AreEvents opening history
shuffle_events opening history playable shuffle =
    let n = opening.scenario.siblings in
    All-from_recursion (λ entry. IsEvent n entry.event) history
    (each_weaker (λ (entry : Entry). Makes n entry.actor entry.event) (λ (entry : Entry). IsEvent n entry.event) history (λ entry made. made.0)
    (shuffle_steps opening history playable shuffle))

-- ---- a run is made by actors and by the end

-- an event of a core is one of a core with more siblings
event_wider : (n m : ℕ) (event : Event) → n ≤ m → IsEvent n event → IsEvent m event
event_wider n m (Turn cpu) few is = omega (arith, few, is)
event_wider n m (Resched cpu) few is = omega (arith, few, is)
event_wider n m (Block cpu) few is = omega (arith, few, is)
event_wider n m (Exit cpu) few is = omega (arith, few, is)
event_wider n m (Tick cpu) few is = omega (arith, few, is)
event_wider n m (Offline cpu) few is = omega (arith, few, is)
event_wider n m (Online cpu) few is = omega (arith, few, is)
event_wider n m (Wake pid) few is = is
event_wider n m (Advance delta) few is = is
event_wider n m (Fork caller thread) few is = is
event_wider n m (Prctl caller ask) few is = is
event_wider n m (SetSched pid policy) few is = is
event_wider n m (Load index) few is = is
event_wider n m (Unload index) few is = is

made_by_actor : (n : ℕ) (actor : Actor) (event : Event) → n ≤ 16 → Makes n actor event → IsMade actor event
made_by_actor n (Sibling i) event few made = record { event = event_wider n 16 event few made.0; actor = made.1 }
made_by_actor n (Caller j) event few made = record { event = event_wider n 16 event few made.0; actor = made.1 }
made_by_actor n End event few made = absurd made.1

made_by_end : (n : ℕ) (room : RoomState) (entry : Entry) → n ≤ 16 → IsByEnd room entry → IsEvent n entry.event → IsMade entry.actor entry.event
made_by_end n room entry few by_end limits =
    let below : by_end.cpu < n = subst (IsEvent n) by_end.event limits in
    subst (λ (a : Actor). IsMade a entry.event) (sym by_end.actor) (subst (IsMade End) (sym by_end.event) (omega (arith, below, few)))

made_by_ends : (n : ℕ) (room : RoomState) (entries : History) → n ≤ 16 → AllByRecursion (IsByEnd room) entries → AllByRecursion (λ entry. IsEvent n entry.event) entries →
    AllByRecursion (λ entry. IsMade entry.actor entry.event) entries
made_by_ends n room [] few by_end limits = tt
made_by_ends n room (entry ∷ entries) few by_end limits =
    (made_by_end n room entry few by_end.0 limits.0, made_by_ends n room entries few by_end.1 limits.1)

-- the entries of the final drain have the actor `End`
by_end_of : (opening : Opening) (past now : History) (drained : IsDrained opening past now) → AllByRecursion (IsByEnd (fold_of opening past)) drained.made
by_end_of opening past now drained = drained_by_end (moment_of opening past) (fold_of opening past) drained.made refl drained.ends

-- ---- what a run has before the entries of the final drain

never_end : (actor : Actor) (event : Event) → IsMadeBy actor event → is_actor actor End ≡ false
never_end (Sibling i) event made = refl
never_end (Caller j) event made = refl
never_end End event made = absurd made

before_end-all : (n : ℕ) (history : History) → AllByRecursion (λ entry. Makes n entry.actor entry.event) history → before_end history ≡ history
before_end-all n [] all = refl
before_end-all n (entry ∷ rest) all =
    ap (λ (b : Bool). cond (not b) (entry ∷ before_end rest) (before_end rest)) (never_end entry.actor entry.event all.0.1)
    ∙ ap (λ (h : History). entry ∷ h) (before_end-all n rest all.1)

before_end-none : (room : RoomState) (entries : History) → AllByRecursion (IsByEnd room) entries → before_end entries ≡ []
before_end-none room [] by_end = refl
before_end-none room (entry ∷ rest) by_end =
    ap (λ (a : Actor). cond (not (is_actor a End)) (entry ∷ before_end rest) (before_end rest)) by_end.0.actor
    ∙ before_end-none room rest by_end.1

-- a shuffle with the entries of the final drain has the shuffle before these
before_end-drained : (opening : Opening) (shuffled run : History) → IsPlayable opening.scenario → IsShuffle opening.scenario shuffled → IsDrained opening shuffled run →
    before_end run ≡ shuffled
before_end-drained opening shuffled run playable shuffle drained =
    ap before_end drained.added
    ∙ filter-append (λ (entry : Entry). not (is_actor entry.actor End)) shuffled drained.made
    ∙ ap (λ (h : History). before_end shuffled ++ h) (before_end-none (fold_of opening shuffled) drained.made (by_end_of opening shuffled run drained))
    ∙ append-nil (before_end shuffled)
    ∙ before_end-all opening.scenario.siblings shuffled (shuffle_steps opening shuffled playable shuffle)

-- ---- a part of a legal history

legal_part : (opening : Opening) (past rest : History) → IsLegal opening (past ++ rest) → IsLegal opening past
legal_part opening past rest legal before entry after is =
    legal before entry (after ++ rest) (ap (λ (h : History). h ++ rest) is ∙ append_assoc before (entry ∷ after) rest)

all_left : (P : Entry → Type 0) (past rest : History) → AllByRecursion P (past ++ rest) → AllByRecursion P past
all_left P [] rest all = tt
all_left P (entry ∷ past) rest all = (all.0, all_left P past rest all.1)

all_right : (P : Entry → Type 0) (past rest : History) → AllByRecursion P (past ++ rest) → AllByRecursion P rest
all_right P [] rest all = all
all_right P (entry ∷ past) rest all = all_right P past rest all.1

-- ---- the run

-- each entry of a shuffle with the entries of the final drain is made by an actor or by the end
are_made : (opening : Opening) (shuffled run : History) → IsPlayable opening.scenario → IsShuffle opening.scenario shuffled → IsDrained opening shuffled run →
    AreMade run
are_made opening shuffled run playable shuffle drained =
    let n = opening.scenario.siblings in
    let Made : Entry → Type 0 = λ entry. IsMade entry.actor entry.event in
    let Named : Entry → Type 0 = λ entry. IsEvent n entry.event in
    let events = AreEvents-drained opening shuffled run (shuffle_events opening shuffled playable shuffle) drained in
    let ends = all_right Named shuffled drained.made (recursion_from_All Named (shuffled ++ drained.made) (subst (AreEvents opening) drained.added events)) in
    subst AreMade (sym drained.added)
    (All-append Made shuffled drained.made
    (All-from_recursion Made shuffled
    (each_weaker (λ (entry : Entry). Makes n entry.actor entry.event) Made shuffled (λ entry made. made_by_actor n entry.actor entry.event playable.siblings.1 made)
    (shuffle_steps opening shuffled playable shuffle)))
    (All-from_recursion Made drained.made
    (made_by_ends n (fold_of opening shuffled) drained.made playable.siblings.1 (by_end_of opening shuffled run drained) ends)))

-- the totals of a room divide its intervals
divides : (opening : Opening) (history : History) → IsPlayable opening.scenario → AreEvents opening history → DividesIntervals (fold_of opening history)
divides opening history playable events =
    let most = opening.scenario.siblings in
    let shared = shared-fold_of most opening history playable.siblings.0 (omega arith) events in
    record {
      lasts = shared.lasts;
      divisors = (accounted-fold_of most opening history playable.siblings.0 (omega arith) events).divisors;
      no_more = shared.no_more;
      together = λ pids distinct. totals-le (fold_of opening history).intervals pids distinct shared.no_more;
    }

no_end : (actor : Actor) → actor ≢ End → is_actor End actor ≡ false
no_end (Sibling i) other = refl
no_end (Caller j) other = refl
no_end End other = absurd (other refl)

-- a legal shuffle of all scripts, with the entries of the final drain, keeps the laws
pub keeps_laws : (opening : Opening) (shuffled run : History) → IsPlayable opening.scenario → IsLegal opening shuffled → IsShuffle opening.scenario shuffled →
    IsDrained opening shuffled run → IsPlayed opening run
keeps_laws opening shuffled run playable lawful shuffle drained =
    record {
      legal = legal;
      scripts = λ actor other. events_by-drained opening shuffled run actor (no_end actor other) drained ∙ shuffle actor;
      trust = λ past rest is.
          settled-moment_of opening past playable (events_so_far past rest is) (legal_part opening past rest (subst (IsLegal opening) is legal));
      selections = λ past entry rest is.
          let named = all_right P past (entry ∷ rest) (recursion_from_All P (past ++ entry ∷ rest) (subst (AreEvents opening) is events)) in
          selects opening past entry named.0 (legal past entry rest is);
      totals = λ past rest is. divides opening past playable (events_so_far past rest is);
      nobody_pending = nobody_pending opening shuffled run drained;
      one_cookie = one_cookie (fold_of opening run) (settled-moment_of opening run playable events legal) (nobody_pending opening shuffled run drained);
    } where
      P : Entry → Type 0
      P entry = IsEvent opening.scenario.siblings entry.event

      legal : IsLegal opening run
      legal = IsLegal-drained opening shuffled run lawful drained

      events : AreEvents opening run
      events = AreEvents-drained opening shuffled run (shuffle_events opening shuffled playable shuffle) drained

      events_so_far : (past rest : History) → run ≡ past ++ rest → AreEvents opening past
      events_so_far past rest is =
          All-from_recursion P past (all_left P past rest (recursion_from_All P (past ++ rest) (subst (AreEvents opening) is events)))

-- the entries of the final drain follow the steps that were made
pub drained_of : (opening played : Opening) (steps : List Step) (past run : History) → played ≡ opening → past ≡ history_of opening steps → IsDrained played past run → IsDrained opening (history_of opening steps) run
drained_of opening played steps past run same is drained =
    subst (λ (o : Opening). IsDrained o (history_of opening steps) run) same (subst (λ (h : History). IsDrained played h run) is drained)

pub replay_history : (opening : Opening) (run : History) → IsPlayable opening.scenario → IsDrained opening (file opening) run → IsReplayHistory opening run
replay_history opening run playable drained =
    record {
      drained = drained;
      alone = λ other too. drained_alone opening (file opening) other run too drained;
      played = keeps_laws opening (file opening) run playable (IsLegal-history_of opening opening.scenario.steps) (λ actor. events_by-file opening actor) drained;
    }

pub race_history : (opening : Opening) (run : History) → IsPlayable opening.scenario → IsRaced opening run → IsRaceHistory opening run
race_history opening run playable raced =
    record {
      shuffled = raced.played;
      before = sym (before_end-drained opening raced.played run playable raced.shuffle raced.drained);
      legal = raced.legal;
      shuffle = raced.shuffle;
      drained = raced.drained;
      alone = λ other too. drained_alone opening raced.played other run too raced.drained;
      played = keeps_laws opening raced.played run playable raced.legal raced.shuffle raced.drained;
    }

-- ---- who made the entries of a run

pub replay_made : (opening : Opening) (run : History) → IsPlayable opening.scenario → IsDrained opening (file opening) run → AreMade run
replay_made opening run playable drained = are_made opening (file opening) run playable (λ actor. events_by-file opening actor) drained

pub race_made : (opening : Opening) (run : History) → IsPlayable opening.scenario → IsRaced opening run → AreMade run
race_made opening run playable raced = are_made opening raced.played run playable raced.shuffle raced.drained
