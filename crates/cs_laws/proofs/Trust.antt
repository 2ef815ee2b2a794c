-- Trust: after every legal history each sibling is consistent, and the trust rule holds.
use Rattle.std.proofs.Common.{◌≡◌, ◌≢◌, ℕ, zero, suc, ◌<◌, Bool, true, false, List, [], ◌∷◌, ◌++◌, map, length, get_or, refl, sym, ap, ◌∙◌, subst, inl, inr, arith, Option, Some, None}
use Rattle.std.specs.Prelude.{◌⊎◌, ◌==◌, ◌&&◌, IsSomeAnd, Contains, filter, fold, replicate}
use Rattle.std.specs.List.{AllByRecursion}
use Rattle.std.specs.Option.{IfSome, option_map, option_and_then}
use Rattle.std.proofs.lemmas.Bool.{cases_Bool, cond_both, cond-false, and_from, and_left, and_right, eq-eqb, eqb-true, both_ways, false_from_ne_true}
use Rattle.std.proofs.lemmas.List.{length-map, length-replicate}
use Rattle.std.proofs.lemmas.List.Elements.{All-contains_itself, recursion_from_All}
use Rattle.std.proofs.lemmas.Option.{IfSome_then}
use Rattle.cs_types.specs.declared.task.Task.{Task}
use Rattle.cs_types.specs.declared.task.TaskSpec.{TaskSpec}
use Rattle.cs_types.specs.declared.event.Event.{Event}
use Rattle.cs_types.specs.declared.event.Event.TheVariants.{Turn, Resched, Block, Exit, Tick, Wake, Advance, Fork, Prctl, SetSched, Offline, Online, Load, Unload}
use Rattle.cs_types.specs.declared.reply.Reply.TheVariants as answer
use Rattle.cs_types.specs.declared.reply.Entry.{Entry}
use Rattle.cs_types.specs.Scenario.{IsEvent, IsPlayable}
use Rattle.cs_types.specs.Room.{Opening, RoomState, SiblingState, idle, absent, has_pid, asleep, inserted, asleep_tasks, start, queued_on, sibling_of, running_on, is_online, online, task_of}
use Rattle.cs_types.specs.Step.{Stepped, step, unless_offline}
use Rattle.cs_types.specs.Touches.{is_fresh}
use Rattle.cs_types.specs.History.{History, Moment, beginning, step_at, next, after, moment_of, fold_of, AreEvents, IsLegal}
use Rattle.cs_types.specs.Drain.{pending}
use Rattle.cs_types.specs.Laws.{RunsWithCookie, IsSettled, RunOneCookie, pids_on, IsConsistentAt}
use Rattle.cs_types.proofs.Foremost.{find_passes, each_weaker}
use Rattle.cs_types.proofs.Filtered.{each_found, Contains-filter}
use Rattle.cs_laws.proofs.Rising.{AreRising, rising-step, rising-fold_of}
use Rattle.cs_types.proofs.Lists.{get_or-map_default}
use Rattle.cs_laws.proofs.Siblings.{length-step}
use Rattle.cs_laws.proofs.Selections.{online_parts}
use Rattle.cs_types.proofs.Inserted.{each-inserted}
use Rattle.cs_laws.proofs.Spots.{spot_of, spot_at, each_is_found}
use Rattle.cs_laws.proofs.Homes.{IsHome, IsHoused, housed-step}
use Rattle.cs_laws.proofs.Fits.{IsAt, cookie_at, SiblingFits, AllFit, fits_running, fits_absent, waiting_then}
use Rattle.cs_laws.proofs.Freshness.{fresh_after, is_fresh-ledger_entry}
use Rattle.cs_laws.proofs.Behind.{AllBehind, behind_next}
use Rattle.cs_laws.proofs.Orders.{load-fits, unload-fits, StepFits, resched-fits, turn-fits, block-fits, exit-fits, wake-fits, fork-fits, tick-fits, advanced-fits, set_policy-fits, take_offline-fits, bring_online-fits}
use Rattle.cs_laws.proofs.Cookies.{prctl-fits}

-- ---- at every step

-- a sibling that is offline does nothing
unless_offline-fits : (room : RoomState) (fresh : Bool) (event : Event) (cpu : ℕ) (stepped : Stepped) → (is_online room cpu ≡ true → StepFits room fresh event stepped) →
    AllFit room (fresh_after room fresh event answer.Offline) → StepFits room fresh event (unless_offline room cpu stepped)
unless_offline-fits room fresh event cpu stepped now off = cond_both (is_online room cpu) _ _ (StepFits room fresh event) now (λ _. off)

step-fits : (room : RoomState) (fresh : Bool) (event : Event) → IsEvent (length room.siblings) event → AreRising room → IsHoused room → AllFit room fresh →
    StepFits room fresh event (step room fresh event)
step-fits room fresh (Turn cpu) limits rises housed fits =
    unless_offline-fits room fresh (Turn cpu) cpu _ (λ up. turn-fits room fresh cpu limits up rises housed fits) fits
step-fits room fresh (Resched cpu) limits rises housed fits =
    unless_offline-fits room fresh (Resched cpu) cpu _ (λ up. resched-fits room fresh (Resched cpu) cpu limits up rises fits) fits
step-fits room fresh (Block cpu) limits rises housed fits =
    unless_offline-fits room fresh (Block cpu) cpu _ (λ up. block-fits room fresh cpu (running_on room cpu) limits up rises refl fits) fits
step-fits room fresh (Exit cpu) limits rises housed fits =
    unless_offline-fits room fresh (Exit cpu) cpu _ (λ up. exit-fits room fresh cpu (running_on room cpu) limits up rises refl fits) fits
step-fits room fresh (Tick cpu) limits rises housed fits =
    unless_offline-fits room fresh (Tick cpu) cpu _ (λ up. tick-fits room fresh cpu (running_on room cpu) up refl fits) fits
step-fits room fresh (Wake pid) limits rises housed fits = wake-fits room fresh pid (task_of room pid) refl housed fits
step-fits room fresh (Advance delta) limits rises housed fits = advanced-fits room fresh delta fits
step-fits room fresh (Fork caller thread) limits rises housed fits = fork-fits room fresh caller thread (task_of room caller) rises housed fits
step-fits room fresh (Prctl caller ask) limits rises housed fits = prctl-fits room fresh caller ask rises fits
step-fits room fresh (SetSched pid policy) limits rises housed fits = set_policy-fits room fresh pid policy (task_of room pid) refl housed fits
step-fits room fresh (Offline cpu) limits rises housed fits = take_offline-fits room fresh cpu fits
step-fits room fresh (Online cpu) limits rises housed fits = bring_online-fits room fresh cpu fits
step-fits room fresh (Load index) limits rises housed fits = load-fits room fresh index fits
step-fits room fresh (Unload index) limits rises housed fits = unload-fits room fresh index fits

-- ---- at every moment

-- what holds at a moment: the tasks stand by rising pid, each queued one is at home, each sibling has what fits it, and the
-- own number of one for which something waits is below the pick number
pub record Holds (moment : Moment) : Type 0 where
  pub rises : AreRising moment.room
  pub housed : IsHoused moment.room
  pub fits : AllFit moment.room (is_fresh moment.ledger)
  pub behind : AllBehind moment

holds_next : (moment : Moment) (entry : Entry) → IsEvent (length moment.room.siblings) entry.event → entry.reply ≡ (step_at moment entry.event).reply → Holds moment → Holds (next moment entry)
holds_next moment entry limits legal holds =
    let fresh = is_fresh moment.ledger in
    let made = step_at moment entry.event in
    record {
      rises = rising-step moment.room fresh entry.event holds.rises;
      housed = housed-step moment.room fresh entry.event limits holds.rises holds.housed;
      fits = subst (AllFit made.room) (sym (is_fresh-ledger_entry moment.room entry moment.ledger ∙ ap (fresh_after moment.room fresh entry.event) legal))
          (step-fits moment.room fresh entry.event limits holds.rises holds.housed holds.fits);
      behind = behind_next moment entry limits legal holds.behind;
    }

holds_after : (siblings : ℕ) (moment : Moment) (entries : List Entry) → length moment.room.siblings ≡ siblings → AllByRecursion (λ entry. IsEvent siblings entry.event) entries →
    ((past : History) (entry : Entry) (rest : List Entry) → entries ≡ past ++ entry ∷ rest → entry.reply ≡ (step_at (after moment past) entry.event).reply) →
    Holds moment → Holds (after moment entries)
holds_after siblings moment [] long limits legal holds = holds
holds_after siblings moment (entry ∷ entries) long limits legal holds =
    holds_after siblings (next moment entry) entries (length-step moment.room (is_fresh moment.ledger) entry.event ∙ long) limits.1
    (λ past later rest e. legal (entry ∷ past) later rest (ap (λ (h : History). entry ∷ h) e))
    (holds_next moment entry (subst (λ n. IsEvent n entry.event) (sym long) limits.0) (legal [] entry entries refl) holds)

-- ---- at the start

all_asleep : (tasks : List Task) (specs : List TaskSpec) → AllByRecursion (λ task. task.queued ≡ false) tasks →
    AllByRecursion (λ task. task.queued ≡ false) (fold (λ ts spec. inserted (asleep spec) ts) tasks specs)
all_asleep tasks [] all = all
all_asleep tasks (spec ∷ specs) all = all_asleep (inserted (asleep spec) tasks) specs (each-inserted (λ task. task.queued ≡ false) (asleep spec) tasks refl all)

first_is_idle : (n : ℕ) → 0 < n → get_or (replicate n idle) 0 absent ≡ idle
first_is_idle zero some = absurd (omega (arith, some))
first_is_idle (suc n) some = refl

-- what holds of an idle sibling, and of one that is not there, holds of each
each_is_idle : (P : SiblingState → Type 0) → P idle → P absent → (n cpu : ℕ) → P (get_or (replicate n idle) cpu absent)
each_is_idle P here past zero cpu = past
each_is_idle P here past (suc n) zero = here
each_is_idle P here past (suc n) (suc cpu) = each_is_idle P here past n cpu

holds_beginning : (opening : Opening) → IsPlayable opening.scenario → Holds (beginning opening)
unfolding is_fresh
holds_beginning opening keeps =
    record {
      rises = rising-fold_of opening [] (λ k d few. (keeps.tasks k d few).pid.0) keeps.distinct;
      housed = record { some = (0, subst (λ n. 0 < n) (sym (length-replicate opening.scenario.siblings idle)) keeps.siblings.0, ap (λ (s : SiblingState). s.online) (first_is_idle opening.scenario.siblings keeps.siblings.0)); homes = homes };
      fits = λ cpu. each_is_idle (SiblingFits (spot_at (start opening)) 0 false cpu)
          (fits_running (spot_at (start opening)) 0 false cpu true None false 0 refl tt tt) (fits_absent (spot_at (start opening)) 0 false cpu) opening.scenario.siblings cpu;
      behind = λ cpu. each_is_idle (λ sibling. IfSome sibling.waiting (λ _. 0 < 0)) tt tt opening.scenario.siblings cpu;
    } where
      homes : (pid : ℕ) → IsHome (start opening) (spot_at (start opening) pid)
      homes pid = go (task_of (start opening) pid) refl where
        go : (found : Option Task) → task_of (start opening) pid ≡ found → IsHome (start opening) (option_map spot_of found)
        go None e = tt
        go (Some task) e = λ queued.
            absurd (both_ways task.queued (each_found (λ t. t.queued ≡ false) (has_pid pid) (asleep_tasks opening.scenario.tasks) task e (all_asleep [] opening.scenario.tasks tt)) queued)

-- It holds after every legal history.
pub holds-moment_of : (opening : Opening) (history : History) → IsPlayable opening.scenario → AreEvents opening history → IsLegal opening history →
    Holds (moment_of opening history)
holds-moment_of opening history keeps limits legal =
    holds_after opening.scenario.siblings (beginning opening) history (length-replicate opening.scenario.siblings idle)
    (recursion_from_All (λ entry. IsEvent opening.scenario.siblings entry.event) history limits) legal (holds_beginning opening keeps)

-- ---- consistent siblings

Contains-map : {X Y : Type 0} (f : X → Y) (xs : List X) (x : X) → Contains xs x → Contains (map f xs) (f x)
Contains-map f xs x held = (held.0, subst (λ n. held.0 < n) (sym (length-map xs f)) held.1, get_or-map_default f xs held.0 x ∙ ap f held.2)

-- a pid whose task is at a sibling is one of those queued there
pid_is_on : (room : RoomState) (cpu pid : ℕ) → IsAt cpu (spot_at room pid) → Contains (pids_on room cpu) pid
pid_is_on room cpu pid here = go (task_of room pid) refl here where
  go : (found : Option Task) → task_of room pid ≡ found → IsAt cpu (option_map spot_of found) → Contains (pids_on room cpu) pid
  go None e here = absurd here
  go (Some task) e here =
      let living = each_found (Contains room.tasks) (has_pid pid) room.tasks task e (recursion_from_All (Contains room.tasks) room.tasks (All-contains_itself room.tasks)) in
      let queued = Contains-filter (λ (other : Task). other.queued && (other.home == cpu)) room.tasks task living (and_from task.queued (task.home == cpu) here.0 (eq-eqb task.home cpu here.1)) in
      subst (Contains (pids_on room cpu)) (eqb-true task.spec.pid pid (find_passes (has_pid pid) room.tasks task e))
      (Contains-map (λ (other : Task). other.spec.pid) (queued_on room cpu) task queued)

none_kept : {X : Type 0} (p : X → Bool) (xs : List X) → AllByRecursion (λ x. p x ≡ false) xs → filter p xs ≡ []
none_kept p [] fails = refl
none_kept p (x ∷ xs) fails = cond-false (p x) (x ∷ filter p xs) (filter p xs) fails.0 ∙ none_kept p xs fails.1

-- no task is queued on an offline sibling
no_queue : (room : RoomState) (cpu : ℕ) → AreRising room → IsHoused room → is_online room cpu ≡ false → queued_on room cpu ≡ []
no_queue room cpu rises housed off =
    none_kept (λ (task : Task). task.queued && (task.home == cpu)) room.tasks
    (each_weaker (λ task. task_of room task.spec.pid ≡ Some task) (λ task. (task.queued && (task.home == cpu)) ≡ false) room.tasks
    (λ task found. elim (cases_Bool task.queued) [
      | inl queued ↦
          let home : IsHome room (Some (spot_of task)) = subst (IsHome room) (ap (option_map spot_of) found) (housed.homes task.spec.pid) in
          and_right task.queued (task.home == cpu) (false_from_ne_true (task.home == cpu) (λ same.
          both_ways (is_online room cpu) off (subst (λ n. is_online room n ≡ true) (eqb-true task.home cpu same) (home queued))))
      | inr isnt ↦ and_left task.queued (task.home == cpu) isnt
    ]) (each_is_found 0 room.next_pid room.tasks rises))

-- Where the task with a pid is queued on a sibling, it is living. So it is a living one that has this cookie.
has_cookie : (room : RoomState) (cookie cpu pid : ℕ) → IsAt cpu (spot_at room pid) → cookie_at (spot_at room pid) ≡ cookie →
    IsSomeAnd (task_of room pid) (λ task. task.cookie ≡ cookie)
has_cookie room cookie cpu pid here same = go (task_of room pid) here same where
  go : (found : Option Task) → IsAt cpu (option_map spot_of found) → cookie_at (option_map spot_of found) ≡ cookie → IsSomeAnd found (λ task. task.cookie ≡ cookie)
  go None here same = absurd here
  go (Some task) here same = same

consistent_at : (moment : Moment) (cpu : ℕ) → Holds moment → IsConsistentAt moment cpu
consistent_at moment cpu holds =
    let room = moment.room in
    let sibling = sibling_of room cpu in
    let its = holds.fits cpu in
    record {
      running_is_queued = IfSome_then sibling.run its.runs (pid_is_on room cpu);
      waiting_is_queued = IfSome_then sibling.waiting its.waits (λ run queued. IfSome_then run queued (pid_is_on room cpu));
      waiting_is_pending = its.flags;
      waiting_is_not_running = its.other;
      waiting_has_the_core_cookie = λ is. waiting_then sibling.waiting (λ pid. IsAt cpu (spot_at room pid)) (λ pid. cookie_at (spot_at room pid) ≡ room.core_cookie)
          (λ pid. IsSomeAnd (task_of room pid) (λ task. task.cookie ≡ room.core_cookie))
          (λ pid waits here same. has_cookie room room.core_cookie cpu pid here same) its.waits (its.agrees is);
      offline_is_empty = λ off. let gone = its.away off in (no_queue room cpu holds.rises holds.housed off, gone.0, gone.1, gone.2, gone.3);
    }

-- After every legal history each sibling is consistent.
pub consistent-moment_of : (opening : Opening) (history : History) → IsPlayable opening.scenario → AreEvents opening history →
    IsLegal opening history → (cpu : ℕ) → cpu < opening.scenario.siblings → IsConsistentAt (moment_of opening history) cpu
consistent-moment_of opening history keeps limits legal cpu below = consistent_at (moment_of opening history) cpu (holds-moment_of opening history keeps limits legal)

-- ---- the trust rule

settled_at : (moment : Moment) → Holds moment → IsSettled moment.room
settled_at moment holds cpu held calm =
    go (sibling_of moment.room cpu).run (holds.fits cpu).runs ((holds.fits cpu).trusted (online_parts moment.room cpu held).1 calm) where
      go : (run : Option ℕ) → IfSome run (λ pid. IsAt cpu (spot_at moment.room pid)) → IfSome run (λ pid. cookie_at (spot_at moment.room pid) ≡ moment.room.core_cookie) →
          (run ≡ None) ⊎ IsSomeAnd (option_and_then (task_of moment.room) run) (λ task. task.cookie ≡ moment.room.core_cookie)
      go None here same = inl refl
      go (Some pid) here same = inr (has_cookie moment.room moment.room.core_cookie cpu pid here same)

-- After every legal history each online sibling that is not pending runs idle or a living task with the core cookie.
pub settled-moment_of : (opening : Opening) (history : History) → IsPlayable opening.scenario → AreEvents opening history →
    IsLegal opening history → IsSettled (fold_of opening history)
settled-moment_of opening history keeps limits legal = settled_at (moment_of opening history) (holds-moment_of opening history keeps limits legal)

-- Where the rule holds and no online sibling is pending, all that do not run idle run living tasks with one cookie.
pub one_cookie : (room : RoomState) → IsSettled room → pending room ≡ [] → RunOneCookie room
one_cookie room settled calm a b held_a held_b runs_a runs_b = both (running_on room a) (its a held_a runs_a) where
  quiet : (cpu : ℕ) → Contains (online room) cpu → (sibling_of room cpu).pending ≡ false
  quiet cpu held =
      false_from_ne_true (sibling_of room cpu).pending (λ is.
      let one = subst (λ cpus. Contains cpus cpu) calm (Contains-filter (λ n. (sibling_of room n).pending) (online room) cpu held is) in omega (arith, one.1))

  its : (cpu : ℕ) → Contains (online room) cpu → (sibling_of room cpu).run ≢ None → RunsWithCookie room room.core_cookie cpu
  its cpu held runs = elim (settled cpu held (quiet cpu held)) [ inl none ↦ absurd (runs none) | inr same ↦ same ]

  both : (one : Option Task) → IsSomeAnd one (λ task. task.cookie ≡ room.core_cookie) → IsSomeAnd one (λ task. RunsWithCookie room task.cookie b)
  both None is = absurd is
  both (Some task) is = subst (λ cookie. RunsWithCookie room cookie b) (sym is) (its b held_b runs_b)
