-- Selections: a core-wide selection keeps its law.
use Rattle.std.proofs.Common.{◌≡◌, ◌≢◌, ℕ, Bool, ◌-◌, ◌<◌, true, false, cond, List, [], ◌∷◌, ◌++◌, map, length, get_or, refl, sym, ap, ◌∙◌, subst, inl, inr, Option, Some, None, arith}
use Rattle.std.specs.Prelude.{nat_lt, ◌==◌, ◌&&◌, ◌||◌, ◌⊎◌, filter, count_by, All, Contains, is_none, is_some, not, unwrap_or}
use Rattle.std.specs.List.{AllByRecursion, range_with_len, enumerate_from}
use Rattle.std.specs.Option.{option_and_then, option_to_list, IfSome, option_map_or}
use Rattle.std.proofs.lemmas.Bool.{both_ways, ne_eqb, cases_Bool, cond_both, cases_lt, and_parts, or_parts, cond-true, eqb-true, eq-eqb}
use Rattle.std.proofs.lemmas.Bool.Decides.{nat_tests}
use Rattle.std.proofs.lemmas.List.{length-map, get_or-map, get_or_default, get_or-set_other}
use Rattle.std.proofs.lemmas.List.Sums.{length-filter}
use Rattle.std.proofs.lemmas.List.Elements.{All-from_recursion, recursion_from_All, All-contains, Contains-append_left, Contains-append_right, Contains-append_cases, All-contains_itself, filter_passes}
use Rattle.std.proofs.lemmas.List.FromFn.{length-enumerate_from, get_or-enumerate_from}
use Rattle.std.proofs.lemmas.Option.{MatchOption-from_none}
use Rattle.cs_types.specs.declared.task.Task.{Task}
use Rattle.cs_types.specs.declared.task.Policy.{Policy}
use Rattle.cs_types.specs.declared.event.Event.{Event}
use Rattle.cs_types.specs.declared.event.Event.TheVariants.{Turn, Resched, Block, Exit, Tick, Wake, Advance, Fork, Prctl, SetSched, Offline, Online, Load, Unload}
use Rattle.cs_types.specs.declared.event.Ask.{Ask}
use Rattle.cs_types.specs.declared.reply.Pick.{Pick}
use Rattle.cs_types.specs.declared.reply.Reply.TheVariants.{Loaded, NoGuard, Dropped, Picked}
use Rattle.cs_types.specs.declared.reply.Entry.{Entry}
use Rattle.cs_types.specs.Scenario.{IsEvent}
use Rattle.cs_types.specs.Room.{Opening, RoomState, SiblingState, queued_on, sibling_of, is_online, online, online_from, running_on, task_of, to_run, with_sibling, absent}
use Rattle.cs_types.specs.Order.{foremost, is_higher_here, outranks, goes_before, first_of}
use Rattle.cs_types.specs.Selection.{first_on, cookie_of, pid_of, snapshot_of, lead_from, choice, eligible, is_forced, forced_count, is_run, occupation_of, select_for, select, Scheduled, is_plain, pick_plain, pick_anew, adopt_or_pick_anew, schedule, sibling_after_selection}
use Rattle.cs_types.specs.Accounting.{charge}
use Rattle.cs_types.specs.Prctl.{Row, first_answer, rows_before_making, rows_after_making, prctl_answer}
use Rattle.cs_types.specs.Touches.{selection_of, is_fresh}
use Rattle.cs_types.specs.Step.{Stepped, step, picked, turn, try_steal, unless_offline, block, wake, run_idle, exit, fork, may_not_fork, tick, without, has_threads, set_policy, take_offline, bring_online}
use Rattle.cs_types.specs.Steal.{stolen}
use Rattle.cs_types.specs.Queueing.{dequeue}
use Rattle.cs_types.specs.History.{History, moment_of, fold_of, ledger_of, reply_to, step_at}
use Rattle.cs_types.specs.Laws.{first_eligible, has_none_eligible, RunsItsChoice, AwaitsItsChoice, SelectsCoreWide, scheduling_room, cpu_of}
use Rattle.cs_types.proofs.Foremost.{each_weaker, foremost_none, foremost_one}
use Rattle.cs_laws.proofs.First.{goes_before_is_order, outranks_is_order, higher_at_home}
use Rattle.cs_types.proofs.Filtered.{each_of_map, each_found, foremost_least, foremost-filter, Contains-filter, Contains-filter_parts, Contains-range, Contains-range_within}
use Rattle.cs_laws.proofs.Histories.{moment_of-push}
use Rattle.cs_laws.proofs.Siblings.{kept-run_idle, kept-without, length-alike, is_online-alike, length-fold_of}
use Rattle.cs_types.specs.Guards.{guard_of, is_bench, is_active, load, unload}
use Rattle.cs_types.proofs.Lists.{each_both, get_or-set_alike}

-- ---- the first of a list of tasks

-- where there is no first, there is no task
no_first : (tasks : List Task) → first_of tasks ≡ None → tasks ≡ []
no_first tasks none = foremost_none goes_before goes_before_is_order tasks none

-- No task of a list of one sibling's tasks outranks its first.
pub none_outranks_first : (snapshot : ℕ → ℕ) (cpu : ℕ) (tasks : List Task) → AllByRecursion (λ task. task.home ≡ cpu) tasks →
    AllByRecursion (λ task. outranks snapshot (Some task) (first_of tasks) ≡ false) tasks
none_outranks_first snapshot cpu tasks home = go (first_of tasks) refl where
  go : (first : Option Task) → first_of tasks ≡ first → AllByRecursion (λ task. outranks snapshot (Some task) first ≡ false) tasks
  go None none = subst (AllByRecursion (λ task. outranks snapshot (Some task) None ≡ false)) (sym (no_first tasks none)) tt
  go (Some first) found =
      let its_home : first.home ≡ cpu = each_found (λ task. task.home ≡ cpu) _ tasks first found home in
      each_both (λ task. task.home ≡ cpu) (λ task. goes_before task first ≡ false) (λ task. outranks snapshot (Some task) (Some first) ≡ false) tasks
      (λ task at later. sym (higher_at_home snapshot task first (at ∙ sym its_home)) ∙ (or_parts (is_higher_here task first) _ later).0)
      home (foremost_least goes_before tasks first found)

-- each task queued on a sibling has its home there
queued_at : (room : RoomState) (cpu : ℕ) → AllByRecursion (λ task. task.home ≡ cpu) (queued_on room cpu)
queued_at room cpu =
    let test : Task → Bool = λ task. task.queued && (task.home == cpu) in
    each_weaker (λ task. test task ≡ true) (λ task. task.home ≡ cpu) (queued_on room cpu)
    (λ task pass. eqb-true task.home cpu (and_parts task.queued (task.home == cpu) pass).1)
    (recursion_from_All (λ task. test task ≡ true) (queued_on room cpu) (filter_passes test room.tasks))

-- ---- the siblings that are online

-- an online sibling is one of the core's that is online
pub online_parts : (room : RoomState) (cpu : ℕ) → Contains (online room) cpu → (cpu < length room.siblings) × (is_online room cpu ≡ true)
online_parts room cpu h =
    let parts = Contains-filter_parts (is_online room) (range_with_len 0 (length room.siblings)) cpu h in
    let within = Contains-range_within 0 (length room.siblings) cpu parts.0 in
    (omega (arith, within.1), parts.1)

-- the order that begins at one sibling holds each that is online
pub online_from_holds : (room : RoomState) (cpu other : ℕ) → other < length room.siblings → is_online room other ≡ true → Contains (online_from room cpu) other
online_from_holds room cpu other below up =
    let from_cpu = range_with_len cpu (length room.siblings - cpu) in
    let up_to_cpu = range_with_len 0 cpu in
    Contains-filter (is_online room) (from_cpu ++ up_to_cpu) other
    (elim (cases_lt other cpu) [
      | inl before ↦ Contains-append_right from_cpu up_to_cpu other (Contains-range 0 cpu other (omega arith) (omega arith))
      | inr from ↦ Contains-append_left from_cpu up_to_cpu other (Contains-range cpu (length room.siblings - cpu) other from (omega arith))
    ]) up

-- ---- the lead

-- The lead is the earliest first than which no other is higher, where some sibling is online.
lead_among : (room : RoomState) (cpu other : ℕ) → Contains (online_from room cpu) other →
    foremost (outranks (snapshot_of room)) (map (first_on room) (online_from room cpu)) ≡ Some (lead_from room cpu)
unfolding lead_from
lead_among room cpu other held = go (foremost (outranks (snapshot_of room)) firsts) refl where
  firsts : List (Option Task)
  firsts = map (first_on room) (online_from room cpu)

  go : (found : Option (Option Task)) → foremost (outranks (snapshot_of room)) firsts ≡ found → found ≡ Some (option_and_then (λ lead. lead) found)
  go None none =
      absurd (omega (arith, held.1, length-map (online_from room cpu) (first_on room), ap length (foremost_none (outranks (snapshot_of room)) (outranks_is_order (snapshot_of room)) firsts none)))
  go (Some lead) found = refl

-- The sibling that selects is online.
pub lead_found : (room : RoomState) (cpu : ℕ) → cpu < length room.siblings → is_online room cpu ≡ true →
    foremost (outranks (snapshot_of room)) (map (first_on room) (online_from room cpu)) ≡ Some (lead_from room cpu)
lead_found room cpu below up = lead_among room cpu cpu (online_from_holds room cpu cpu below up)

-- No task queued on an online sibling is higher than the lead.
none_outranks_lead : (room : RoomState) (cpu other : ℕ) (lead : Option Task) →
    foremost (outranks (snapshot_of room)) (map (first_on room) (online_from room cpu)) ≡ Some lead →
    Contains (online_from room cpu) other → All (λ task. outranks (snapshot_of room) (Some task) lead ≡ false) (queued_on room other)
none_outranks_lead room cpu other lead earliest held =
    let above : Option Task → Option Task → Bool = outranks (snapshot_of room) in
    let least = each_of_map (λ first. above first lead ≡ false) (first_on room) (online_from room cpu)
    (foremost_least above (map (first_on room) (online_from room cpu)) lead earliest) in
    let its_first = All-contains (λ sibling. above (first_on room sibling) lead ≡ false) (online_from room cpu) other
    (All-from_recursion (λ sibling. above (first_on room sibling) lead ≡ false) (online_from room cpu) least) held in
    All-from_recursion (λ task. above (Some task) lead ≡ false) (queued_on room other)
    (each_weaker (λ task. above (Some task) (first_on room other) ≡ false) (λ task. above (Some task) lead ≡ false) (queued_on room other)
    (λ task lower. (outranks_is_order (snapshot_of room)).chain (Some task) (first_on room other) lead lower its_first)
    (none_outranks_first (snapshot_of room) other (queued_on room other) (queued_at room other)))

-- ---- the choice of a sibling

-- the choice among a sibling's tasks, by their first
chosen : (tasks : List Task) (core : ℕ) (first : Option Task) → first_of tasks ≡ first →
    cond (is_none first || (cookie_of first == core)) first (cond (core == 0) None (first_of (filter (λ task. task.cookie == core) tasks)))
    ≡ first_of (cond (core == 0) (filter (λ task. task.cookie == 0) (option_to_list first)) (filter (λ task. task.cookie == core) tasks))
chosen tasks core None none =
    rw (no_first tasks none) (cond_both (core == 0) [] [] (λ (ts : List Task). None ≡ first_of ts) (λ _. refl) (λ _. refl))
chosen tasks core (Some first) found =
    elim (cases_Bool (first.cookie == core)) [
      | inl same ↦ elim (cases_Bool (core == 0)) [
        | inl none ↦ let zero_cookie : (first.cookie == 0) ≡ true = grind (arith, nat_tests) in
            simp (same, none, zero_cookie) (sym (foremost_one goes_before goes_before_is_order first))
        | inr some ↦ simp (same, some) (sym (foremost-filter goes_before goes_before_is_order (λ task. task.cookie == core) tasks first found same))
      ]
      | inr other ↦ elim (cases_Bool (core == 0)) [
        | inl none ↦ let cookie : (first.cookie == 0) ≡ false = grind (arith, nat_tests) in simp (other, none, cookie)
        | inr some ↦ simp (other, some)
      ]
    ]

-- A sibling's choice is the first of its eligible tasks.
pub choice_is_first : (room : RoomState) (core cpu : ℕ) → choice room core cpu ≡ first_of (eligible room core cpu)
unfolding choice
choice_is_first room core cpu = chosen (queued_on room cpu) core (first_on room cpu) refl

-- a filter by a cookie keeps tasks that have it
each_with : (cookie : ℕ) (tasks : List Task) → AllByRecursion (λ task. task.cookie ≡ cookie) (filter (λ task. task.cookie == cookie) tasks)
each_with cookie tasks =
    let kept = filter (λ (task : Task). task.cookie == cookie) tasks in
    each_weaker (λ task. (task.cookie == cookie) ≡ true) (λ task. task.cookie ≡ cookie) kept (λ task pass. eqb-true task.cookie cookie pass)
    (recursion_from_All (λ task. (task.cookie == cookie) ≡ true) kept (filter_passes (λ task. task.cookie == cookie) tasks))

-- Each eligible task has the core cookie.
pub each_eligible : (room : RoomState) (core cpu : ℕ) → AllByRecursion (λ task. task.cookie ≡ core) (eligible room core cpu)
each_eligible room core cpu =
    let first = option_to_list (first_on room cpu) in
    cond_both (core == 0) _ _ (AllByRecursion (λ (task : Task). task.cookie ≡ core))
    (λ none. subst (λ cookie. AllByRecursion (λ task. task.cookie ≡ cookie) (filter (λ task. task.cookie == 0) first)) (sym (eqb-true core 0 none)) (each_with 0 first))
    (λ _. each_with core (queued_on room cpu))

-- A choice is idle, or has the core cookie.
pub choice_matches : (room : RoomState) (core cpu : ℕ) → (choice room core cpu ≡ None) ⊎ (cookie_of (choice room core cpu) ≡ core)
choice_matches room core cpu = go (choice room core cpu) (sym (choice_is_first room core cpu)) where
  go : (made : Option Task) → first_of (eligible room core cpu) ≡ made → (made ≡ None) ⊎ (cookie_of made ≡ core)
  go None none = inl refl
  go (Some task) found = inr (each_found (λ t. t.cookie ≡ core) _ (eligible room core cpu) task found (each_eligible room core cpu))

-- there is a first exactly where there is a task
is_some-first_of : (tasks : List Task) → is_some (first_of tasks) ≡ nat_lt 0 (length tasks)
is_some-first_of [] = refl
is_some-first_of (task ∷ tasks) = go (first_of (task ∷ tasks)) refl ∙ sym (grind (arith, nat_tests)) where
  go : (first : Option Task) → first_of (task ∷ tasks) ≡ first → is_some first ≡ true
  go None none = absurd (omega (arith, ap length (no_first (task ∷ tasks) none)))
  go (Some first) found = refl

-- and none exactly where there is none
is_none-first_of : (tasks : List Task) → is_none (first_of tasks) ≡ (length tasks == 0)
is_none-first_of [] = refl
is_none-first_of (task ∷ tasks) = go (first_of (task ∷ tasks)) refl ∙ sym (grind (arith, nat_tests)) where
  go : (first : Option Task) → first_of (task ∷ tasks) ≡ first → is_none first ≡ false
  go None none = absurd (omega (arith, ap length (no_first (task ∷ tasks) none)))
  go (Some first) found = refl

both_swapped : (a b : Bool) → (a && b) ≡ (b && a)
both_swapped true true = refl
both_swapped true false = refl
both_swapped false true = refl
both_swapped false false = refl

-- A sibling is forced idle where it has a queued task and none is eligible.
pub forced_is : (room : RoomState) (core cpu : ℕ) → is_forced room core cpu ≡ has_none_eligible room core cpu
forced_is room core cpu =
    (λ i. is_none (choice_is_first room core cpu i) && is_some-first_of (queued_on room cpu) i)
    ∙ ap (λ (none : Bool). none && nat_lt 0 (length (queued_on room cpu))) (is_none-first_of (eligible room core cpu))
    ∙ both_swapped (length (eligible room core cpu) == 0) (nat_lt 0 (length (queued_on room cpu)))

-- ---- a sibling after a selection

-- what a sibling runs that runs this
pub is_run_same : (a b : Option ℕ) → is_run a b ≡ true → a ≡ b
is_run_same None None h = refl
is_run_same None (Some b) h = absurd cc
is_run_same (Some a) None h = absurd cc
is_run_same (Some a) (Some b) h = ap Some (eqb-true a b h)

is_run_itself : (a : Option ℕ) → is_run a a ≡ true
is_run_itself None = refl
is_run_itself (Some a) = eq-eqb a a refl

-- what a selection leaves of the sibling with its number, which stays as it is where it is offline
abbrev pub numbered_after_selection : RoomState → ℕ → ℕ → ℕ × SiblingState → SiblingState
numbered_after_selection room core selector numbered =
    cond numbered.1.online (sibling_after_selection room core selector numbered.0 numbered.1) numbered.1

-- a sibling of the room after a selection
pub sibling_of-select_for : (room : RoomState) (cpu core other : ℕ) → other < length room.siblings →
    sibling_of (select_for room cpu core) other
    ≡ numbered_after_selection room core cpu (other, sibling_of room other)
unfolding select_for
sibling_of-select_for room cpu core other below =
    let after = numbered_after_selection room core cpu in
    get_or-map after (enumerate_from 0 room.siblings) other (0, absent) absent (omega (arith, length-enumerate_from 0 room.siblings))
    ∙ ap after (get_or-enumerate_from 0 room.siblings other (0, absent) below ∙ ap (λ n. (n, sibling_of room other)) (omega arith))

-- one that is online
online_after_selection : (room : RoomState) (cpu core other : ℕ) → other < length room.siblings → is_online room other ≡ true →
    sibling_of (select_for room cpu core) other ≡ sibling_after_selection room core cpu other (sibling_of room other)
online_after_selection room cpu core other below up =
    sibling_of-select_for room cpu core other below ∙ cond-true (is_online room other) _ (sibling_of room other) up

-- An online sibling is to run its choice.
pub to_run-sibling_after_selection : (room : RoomState) (core selector cpu : ℕ) (sibling : SiblingState) →
    to_run (sibling_after_selection room core selector cpu sibling) ≡ pid_of (choice room core cpu)
to_run-sibling_after_selection room core selector cpu sibling = by_tests (cpu == selector) (is_run sibling.run run) refl where
  run : Option ℕ
  run = pid_of (choice room core cpu)

  by_tests : (selects runs_it : Bool) → is_run sibling.run run ≡ runs_it →
      unwrap_or (cond (selects || runs_it) None (Some run)) (cond selects run sibling.run) ≡ run
  by_tests true runs_it is = refl
  by_tests false true is = is_run_same sibling.run run is
  by_tests false false is = refl

-- The one that selects runs it already.
selector_runs_its_choice : (room : RoomState) (core cpu : ℕ) (sibling : SiblingState) →
    RunsItsChoice (pid_of (choice room core cpu)) (sibling_after_selection room core cpu cpu sibling)
selector_runs_its_choice room core cpu sibling =
    let run = pid_of (choice room core cpu) in
    let selects = eq-eqb cpu cpu refl in
    record {
      runs = ap (λ b. cond b run sibling.run) selects;
      nothing_waits = ap (λ b. cond (b || is_run sibling.run run) None (Some run)) selects;
      not_pending = ap (λ b. not b && (not (is_run sibling.run run) || sibling.pending)) selects;
    }

-- For every other it waits where that does not run it yet.
others_await_their_choices : (room : RoomState) (core selector cpu : ℕ) (sibling : SiblingState) → cpu ≢ selector →
    AwaitsItsChoice (pid_of (choice room core cpu)) sibling (sibling_after_selection room core selector cpu sibling)
others_await_their_choices room core selector cpu sibling differ =
    by_tests (cpu == selector) (is_run sibling.run run) sibling.pending _ _ _ (ne_eqb cpu selector differ) refl where
      run : Option ℕ
      run = pid_of (choice room core cpu)

      by_tests : (selects runs_it pending : Bool) (ran occupation snapshot : ℕ) → selects ≡ false → is_run sibling.run run ≡ runs_it →
          AwaitsItsChoice run (record sibling { pending = pending }) (record sibling {
            run = cond selects run sibling.run;
            waiting = cond (selects || runs_it) None (Some run);
            pending = not selects && (not runs_it || pending);
            ran = ran;
            occupation = occupation;
            snapshot = snapshot;
          })
      by_tests true runs_it pending ran occupation snapshot is runs = absurd cc
      by_tests false true pending ran occupation snapshot is runs =
          let same = is_run_same sibling.run run runs in
          record {
            runs = refl;
            waits = (λ waits. absurd cc, λ other. absurd (other same));
            nothing_waits = (λ _. same, λ _. refl);
            pending = (λ is. inr is, λ either. elim either [ inl waits ↦ absurd cc | inr is ↦ is ]);
          }
      by_tests false false pending ran occupation snapshot is runs =
          let other : sibling.run ≢ run = λ same. both_ways (is_run sibling.run run) runs (ap (λ r. is_run r run) same ∙ is_run_itself run) in
          record {
            runs = refl;
            waits = (λ _. other, λ _. refl);
            nothing_waits = (λ none. absurd cc, λ same. absurd (other same));
            pending = (λ _. inl refl, λ _. refl);
          }

-- ---- while a sibling is forced idle, some sibling has a task

-- where some pass, one does, and the other way round
some_of_count : (p : ℕ → Bool) (xs : List ℕ) → 0 < count_by p xs → (x : ℕ) × Contains xs x × (p x ≡ true)
some_of_count p xs some =
    let kept = filter p xs in
    let long : 0 < length kept = omega (arith, some, length-filter p xs) in
    let parts = Contains-filter_parts p xs (get_or kept 0 0) (0, long, get_or_default kept 0 (get_or kept 0 0) 0 long) in
    (get_or kept 0 0, parts.0, parts.1)

count_of_some : (p : ℕ → Bool) (xs : List ℕ) (x : ℕ) → Contains xs x → p x ≡ true → 0 < count_by p xs
count_of_some p xs x held pass =
    let kept = Contains-filter p xs x held pass in omega (arith, kept.1, length-filter p xs)

-- an online sibling in the order from one is online
from_is_online : (room : RoomState) (cpu other : ℕ) → cpu < length room.siblings → Contains (online_from room cpu) other → Contains (online room) other
from_is_online room cpu other below held =
    let later = range_with_len cpu (length room.siblings - cpu) in
    let earlier = range_with_len 0 cpu in
    let parts = Contains-filter_parts (is_online room) (later ++ earlier) other held in
    let within : other < length room.siblings =
    elim (Contains-append_cases later earlier other parts.0) [
      | inl late ↦ omega (arith, (Contains-range_within cpu (length room.siblings - cpu) other late).1, below)
      | inr early ↦ omega (arith, (Contains-range_within 0 cpu other early).1, below)
    ] in
    Contains-filter (is_online room) (range_with_len 0 (length room.siblings)) other (Contains-range 0 (length room.siblings) other (omega arith) (omega (arith, within))) parts.1

-- a sibling whose first has the core cookie gets it
choice_of_first : (room : RoomState) (core cpu : ℕ) → cookie_of (first_on room cpu) ≡ core → choice room core cpu ≡ first_on room cpu
unfolding choice
choice_of_first room core cpu same =
    cond-true (is_none (first_on room cpu) || (cookie_of (first_on room cpu) == core)) _ _
    (or_right (is_none (first_on room cpu)) (cookie_of (first_on room cpu) == core) (eq-eqb _ _ same)) where
      or_right : (a b : Bool) → b ≡ true → (a || b) ≡ true
      or_right true b pass = refl
      or_right false b pass = pass

-- So while some sibling is forced idle, the sibling of the lead has a task.
pub occupied : (room : RoomState) (cpu : ℕ) → cpu < length room.siblings →
    let core = cookie_of (lead_from room cpu) in 0 < forced_count room core → 0 < occupation_of room core
occupied room cpu below forced = go (lead_from room cpu) refl where
  firsts : List (Option Task)
  firsts = map (first_on room) (online_from room cpu)

  -- who is forced idle has a first
  idle_one : (other : ℕ) × Contains (online room) other × (is_forced room (cookie_of (lead_from room cpu)) other ≡ true)
  idle_one = some_of_count (is_forced room (cookie_of (lead_from room cpu))) (online room) forced

  lead_is : foremost (outranks (snapshot_of room)) firsts ≡ Some (lead_from room cpu)
  lead_is =
      let parts = online_parts room idle_one.0 idle_one.1 in
      lead_among room cpu idle_one.0 (online_from_holds room cpu idle_one.0 parts.0 parts.1)

  go : (lead : Option Task) → lead_from room cpu ≡ lead → 0 < occupation_of room (cookie_of (lead_from room cpu))
  go None none =
      let other = idle_one.0 in
      let parts = online_parts room other idle_one.1 in
      let first = (and_parts (is_none (choice room (cookie_of (lead_from room cpu)) other)) (is_some (first_on room other)) idle_one.2).1 in
      let least = each_of_map (λ first. outranks (snapshot_of room) first None ≡ false) (first_on room) (online_from room cpu)
      (foremost_least (outranks (snapshot_of room)) firsts None (lead_is ∙ ap Some none)) in
      let lower = All-contains (λ sibling. outranks (snapshot_of room) (first_on room sibling) None ≡ false) (online_from room cpu) other
      (All-from_recursion (λ sibling. outranks (snapshot_of room) (first_on room sibling) None ≡ false) (online_from room cpu) least)
      (online_from_holds room cpu other parts.0 parts.1) in
      absurd (not_both (first_on room other) first lower) where
        not_both : (first : Option Task) → is_some first ≡ true → outranks (snapshot_of room) first None ≡ false → ⊥
        not_both None some lower = absurd cc
        not_both (Some task) some lower = absurd cc
  go (Some task) found =
      let held = each_found (Contains firsts) _ firsts (Some task) (lead_is ∙ ap Some found)
      (recursion_from_All (Contains firsts) firsts (All-contains_itself firsts)) in
      let within : held.0 < length (online_from room cpu) = omega (arith, held.1, length-map (online_from room cpu) (first_on room)) in
      let place = get_or (online_from room cpu) held.0 0 in
      let its_first : first_on room place ≡ Some task =
      sym (get_or-map (first_on room) (online_from room cpu) held.0 0 (Some task) within) ∙ held.2 in
      let there = from_is_online room cpu place below (held.0, within, get_or_default (online_from room cpu) held.0 place 0 within) in
      let same : cookie_of (first_on room place) ≡ cookie_of (lead_from room cpu) = ap cookie_of (its_first ∙ sym found) in
      count_of_some (λ sibling. is_some (choice room (cookie_of (lead_from room cpu)) sibling)) (online room) place there
      (ap is_some (choice_of_first room (cookie_of (lead_from room cpu)) place same ∙ its_first))

-- ---- the law

-- A core-wide selection that an online sibling makes keeps its law.
pub selected_keeps_law : (room : RoomState) (cpu : ℕ) → cpu < length room.siblings → is_online room cpu ≡ true →
    SelectsCoreWide room cpu (select room cpu).pick (select room cpu).room
unfolding select_for
selected_keeps_law room cpu below up =
    let core = cookie_of (lead_from room cpu) in
    record {
      lead = lead_from room cpu;
      earliest = lead_found room cpu below up;
      highest = λ other held. let parts = online_parts room other held in
          none_outranks_lead room cpu other (lead_from room cpu) (lead_found room cpu below up) (online_from_holds room cpu other parts.0 parts.1);
      cookie = refl;
      told = refl;
      choices = λ other held. let parts = online_parts room other held in
          ap to_run (online_after_selection room cpu core other parts.0 parts.1) ∙ to_run-sibling_after_selection room core cpu other (sibling_of room other)
          ∙ ap pid_of (choice_is_first room core other);
      matches = λ other held.
          subst (λ (chosen : Option Task). (chosen ≡ None) ⊎ (cookie_of chosen ≡ core)) (choice_is_first room core other) (choice_matches room core other);
      selector = subst (RunsItsChoice (pid_of (first_eligible room core cpu))) (sym (online_after_selection room cpu core cpu below up))
          (subst (λ (chosen : Option Task). RunsItsChoice (pid_of chosen) (sibling_after_selection room core cpu cpu (sibling_of room cpu))) (choice_is_first room core cpu)
          (selector_runs_its_choice room core cpu (sibling_of room cpu)));
      others = λ other held differ. let parts = online_parts room other held in
          subst (AwaitsItsChoice (pid_of (first_eligible room core other)) (sibling_of room other)) (sym (online_after_selection room cpu core other parts.0 parts.1))
          (subst (λ (chosen : Option Task). AwaitsItsChoice (pid_of chosen) (sibling_of room other) (sibling_after_selection room core cpu other (sibling_of room other)))
          (choice_is_first room core other) (others_await_their_choices room core cpu other (sibling_of room other) differ));
      took = ap (λ (chosen : Option Task). unwrap_or (pid_of chosen) 0) (choice_is_first room core cpu);
      count = λ i. count_by (λ other. forced_is room core other i) (online room);
      counted = refl;
      occupied = occupied room cpu below;
    }

-- ---- the law at every step

-- what the law says of a schedule that a sibling made: where it is a core-wide selection, it keeps the law
abbrev pub KeepsLaw : RoomState → ℕ → Scheduled → Type 0
KeepsLaw room cpu made = IfSome (selection_of (Picked made.pick)) (λ pick. SelectsCoreWide room cpu pick made.room)

rescheduled_keeps_law : (room : RoomState) (cpu : ℕ) → cpu < length room.siblings → is_online room cpu ≡ true → KeepsLaw room cpu (pick_anew room cpu)
rescheduled_keeps_law room cpu below up =
    cond_both (is_plain room cpu) (pick_plain room cpu) (select room cpu) (KeepsLaw room cpu) (λ _. tt) (λ _. selected_keeps_law room cpu below up)

scheduled_keeps_law : (room : RoomState) (fresh : Bool) (cpu : ℕ) (waiting : Option (Option ℕ)) →
    cpu < length room.siblings → is_online room cpu ≡ true → KeepsLaw (charge room) cpu (adopt_or_pick_anew room fresh cpu waiting)
scheduled_keeps_law room fresh cpu None below up = rescheduled_keeps_law (charge room) cpu below up
scheduled_keeps_law room true cpu (Some run) below up = tt
scheduled_keeps_law room false cpu (Some run) below up = rescheduled_keeps_law (charge room) cpu below up

-- neither the charge nor the place of a sibling's next try to steal makes a difference to the law
balanced_keeps_law : (room : RoomState) (cpu : ℕ) (pick : Pick) (now : RoomState) (place : ℕ) → SelectsCoreWide (charge room) cpu pick now →
    SelectsCoreWide room cpu pick (with_sibling now cpu (record (sibling_of now cpu) { place = place }))
unfolding choice
balanced_keeps_law room cpu pick now place law =
    let parts = λ (other : ℕ).
    get_or-set_alike {Y = Option ℕ × Option (Option ℕ) × Bool} (λ s. (s.run, s.waiting, s.pending)) now.siblings cpu (record (sibling_of now cpu) { place = place }) other absent refl in
    record {
      lead = law.lead;
      earliest = law.earliest;
      highest = law.highest;
      cookie = law.cookie;
      told = law.told;
      choices = λ other there. (λ i. unwrap_or (parts other i).1 (parts other i).0) ∙ law.choices other there;
      matches = law.matches;
      selector = record {
        runs = ap (λ part. part.0) (parts cpu) ∙ law.selector.runs;
        nothing_waits = ap (λ part. part.1) (parts cpu) ∙ law.selector.nothing_waits;
        not_pending = ap (λ part. part.2) (parts cpu) ∙ law.selector.not_pending;
      };
      others = λ other there differ.
          let is = law.others other there differ in
          let same = get_or-set_other now.siblings cpu other (record (sibling_of now cpu) { place = place }) absent differ in
          subst (AwaitsItsChoice (pid_of (first_eligible room now.core_cookie other)) (sibling_of room other)) (sym same) is;
      took = law.took;
      count = law.count;
      counted = law.counted;
      occupied = law.occupied;
    }

-- Every schedule of an online sibling keeps the law.
pub schedule_keeps_law : (room : RoomState) (fresh : Bool) (cpu : ℕ) → cpu < length room.siblings → is_online room cpu ≡ true → KeepsLaw room cpu (schedule room fresh cpu)
schedule_keeps_law room fresh cpu below up =
    let made = adopt_or_pick_anew room fresh cpu (sibling_of room cpu).waiting in
    go (selection_of (Picked made.pick)) made.room _ (scheduled_keeps_law room fresh cpu (sibling_of room cpu).waiting below up) where
      go : (pick : Option Pick) (now : RoomState) (place : ℕ) → IfSome pick (λ pick. SelectsCoreWide (charge room) cpu pick now) →
          IfSome pick (λ pick. SelectsCoreWide room cpu pick (with_sibling now cpu (record (sibling_of now cpu) { place = place })))
      go None now place kept = tt
      go (Some pick) now place kept = balanced_keeps_law room cpu pick now place kept

-- what the law says of a step made by an event
abbrev pub StepKeepsLaw : RoomState → Event → Stepped → Type 0
StepKeepsLaw room event made = IfSome (selection_of made.reply) (λ pick. SelectsCoreWide (scheduling_room room event) (cpu_of event) pick made.room)

try_steal_keeps_law : (room : RoomState) (cpu : ℕ) (task : Option Task) → StepKeepsLaw room (Turn cpu) (try_steal room cpu task)
try_steal_keeps_law room cpu None = tt
try_steal_keeps_law room cpu (Some task) = tt

turned_keeps_law : (room : RoomState) (fresh : Bool) (cpu : ℕ) → cpu < length room.siblings → is_online room cpu ≡ true →
    StepKeepsLaw room (Turn cpu) (turn room fresh cpu)
turned_keeps_law room fresh cpu below up =
    cond_both (sibling_of room cpu).pending _ _ (StepKeepsLaw room (Turn cpu)) (λ _. schedule_keeps_law room fresh cpu below up)
    (λ _. cond_both ((sibling_of room cpu).place == 0) _ _ (StepKeepsLaw room (Turn cpu)) (λ _. tt) (λ _. try_steal_keeps_law room cpu (stolen room cpu)))

-- a sibling that blocks schedules in the room without the task that went to sleep, where the same siblings are online
blocked_keeps_law : (room : RoomState) (cpu : ℕ) (task : Option Task) → cpu < length room.siblings → is_online room cpu ≡ true →
    IfSome (selection_of (block room cpu task).reply)
    (λ pick. SelectsCoreWide (option_map_or (λ task. run_idle (dequeue (charge room) task) cpu) task room) cpu pick (block room cpu task).room)
blocked_keeps_law room cpu None below up = tt
blocked_keeps_law room cpu (Some task) below up =
    let room_then = run_idle (dequeue (charge room) task) cpu in
    let same = kept-run_idle (charge room) cpu task in
    schedule_keeps_law room_then false cpu (subst (λ n. cpu < n) (sym (length-alike room_then room same)) below)
    (is_online-alike room_then room same cpu ∙ up)

exited_keeps_law : (room : RoomState) (cpu : ℕ) (task : Option Task) → cpu < length room.siblings → is_online room cpu ≡ true →
    IfSome (selection_of (exit room cpu task).reply)
    (λ pick. SelectsCoreWide (option_map_or (λ task. run_idle (without (charge room) task) cpu) task room) cpu pick (exit room cpu task).room)
exited_keeps_law room cpu None below up = tt
exited_keeps_law room cpu (Some task) below up =
    let room_then = run_idle (without (charge room) task) cpu in
    let same = kept-without (charge room) cpu task in
    cond_both (has_threads room task) _ _ (λ (made : Stepped). IfSome (selection_of made.reply) (λ pick. SelectsCoreWide room_then cpu pick made.room))
    (λ _. tt)
    (λ _. schedule_keeps_law room_then false cpu (subst (λ n. cpu < n) (sym (length-alike room_then room same)) below)
    (is_online-alike room_then room same cpu ∙ up))

forked_keeps_law : (room : RoomState) (pid : ℕ) (thread : Bool) (caller : Option Task) → StepKeepsLaw room (Fork pid thread) (fork room thread caller)
forked_keeps_law room pid thread None = tt
forked_keeps_law room pid thread (Some caller) =
    cond_both (may_not_fork room.task_limit room.tasks caller) _ _ (StepKeepsLaw room (Fork pid thread)) (λ _. tt) (λ _. tt)

woken_keeps_law : (room : RoomState) (pid : ℕ) (task : Option Task) → StepKeepsLaw room (Wake pid) (wake room task)
woken_keeps_law room pid None = tt
woken_keeps_law room pid (Some task) = cond_both task.queued _ _ (StepKeepsLaw room (Wake pid)) (λ _. tt) (λ _. tt)

ticked_keeps_law : (room : RoomState) (cpu : ℕ) (task : Option Task) → StepKeepsLaw room (Tick cpu) (tick room cpu task)
ticked_keeps_law room cpu None = tt
ticked_keeps_law room cpu (Some task) = tt

-- no answer of these rows tells a selection
abbrev pub SelectNothing : List Row → Type 0
SelectNothing [] = Unit {0}
SelectNothing (row ∷ rows) = (selection_of row.answer ≡ None) × SelectNothing rows

first_answer_selects_nothing : (rows : List Row) → SelectNothing rows → selection_of (first_answer rows) ≡ None
first_answer_selects_nothing [] none = refl
first_answer_selects_nothing (row ∷ rows) none =
    cond_both row.holds row.answer (first_answer rows) (λ answer. selection_of answer ≡ None) (λ _. none.0)
    (λ _. first_answer_selects_nothing rows none.1)

-- A call tells no selection.
pub prctl_selects_nothing : (room : RoomState) (caller : ℕ) (ask : Ask) → selection_of (prctl_answer room caller ask) ≡ None
unfolding rows_before_making rows_after_making
prctl_selects_nothing room caller ask =
    first_answer_selects_nothing (rows_before_making room caller ask ++ rows_after_making room caller ask)
    (refl, (refl, (refl, (refl, (refl, (refl, (refl, (refl, (refl, (refl, (refl, (refl, (refl, tt)))))))))))))

-- a sibling that is offline selects nothing
offline_keeps_law : (room : RoomState) (event : Event) (cpu : ℕ) (stepped : Stepped) → (is_online room cpu ≡ true → StepKeepsLaw room event stepped) →
    StepKeepsLaw room event (unless_offline room cpu stepped)
offline_keeps_law room event cpu stepped kept = cond_both (is_online room cpu) _ _ (StepKeepsLaw room event) kept (λ _. tt)

set_policy_keeps_law : (room : RoomState) (pid : ℕ) (policy : Policy) (task : Option Task) → StepKeepsLaw room (SetSched pid policy) (set_policy room policy task)
set_policy_keeps_law room pid policy None = tt
set_policy_keeps_law room pid policy (Some task) = tt

taken_offline_keeps_law : (room : RoomState) (cpu : ℕ) → StepKeepsLaw room (Offline cpu) (take_offline room cpu)
taken_offline_keeps_law room cpu =
    cond_both (not (is_online room cpu)) _ _ (StepKeepsLaw room (Offline cpu)) (λ _. tt)
    (λ _. cond_both (length (online room) == 1) _ _ (StepKeepsLaw room (Offline cpu)) (λ _. tt) (λ _. tt))

brought_online_keeps_law : (room : RoomState) (cpu : ℕ) → StepKeepsLaw room (Online cpu) (bring_online room cpu)
brought_online_keeps_law room cpu = cond_both (is_online room cpu) _ _ (StepKeepsLaw room (Online cpu)) (λ _. tt) (λ _. tt)

-- Every step of an online sibling keeps the law, and the other steps select nothing.
pub step_keeps_law : (room : RoomState) (fresh : Bool) (event : Event) → IsEvent (length room.siblings) event → StepKeepsLaw room event (step room fresh event)
step_keeps_law room fresh (Turn cpu) below = offline_keeps_law room (Turn cpu) cpu (turn room fresh cpu) (turned_keeps_law room fresh cpu below)
step_keeps_law room fresh (Resched cpu) below =
    offline_keeps_law room (Resched cpu) cpu (picked Picked (schedule room fresh cpu)) (schedule_keeps_law room fresh cpu below)
step_keeps_law room fresh (Block cpu) below =
    offline_keeps_law room (Block cpu) cpu (block room cpu (running_on room cpu)) (blocked_keeps_law room cpu (running_on room cpu) below)
step_keeps_law room fresh (Exit cpu) below =
    offline_keeps_law room (Exit cpu) cpu (exit room cpu (running_on room cpu)) (exited_keeps_law room cpu (running_on room cpu) below)
step_keeps_law room fresh (Tick cpu) limits =
    offline_keeps_law room (Tick cpu) cpu (tick room cpu (running_on room cpu)) (λ _. ticked_keeps_law room cpu (running_on room cpu))
step_keeps_law room fresh (Wake pid) limits = woken_keeps_law room pid (task_of room pid)
step_keeps_law room fresh (Advance delta) limits = tt
step_keeps_law room fresh (Fork caller thread) limits = forked_keeps_law room caller thread (task_of room caller)
step_keeps_law room fresh (SetSched pid policy) limits = set_policy_keeps_law room pid policy (task_of room pid)
step_keeps_law room fresh (Offline cpu) limits = taken_offline_keeps_law room cpu
step_keeps_law room fresh (Online cpu) limits = brought_online_keeps_law room cpu
step_keeps_law room fresh (Load index) limits =
    cond_both (is_bench (guard_of room.guards index).place) Loaded NoGuard
    (λ answer. StepKeepsLaw room (Load index) (record { reply = answer; room = record room { guards = load room.guards index } })) (λ _. tt) (λ _. tt)
step_keeps_law room fresh (Unload index) limits =
    cond_both (is_active (guard_of room.guards index).place) Dropped NoGuard
    (λ answer. StepKeepsLaw room (Unload index) (record { reply = answer; room = record room { guards = unload room.guards index } })) (λ _. tt) (λ _. tt)
step_keeps_law room fresh (Prctl caller ask) limits =
    MatchOption-from_none (selection_of (prctl_answer room caller ask)) _ (prctl_selects_nothing room caller ask)

-- Every core-wide selection that a legal step makes keeps the law.
pub selects : (opening : Opening) (history : History) (entry : Entry) → IsEvent opening.scenario.siblings entry.event →
    entry.reply ≡ reply_to opening history entry.event →
    IfSome (selection_of entry.reply)
    (λ pick. SelectsCoreWide (scheduling_room (fold_of opening history) entry.event) (cpu_of entry.event) pick (fold_of opening (history ++ entry ∷ [])))
selects opening history entry limits legal =
    let room = fold_of opening history in
    let made = step_at (moment_of opening history) entry.event in
    let siblings = length-fold_of opening history in
    let kept = step_keeps_law room (is_fresh (ledger_of opening history)) entry.event
    (subst (λ n. IsEvent n entry.event) (sym siblings) limits) in
    let same : made ≡ record { reply = entry.reply; room = fold_of opening (history ++ entry ∷ []) } =
    sym (λ i. record { reply = legal i; room = (moment_of-push opening history entry i).room }) in
    subst (StepKeepsLaw room entry.event) same kept
