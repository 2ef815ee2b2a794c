-- Shares: while an interval is open, no more siblings are to run a task than had one when it opened, so that no interval
-- charges more than the time for which siblings were forced idle in it.
use Rattle.std.proofs.Common.{◌≡◌, ℕ, suc, ◌+◌, ◌-◌, ◌*◌, ◌/◌, ◌≤◌, ◌<◌, Bool, true, false, cond, not, ltb, eqb, List, [], ◌∷◌, map, length, get_or, refl, sym, ap, ◌∙◌, subst, le_refl, inl, inr, Option, Some, None, arith}
use Rattle.std.specs.Prelude.{◌==◌, ◌&&◌, ◌||◌, filter, is_some, unwrap_or, All, IfSome}
use Rattle.std.specs.List.{range_with_len, enumerate_from, filter_map, cons_option, AllByRecursion}
use Rattle.std.specs.Option.{option_map, option_and_then, option_to_list}
use Rattle.std.proofs.Math.Nat.{mul-div-le}
use Rattle.std.proofs.lemmas.Bool.{cases_Bool, cond_both, both_ways, and_parts, or_parts, eqb-false, ltb-false}
use Rattle.std.proofs.lemmas.Nat.{mul-le}
use Rattle.std.proofs.lemmas.List.Sums.{length-filter}
use Rattle.std.proofs.lemmas.List.Elements.{All-nil, All-cons, All-append, recursion_from_All}
use Rattle.std.proofs.lemmas.List.{length-replicate}
use Rattle.cs_types.specs.declared.task.Task.{Task}
use Rattle.cs_types.specs.declared.task.Policy.{Policy}
use Rattle.cs_types.specs.declared.event.Event.{Event}
use Rattle.cs_types.specs.declared.event.Event.TheVariants.{Turn, Resched, Block, Exit, Tick, Wake, Advance, Fork, Prctl, SetSched, Offline, Online, Load, Unload}
use Rattle.cs_types.specs.declared.reply.Reply.{Reply}
use Rattle.cs_types.specs.declared.reply.Reply.TheVariants.{Zero}
use Rattle.cs_types.specs.declared.reply.Entry.{Entry}
use Rattle.cs_types.specs.Scenario.{IsEvent}
use Rattle.cs_types.specs.Room.{Opening, RoomState, SiblingState, Interval, Waiting, idle, absent, is_online, online, sibling_of, running_on, task_of, to_run, with_sibling, with_task, flag}
use Rattle.cs_types.specs.Selection.{Scheduled, choice, pid_of, running, sibling_after_selection, occupation_of, forced_count, lead_from, cookie_of, select_for, select, pick_plain, is_plain, pick_anew, adopt_or_pick_anew, balance, schedule}
use Rattle.cs_types.specs.Accounting.{charged_time, forced_time, charged_on, charged, up_to_now, charge}
use Rattle.cs_types.specs.Time.{with_growth, advanced, begin_slice}
use Rattle.cs_types.specs.Prctl.{asked_by_call, Setting, setting_of, runs_one, makes_cookie, with_used, with_answer, prctl_answer}
use Rattle.cs_types.specs.Step.{Stepped, step, wake, turn, block, exit, fork, may_not_fork, child_of, with_child, child_at_home, tick, without, has_threads, run_idle, try_steal, unless_offline, with_policy, requeue, set_policy, take_offline, bring_online}
use Rattle.cs_types.specs.Queueing.{dequeue, enqueue, moved, rehomed, refreshed, queue_at_home}
use Rattle.cs_types.specs.Steal.{source_of, stolen, set_place}
use Rattle.cs_types.specs.Hotplug.{leave, back}
use Rattle.cs_types.specs.Touches.{is_fresh}
use Rattle.cs_types.specs.History.{History, Moment, beginning, next, after, fold_of}
use Rattle.cs_types.proofs.Lists.{map-set_alike, map-enumerate_alike, map-map_alike}
use Rattle.cs_laws.proofs.Siblings.{length-step}
use Rattle.cs_laws.proofs.Selections.{numbered_after_selection, to_run-sibling_after_selection}
use Rattle.cs_laws.proofs.Accounts.{IsAccounted, account_of, charged_up_to, open_since, now-charge, charge-again, accounted-step, accounted-beginning}

-- ---- how many siblings are to run a task

-- whether a sibling is online and is to run a task
abbrev is_busy : SiblingState → Bool
is_busy sibling = sibling.online && is_some (to_run sibling)

abbrev busy : RoomState → List Bool
busy room = map is_busy room.siblings

-- how many of these are true
abbrev number_busy : List Bool → ℕ
number_busy tests = length (filter (λ test. test) tests)

-- a list with one more element, or none, keeps no fewer
no_fewer : (p : ℕ → Bool) (up : Bool) (x : ℕ) (xs : List ℕ) → length (filter p xs) ≤ length (filter p (cond up (x ∷ xs) xs))
no_fewer p up x xs =
    cond_both up (x ∷ xs) xs (λ ys. length (filter p xs) ≤ length (filter p ys))
    (λ _. cond_both (p x) (x ∷ filter p xs) (filter p xs) (λ ys. length (filter p xs) ≤ length ys) (λ _. omega arith) (λ _. omega arith)) (λ _. omega arith)

-- Where siblings are changed by their numbers, and each that is then busy is up and passes a test, no more are busy than pass.
busy_few : (up p : ℕ → Bool) (g : ℕ × SiblingState → SiblingState) (n : ℕ) (xs : List SiblingState) →
    ((i m : ℕ) → n + i ≡ m → is_busy (g (m, get_or xs i absent)) ≡ true → (up m ≡ true) × (p m ≡ true)) →
    number_busy (map is_busy (map g (enumerate_from n xs))) ≤ length (filter p (filter up (range_with_len n (length xs))))
busy_few up p g n [] within = omega arith
busy_few up p g n (x ∷ xs) within =
    let rest = filter up (range_with_len (n + 1) (length xs)) in
    let fewer : number_busy (map is_busy (map g (enumerate_from (n + 1) xs))) ≤ length (filter p rest) =
    busy_few up p g (n + 1) xs (λ i m at. within (suc i) m (omega (arith, at))) in
    elim (cases_Bool (is_busy (g (n, x)))) [
      | inl is ↦
          let passes = within 0 n (omega arith) is in
          let both : length (filter p (cond (up n) (n ∷ rest) rest)) ≡ suc (length (filter p rest)) = simp (passes.0, passes.1) in
          let one : number_busy (map is_busy (map g (enumerate_from n (x ∷ xs)))) ≡ suc (number_busy (map is_busy (map g (enumerate_from (n + 1) xs)))) = simp (is) in
          omega (arith, fewer, both, one)
      | inr isnt ↦
          let none : number_busy (map is_busy (map g (enumerate_from n (x ∷ xs)))) ≡ number_busy (map is_busy (map g (enumerate_from (n + 1) xs))) = simp (isnt) in
          omega (arith, fewer, none, no_fewer p (up n) n rest)
    ]

-- Where nothing is found for a sibling that is not busy, no more is found than are busy.
found_few : (up : ℕ → Bool) (h : ℕ → Option ℕ) (n : ℕ) (xs : List SiblingState) →
    ((i m : ℕ) → n + i ≡ m → up m ≡ true → is_busy (get_or xs i absent) ≡ false → h m ≡ None) →
    length (filter_map h (filter up (range_with_len n (length xs)))) ≤ number_busy (map is_busy xs)
found_few up h n [] none = omega arith
found_few up h n (x ∷ xs) none =
    let rest = filter up (range_with_len (n + 1) (length xs)) in
    let fewer : length (filter_map h rest) ≤ number_busy (map is_busy xs) = found_few up h (n + 1) xs (λ i m at. none (suc i) m (omega (arith, at))) in
    elim (cases_Bool (is_busy x)) [
      | inl is ↦
          let one : number_busy (map is_busy (x ∷ xs)) ≡ suc (number_busy (map is_busy xs)) = simp (is) in
          omega (arith, fewer, one, one_more (up n) (h n) n rest refl)
      | inr isnt ↦
          let same : number_busy (map is_busy (x ∷ xs)) ≡ number_busy (map is_busy xs) = simp (isnt) in
          omega (
            arith,
            fewer,
            same,
            cond_both (up n) (n ∷ rest) rest (λ ys. length (filter_map h ys) ≤ length (filter_map h rest))
                (λ is. nothing n rest (none 0 n (omega arith) is isnt)) (λ _. omega arith),
          )
    ] where
      one_more : (b : Bool) (found : Option ℕ) (m : ℕ) (ms : List ℕ) → h m ≡ found → length (filter_map h (cond b (m ∷ ms) ms)) ≤ suc (length (filter_map h ms))
      one_more false found m ms is = omega arith
      one_more true None m ms is = subst (λ o. length (cons_option o (filter_map h ms)) ≤ suc (length (filter_map h ms))) (sym is) (omega arith)
      one_more true (Some y) m ms is = subst (λ o. length (cons_option o (filter_map h ms)) ≤ suc (length (filter_map h ms))) (sym is) (omega arith)

      nothing : (m : ℕ) (ms : List ℕ) → h m ≡ None → length (filter_map h (m ∷ ms)) ≤ length (filter_map h ms)
      nothing m ms is = subst (λ o. length (cons_option o (filter_map h ms)) ≤ length (filter_map h ms)) (sym is) (omega arith)

-- ---- what a selection leaves, and what a charge finds

-- A sibling that is busy after a selection is online, and a task was chosen for it.
busy_of-selection : (room : RoomState) (core selector cpu : ℕ) (sibling : SiblingState) →
    is_busy (numbered_after_selection room core selector (cpu, sibling)) ≡ true → (sibling.online ≡ true) × (is_some (choice room core cpu) ≡ true)
busy_of-selection room core selector cpu sibling =
    let after = sibling_after_selection room core selector cpu sibling in
    cond_both sibling.online after sibling (λ (s : SiblingState). is_busy s ≡ true → (sibling.online ≡ true) × (is_some (choice room core cpu) ≡ true))
    (λ up is. (up, chosen (choice room core cpu) (sym (ap is_some (to_run-sibling_after_selection room core selector cpu sibling)) ∙ (and_parts sibling.online (is_some (to_run after)) is).1)))
    (λ off is. absurd (both_ways sibling.online off (and_parts sibling.online (is_some (to_run sibling)) is).0)) where
      chosen : (one : Option Task) → is_some (pid_of one) ≡ true → is_some one ≡ true
      chosen None is = is
      chosen (Some task) is = refl

-- So no more are busy than the occupation says.
busy-select_for : (room : RoomState) (cpu core : ℕ) → number_busy (busy (select_for room cpu core)) ≤ occupation_of room core
unfolding select_for
busy-select_for room cpu core =
    omega (arith, length-filter chosen (online room), busy_few (is_online room) chosen (numbered_after_selection room core cpu) 0 room.siblings within) where
      chosen : ℕ → Bool
      chosen other = is_some (choice room core other)

      within : (i other : ℕ) → 0 + i ≡ other → is_busy (numbered_after_selection room core cpu (other, sibling_of room i)) ≡ true →
          (is_online room other ≡ true) × (chosen other ≡ true)
      within i other at is =
          let both = busy_of-selection room core cpu other (sibling_of room i) is in
          (subst (λ k. is_online room k ≡ true) (omega (arith, at)) both.0, both.1)

-- No more tasks are charged than siblings are busy.
length-charged : (room : RoomState) → length (charged room) ≤ number_busy (busy room)
unfolding charged
length-charged room =
    found_few (is_online room) (charged_on room) 0 room.siblings
    (λ i m at up isnt. nobody m up (subst (λ k. is_busy (get_or room.siblings k absent) ≡ false) (omega (arith, at)) isnt)) where
      idles : (run : Option ℕ) → is_some run ≡ false → option_map (λ (task : Task). task.spec.pid) (option_and_then (task_of room) run) ≡ None
      idles None isnt = refl
      idles (Some pid) isnt = absurd cc

      nobody : (m : ℕ) → is_online room m ≡ true → is_busy (sibling_of room m) ≡ false → charged_on room m ≡ None
      nobody m up isnt = idles (to_run (sibling_of room m)) (sym (ap (λ b. b && is_some (to_run (sibling_of room m))) up) ∙ isnt)

-- ---- what holds of the intervals

-- Time passes in an interval, and it charges no more than its forced-idle time.
abbrev pub Lasts : Interval → Type 0
Lasts interval = interval.from < interval.to

abbrev pub ChargesNoMore : Interval → Type 0
ChargesNoMore interval = charged_time interval ≤ forced_time interval

-- Each recorded interval is so. While one is open, no more siblings are busy than its occupation says, so that it will be too.
pub record AreShared (tests : List Bool) (occupation : ℕ) (started : Option ℕ) (intervals : List Interval) : Type 0 where
  pub opened : IfSome started (λ start. number_busy tests ≤ occupation)
  pub lasts : All Lasts intervals
  pub no_more : All ChargesNoMore intervals

abbrev pub KeepsShares : RoomState → Type 0
KeepsShares room = AreShared (busy room) room.occupation room.started room.intervals

-- ---- which changes leave busy who is

busy-with_sibling : (room : RoomState) (cpu : ℕ) (sibling : SiblingState) → is_busy sibling ≡ is_busy (sibling_of room cpu) → busy (with_sibling room cpu sibling) ≡ busy room
busy-with_sibling room cpu sibling same = map-set_alike is_busy room.siblings cpu sibling absent same

busy-queue_at_home : (room : RoomState) (task : Task) → busy (queue_at_home room task) ≡ busy room
busy-queue_at_home room task = busy-with_sibling (enqueue room (refreshed room task)) task.home _ refl

busy-try_steal : (room : RoomState) (cpu : ℕ) (task : Option Task) → busy (try_steal room cpu task).room ≡ busy room
busy-try_steal room cpu None = busy-with_sibling room cpu _ refl
busy-try_steal room cpu (Some task) =
    let placed = set_place (moved room cpu task) cpu 0 in
    let asked = flag placed cpu true in
    busy-with_sibling asked (source_of room cpu) _ refl ∙ (busy-with_sibling placed cpu _ refl ∙ busy-with_sibling (moved room cpu task) cpu _ refl)

busy-requeue : (room : RoomState) (task : Task) → busy (requeue room task) ≡ busy room
busy-requeue room task =
    let gone = dequeue room task in busy-with_sibling (queue_at_home gone task) task.home _ refl ∙ busy-queue_at_home gone task

busy-advanced : (room : RoomState) (delta : ℕ) → busy (advanced room delta) ≡ busy room
unfolding advanced
busy-advanced room delta =
    map-enumerate_alike is_busy _ (λ numbered. refl) 0 (with_growth room delta).siblings
    ∙ map-map_alike is_busy (λ (s : SiblingState). record s { ran = s.ran + delta }) (λ s. refl) room.siblings

busy-with_answer : (room : RoomState) (set : Setting) (answer : Reply) → busy (with_answer room set answer) ≡ busy room
busy-with_answer room set Zero = map-map_alike is_busy (λ (s : SiblingState). record s { pending = s.pending || runs_one set s }) (λ s. refl) room.siblings
busy-with_answer room set answer = refl

-- ---- the charge

-- The tasks that it charges are no more than its occupation, by which its share is divided.
open_no_more : (room : RoomState) (start : ℕ) → 0 < room.forced → number_busy (busy room) ≤ room.occupation → ChargesNoMore (open_since room start)
open_no_more room start some few =
    cond_both (ltb 1 room.forced || ltb 1 room.occupation) (time * room.forced / room.occupation) time (λ each. tasks * each ≤ time * room.forced)
    (λ _. omega (arith, mul-le tasks divided room.occupation divided charged_few (le_refl divided), mul-div-le (time * room.forced) room.occupation))
    (λ isnt. omega (arith, mul-le tasks time 1 time (one isnt) (le_refl time), mul-le time 1 time room.forced (le_refl time) some)) where
      time : ℕ
      time = room.clock - start

      tasks : ℕ
      tasks = length (charged room)

      divided : ℕ
      divided = time * room.forced / room.occupation

      charged_few : tasks ≤ room.occupation
      charged_few = omega (arith, length-charged room, few)

      one : (ltb 1 room.forced || ltb 1 room.occupation) ≡ false → tasks ≤ 1
      one isnt = omega (arith, charged_few, ltb-false 1 room.occupation (or_parts (ltb 1 room.forced) (ltb 1 room.occupation) isnt).1)

shared-charge : (most done : ℕ) (room : RoomState) → IsAccounted most done (account_of room) → KeepsShares room → KeepsShares (charge room)
shared-charge most done room accounts is =
    record {
      opened = goes_on room.started is.opened;
      lasts = All-append Lasts room.intervals _ is.lasts (lasts room.started accounts.started);
      no_more = All-append ChargesNoMore room.intervals _ is.no_more (no_more room.started accounts.opened is.opened);
    } where
      goes_on : (started : Option ℕ) → IfSome started (λ start. number_busy (busy room) ≤ room.occupation) →
          IfSome (option_map (λ start. room.clock) started) (λ start. number_busy (busy room) ≤ room.occupation)
      goes_on None opened = tt
      goes_on (Some start) opened = opened

      lasts : (started : Option ℕ) → unwrap_or started room.clock ≤ room.clock → All Lasts (option_to_list (up_to_now room started))
      lasts None le = All-nil Lasts
      lasts (Some start) le =
          cond_both (eqb room.clock start) None (Some (open_since room start)) (λ one. All Lasts (option_to_list one)) (λ _. All-nil Lasts)
          (λ other. All-cons Lasts (open_since room start) [] (omega (arith, le, eqb-false room.clock start other)) (All-nil Lasts))

      no_more : (started : Option ℕ) → IfSome started (λ start. 0 < room.forced) → IfSome started (λ start. number_busy (busy room) ≤ room.occupation) →
          All ChargesNoMore (option_to_list (up_to_now room started))
      no_more None some few = All-nil ChargesNoMore
      no_more (Some start) some few =
          cond_both (eqb room.clock start) None (Some (open_since room start)) (λ one. All ChargesNoMore (option_to_list one)) (λ _. All-nil ChargesNoMore)
          (λ _. All-cons ChargesNoMore (open_since room start) [] (open_no_more room start some few) (All-nil ChargesNoMore))

-- ---- a pick that adopts nothing

shared-pick_anew : (room : RoomState) (cpu : ℕ) → All Lasts room.intervals → All ChargesNoMore room.intervals → KeepsShares (pick_anew room cpu).room
unfolding select_for
shared-pick_anew room cpu lasts no_more =
    let core = cookie_of (lead_from room cpu) in
    cond_both (is_plain room cpu) (pick_plain room cpu) (select room cpu) (λ (made : Scheduled). KeepsShares made.room)
    (λ _. record { opened = tt; lasts = lasts; no_more = no_more })
    (λ _. record {
      opened = cond_both (eqb (forced_count room core) 0) None (Some room.clock) (λ started. IfSome started (λ start. number_busy (busy (select_for room cpu core)) ≤ occupation_of room core))
          (λ _. tt) (λ _. busy-select_for room cpu core);
      lasts = lasts;
      no_more = no_more;
    })

-- that a sibling is to try to steal, or not, makes nobody busy
shared-balance : (cpu : ℕ) (made : Scheduled) → KeepsShares made.room → KeepsShares (balance cpu made).room
shared-balance cpu made is =
    subst (λ tests. AreShared tests made.room.occupation made.room.started made.room.intervals) (sym (busy-with_sibling made.room cpu _ refl)) is

-- after a charge the schedule records nothing more
shared-again : (room : RoomState) (cpu : ℕ) → charged_up_to (account_of room) ≡ room.clock → All Lasts room.intervals → All ChargesNoMore room.intervals →
    KeepsShares (schedule room false cpu).room
shared-again room cpu now lasts no_more = shared-balance cpu (adopt_or_pick_anew room false cpu (sibling_of room cpu).waiting) (go (sibling_of room cpu).waiting) where
  anew : KeepsShares (pick_anew (charge room) cpu).room
  anew = subst (λ (paid : RoomState). KeepsShares (pick_anew paid cpu).room) (sym (charge-again room now)) (shared-pick_anew room cpu lasts no_more)

  go : (waiting : Waiting) → KeepsShares (adopt_or_pick_anew room false cpu waiting).room
  go None = anew
  go (Some run) = anew

-- ---- each event

module _ (most done : ℕ) (room : RoomState) (accounts : IsAccounted most done (account_of room)) (is : KeepsShares room) where
  -- what is to be proved of each step
  abbrev GoesOn : Stepped → Type 0
  GoesOn made = KeepsShares made.room

  -- as many are busy
  alike : (tests : List Bool) → tests ≡ busy room → AreShared tests room.occupation room.started room.intervals
  alike tests same = subst (λ now. AreShared now room.occupation room.started room.intervals) (sym same) is

  paid : KeepsShares (charge room)
  paid = shared-charge most done room accounts is

  shared-schedule : (may_adopt : Bool) (cpu : ℕ) → KeepsShares (schedule room may_adopt cpu).room
  shared-schedule may_adopt cpu =
      shared-balance cpu (adopt_or_pick_anew room may_adopt cpu (sibling_of room cpu).waiting) (go may_adopt (sibling_of room cpu).waiting refl) where
        anew : KeepsShares (pick_anew (charge room) cpu).room
        anew = shared-pick_anew (charge room) cpu paid.lasts paid.no_more

        go : (may_adopt : Bool) (waiting : Waiting) → (sibling_of room cpu).waiting ≡ waiting → KeepsShares (adopt_or_pick_anew room may_adopt cpu waiting).room
        go may_adopt None waits = anew
        go true (Some run) waits =
            let sibling = sibling_of room cpu in
            alike _ (busy-with_sibling room cpu (running sibling run) (sym (ap (λ (w : Waiting). sibling.online && is_some (unwrap_or w sibling.run)) waits)))
        go false (Some run) waits = anew

  shared-turn : (may_adopt : Bool) (cpu : ℕ) → GoesOn (turn room may_adopt cpu)
  shared-turn may_adopt cpu =
      cond_both (sibling_of room cpu).pending _ _ GoesOn (λ _. shared-schedule may_adopt cpu)
      (λ _. cond_both ((sibling_of room cpu).place == 0) _ _ GoesOn (λ _. is) (λ _. tried (stolen room cpu))) where
        tried : (task : Option Task) → GoesOn (try_steal room cpu task)
        tried None = alike _ (busy-try_steal room cpu None)
        tried (Some task) = alike _ (busy-try_steal room cpu (Some task))

  shared-block : (cpu : ℕ) (task : Option Task) → GoesOn (block room cpu task)
  shared-block cpu None = is
  shared-block cpu (Some task) = shared-again (run_idle (dequeue (charge room) task) cpu) cpu (now-charge room) paid.lasts paid.no_more

  shared-exit : (cpu : ℕ) (task : Option Task) → GoesOn (exit room cpu task)
  shared-exit cpu None = is
  shared-exit cpu (Some task) =
      cond_both (has_threads room task) _ _ GoesOn (λ _. is)
      (λ _. shared-again (run_idle (without (charge room) task) cpu) cpu (now-charge room) paid.lasts paid.no_more)

  shared-wake : (task : Option Task) → GoesOn (wake room task)
  shared-wake None = is
  shared-wake (Some task) = cond_both task.queued _ _ GoesOn (λ _. is) (λ _. alike _ (busy-queue_at_home room (rehomed room task)))

  shared-fork : (thread : Bool) (caller : Option Task) → GoesOn (fork room thread caller)
  shared-fork thread None = is
  shared-fork thread (Some caller) =
      let child = child_of caller thread room.next_pid in
      cond_both (may_not_fork room.task_limit room.tasks caller) _ _ GoesOn (λ _. is) (λ _. alike _ (busy-queue_at_home (with_child room child) (child_at_home room child)))

  shared-tick : (cpu : ℕ) (task : Option Task) → GoesOn (tick room cpu task)
  shared-tick cpu None = paid
  shared-tick cpu (Some task) =
      subst (λ tests. AreShared tests room.occupation (charge room).started (charge room).intervals)
      (sym (busy-with_sibling (begin_slice (charge room) cpu task) cpu _ refl)) paid

  shared-advanced : (delta : ℕ) → KeepsShares (advanced room delta)
  unfolding advanced
  shared-advanced delta = alike _ (busy-advanced room delta)

  shared-with_answer : (made : Bool) (asked : List ℕ) (set : Setting) (answer : Reply) → KeepsShares (with_answer (with_used room made asked) set answer)
  shared-with_answer made asked set Zero = alike _ (busy-with_answer (with_used room made asked) set Zero)
  shared-with_answer made asked set answer = is

  shared-set_policy : (policy : Policy) (task : Option Task) → GoesOn (set_policy room policy task)
  shared-set_policy policy None = is
  shared-set_policy policy (Some task) = go task.queued where
    changed : Task
    changed = with_policy policy task

    go : (queued : Bool) → KeepsShares (cond queued (requeue room changed) (with_task room changed))
    go true = alike _ (busy-requeue room changed)
    go false = is

  shared-take_offline : (cpu : ℕ) → GoesOn (take_offline room cpu)
  unfolding leave
  shared-take_offline cpu =
      cond_both (not (is_online room cpu)) _ _ GoesOn (λ _. is)
      (λ _. cond_both (length (online room) == 1) _ _ GoesOn (λ _. is) (λ _. record { opened = tt; lasts = paid.lasts; no_more = paid.no_more }))

  -- one that comes back is to run nothing, as while it was offline
  shared-bring_online : (cpu : ℕ) → GoesOn (bring_online room cpu)
  shared-bring_online cpu =
      let sibling = sibling_of room cpu in
      cond_both (is_online room cpu) _ _ GoesOn (λ _. is)
      (λ off. alike _ (busy-with_sibling room cpu (back sibling) (sym (ap (λ up. up && is_some (to_run sibling)) off))))

  shared-unless_offline : (cpu : ℕ) (stepped : Stepped) → GoesOn stepped → GoesOn (unless_offline room cpu stepped)
  shared-unless_offline cpu stepped made = cond_both (is_online room cpu) _ _ GoesOn (λ _. made) (λ _. is)

  shared-step : (may_adopt : Bool) (event : Event) → GoesOn (step room may_adopt event)
  shared-step may_adopt (Turn cpu) = shared-unless_offline cpu _ (shared-turn may_adopt cpu)
  shared-step may_adopt (Resched cpu) = shared-unless_offline cpu _ (shared-schedule may_adopt cpu)
  shared-step may_adopt (Block cpu) = shared-unless_offline cpu _ (shared-block cpu (running_on room cpu))
  shared-step may_adopt (Exit cpu) = shared-unless_offline cpu _ (shared-exit cpu (running_on room cpu))
  shared-step may_adopt (Tick cpu) = shared-unless_offline cpu _ (shared-tick cpu (running_on room cpu))
  shared-step may_adopt (Wake pid) = shared-wake (task_of room pid)
  shared-step may_adopt (Advance delta) = shared-advanced delta
  shared-step may_adopt (Fork caller thread) = shared-fork thread (task_of room caller)
  shared-step may_adopt (Prctl caller ask) =
      shared-with_answer (makes_cookie room caller ask) (asked_by_call room caller ask) (setting_of room caller ask) (prctl_answer room caller ask)
  shared-step may_adopt (SetSched pid policy) = shared-set_policy policy (task_of room pid)
  shared-step may_adopt (Offline cpu) = shared-take_offline cpu
  shared-step may_adopt (Online cpu) = shared-bring_online cpu
  shared-step may_adopt (Load index) = is
  shared-step may_adopt (Unload index) = is

-- ---- after a history

shared_after : (most done siblings : ℕ) (moment : Moment) (entries : List Entry) → 1 ≤ most → siblings ≤ most → length moment.room.siblings ≡ siblings →
    AllByRecursion (λ entry. IsEvent siblings entry.event) entries → IsAccounted most done (account_of moment.room) → KeepsShares moment.room →
    KeepsShares (after moment entries).room
shared_after most done siblings moment [] some few long limits accounts is = is
shared_after most done siblings moment (entry ∷ entries) some few long limits accounts is =
    shared_after most (done + 1) siblings (next moment entry) entries some few (length-step moment.room (is_fresh moment.ledger) entry.event ∙ long) limits.1
    (accounted-step most done some moment.room (omega (arith, long, few)) accounts (is_fresh moment.ledger) entry.event
    (subst (λ n. IsEvent n entry.event) (sym long) limits.0))
    (shared-step most done moment.room accounts is (is_fresh moment.ledger) entry.event)

-- After every history whose events keep their limits each recorded interval lasts, and charges no more than its forced-idle
-- time.
pub shared-fold_of : (most : ℕ) (opening : Opening) (history : History) → 1 ≤ most → opening.scenario.siblings ≤ most →
    All (λ entry. IsEvent opening.scenario.siblings entry.event) history → KeepsShares (fold_of opening history)
shared-fold_of most opening history some few limits =
    shared_after most 0 opening.scenario.siblings (beginning opening) history some few (length-replicate opening.scenario.siblings idle)
    (recursion_from_All (λ entry. IsEvent opening.scenario.siblings entry.event) history limits) (accounted-beginning most opening)
    (record { opened = tt; lasts = All-nil Lasts; no_more = All-nil ChargesNoMore })
