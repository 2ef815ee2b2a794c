-- Accounts: what each step makes of the open interval and of the recorded ones, and how far the totals come.
use Rattle.std.proofs.Common.{◌≡◌, ◌≢◌, ℕ, ◌+◌, ◌-◌, ◌*◌, ◌/◌, ◌≤◌, ◌<◌, Bool, true, false, cond, not, ltb, eqb, List, [], ◌∷◌, ◌++◌, length, refl, sym, ap, ◌∙◌, subst, Option, Some, None, arith}
use Rattle.std.specs.Prelude.{◌==◌, ◌||◌, filter, sum_by, unwrap_or, All, IfSome}
use Rattle.std.specs.List.{range_with_len, AllByRecursion}
use Rattle.std.specs.Option.{option_map, option_to_list}
use Rattle.std.proofs.Math.Nat.{div-le_self}
use Rattle.std.proofs.lemmas.Bool.{cond_both, cond-true, eq-eqb, eqb-false}
use Rattle.std.proofs.lemmas.List.Sums.{sum_by-append, count_by-le-length}
use Rattle.std.proofs.lemmas.List.Filters.{length-filter_both}
use Rattle.std.proofs.lemmas.List.Elements.{All-nil, All-cons, All-append, filter-append, recursion_from_All}
use Rattle.std.proofs.lemmas.List.{length-replicate, length-append, append-nil}
use Rattle.std.proofs.lemmas.List.FromFn.{length-range_with_len}
use Rattle.cs_types.specs.declared.task.Task.{Task}
use Rattle.cs_types.specs.declared.task.Policy.{Policy}
use Rattle.cs_types.specs.declared.event.Event.{Event}
use Rattle.cs_types.specs.declared.event.Event.TheVariants.{Turn, Resched, Block, Exit, Tick, Wake, Advance, Fork, Prctl, SetSched, Offline, Online, Load, Unload}
use Rattle.cs_types.specs.declared.reply.Reply.{Reply}
use Rattle.cs_types.specs.declared.reply.Reply.TheVariants.{Zero}
use Rattle.cs_types.specs.declared.reply.Entry.{Entry}
use Rattle.cs_types.specs.Scenario.{IsEvent}
use Rattle.cs_types.specs.Room.{Opening, RoomState, Interval, idle, is_online, online, sibling_of, running_on, task_of}
use Rattle.cs_types.specs.Selection.{Scheduled, is_forced, forced_count, occupation_of, lead_from, cookie_of, select_for, select, pick_plain, is_plain, pick_anew, adopt_or_pick_anew, schedule}
use Rattle.cs_types.specs.Accounting.{share, charges, total_of, charged, up_to_now, open_interval, charge}
use Rattle.cs_types.specs.Time.{advanced}
use Rattle.cs_types.specs.Prctl.{asked_by_call, Setting, setting_of, makes_cookie, with_used, with_answer, prctl_answer}
use Rattle.cs_types.specs.Step.{Stepped, step, wake, turn, block, exit, fork, may_not_fork, tick, without, has_threads, run_idle, try_steal, unless_offline, set_policy, take_offline, bring_online}
use Rattle.cs_types.specs.Queueing.{dequeue}
use Rattle.cs_types.specs.Steal.{stolen}
use Rattle.cs_types.specs.Hotplug.{leave}
use Rattle.cs_types.specs.Touches.{is_fresh}
use Rattle.cs_types.specs.History.{History, Moment, beginning, next, after, fold_of}
use Rattle.cs_laws.proofs.Siblings.{length-step, kept-run_idle, kept-without, length-alike}
use Rattle.cs_laws.proofs.Selections.{occupied}

-- ---- the account of a room

-- what a room keeps of forced idle, and the clock
pub record Account : Type 0 where
  pub clock : ℕ
  pub forced : ℕ
  pub occupation : ℕ
  pub started : Option ℕ
  pub intervals : List Interval

abbrev pub account_of : RoomState → Account
account_of room =
    record {
      clock = room.clock;
      forced = room.forced;
      occupation = room.occupation;
      started = room.started;
      intervals = room.intervals;
    }

-- since when nothing of the time has been charged
abbrev pub charged_up_to : Account → ℕ
charged_up_to account = unwrap_or account.started account.clock

-- The divisor of an interval's share is not 0.
abbrev pub HasDivisor : Interval → Type 0
HasDivisor interval = 0 < interval.occupation

-- how far an account comes in as many entries, of a core with at most as many siblings
pub record IsAccounted (most entries : ℕ) (account : Account) : Type 0 where
  -- An open interval did not begin later than now.
  pub started : charged_up_to account ≤ account.clock
  -- No more siblings are forced idle than there are.
  pub few : account.forced ≤ most
  -- What each task was charged is at most the time that has been charged, times the siblings.
  pub totals : (pid : ℕ) → total_of pid account.intervals ≤ most * charged_up_to account
  -- Each entry records one interval at most.
  pub intervals : length account.intervals ≤ entries
  -- While an interval is open, some sibling is forced idle, and while one is, some sibling has a task.
  pub opened : IfSome account.started (λ start. 0 < account.forced)
  pub occupied : 0 < account.forced → 0 < account.occupation
  -- So no share is divided by 0.
  pub divisors : All HasDivisor account.intervals

-- one more entry, which records nothing
later : (most entries : ℕ) (account : Account) → IsAccounted most entries account → IsAccounted most (entries + 1) account
later most entries account is =
    record {
      started = is.started;
      few = is.few;
      totals = is.totals;
      intervals = omega (arith, is.intervals);
      opened = is.opened;
      occupied = is.occupied;
      divisors = is.divisors;
    }

-- ---- what the open interval charges

-- what an interval charges the task with the pid, and 0 where there is none
abbrev pub owed : ℕ → Option Interval → ℕ
owed pid None = 0
owed pid (Some interval) = cond (charges pid interval) (share interval) 0

-- a total with one more interval, or none
pub total_of-more : (pid : ℕ) (intervals : List Interval) (one : Option Interval) →
    total_of pid (intervals ++ option_to_list one) ≡ total_of pid intervals + owed pid one
unfolding total_of
total_of-more pid intervals None = ap (λ all. sum_by share (filter (charges pid) all)) (append-nil intervals) ∙ omega arith
total_of-more pid intervals (Some interval) =
    ap (sum_by share) (filter-append (charges pid) intervals (interval ∷ []))
    ∙ sum_by-append share (filter (charges pid) intervals) (filter (charges pid) (interval ∷ []))
    ∙ ap (λ n. sum_by share (filter (charges pid) intervals) + n) (alone (charges pid interval)) where
      alone : (b : Bool) → sum_by share (cond b (interval ∷ []) []) ≡ cond b (share interval) 0
      alone true = omega arith
      alone false = refl

-- a share is at most the time, times the count where that is above 1
share-le : (most : ℕ) (interval : Interval) → 1 ≤ most → interval.count ≤ most → share interval ≤ most * (interval.to - interval.from)
share-le most interval some few =
    let delta = interval.to - interval.from in
    let each : delta * interval.count ≤ most * delta = grind (arith) in
    let one : delta ≤ most * delta = grind (arith) in
    cond_both (ltb 1 interval.count || ltb 1 interval.occupation) (delta * interval.count / interval.occupation) delta (λ n. n ≤ most * delta)
    (λ _. omega (arith, each, div-le_self (delta * interval.count) interval.occupation)) (λ _. one)

-- the open interval, where it began then
abbrev pub open_since : RoomState → ℕ → Interval
open_since room start = record { from = start; to = room.clock; count = room.forced; occupation = room.occupation; charged = charged room }

-- So what the open interval charges a task is at most the time, times the siblings.
owed-le : (most pid : ℕ) (room : RoomState) → 1 ≤ most → room.forced ≤ most →
    owed pid (open_interval room) ≤ most * (room.clock - charged_up_to (account_of room))
owed-le most pid room some few = go room.started where
  by_share : (start : ℕ) → owed pid (up_to_now room (Some start)) ≤ most * (room.clock - start)
  by_share start =
      let interval = open_since room start in
      cond_both (eqb room.clock start) None (Some interval) (λ one. owed pid one ≤ most * (room.clock - start)) (λ _. omega arith)
      (λ _. cond_both (charges pid interval) (share interval) 0 (λ n. n ≤ most * (room.clock - start)) (λ _. share-le most interval some few) (λ _. omega arith))

  go : (started : Option ℕ) → owed pid (up_to_now room started) ≤ most * (room.clock - unwrap_or started room.clock)
  go None = omega arith
  go (Some start) = by_share start

-- a share of the open interval is at most the time, times the siblings
pub open_share-le : (most n : ℕ) (room : RoomState) → 1 ≤ most → room.forced ≤ most → Some n ≡ option_map share (open_interval room) →
    n ≤ most * (room.clock - charged_up_to (account_of room))
open_share-le most n room some few is = go room.started is where
  by_test : (start : ℕ) (same : Bool) → Some n ≡ option_map share (cond same None (Some (open_since room start))) → n ≤ most * (room.clock - start)
  by_test start true is = absurd cc
  by_test start false is =
      let same : n ≡ share (open_since room start) = ap (λ one. unwrap_or one n) is in omega (arith, same, share-le most (open_since room start) some few)

  go : (started : Option ℕ) → Some n ≡ option_map share (up_to_now room started) → n ≤ most * (room.clock - unwrap_or started room.clock)
  go None is = absurd cc
  go (Some start) is = by_test start (eqb room.clock start) is

-- ---- the charge

-- an interval that goes on from now has been charged up to now
pub now-charge : (room : RoomState) → charged_up_to (account_of (charge room)) ≡ room.clock
now-charge room = go room.started where
  go : (started : Option ℕ) → unwrap_or (option_map (λ start. room.clock) started) room.clock ≡ room.clock
  go None = refl
  go (Some start) = refl

-- So a charge at one moment again changes nothing.
pub charge-again : (room : RoomState) → charged_up_to (account_of room) ≡ room.clock → charge room ≡ room
charge-again room now =
    let same : option_map (λ start. room.clock) room.started ≡ room.started = go room.started now in
    let none : room.intervals ++ option_to_list (open_interval room) ≡ room.intervals = ap (λ one. room.intervals ++ option_to_list one) (no_time room.started now) ∙ append-nil room.intervals in
    λ i. record room { intervals = none i; started = same i } where
      go : (started : Option ℕ) → unwrap_or started room.clock ≡ room.clock → option_map (λ start. room.clock) started ≡ started
      go None now = refl
      go (Some start) now = ap Some (sym now)

      no_time : (started : Option ℕ) → unwrap_or started room.clock ≡ room.clock → up_to_now room started ≡ None
      no_time None now = refl
      no_time (Some start) now = cond-true (room.clock == start) None (Some (open_since room start)) (eq-eqb room.clock start (sym now))

more_time : (most a b : ℕ) → a ≤ b → most * a + most * (b - a) ≡ most * b
more_time most a b le = grind (arith)

less_time : (most a b : ℕ) → a ≤ b → most * a ≤ most * b
less_time most a b le = grind (arith)

accounted-charge : (most entries : ℕ) (room : RoomState) → 1 ≤ most → IsAccounted most entries (account_of room) → IsAccounted most (entries + 1) (account_of (charge room))
accounted-charge most entries room some is =
    let now = now-charge room in
    record {
      started = omega (arith, now);
      few = is.few;
      totals = λ pid. omega (
        arith,
        total_of-more pid room.intervals (open_interval room),
        is.totals pid,
        owed-le most pid room some is.few,
        more_time most (charged_up_to (account_of room)) room.clock is.started,
        ap (λ n. most * n) now,
      );
      intervals = omega (arith, length-append room.intervals (option_to_list (open_interval room)), at_most_one (open_interval room), is.intervals);
      opened = goes_on room.started is.opened;
      occupied = is.occupied;
      divisors = All-append HasDivisor room.intervals _ is.divisors (has_divisor room.started is.opened);
    } where
      at_most_one : (one : Option Interval) → length (option_to_list one) ≤ 1
      at_most_one None = omega arith
      at_most_one (Some interval) = omega arith

      goes_on : (started : Option ℕ) → IfSome started (λ start. 0 < room.forced) → IfSome (option_map (λ start. room.clock) started) (λ start. 0 < room.forced)
      goes_on None opened = tt
      goes_on (Some start) opened = opened

      has_divisor : (started : Option ℕ) → IfSome started (λ start. 0 < room.forced) → All HasDivisor (option_to_list (up_to_now room started))
      has_divisor None opened = All-nil HasDivisor
      has_divisor (Some start) opened =
          cond_both (room.clock == start) None (Some (open_since room start)) (λ one. All HasDivisor (option_to_list one)) (λ _. All-nil HasDivisor)
          (λ _. All-cons HasDivisor (open_since room start) [] (is.occupied opened) (All-nil HasDivisor))

-- ---- a pick that adopts nothing, once the open interval is charged

-- an interval opens, or none, where all time has been charged
accounted_anew : (most entries : ℕ) (account : Account) (forced occupation : ℕ) → charged_up_to account ≡ account.clock → forced ≤ most → (0 < forced → 0 < occupation) →
    IsAccounted most entries account →
    IsAccounted most entries (record account { forced = forced; occupation = occupation; started = cond (eqb forced 0) None (Some account.clock) })
accounted_anew most entries account forced occupation now few occupied is =
    let at_now = cond_both (eqb forced 0) None (Some account.clock) (λ started. unwrap_or started account.clock ≡ account.clock) (λ _. refl) (λ _. refl) in
    record {
      started = omega (arith, at_now);
      few = few;
      totals = λ pid. omega (arith, is.totals pid, ap (λ n. most * n) now, ap (λ n. most * n) at_now);
      intervals = is.intervals;
      opened = cond_both (eqb forced 0) None (Some account.clock) (λ started. IfSome started (λ start. 0 < forced)) (λ _. tt)
          (λ some. let none : forced ≢ 0 = eqb-false forced 0 some in omega (arith, none));
      occupied = occupied;
      divisors = is.divisors;
    }

-- no more siblings are forced idle than there are
forced_count-le : (room : RoomState) (core : ℕ) → forced_count room core ≤ length room.siblings
forced_count-le room core =
    let all = range_with_len 0 (length room.siblings) in
    omega (
      arith,
      count_by-le-length (is_forced room core) (online room),
      length-filter_both (is_online room) (λ cpu. not (is_online room cpu)) (λ cpu. refl) all,
      length-range_with_len 0 (length room.siblings),
    )

accounted-select : (most entries : ℕ) (room : RoomState) (cpu : ℕ) → cpu < length room.siblings → length room.siblings ≤ most →
    charged_up_to (account_of room) ≡ room.clock → IsAccounted most entries (account_of room) → IsAccounted most entries (account_of (select room cpu).room)
unfolding select_for
accounted-select most entries room cpu below few now is =
    let core = cookie_of (lead_from room cpu) in
    accounted_anew most entries (account_of room) (forced_count room core) (occupation_of room core) now
    (omega (arith, forced_count-le room core, few)) (occupied room cpu below) is

accounted-pick_anew : (most entries : ℕ) (room : RoomState) (cpu : ℕ) → cpu < length room.siblings → length room.siblings ≤ most →
    charged_up_to (account_of room) ≡ room.clock → IsAccounted most entries (account_of room) → IsAccounted most entries (account_of (pick_anew room cpu).room)
accounted-pick_anew most entries room cpu below few now is =
    cond_both (is_plain room cpu) (pick_plain room cpu) (select room cpu) (λ (made : Scheduled). IsAccounted most entries (account_of made.room))
    (λ _. accounted_anew most entries (account_of room) 0 0 now (omega arith) (λ none. none) is)
    (λ _. accounted-select most entries room cpu below few now is)

-- after a charge the schedule records nothing more
accounted-again : (most entries : ℕ) (old room : RoomState) (cpu : ℕ) → length room.siblings ≡ length old.siblings → cpu < length old.siblings → length old.siblings ≤ most →
    charged_up_to (account_of room) ≡ room.clock → IsAccounted most entries (account_of room) → IsAccounted most entries (account_of (schedule room false cpu).room)
accounted-again most entries old room cpu same below few now is = go (sibling_of room cpu).waiting where
  anew : IsAccounted most entries (account_of (pick_anew (charge room) cpu).room)
  anew =
      subst (λ (paid : RoomState). IsAccounted most entries (account_of (pick_anew paid cpu).room)) (sym (charge-again room now))
      (accounted-pick_anew most entries room cpu (omega (arith, same, below)) (omega (arith, same, few)) now is)

  go : (waiting : Option (Option ℕ)) → IsAccounted most entries (account_of (adopt_or_pick_anew room false cpu waiting).room)
  go None = anew
  go (Some run) = anew

-- ---- each event

module _ (most done : ℕ) (some : 1 ≤ most) (room : RoomState) (few : length room.siblings ≤ most) (is : IsAccounted most done (account_of room)) where
  -- what is to be proved of each step
  abbrev GoesOn : Stepped → Type 0
  GoesOn made = IsAccounted most (done + 1) (account_of made.room)

  stays : IsAccounted most (done + 1) (account_of room)
  stays = later most done (account_of room) is

  paid : IsAccounted most (done + 1) (account_of (charge room))
  paid = accounted-charge most done room some is

  accounted-schedule : (may_adopt : Bool) (cpu : ℕ) → cpu < length room.siblings → IsAccounted most (done + 1) (account_of (schedule room may_adopt cpu).room)
  accounted-schedule may_adopt cpu below = go may_adopt (sibling_of room cpu).waiting where
    anew : IsAccounted most (done + 1) (account_of (pick_anew (charge room) cpu).room)
    anew = accounted-pick_anew most (done + 1) (charge room) cpu below few (now-charge room) paid

    go : (may_adopt : Bool) (waiting : Option (Option ℕ)) → IsAccounted most (done + 1) (account_of (adopt_or_pick_anew room may_adopt cpu waiting).room)
    go may_adopt None = anew
    go true (Some run) = stays
    go false (Some run) = anew

  accounted-try_steal : (cpu : ℕ) (task : Option Task) → GoesOn (try_steal room cpu task)
  accounted-try_steal cpu None = stays
  accounted-try_steal cpu (Some task) = stays

  accounted-turn : (may_adopt : Bool) (cpu : ℕ) → cpu < length room.siblings → GoesOn (turn room may_adopt cpu)
  accounted-turn may_adopt cpu below =
      cond_both (sibling_of room cpu).pending _ _ GoesOn (λ _. accounted-schedule may_adopt cpu below)
      (λ _. cond_both ((sibling_of room cpu).place == 0) _ _ GoesOn (λ _. stays) (λ _. accounted-try_steal cpu (stolen room cpu)))

  accounted-block : (cpu : ℕ) (task : Option Task) → cpu < length room.siblings → GoesOn (block room cpu task)
  accounted-block cpu None below = stays
  accounted-block cpu (Some task) below =
      let gone = run_idle (dequeue (charge room) task) cpu in
      accounted-again most (done + 1) room gone cpu (length-alike gone room (kept-run_idle (charge room) cpu task)) below few (now-charge room) paid

  accounted-exit : (cpu : ℕ) (task : Option Task) → cpu < length room.siblings → GoesOn (exit room cpu task)
  accounted-exit cpu None below = stays
  accounted-exit cpu (Some task) below =
      let gone = run_idle (without (charge room) task) cpu in
      cond_both (has_threads room task) _ _ GoesOn (λ _. stays)
      (λ _. accounted-again most (done + 1) room gone cpu (length-alike gone room (kept-without (charge room) cpu task)) below few (now-charge room) paid)

  accounted-wake : (task : Option Task) → GoesOn (wake room task)
  accounted-wake None = stays
  accounted-wake (Some task) = cond_both task.queued _ _ GoesOn (λ _. stays) (λ _. stays)

  accounted-fork : (thread : Bool) (caller : Option Task) → GoesOn (fork room thread caller)
  accounted-fork thread None = stays
  accounted-fork thread (Some caller) = cond_both (may_not_fork room.task_limit room.tasks caller) _ _ GoesOn (λ _. stays) (λ _. stays)

  accounted-tick : (cpu : ℕ) (task : Option Task) → GoesOn (tick room cpu task)
  accounted-tick cpu None = paid
  accounted-tick cpu (Some task) = paid

  -- time that goes on lengthens the open interval
  accounted-advanced : (delta : ℕ) → IsAccounted most (done + 1) (account_of (advanced room delta))
  unfolding advanced
  accounted-advanced delta =
      let up_to = charged_up_to (account_of room) in
      record {
        started = longer room.started is.started;
        few = is.few;
        totals = λ pid. omega (arith, is.totals pid, less_time most up_to (unwrap_or room.started (room.clock + delta)) (no_earlier room.started));
        intervals = stays.intervals;
        opened = is.opened;
        occupied = is.occupied;
        divisors = is.divisors;
      } where
        longer : (started : Option ℕ) → unwrap_or started room.clock ≤ room.clock → unwrap_or started (room.clock + delta) ≤ room.clock + delta
        longer None le = omega arith
        longer (Some start) le = omega (arith, le)

        no_earlier : (started : Option ℕ) → unwrap_or started room.clock ≤ unwrap_or started (room.clock + delta)
        no_earlier None = omega arith
        no_earlier (Some start) = omega arith

  accounted-with_answer : (made : Bool) (asked : List ℕ) (set : Setting) (answer : Reply) → IsAccounted most (done + 1) (account_of (with_answer (with_used room made asked) set answer))
  accounted-with_answer made asked set Zero = stays
  accounted-with_answer made asked set answer = stays

  accounted-set_policy : (policy : Policy) (task : Option Task) → GoesOn (set_policy room policy task)
  accounted-set_policy policy None = stays
  accounted-set_policy policy (Some task) =
      cond_both task.queued _ _ (λ (new : RoomState). IsAccounted most (done + 1) (account_of new)) (λ _. stays) (λ _. stays)

  accounted-take_offline : (cpu : ℕ) → GoesOn (take_offline room cpu)
  unfolding leave
  accounted-take_offline cpu =
      cond_both (not (is_online room cpu)) _ _ GoesOn (λ _. stays)
      (λ _. cond_both (length (online room) == 1) _ _ GoesOn (λ _. stays)
      (λ _. accounted_anew most (done + 1) (account_of (charge room)) 0 0 (now-charge room) (omega arith) (λ none. none) paid))

  accounted-bring_online : (cpu : ℕ) → GoesOn (bring_online room cpu)
  accounted-bring_online cpu = cond_both (is_online room cpu) _ _ GoesOn (λ _. stays) (λ _. stays)

  accounted-unless_offline : (cpu : ℕ) (stepped : Stepped) → GoesOn stepped → GoesOn (unless_offline room cpu stepped)
  accounted-unless_offline cpu stepped made = cond_both (is_online room cpu) _ _ GoesOn (λ _. made) (λ _. stays)

  pub accounted-step : (may_adopt : Bool) (event : Event) → IsEvent (length room.siblings) event → GoesOn (step room may_adopt event)
  accounted-step may_adopt (Turn cpu) below = accounted-unless_offline cpu _ (accounted-turn may_adopt cpu below)
  accounted-step may_adopt (Resched cpu) below = accounted-unless_offline cpu _ (accounted-schedule may_adopt cpu below)
  accounted-step may_adopt (Block cpu) below = accounted-unless_offline cpu _ (accounted-block cpu (running_on room cpu) below)
  accounted-step may_adopt (Exit cpu) below = accounted-unless_offline cpu _ (accounted-exit cpu (running_on room cpu) below)
  accounted-step may_adopt (Tick cpu) below = accounted-unless_offline cpu _ (accounted-tick cpu (running_on room cpu))
  accounted-step may_adopt (Wake pid) limits = accounted-wake (task_of room pid)
  accounted-step may_adopt (Advance delta) limits = accounted-advanced delta
  accounted-step may_adopt (Fork caller thread) limits = accounted-fork thread (task_of room caller)
  accounted-step may_adopt (Prctl caller ask) limits =
      accounted-with_answer (makes_cookie room caller ask) (asked_by_call room caller ask) (setting_of room caller ask) (prctl_answer room caller ask)
  accounted-step may_adopt (SetSched pid policy) limits = accounted-set_policy policy (task_of room pid)
  accounted-step may_adopt (Offline cpu) below = accounted-take_offline cpu
  accounted-step may_adopt (Online cpu) below = accounted-bring_online cpu
  accounted-step may_adopt (Load index) limits = stays
  accounted-step may_adopt (Unload index) limits = stays

-- ---- after a history

accounted_after : (most done siblings : ℕ) (moment : Moment) (entries : List Entry) → 1 ≤ most → siblings ≤ most → length moment.room.siblings ≡ siblings →
    AllByRecursion (λ entry. IsEvent siblings entry.event) entries → IsAccounted most done (account_of moment.room) →
    IsAccounted most (done + length entries) (account_of (after moment entries).room)
accounted_after most done siblings moment [] some few long limits is = subst (λ n. IsAccounted most n (account_of moment.room)) (omega arith) is
accounted_after most done siblings moment (entry ∷ entries) some few long limits is =
    subst (λ n. IsAccounted most n (account_of (after (next moment entry) entries).room)) (omega arith)
    (accounted_after most (done + 1) siblings (next moment entry) entries some few (length-step moment.room (is_fresh moment.ledger) entry.event ∙ long) limits.1
    (accounted-step most done some moment.room (omega (arith, long, few)) is (is_fresh moment.ledger) entry.event
    (subst (λ n. IsEvent n entry.event) (sym long) limits.0)))

-- nothing is charged before the first interval
pub total_of-none : (pid : ℕ) → total_of pid [] ≡ 0
unfolding total_of
total_of-none pid = refl

-- At the start nothing has been charged.
pub accounted-beginning : (most : ℕ) (opening : Opening) → IsAccounted most 0 (account_of (beginning opening).room)
accounted-beginning most opening =
    record {
      started = omega arith;
      few = omega arith;
      totals = λ pid. omega (arith, total_of-none pid);
      intervals = omega arith;
      opened = tt;
      occupied = λ none. none;
      divisors = All-nil HasDivisor;
    }

-- After every history whose events keep their limits the account comes no further than that.
pub accounted-fold_of : (most : ℕ) (opening : Opening) (history : History) → 1 ≤ most → opening.scenario.siblings ≤ most →
    All (λ entry. IsEvent opening.scenario.siblings entry.event) history → IsAccounted most (length history) (account_of (fold_of opening history))
accounted-fold_of most opening history some few limits =
    subst (λ n. IsAccounted most n (account_of (fold_of opening history))) (omega arith)
    (accounted_after most 0 opening.scenario.siblings (beginning opening) history some few (length-replicate opening.scenario.siblings idle)
    (recursion_from_All (λ entry. IsEvent opening.scenario.siblings entry.event) history limits) (accounted-beginning most opening))
