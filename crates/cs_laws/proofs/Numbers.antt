-- Numbers: how the three numbers go on by one entry, that they tell whether a selection is fresh, and how far they,
-- the stamps, the cookies and the pids come in a history.
use Rattle.std.proofs.Common.{◌≡◌, ℕ, ◌+◌, ◌*◌, ◌<◌, ◌≤◌, Bool, true, false, cond, List, [], ◌∷◌, length, length-append, refl, sym, ap, subst, ◌∙◌, arith, ltb, eqb, Option, Some, None, is_some}
use Rattle.std.specs.Prelude.{◌==◌, ◌&&◌, ◌||◌, not, take_while, sum_by, All, ◌^◌}
use Rattle.std.specs.List.{list_any, list_all, AllByRecursion, range_with_len}
use Rattle.std.specs.Option.{option_map_or}
use Rattle.std.proofs.lemmas.List.Sums.{sum_by-cons, take_while-cons}
use Rattle.std.proofs.lemmas.List.Filters.{length-filter_both}
use Rattle.std.proofs.lemmas.Bool.{cond_both}
use Rattle.std.proofs.lemmas.Bool.Decides.{nat_tests}
use Rattle.cs_types.specs.declared.task.Task.{Task}
use Rattle.cs_types.specs.declared.task.Policy.{Policy}
use Rattle.cs_types.specs.declared.event.Ask.{Ask}
use Rattle.cs_types.specs.declared.event.Event.{Event}
use Rattle.cs_types.specs.declared.event.Event.TheVariants.{Turn, Resched, Block, Exit, Tick, Wake, Advance, Fork, Prctl, SetSched, Offline, Online, Load, Unload}
use Rattle.cs_types.specs.declared.reply.Kind.{Kind}
use Rattle.cs_types.specs.declared.reply.Kind.TheVariants.{Selected, Adopted, Plain}
use Rattle.cs_types.specs.declared.reply.Pick.{Pick}
use Rattle.cs_types.specs.declared.reply.Reply.{Reply}
use Rattle.cs_types.specs.declared.reply.Reply.TheVariants.{Picked, Slept, Ended, Stole, Woken, Child, Zero, Set, Done}
use Rattle.cs_types.specs.declared.reply.Entry.{Entry}
use Rattle.cs_types.specs.Room.{Opening, RoomState, first_pid, queued_on, sibling_of, running_on, is_online, online, task_of}
use Rattle.cs_types.specs.Selection.{select_for, select, pick_plain, is_plain, pick_anew, adopt_or_pick_anew, schedule}
use Rattle.cs_types.specs.Accounting.{charge}
use Rattle.cs_types.specs.Prctl.{asked_by_call, Setting, target_of, setting_by, setting_of, is_share_from, is_in_scope, makes_cookie, with_used, with_answer, prctl_answer, prctl_room}
use Rattle.cs_types.specs.Step.{Stepped, step, wake, block, exit, fork, may_not_fork, tick, turn, without, has_threads, run_idle, try_steal, unless_offline, set_policy, take_offline, bring_online}
use Rattle.cs_types.specs.Steal.{stolen}
use Rattle.cs_types.specs.Hotplug.{leave}
use Rattle.cs_types.specs.Queueing.{dequeue}
use Rattle.cs_types.specs.Time.{advanced, rotates}
use Rattle.cs_types.specs.Touches.{is_selected, is_adopted, pick_touches, cookie_touches, set_touches, selection_of, is_selection, policy_touches, policy_set_touches, leaving_touches, touches_by, LedgerEntry, Ledger, ledger_entry, back_to, task_number, pick_number, own_number, is_taken_by, is_fresh}
use Rattle.cs_types.specs.History.{History, Moment, next, after, fold_of, ledger_of, beginning}
use Rattle.cs_laws.proofs.Tasks.{length-asleep_tasks, few-step}
use Rattle.cs_types.proofs.Foremost.{each_weaker}
use Rattle.cs_laws.proofs.Askings.{AskedAtMost, AsksFew, asks_none, asks-call, asks-load, asks-unload, never_asked}
use Rattle.cs_types.specs.Guards.{GuardState, GuardList, asked_each}
use Rattle.std.proofs.lemmas.Nat.{mul-le}
use Rattle.std.proofs.lemmas.List.Elements.{All-from_recursion}

-- ---- one entry more

pub task_number-cons : (note : LedgerEntry) (ledger : Ledger) → task_number (note ∷ ledger) ≡ note.touches + task_number ledger
task_number-cons note ledger = sum_by-cons (λ (n : LedgerEntry). n.touches) note ledger

pub pick_number-cons : (note : LedgerEntry) (ledger : Ledger) →
    pick_number (note ∷ ledger) ≡ cond (is_selection note.entry) (task_number (note ∷ ledger)) (pick_number ledger)
pick_number-cons note ledger =
    elim (is_selection note.entry) as (λ b. task_number (cond b (note ∷ ledger) (back_to is_selection ledger)) ≡ cond b (task_number (note ∷ ledger)) (pick_number ledger)) [
      | true ↦ refl
      | false ↦ refl
    ]

pub own_number-cons : (cpu : ℕ) (note : LedgerEntry) (ledger : Ledger) →
    own_number cpu (note ∷ ledger) ≡ cond (is_taken_by cpu note.entry) (pick_number (note ∷ ledger)) (own_number cpu ledger)
own_number-cons cpu note ledger =
    elim (is_taken_by cpu note.entry) as (λ b. pick_number (cond b (note ∷ ledger) (back_to (is_taken_by cpu) ledger)) ≡ cond b (pick_number (note ∷ ledger)) (own_number cpu ledger)) [
      | true ↦ refl
      | false ↦ refl
    ]

-- The pick number is never above the task number.
pub pick_number-le : (ledger : Ledger) → pick_number ledger ≤ task_number ledger
pick_number-le [] = omega arith
pick_number-le (note ∷ ledger) =
    subst (λ n. n ≤ task_number (note ∷ ledger)) (sym (pick_number-cons note ledger))
    (cond_both (is_selection note.entry) _ _ (λ n. n ≤ task_number (note ∷ ledger)) (λ _. omega arith)
    (λ _. omega (arith, pick_number-le ledger, task_number-cons note ledger)))

-- A sibling's own number is never above the pick number.
pub own_number-le : (cpu : ℕ) (ledger : Ledger) → own_number cpu ledger ≤ pick_number ledger
own_number-le cpu [] = omega arith
own_number-le cpu (note ∷ ledger) =
    let more : pick_number ledger ≤ pick_number (note ∷ ledger) =
    subst (λ n. pick_number ledger ≤ n) (sym (pick_number-cons note ledger))
    (cond_both (is_selection note.entry) _ _ (λ n. pick_number ledger ≤ n)
    (λ _. omega (arith, pick_number-le ledger, task_number-cons note ledger)) (λ _. omega arith)) in
    subst (λ n. n ≤ pick_number (note ∷ ledger)) (sym (own_number-cons cpu note ledger))
    (cond_both (is_taken_by cpu note.entry) _ _ (λ n. n ≤ pick_number (note ∷ ledger)) (λ _. omega arith)
    (λ _. omega (arith, more, own_number-le cpu ledger)))

-- ---- a fresh selection

-- each selection of the ledger touched
abbrev pub SelectionsTouch : Ledger → Type 0
SelectionsTouch [] = Unit {0}
SelectionsTouch (note ∷ ledger) = (is_selection note.entry ≡ true → 0 < note.touches) × SelectionsTouch ledger

abbrev is_fresh_by : ℕ → ℕ → Bool
is_fresh_by pick task = ltb 0 pick && eqb pick task

-- after a selection all is fresh
by_selection : (touches task : ℕ) → 0 < touches → true ≡ is_fresh_by (touches + task) (touches + task)
by_selection touches task some = grind (arith, nat_tests)

-- after another entry it is fresh where it was and the entry did not touch
by_other : (any all : Bool) (touches pick task : ℕ) → (any && all) ≡ is_fresh_by pick task → pick ≤ task →
    (any && (eqb touches 0 && all)) ≡ is_fresh_by pick (touches + task)
by_other any all touches pick task before below = grind (arith, nat_tests)

-- the same for every entry, where the test says whether it is a selection
by_entry : (b any all : Bool) (touches pick task : ℕ) → (b ≡ true → 0 < touches) → (any && all) ≡ is_fresh_by pick task → pick ≤ task →
    ((b || any) && cond b true (eqb touches 0 && all)) ≡ is_fresh_by (cond b (touches + task) pick) (touches + task)
by_entry true any all touches pick task some before below = by_selection touches task (some refl)
by_entry false any all touches pick task some before below = by_other any all touches pick task before below

-- whether no entry touched since the last selection
abbrev pub untouched : Ledger → Bool
untouched ledger = list_all (λ note. eqb note.touches 0) (take_while (λ note. not (is_selection note.entry)) ledger)

pub untouched-cons : (note : LedgerEntry) (ledger : Ledger) →
    untouched (note ∷ ledger) ≡ cond (is_selection note.entry) true (eqb note.touches 0 && untouched ledger)
untouched-cons note ledger =
    ap (list_all (λ n. eqb n.touches 0)) (take_while-cons (λ n. not (is_selection n.entry)) note ledger)
    ∙ elim (is_selection note.entry) as (λ b. list_all (λ (n : LedgerEntry). eqb n.touches 0) (cond (not b) (note ∷ take_while (λ n. not (is_selection n.entry)) ledger) []) ≡ cond b true (eqb note.touches 0 && untouched ledger)) [
      | true ↦ refl
      | false ↦ refl
    ]

-- The numbers tell whether there was a selection, and nothing was touched since the last one.
pub fresh_by_numbers : (ledger : Ledger) → SelectionsTouch ledger →
    is_fresh ledger ≡ (ltb 0 (pick_number ledger) && eqb (pick_number ledger) (task_number ledger))
unfolding is_fresh
fresh_by_numbers [] touch = refl
fresh_by_numbers (note ∷ ledger) touch =
    let any = list_any (λ (n : LedgerEntry). is_selection n.entry) ledger in
    ap (λ b. (is_selection note.entry || any) && b) (untouched-cons note ledger)
    ∙ by_entry (is_selection note.entry) any (untouched ledger) note.touches (pick_number ledger) (task_number ledger) touch.0
    (fresh_by_numbers ledger touch.1) (pick_number-le ledger)
    ∙ sym (ap (λ n. is_fresh_by n (task_number (note ∷ ledger))) (pick_number-cons note ledger)
    ∙ ap (λ n. is_fresh_by (cond (is_selection note.entry) n (pick_number ledger)) n) (task_number-cons note ledger))

-- a pick of a selection touches
selected_touches : (kind : Kind) → is_selected kind ≡ true → 0 < cond (is_adopted kind) 0 1
selected_touches Selected h = omega arith
selected_touches Adopted h = absurd cc
selected_touches Plain h = absurd cc

-- the kind of a pick that is told to be of a selection
selected_kind : (pick : Pick) → is_some (cond (is_selected pick.kind) (Some pick) None) ≡ true → is_selected pick.kind ≡ true
selected_kind pick h = grind arith

pub selection_touches : (room : RoomState) (event : Event) (reply : Reply) → is_some (selection_of reply) ≡ true → 0 < touches_by room event reply
selection_touches room event (Picked pick) h = selected_touches pick.kind (selected_kind pick h)
selection_touches room event (Slept pid pick) h = omega arith
selection_touches room event (Ended pid pick) h = omega arith
selection_touches room event reply h = absurd cc

selections_touch_after : (moment : Moment) (entries : List Entry) → SelectionsTouch moment.ledger → SelectionsTouch (after moment entries).ledger
selections_touch_after moment [] touch = touch
selections_touch_after moment (entry ∷ entries) touch =
    selections_touch_after (next moment entry) entries (selection_touches moment.room entry.event entry.reply, touch)

-- After every history the numbers tell it.
pub fresh-ledger_of : (opening : Opening) (history : History) → let ledger = ledger_of opening history in
    is_fresh ledger ≡ (ltb 0 (pick_number ledger) && eqb (pick_number ledger) (task_number ledger))
fresh-ledger_of opening history =
    fresh_by_numbers (ledger_of opening history) (selections_touch_after (beginning opening) history tt)

-- ---- how far the numbers come

-- A task whose cookie is set touches at most twice.
cookie_touches-le : (cookie : ℕ) (task : Task) → cookie_touches cookie task ≤ 2
cookie_touches-le cookie task = grind (arith, nat_tests)

pub touches_of_tasks-le : (cookie : ℕ) (tasks : List Task) → sum_by (cookie_touches cookie) tasks ≤ 2 * length tasks
touches_of_tasks-le cookie [] = omega arith
touches_of_tasks-le cookie (task ∷ tasks) =
    omega (arith, sum_by-cons (cookie_touches cookie) task tasks, cookie_touches-le cookie task, touches_of_tasks-le cookie tasks)

-- One call sets at most all tasks, or its caller.
setting_by-few : (room : RoomState) (caller target : Task) (ask : Ask) → length (setting_by room caller target ask).tasks ≤ length room.tasks + 1
setting_by-few room caller target ask =
    cond_both (is_share_from ask) _ _ (λ (set : Setting). length set.tasks ≤ length room.tasks + 1) (λ _. omega arith)
    (λ _. omega (arith, length-filter_both (λ (task : Task). is_in_scope ask.scope target.spec task.spec) (λ task. not (is_in_scope ask.scope target.spec task.spec)) (λ task. refl) room.tasks))

setting_of-few : (room : RoomState) (pid : ℕ) (ask : Ask) → length (setting_of room pid ask).tasks ≤ length room.tasks + 1
setting_of-few room pid ask = go (task_of room pid) where
  for_target : (caller : Task) (target : Option Task) →
      length (option_map_or (λ target. setting_by room caller target ask) target (record { tasks = []; cookie = 0 })).tasks ≤ length room.tasks + 1
  for_target caller None = omega arith
  for_target caller (Some target) = setting_by-few room caller target ask

  go : (caller : Option Task) →
      length (option_map_or (λ caller. option_map_or (λ target. setting_by room caller target ask) (target_of room pid ask) (record { tasks = []; cookie = 0 })) caller (record { tasks = []; cookie = 0 })).tasks ≤ length room.tasks + 1
  go None = omega arith
  go (Some caller) = for_target caller (target_of room pid ask)

set_touches-le : (room : RoomState) (event : Event) → set_touches room event ≤ 2 * length room.tasks + 2
set_touches-le room (Prctl caller ask) =
    let set = setting_of room caller ask in
    omega (arith, touches_of_tasks-le set.cookie set.tasks, setting_of-few room caller ask)
set_touches-le room event = omega arith

pick_touches-le : (pick : Pick) → pick_touches pick ≤ 1
pick_touches-le pick = cond_both (is_adopted pick.kind) 0 1 (λ n. n ≤ 1) (λ _. omega arith) (λ _. omega arith)

policy_set_touches-le : (room : RoomState) (event : Event) → policy_set_touches room event ≤ 2
policy_set_touches-le room (SetSched pid policy) = go (task_of room pid) where
  go : (task : Option Task) → policy_touches task ≤ 2
  go None = omega arith
  go (Some task) = cond_both task.queued 2 0 (λ n. n ≤ 2) (λ _. omega arith) (λ _. omega arith)
policy_set_touches-le room event = omega arith

queued_on-le : (room : RoomState) (cpu : ℕ) → length (queued_on room cpu) ≤ length room.tasks
queued_on-le room cpu =
    omega (arith, length-filter_both (λ task. task.queued && (task.home == cpu)) (λ task. not (task.queued && (task.home == cpu))) (λ task. refl) room.tasks)

leaving_touches-le : (room : RoomState) (event : Event) → leaving_touches room event ≤ 2 * length room.tasks
leaving_touches-le room (Offline cpu) = omega (arith, queued_on-le room cpu)
leaving_touches-le room event = omega arith

-- An entry touches at most twice for each task, and twice more.
pub touches_by-le : (room : RoomState) (event : Event) (reply : Reply) → touches_by room event reply ≤ 2 * length room.tasks + 2
touches_by-le room event (Woken cpu) = omega arith
touches_by-le room event (Child pid) = omega arith
touches_by-le room event (Picked pick) = omega (arith, pick_touches-le pick)
touches_by-le room event (Slept pid pick) = omega (arith, pick_touches-le pick)
touches_by-le room event (Ended pid pick) = omega (arith, pick_touches-le pick)
touches_by-le room event Zero = set_touches-le room event
touches_by-le room event Set = omega (arith, policy_set_touches-le room event)
touches_by-le room event Done = omega (arith, leaving_touches-le room event)
touches_by-le room event (Stole pid from) = omega arith
touches_by-le room event reply = omega arith

touches_after : (moment : Moment) (entries : List Entry) → length moment.room.tasks ≤ moment.room.task_limit → moment.room.task_limit ≤ 256 →
    task_number (after moment entries).ledger ≤ task_number moment.ledger + 514 * length entries
touches_after moment [] few low = omega arith
touches_after moment (entry ∷ entries) few low =
    let note = ledger_entry moment.room entry in
    let one = few-step moment.room (is_fresh moment.ledger) entry.event in
    let more = touches_after (next moment entry) entries (subst (λ n. length (next moment entry).room.tasks ≤ n) (sym one.limit) (one.few few)) (omega (arith, low, one.limit)) in
    omega (arith, few, low, more, task_number-cons note moment.ledger, touches_by-le moment.room entry.event entry.reply)

-- So the task number of a history with at most 256 tasks at once is at most 514 times its length.
pub task_number-ledger_of : (opening : Opening) (history : History) → length opening.scenario.tasks ≤ opening.scenario.task_limit → opening.scenario.task_limit ≤ 256 →
    task_number (ledger_of opening history) ≤ 514 * length history
task_number-ledger_of opening history few low =
    omega (arith, touches_after (beginning opening) history (omega (arith, few, length-asleep_tasks opening.scenario.tasks)) low)

-- ---- how far the stamps, the cookies, the pids and the list of the ended come

-- what is drawn next, the stamp, the cookie and the pid, how many tasks ended, and the guards
abbrev pub draws : RoomState → ℕ × ℕ × ℕ × ℕ × GuardList
draws room = (room.next_stamp, room.next_cookie, room.next_pid, length room.ended, room.guards)

draws-select_for : (room : RoomState) (cpu core : ℕ) → draws (select_for room cpu core) ≡ draws room
unfolding select_for
draws-select_for room cpu core = refl

draws-pick_anew : (room : RoomState) (cpu : ℕ) → draws (pick_anew room cpu).room ≡ draws room
draws-pick_anew room cpu =
    cond_both (is_plain room cpu) (pick_plain room cpu) (select room cpu) (λ made. draws made.room ≡ draws room) (λ _. refl)
    (λ _. draws-select_for room cpu _)

draws-adopt_or_pick_anew : (room : RoomState) (fresh : Bool) (cpu : ℕ) (waiting : Option (Option ℕ)) → draws (adopt_or_pick_anew room fresh cpu waiting).room ≡ draws room
draws-adopt_or_pick_anew room fresh cpu None = draws-pick_anew (charge room) cpu
draws-adopt_or_pick_anew room true cpu (Some run) = refl
draws-adopt_or_pick_anew room false cpu (Some run) = draws-pick_anew (charge room) cpu

-- A schedule draws nothing.
draws-schedule : (room : RoomState) (fresh : Bool) (cpu : ℕ) → draws (schedule room fresh cpu).room ≡ draws room
draws-schedule room fresh cpu = draws-adopt_or_pick_anew room fresh cpu (sibling_of room cpu).waiting

-- at most one more of each was drawn, and of the stamps one more than there were tasks, and few guards were asked
pub record DrawsOne (tasks : ℕ) (old new : ℕ × ℕ × ℕ × ℕ × GuardList) : Type 0 where
  pub stamp : new.0 ≤ old.0 + tasks + 1
  pub cookie : new.1 ≤ old.1 + 1
  pub pid : new.2 ≤ old.2 + 1
  pub ended : new.3 ≤ old.3 + 1
  pub guards : AsksFew tasks old.4 new.4

draws_none : (tasks : ℕ) (old new : ℕ × ℕ × ℕ × ℕ × GuardList) → new ≡ old → DrawsOne tasks old new
draws_none tasks old new same = record {
  stamp = omega (arith, ap (λ (d : ℕ × ℕ × ℕ × ℕ × GuardList). d.0) same);
  cookie = omega (arith, ap (λ (d : ℕ × ℕ × ℕ × ℕ × GuardList). d.1) same);
  pid = omega (arith, ap (λ (d : ℕ × ℕ × ℕ × ℕ × GuardList). d.2) same);
  ended = omega (arith, ap (λ (d : ℕ × ℕ × ℕ × ℕ × GuardList). d.3) same);
  guards = subst (λ (d : ℕ × ℕ × ℕ × ℕ × GuardList). AsksFew tasks old.4 d.4) (sym same) (asks_none tasks old.4);
}

draws-try_steal : (room : RoomState) (cpu : ℕ) (task : Option Task) → DrawsOne (length room.tasks) (draws room) (draws (try_steal room cpu task).room)
draws-try_steal room cpu None = draws_none _ _ _ refl
draws-try_steal room cpu (Some task) = record { stamp = omega arith; cookie = omega arith; pid = omega arith; ended = omega arith; guards = asks_none (length room.tasks) room.guards }

draws-turn : (room : RoomState) (fresh : Bool) (cpu : ℕ) → DrawsOne (length room.tasks) (draws room) (draws (turn room fresh cpu).room)
draws-turn room fresh cpu =
    cond_both (sibling_of room cpu).pending _ _ (λ (made : Stepped). DrawsOne (length room.tasks) (draws room) (draws made.room))
    (λ _. draws_none _ _ _ (draws-schedule room fresh cpu))
    (λ _. cond_both ((sibling_of room cpu).place == 0) _ _ (λ (made : Stepped). DrawsOne (length room.tasks) (draws room) (draws made.room)) (λ _. draws_none _ _ _ refl)
    (λ _. draws-try_steal room cpu (stolen room cpu)))

draws-block : (room : RoomState) (cpu : ℕ) (task : Option Task) → draws (block room cpu task).room ≡ draws room
draws-block room cpu None = refl
draws-block room cpu (Some task) = draws-schedule (run_idle (dequeue (charge room) task) cpu) false cpu

draws-wake : (room : RoomState) (task : Option Task) → DrawsOne (length room.tasks) (draws room) (draws (wake room task).room)
draws-wake room None = draws_none _ _ _ refl
draws-wake room (Some task) =
    cond_both task.queued _ _ (λ (made : Stepped). DrawsOne (length room.tasks) (draws room) (draws made.room)) (λ _. draws_none _ _ _ refl)
    (λ _. record { stamp = omega arith; cookie = omega arith; pid = omega arith; ended = omega arith; guards = asks_none (length room.tasks) room.guards })

draws-exit : (room : RoomState) (cpu : ℕ) (task : Option Task) → DrawsOne (length room.tasks) (draws room) (draws (exit room cpu task).room)
draws-exit room cpu None = draws_none _ _ _ refl
draws-exit room cpu (Some task) =
    cond_both (has_threads room task) _ _ (λ (made : Stepped). DrawsOne (length room.tasks) (draws room) (draws made.room)) (λ _. draws_none _ _ _ refl)
    (λ _. subst (DrawsOne (length room.tasks) (draws room)) (sym (draws-schedule (run_idle (without (charge room) task) cpu) false cpu)) (record {
      stamp = omega arith;
      cookie = omega arith;
      pid = omega arith;
      ended = omega (arith, length-append room.ended (task.spec.pid ∷ []));
      guards = asks_none (length room.tasks) room.guards;
    }))

draws-fork : (room : RoomState) (thread : Bool) (caller : Option Task) → DrawsOne (length room.tasks) (draws room) (draws (fork room thread caller).room)
draws-fork room thread None = draws_none _ _ _ refl
draws-fork room thread (Some caller) =
    cond_both (may_not_fork room.task_limit room.tasks caller) _ _ (λ (made : Stepped). DrawsOne (length room.tasks) (draws room) (draws made.room)) (λ _. draws_none _ _ _ refl)
    (λ _. record { stamp = omega arith; cookie = omega arith; pid = omega arith; ended = omega arith; guards = asks_none (length room.tasks) room.guards })

-- a rotation draws a stamp
draws-tick : (room : RoomState) (cpu : ℕ) (task : Option Task) → DrawsOne (length room.tasks) (draws room) (draws (tick room cpu task).room)
draws-tick room cpu None = draws_none _ _ _ refl
draws-tick room cpu (Some task) =
    record {
      stamp = cond_both (rotates room cpu task) (room.next_stamp + 1) room.next_stamp (λ n. n ≤ room.next_stamp + length room.tasks + 1) (λ _. omega arith) (λ _. omega arith);
      cookie = omega arith;
      pid = omega arith;
      ended = omega arith;
      guards = asks_none (length room.tasks) room.guards;
    }

draws-advanced : (room : RoomState) (delta : ℕ) → draws (advanced room delta) ≡ draws room
unfolding advanced
draws-advanced room delta = refl

draws-with_used : (room : RoomState) (makes : Bool) (asked : List ℕ) → AsksFew (length room.tasks) room.guards (asked_each room.guards asked) →
    DrawsOne (length room.tasks) (draws room) (draws (with_used room makes asked))
draws-with_used room makes asked few =
    record {
      stamp = omega arith;
      cookie = cond_both makes (room.next_cookie + 1) room.next_cookie (λ n. n ≤ room.next_cookie + 1) (λ _. omega arith) (λ _. omega arith);
      pid = omega arith;
      ended = omega arith;
      guards = few;
    }

draws-with_answer : (room : RoomState) (set : Setting) (answer : Reply) → draws (with_answer room set answer) ≡ draws room
draws-with_answer room set Zero = refl
draws-with_answer room set answer = refl

draws-prctl_room : (room : RoomState) (pid : ℕ) (ask : Ask) → DrawsOne (length room.tasks) (draws room) (draws (prctl_room room pid ask))
draws-prctl_room room pid ask =
    subst (DrawsOne (length room.tasks) (draws room)) (sym (draws-with_answer (with_used room (makes_cookie room pid ask) (asked_by_call room pid ask)) (setting_of room pid ask) (prctl_answer room pid ask)))
    (draws-with_used room (makes_cookie room pid ask) (asked_by_call room pid ask) (asks-call room pid ask))

draws-unless_offline : (room : RoomState) (cpu : ℕ) (stepped : Stepped) → DrawsOne (length room.tasks) (draws room) (draws stepped.room) →
    DrawsOne (length room.tasks) (draws room) (draws (unless_offline room cpu stepped).room)
draws-unless_offline room cpu stepped made =
    cond_both (is_online room cpu) _ _ (λ (made : Stepped). DrawsOne (length room.tasks) (draws room) (draws made.room)) (λ _. made) (λ _. draws_none _ _ _ refl)

draws-set_policy : (room : RoomState) (policy : Policy) (task : Option Task) → DrawsOne (length room.tasks) (draws room) (draws (set_policy room policy task).room)
draws-set_policy room policy None = draws_none _ _ _ refl
draws-set_policy room policy (Some task) =
    cond_both task.queued _ _ (λ (made : RoomState). DrawsOne (length room.tasks) (draws room) (draws made))
    (λ _. record { stamp = omega arith; cookie = omega arith; pid = omega arith; ended = omega arith; guards = asks_none (length room.tasks) room.guards }) (λ _. draws_none _ _ _ refl)

-- a sibling that leaves draws a stamp for each task that moves
draws-take_offline : (room : RoomState) (cpu : ℕ) → DrawsOne (length room.tasks) (draws room) (draws (take_offline room cpu).room)
unfolding leave
draws-take_offline room cpu =
    cond_both (not (is_online room cpu)) _ _ (λ (made : Stepped). DrawsOne (length room.tasks) (draws room) (draws made.room)) (λ _. draws_none _ _ _ refl)
    (λ _. cond_both (length (online room) == 1) _ _ (λ (made : Stepped). DrawsOne (length room.tasks) (draws room) (draws made.room)) (λ _. draws_none _ _ _ refl)
    (λ _. record { stamp = omega (arith, queued_on-le room cpu); cookie = omega arith; pid = omega arith; ended = omega arith; guards = asks_none (length room.tasks) room.guards }))

draws-bring_online : (room : RoomState) (cpu : ℕ) → DrawsOne (length room.tasks) (draws room) (draws (bring_online room cpu).room)
draws-bring_online room cpu =
    cond_both (is_online room cpu) _ _ (λ (made : Stepped). DrawsOne (length room.tasks) (draws room) (draws made.room)) (λ _. draws_none _ _ _ refl)
    (λ _. draws_none _ _ _ refl)

-- A step draws at most one of each, and stamps for the tasks that move.
pub draws-step : (room : RoomState) (fresh : Bool) (event : Event) → DrawsOne (length room.tasks) (draws room) (draws (step room fresh event).room)
draws-step room fresh (Turn cpu) = draws-unless_offline room cpu _ (draws-turn room fresh cpu)
draws-step room fresh (Resched cpu) = draws-unless_offline room cpu _ (draws_none _ _ _ (draws-schedule room fresh cpu))
draws-step room fresh (Block cpu) = draws-unless_offline room cpu _ (draws_none _ _ _ (draws-block room cpu (running_on room cpu)))
draws-step room fresh (Exit cpu) = draws-unless_offline room cpu _ (draws-exit room cpu (running_on room cpu))
draws-step room fresh (Tick cpu) = draws-unless_offline room cpu _ (draws-tick room cpu (running_on room cpu))
draws-step room fresh (Wake pid) = draws-wake room (task_of room pid)
draws-step room fresh (Advance delta) = draws_none _ _ _ (draws-advanced room delta)
draws-step room fresh (Fork caller thread) = draws-fork room thread (task_of room caller)
draws-step room fresh (Prctl caller ask) = draws-prctl_room room caller ask
draws-step room fresh (SetSched pid policy) = draws-set_policy room policy (task_of room pid)
draws-step room fresh (Offline cpu) = draws-take_offline room cpu
draws-step room fresh (Online cpu) = draws-bring_online room cpu
draws-step room fresh (Load index) =
    record { stamp = omega arith; cookie = omega arith; pid = omega arith; ended = omega arith; guards = asks-load (length room.tasks) room.guards index }
draws-step room fresh (Unload index) =
    record { stamp = omega arith; cookie = omega arith; pid = omega arith; ended = omega arith; guards = asks-unload (length room.tasks) room.guards index }

draws_after : (moment : Moment) (entries : List Entry) → length moment.room.tasks ≤ moment.room.task_limit → moment.room.task_limit ≤ 256 →
    let room = (after moment entries).room in
    (room.next_stamp ≤ moment.room.next_stamp + 257 * length entries) × (room.next_cookie ≤ moment.room.next_cookie + length entries)
    × (room.next_pid ≤ moment.room.next_pid + length entries) × (length room.ended ≤ length moment.room.ended + length entries)
draws_after moment [] few low = (omega arith, omega arith, omega arith, omega arith)
draws_after moment (entry ∷ entries) few low =
    let fresh = is_fresh moment.ledger in
    let limit = few-step moment.room fresh entry.event in
    let more = draws_after (next moment entry) entries (subst (λ n. length (next moment entry).room.tasks ≤ n) (sym limit.limit) (limit.few few)) (omega (arith, low, limit.limit)) in
    let one = draws-step moment.room fresh entry.event in
    (omega (arith, few, low, more.0, one.stamp), omega (arith, more.1, one.cookie), omega (arith, more.2, one.pid), omega (arith, more.3, one.ended))

-- After a history with at most 256 tasks at once as many cookies and pids were drawn as it has entries, and as many tasks
-- ended, at most, and 257 times as many stamps.
draws-fold_of : (opening : Opening) (history : History) → length opening.scenario.tasks ≤ opening.scenario.task_limit → opening.scenario.task_limit ≤ 256 →
    let room = fold_of opening history in
    (room.next_stamp ≤ 257 * length history) × (room.next_cookie ≤ 1 + length history)
    × (room.next_pid ≤ first_pid opening.scenario.tasks + length history) × (length room.ended ≤ length history)
draws-fold_of opening history few low =
    let made = draws_after (beginning opening) history (omega (arith, few, length-asleep_tasks opening.scenario.tasks)) low in
    (omega (arith, made.0), omega (arith, made.1), omega (arith, made.2), omega (arith, made.3))

pub next_stamp-fold_of : (opening : Opening) (history : History) → length opening.scenario.tasks ≤ opening.scenario.task_limit → opening.scenario.task_limit ≤ 256 →
    (fold_of opening history).next_stamp ≤ 257 * length history
next_stamp-fold_of opening history few low = (draws-fold_of opening history few low).0

pub next_cookie-fold_of : (opening : Opening) (history : History) → length opening.scenario.tasks ≤ opening.scenario.task_limit → opening.scenario.task_limit ≤ 256 →
    (fold_of opening history).next_cookie ≤ length history + 1
next_cookie-fold_of opening history few low = omega (arith, (draws-fold_of opening history few low).1)

pub next_pid-fold_of : (opening : Opening) (history : History) → length opening.scenario.tasks ≤ opening.scenario.task_limit → opening.scenario.task_limit ≤ 256 →
    (fold_of opening history).next_pid ≤ first_pid opening.scenario.tasks + length history
next_pid-fold_of opening history few low = (draws-fold_of opening history few low).2

pub ended-fold_of : (opening : Opening) (history : History) → length opening.scenario.tasks ≤ opening.scenario.task_limit → opening.scenario.task_limit ≤ 256 →
    length (fold_of opening history).ended ≤ length history
ended-fold_of opening history few low = (draws-fold_of opening history few low).3

-- ---- how often the guards were asked

-- As many guards are active after entries as are more, and each was asked at most so often: 257 times 2^17 each, where the entries
-- are at most 2^17.
asked_after : (done : ℕ) (moment : Moment) (entries : List Entry) → done + length entries ≤ 131072 →
    length moment.room.tasks ≤ moment.room.task_limit → moment.room.task_limit ≤ 256 → length moment.room.guards.active ≤ done →
    AllByRecursion (AskedAtMost (done * 33685504)) moment.room.guards.all →
    AllByRecursion (AskedAtMost ((done + length entries) * 33685504)) (after moment entries).room.guards.all
asked_after done moment [] most few low active asked =
    each_weaker (AskedAtMost (done * 33685504)) (AskedAtMost ((done + 0) * 33685504)) moment.room.guards.all (λ guard is. omega (arith, is)) asked
asked_after done moment (entry ∷ entries) most few low active asked =
    let fresh = is_fresh moment.ledger in
    let limit = few-step moment.room fresh entry.event in
    let one = (draws-step moment.room fresh entry.event).guards in
    let now = (next moment entry).room.guards in
    let rises : (length moment.room.tasks + 1) * length moment.room.guards.active ≤ 33685504 =
    omega (arith, mul-le (length moment.room.tasks + 1) (length moment.room.guards.active) 257 131072 (omega (arith, few, low)) (omega (arith, active, most))) in
    each_weaker (AskedAtMost ((done + 1 + length entries) * 33685504)) (AskedAtMost ((done + length (entry ∷ entries)) * 33685504)) _ (λ guard is. omega (arith, is))
    (asked_after (done + 1) (next moment entry) entries (omega (arith, most))
    (subst (λ n. length (next moment entry).room.tasks ≤ n) (sym limit.limit) (limit.few few)) (omega (arith, low, limit.limit)) (omega (arith, one.active, active))
    (each_weaker (AskedAtMost (done * 33685504 + (length moment.room.tasks + 1) * length moment.room.guards.active)) (AskedAtMost ((done + 1) * 33685504)) now.all
    (λ guard is. omega (arith, is, rises)) (one.asked (done * 33685504) asked)))

-- So in a history of at most 2^17 entries with at most 256 tasks at once each guard was asked fewer than 2^43 times.
pub asked-fold_of : (opening : Opening) (history : History) → length opening.scenario.tasks ≤ opening.scenario.task_limit → opening.scenario.task_limit ≤ 256 →
    length history ≤ 131072 → All (λ (guard : GuardState). guard.asked < 2 ^ 43) (fold_of opening history).guards.all
asked-fold_of opening history few low short =
    All-from_recursion (λ (guard : GuardState). guard.asked < 2 ^ 43) (fold_of opening history).guards.all
    (each_weaker (AskedAtMost ((0 + length history) * 33685504)) (λ (guard : GuardState). guard.asked < 2 ^ 43) (fold_of opening history).guards.all
    (λ guard is. omega (arith, is, short))
    (asked_after 0 (beginning opening) history (omega (arith, short)) (omega (arith, few, length-asleep_tasks opening.scenario.tasks)) low (omega arith)
    (never_asked opening.scenario.teaches (range_with_len 0 opening.guards))))
