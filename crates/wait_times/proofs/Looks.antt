-- Looks: what the entries of a history are for a task.
use Rattle.std.proofs.Common.{◌≡◌, ℕ, ◌+◌, ◌≤◌, Bool, true, false, cond, List, [], ◌∷◌, ◌++◌, length, refl, sym, ap, ◌∙◌, arith, suc, Option, Some, None}
use Rattle.std.specs.Prelude.{◌||◌, ◌==◌, is_some, sum}
use Rattle.std.specs.Option.{option_map_or}
use Rattle.std.proofs.lemmas.List.Sums.{sum_by-cons}
use Rattle.cs_types.specs.declared.event.Event.{Event}
use Rattle.cs_types.specs.declared.event.Event.TheVariants.{Turn, Resched, Block, Exit, Tick, Wake, Advance, Fork, Prctl, SetSched, Offline, Online, Load, Unload}
use Rattle.cs_types.specs.declared.reply.Entry.{Entry}
use Rattle.cs_types.specs.declared.reply.Reply.{Reply}
use Rattle.cs_types.specs.Room.{Opening}
use Rattle.cs_types.specs.Touches.{is_fresh}
use Rattle.cs_types.specs.History.{History, Moment, beginning, next, after, moment_of, fold_of}
use Rattle.cs_types.specs.Drain.{IsEndFrom, IsDrained}
use Rattle.cs_laws.proofs.Times.{lapse, clock-step_by}
use Rattle.cs_laws.proofs.Histories.{moment_of-push}
use Rattle.run_times.specs.Times.{advance_of, total_time}
use Rattle.run_times.proofs.Clock.{total_time-clock}
use Rattle.run_times.proofs.Laws.{spans_of-drained}
use Rattle.wait_times.specs.Waits.{Look, woken_by, wakes, runs_task, event_time, look_at, looks_from, wait_before, waits_in, waits_at}
use Rattle.wait_times.proofs.Lists.{all_time, AreStill, wait_before-cons, sum-waits_in, length-waits_in, waits_in-append}

-- ---- how long they are

-- an entry takes as long as the clock goes on at it
event_time-lapse : (event : Event) → event_time event ≡ lapse event
event_time-lapse (Turn cpu) = refl
event_time-lapse (Resched cpu) = refl
event_time-lapse (Block cpu) = refl
event_time-lapse (Exit cpu) = refl
event_time-lapse (Tick cpu) = refl
event_time-lapse (Wake pid) = refl
event_time-lapse (Advance delta) = refl
event_time-lapse (Fork caller thread) = refl
event_time-lapse (Prctl caller ask) = refl
event_time-lapse (SetSched pid policy) = refl
event_time-lapse (Offline cpu) = refl
event_time-lapse (Online cpu) = refl
event_time-lapse (Load index) = refl
event_time-lapse (Unload index) = refl

pub clock-next : (moment : Moment) (entry : Entry) → (next moment entry).room.clock ≡ moment.room.clock + event_time entry.event
clock-next moment entry =
    clock-step_by moment.room (is_fresh moment.ledger) entry.event ∙ ap (λ n. moment.room.clock + n) (sym (event_time-lapse entry.event))

-- of one entry more
pub clock-push : (opening : Opening) (history : History) (entry : Entry) →
    (fold_of opening (history ++ entry ∷ [])).clock ≡ (fold_of opening history).clock + event_time entry.event
clock-push opening history entry =
    ap (λ (m : Moment). m.room.clock) (moment_of-push opening history entry) ∙ clock-next (moment_of opening history) entry

-- all their time is how far the clock comes in them
all_time-clock : (pid : ℕ) (moment : Moment) (entries : List Entry) →
    (after moment entries).room.clock ≡ moment.room.clock + all_time (looks_from pid moment entries)
all_time-clock pid moment [] = omega arith
all_time-clock pid moment (entry ∷ entries) =
    omega (
      arith,
      all_time-clock pid (next moment entry) entries,
      clock-next moment entry,
      sum_by-cons (λ (l : Look). l.time) (look_at pid moment.room entry) (looks_from pid (next moment entry) entries),
    )

-- So the waits of a task together last no longer than the clock shows.
pub sum-waits_at : (opening : Opening) (history : History) (pid : ℕ) → sum (waits_at opening history pid) ≤ (fold_of opening history).clock
sum-waits_at opening history pid =
    omega (arith, all_time-clock pid (beginning opening) history, sum-waits_in (looks_from pid (beginning opening) history))

length-looks_from : (pid : ℕ) (moment : Moment) (entries : List Entry) → length (looks_from pid moment entries) ≡ length entries
length-looks_from pid moment [] = refl
length-looks_from pid moment (entry ∷ entries) = ap suc (length-looks_from pid (next moment entry) entries)

-- and there are no more than entries
pub length-waits_at : (opening : Opening) (history : History) (pid : ℕ) → length (waits_at opening history pid) ≤ length history
length-waits_at opening history pid =
    omega (arith, length-waits_in (looks_from pid (beginning opening) history), length-looks_from pid (beginning opening) history)

-- ---- what an entry is

-- one that wakes a task takes no time
pub woken_still : (event : Event) (reply : Reply) (pid : ℕ) → woken_by event reply ≡ Some pid → event_time event ≡ 0
woken_still (Advance delta) reply pid is = absurd cc
woken_still event reply pid is = refl

pub wakes_still : (pid : ℕ) (entry : Entry) → wakes pid entry ≡ true → event_time entry.event ≡ 0
wakes_still pid entry is = go (woken_by entry.event entry.reply) refl is where
  go : (woken : Option ℕ) → woken_by entry.event entry.reply ≡ woken → option_map_or (λ (n : ℕ). n == pid) woken false ≡ true → event_time entry.event ≡ 0
  go None e test = absurd cc
  go (Some other) e test = woken_still entry.event entry.reply other e

-- an advance wakes none
woken_by-advance : (event : Event) (reply : Reply) → is_some (advance_of event) ≡ true → woken_by event reply ≡ None
woken_by-advance (Advance delta) reply is = refl
woken_by-advance event reply is = absurd cc

pub advance_wakes_none : (pid : ℕ) (entry : Entry) → is_some (advance_of entry.event) ≡ true → wakes pid entry ≡ false
advance_wakes_none pid entry is = ap (λ (woken : Option ℕ). option_map_or (λ (n : ℕ). n == pid) woken false) (woken_by-advance entry.event entry.reply is)

-- a task that a sibling runs does not wait on
pub running_waits_no_more : (pid : ℕ) (moment : Moment) (entries : List Entry) → runs_task moment.room pid ≡ true → wait_before (looks_from pid moment entries) ≡ 0
running_waits_no_more pid moment [] is = refl
running_waits_no_more pid moment (entry ∷ entries) is =
    wait_before-cons (look_at pid moment.room entry) (looks_from pid (next moment entry) entries)
    ∙ ap (λ (b : Bool). cond (b || wakes pid entry) 0 (event_time entry.event + wait_before (looks_from pid (next moment entry) entries))) is

-- ---- the entries of the end take no time, and wake nobody

looks_from-append : (pid : ℕ) (moment : Moment) (entries more : List Entry) →
    looks_from pid moment (entries ++ more) ≡ looks_from pid moment entries ++ looks_from pid (after moment entries) more
looks_from-append pid moment [] more = refl
looks_from-append pid moment (entry ∷ entries) more =
    ap (λ (looks : List Look). look_at pid moment.room entry ∷ looks)
    (looks_from-append pid (next moment entry) entries more)

end_is_still : (pid : ℕ) (moment : Moment) (entries : List Entry) → IsEndFrom moment entries → AreStill (looks_from pid moment entries)
end_is_still pid moment [] ends = tt
end_is_still pid moment (entry ∷ entries) ends =
    ((ap (wakes pid) ends.2, ap (λ (e : Entry). event_time e.event) ends.2), end_is_still pid (next moment entry) entries ends.3)

-- So they leave the clock as it is.
pub clock-drained : (opening : Opening) (past now : History) → IsDrained opening past now → (fold_of opening past).clock ≡ (fold_of opening now).clock
clock-drained opening past now drained =
    sym (total_time-clock opening past) ∙ ap total_time (spans_of-drained opening past now drained) ∙ total_time-clock opening now

-- And they change no waits.
pub waits_at-drained : (opening : Opening) (past now : History) (pid : ℕ) → IsDrained opening past now → waits_at opening past pid ≡ waits_at opening now pid
waits_at-drained opening past now pid drained =
    sym (ap (λ (h : History). waits_at opening h pid) drained.added
    ∙ ap waits_in (looks_from-append pid (beginning opening) past drained.made)
    ∙ waits_in-append (looks_from pid (beginning opening) past) (looks_from pid (moment_of opening past) drained.made)
    (end_is_still pid (moment_of opening past) drained.made drained.ends))
