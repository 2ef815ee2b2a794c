-- Machines: how the entries, the room and the numbers go on by one entry.
use Rattle.std.proofs.Common.{◌≡◌, ℕ, zero, suc, ◌+◌, ◌<◌, Bool, true, false, cond, List, [], ◌∷◌, ◌++◌, map, set, eqb, refl, sym, ap, subst, ◌∙◌, arith, Option, Some, None}
use Rattle.std.specs.Prelude.{◌&&◌, ◌||◌, IfSome, All}
use Rattle.std.specs.List.{range_with_len}
use Rattle.std.specs.Option.{option_map_or}
use Rattle.std.proofs.Math.Bool.{and-false, and-true}
use Rattle.std.proofs.lemmas.List.{map_push}
use Rattle.std.proofs.lemmas.List.Elements.{All-head, All-tail, All-weaker}
use Rattle.std.proofs.lemmas.Bool.{cond-true, cond-false, eq-eqb, ne_eqb}
use Rattle.cs_types.specs.declared.event.Event.{Event}
use Rattle.cs_types.specs.declared.event.Event.TheVariants.{Turn, Resched, Block, Exit}
use Rattle.cs_types.specs.declared.event.Step.{Step}
use Rattle.cs_types.specs.declared.reply.Pick.{Pick}
use Rattle.cs_types.specs.declared.reply.Reply.{Reply}
use Rattle.cs_types.specs.declared.reply.Entry.{Entry}
use Rattle.cs_types.specs.Scenario.{IsEvent}
use Rattle.cs_types.specs.Room.{Opening, RoomState, SiblingState, Interval}
use Rattle.cs_types.specs.Step.{Stepped, step}
use Rattle.cs_types.specs.Touches.{is_selected, is_adopted, pick_of, is_selection, scheduler_of, is_fresh, LedgerEntry, Ledger, ledger_entry, task_number, pick_number, own_number}
use Rattle.cs_types.specs.History.{History, Moment, moment_of, fold_of, ledger_of, reply_to, entry_of, history_of, step_at, next}
use Rattle.cs_types.specs.Drain.{next_to_schedule}
use Rattle.cs_laws.proofs.Histories.{moment_of-push, history_of-push}
use Rattle.cs_laws.proofs.Numbers.{task_number-cons, pick_number-cons, own_number-cons, fresh-ledger_of}
use Rattle.cs_laws.proofs.Timely.{IsTimely, IsTimelyTask}
use Rattle.core_lanes.specs.declared.queue.SiblingQueue.{Ghosts}
use Rattle.core_lanes.specs.declared.lane.Lane.{Lane}
use Rattle.core_lanes.specs.Lanes.{lane_state}
use Rattle.core_lanes.specs.Numbers.{booked, is_fresh_by}
use Rattle.core_lanes.specs.Changes.{IsBooked}
use Rattle.core_tasks.specs.State.{room_with, state_numbers, both, beside_of}
use Rattle.core_tasks.specs.Steps.{numbers_at, numbers_after, own_after, MakesWith}
use Rattle.core_tasks.specs.Drain.{next_by}
use Rattle.core_events.specs.Inside.{opening_of, steps_of, IsFold}
use Rattle.core_events.specs.declared.room.CoreRoom.TheInside.{Inside}
use Rattle.core_tasks.specs.declared.state.State.{State}

-- ---- the entries

abbrev step_of : Entry → Step
step_of entry = record { actor = entry.actor; event = entry.event }

-- the entries are the history of their steps, with one more entry too
pub history_more : (opening : Opening) (entries : History) (entry : Entry) →
    entries ≡ history_of opening (steps_of entries) → entry.reply ≡ reply_to opening entries entry.event →
    entries ++ entry ∷ [] ≡ history_of opening (steps_of (entries ++ entry ∷ []))
history_more opening entries entry so_far reply =
    let same : entry ≡ entry_of (moment_of opening entries) (step_of entry) = ap (λ r. record { actor = entry.actor; event = entry.event; reply = r }) reply in
    ap (λ (e : Entry). entries ++ e ∷ []) same
    ∙ sym (ap (history_of opening) (map_push step_of entries entry)
    ∙ history_of-push opening (steps_of entries) (step_of entry)
    ∙ ap (λ (h : History). h ++ entry_of (moment_of opening h) (step_of entry) ∷ []) (sym so_far))

-- ---- each sibling's own number

-- a function that is another but at one place, and the place is before the range
range-past : (f g : ℕ → ℕ) (place value : ℕ) → ((cpu : ℕ) → f cpu ≡ cond (eqb place cpu) value (g cpu)) →
    (a n : ℕ) → place < a → map f (range_with_len a n) ≡ map g (range_with_len a n)
range-past f g place value is a zero past = refl
range-past f g place value is a (suc n) past =
    let here : f a ≡ g a = is a ∙ cond-false (eqb place a) value (g a) (ne_eqb place a (λ e. absurd (omega arith))) in
    λ i. here i ∷ range-past f g place value is (a + 1) n (omega arith) i

-- the same where the place is in the range
range-set : (f g : ℕ → ℕ) (place value : ℕ) → ((cpu : ℕ) → f cpu ≡ cond (eqb place cpu) value (g cpu)) →
    (a n k : ℕ) → a + k ≡ place → k < n → map f (range_with_len a n) ≡ set (map g (range_with_len a n)) k value
range-set f g place value is a zero k at below = absurd (omega arith)
range-set f g place value is a (suc n) zero at below =
    let here : f a ≡ value = is a ∙ cond-true (eqb place a) value (g a) (eq-eqb place a (omega arith)) in
    λ i. here i ∷ range-past f g place value is (a + 1) n (omega arith) i
range-set f g place value is a (suc n) (suc k) at below =
    let here : f a ≡ g a = is a ∙ cond-false (eqb place a) value (g a) (ne_eqb place a (λ e. absurd (omega arith))) in
    λ i. here i ∷ range-set f g place value is (a + 1) n k (omega arith) (omega arith) i

-- whether a pick is one of a core-wide selection, the sibling's own or another's
abbrev is_took : Pick → Bool
is_took pick = is_selected pick.kind || is_adopted pick.kind

took : (f g : ℕ → ℕ) (n value cpu : ℕ) (test : Bool) → cpu < n → ((other : ℕ) → f other ≡ cond (eqb cpu other && test) value (g other)) →
    map f (range_with_len 0 n) ≡ cond test (set (map g (range_with_len 0 n)) cpu value) (map g (range_with_len 0 n))
took f g n value cpu true below is =
    range-set f g cpu value (λ other. is other ∙ ap (λ b. cond b value (g other)) (and-true (eqb cpu other))) 0 n cpu (omega arith) below
took f g n value cpu false below is =
    λ i. map (λ other. (is other ∙ cond-false _ value (g other) (and-false (eqb cpu other))) i) (range_with_len 0 n)

-- Where a pick of a selection was taken, its sibling's number is another, and all else stays.
own_taken : (f g : ℕ → ℕ) (n value : ℕ) (scheduler : Option ℕ) (pick : Option Pick) → IfSome scheduler (λ cpu. cpu < n) →
    ((cpu : ℕ) → f cpu ≡ cond (option_map_or (λ other. eqb other cpu) scheduler false && option_map_or is_took pick false) value (g cpu)) →
    map f (range_with_len 0 n)
    ≡ option_map_or (λ cpu. option_map_or (λ (chosen : Pick). cond (is_took chosen) (set (map g (range_with_len 0 n)) cpu value) (map g (range_with_len 0 n))) pick (map g (range_with_len 0 n))) scheduler (map g (range_with_len 0 n))
own_taken f g n value None pick below is = λ i. map (λ x. is x i) (range_with_len 0 n)
own_taken f g n value (Some cpu) None below is =
    λ i. map (λ x. (is x ∙ cond-false _ value (g x) (and-false (eqb cpu x))) i) (range_with_len 0 n)
own_taken f g n value (Some cpu) (Some pick) below is =
    took f g n value cpu (is_took pick) below is

-- the scheduler is a sibling
scheduler_below : (n : ℕ) (event : Event) → IsEvent n event → IfSome (scheduler_of event) (λ cpu. cpu < n)
scheduler_below n (Turn cpu) limits = limits
scheduler_below n (Resched cpu) limits = limits
scheduler_below n (Block cpu) limits = limits
scheduler_below n (Exit cpu) limits = limits
scheduler_below n event limits = tt

own_more : (n : ℕ) (note : LedgerEntry) (ledger : Ledger) → IsEvent n note.entry.event →
    map (λ cpu. own_number cpu (note ∷ ledger)) (range_with_len 0 n)
    ≡ own_after note.entry.event note.entry.reply (pick_number (note ∷ ledger)) (map (λ cpu. own_number cpu ledger) (range_with_len 0 n))
own_more n note ledger limits =
    own_taken (λ cpu. own_number cpu (note ∷ ledger)) (λ cpu. own_number cpu ledger) n (pick_number (note ∷ ledger))
    (scheduler_of note.entry.event) (pick_of note.entry.reply) (scheduler_below n note.entry.event limits)
    (λ cpu. own_number-cons cpu note ledger)

-- ---- the numbers

-- the numbers of a moment with one more entry
numbers-next : (opening : Opening) (moment : Moment) (entry : Entry) → IsEvent opening.scenario.siblings entry.event →
    numbers_at opening (next moment entry) ≡ numbers_after moment.room entry.event entry.reply (booked (next moment entry).room (numbers_at opening moment))
numbers-next opening moment entry limits =
    let note = ledger_entry moment.room entry in
    let ledger = moment.ledger in
    let task : task_number (note ∷ ledger) ≡ task_number ledger + note.touches = task_number-cons note ledger ∙ omega arith in
    let pick : pick_number (note ∷ ledger) ≡ cond (is_selection entry) (task_number ledger + note.touches) (pick_number ledger) =
    pick_number-cons note ledger ∙ ap (λ n. cond (is_selection entry) n (pick_number ledger)) task in
    let own = own_more opening.scenario.siblings note ledger limits ∙ ap (λ p. own_after entry.event entry.reply p (numbers_at opening moment).own) pick in
    λ i. record { task = task i; pick = pick i; own = own i; intervals = (numbers_at opening (next moment entry)).intervals; totals = (numbers_at opening (next moment entry)).totals }

-- ---- one step of the machine

-- the state is the fold of the entries, and its numbers are those of their moment
pub record Folds {Q G : Type 0} {g : Ghosts Q} (opening : Opening) (state : State Q G g) (entries : History) : Type 0 where
  pub fold : room_with (fold_of opening entries).intervals state ≡ fold_of opening entries
  pub numbers : state_numbers state ≡ numbers_at opening (moment_of opening entries)

-- the state's step is that of the moment after the entries
step_of_moment : {Q G : Type 0} {g : Ghosts Q} (opening : Opening) (state : State Q G g) (entries : History) (event : Event) → Folds opening state entries →
    step (room_with (fold_of opening entries).intervals state) (is_fresh_by (state_numbers state)) event ≡ step_at (moment_of opening entries) event
step_of_moment {Q} {g} opening state entries event so_far =
    let fresh : is_fresh_by (state_numbers state) ≡ is_fresh (ledger_of opening entries) =
    ap is_fresh_by so_far.numbers ∙ sym (fresh-ledger_of opening entries) in
    λ i. step (so_far.fold i) (fresh i) event

pub reply_more : {Q G : Type 0} {g : Ghosts Q} (opening : Opening) (old new : State Q G g) (entries : History) (event : Event) (reply : Reply) →
    Folds opening old entries → MakesWith (fold_of opening entries).intervals old new event reply → reply ≡ reply_to opening entries event
reply_more {Q} {g} opening old new entries event reply so_far makes =
    makes.reply ∙ ap (λ (made : Stepped). made.reply) (step_of_moment opening old entries event so_far)

pub folds_more : {Q G : Type 0} {g : Ghosts Q} (opening : Opening) (old new : State Q G g) (entries : History) (entry : Entry) → IsEvent opening.scenario.siblings entry.event →
    Folds opening old entries → MakesWith (fold_of opening entries).intervals old new entry.event entry.reply → Folds opening new (entries ++ entry ∷ [])
folds_more {Q} {g} opening old new entries entry limits so_far makes =
    let more = sym (moment_of-push opening entries entry) in
    let made = step_of_moment opening old entries entry.event so_far in
    let kept : IsBooked (beside_of (fold_of opening entries).intervals old) (both old) =
    subst (λ numbers. numbers ≡ booked (fold_of opening entries) numbers) (sym so_far.numbers) refl in
    record {
      fold = subst (λ (room : RoomState). room_with room.intervals new ≡ room)
          (ap (λ (m : Stepped). m.room) made ∙ ap (λ (moment : Moment). moment.room) more) makes.room;
      numbers = makes.numbers kept
          ∙ (λ i. numbers_after (so_far.fold i) entry.event entry.reply (booked (made i).room (so_far.numbers i)))
          ∙ sym (numbers-next opening (moment_of opening entries) entry limits)
          ∙ ap (numbers_at opening) more;
    }

-- who schedules next at the end of a run is the same
pub next_of : {Q G : Type 0} {g : Ghosts Q} (opening : Opening) (state : State Q G g) (entries : History) → Folds opening state entries →
    next_by (room_with (fold_of opening entries).intervals state) (is_fresh_by (state_numbers state)) ≡ next_to_schedule (moment_of opening entries)
next_of opening state entries so_far =
    let fresh : is_fresh_by (state_numbers state) ≡ is_fresh (ledger_of opening entries) =
    ap is_fresh_by so_far.numbers ∙ sym (fresh-ledger_of opening entries) in
    λ i. next_by (so_far.fold i) (fresh i)

-- ---- of a machine

-- the state of a machine is the fold of its entries
pub folds_of : {Q G : Type 0} {g : Ghosts Q} (a : Inside Q G g) → IsFold a → Folds (opening_of a) a.state a.entries.items
folds_of a invariant = record { fold = invariant.fold; numbers = invariant.numbers }

-- the times of a room do not depend on the recorded intervals
pub timely_with : (intervals : List Interval) (entries : ℕ) (room : RoomState) → IsTimely entries room → IsTimely entries (record room { intervals = intervals })
timely_with intervals entries room timely = record {
  tasks = All-weaker (IsTimelyTask room) (IsTimelyTask (record room { intervals = intervals })) (λ task is. record { vtime = is.vtime; used = is.used }) room.tasks timely.tasks;
  siblings = timely.siblings;
}

-- what holds of each sibling as it stands for holds of it
pub of_states : {Q : Type 0} (P : SiblingState → Type 0) (lanes : List (Lane Q)) → All P (map lane_state lanes) → All (λ lane. P (lane_state lane)) lanes
of_states P [] all k d lt = absurd (omega arith)
of_states P (lane ∷ lanes) all zero d lt = All-head P (lane_state lane) (map lane_state lanes) all
of_states P (lane ∷ lanes) all (suc k) d lt = of_states P lanes (All-tail P (lane_state lane) (map lane_state lanes) all) k d (omega arith)
