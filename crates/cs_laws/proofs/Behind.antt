-- Behind: while a pick waits for a sibling, it took none of the last core-wide selection. So its own number is below
-- the pick number.
use Rattle.std.proofs.Common.{◌≡◌, ℕ, ◌<◌, Bool, cond, true, false, ◌∷◌, length, refl, sym, ap, ◌∙◌, subst, inl, inr, arith, Option, Some, None, is_some}
use Rattle.std.specs.Prelude.{◌==◌, ◌||◌, not}
use Rattle.std.specs.Option.{IfSome, option_map_or, option_and_then}
use Rattle.std.proofs.lemmas.Bool.{cases_Bool, cond_both, cond-true, cond-false, and_parts, eqb-true}
use Rattle.std.proofs.lemmas.List.{get_or-set_same}
use Rattle.cs_types.specs.declared.task.Task.{Task}
use Rattle.cs_types.specs.declared.task.Policy.{Policy}
use Rattle.cs_types.specs.declared.event.Actor.TheVariants.{End}
use Rattle.cs_types.specs.declared.event.Event.{Event}
use Rattle.cs_types.specs.declared.event.Event.TheVariants.{Turn, Resched, Block, Exit, Tick, Wake, Advance, Fork, Prctl, SetSched, Offline, Online, Load, Unload}
use Rattle.cs_types.specs.declared.reply.Pick.{Pick}
use Rattle.cs_types.specs.declared.reply.Reply.{Reply}
use Rattle.cs_types.specs.declared.reply.Reply.TheVariants.{Picked, Slept, Ended, Zero}
use Rattle.cs_types.specs.declared.reply.Entry.{Entry}
use Rattle.cs_types.specs.Scenario.{IsEvent}
use Rattle.cs_types.specs.Room.{RoomState, SiblingState, Waiting, absent, sibling_of, running_on, task_of, is_online, online, with_sibling, flag}
use Rattle.cs_types.specs.Selection.{Scheduled, select, is_plain, pick_plain, pick_anew, adopt_or_pick_anew, schedule}
use Rattle.cs_types.specs.Accounting.{charge, without_interval}
use Rattle.cs_types.specs.Time.{advanced}
use Rattle.cs_types.specs.Prctl.{Setting, setting_of, asked_by_call, runs_one, makes_cookie, with_used, with_answer, prctl_answer}
use Rattle.cs_types.specs.Step.{Stepped, step, picked, wake, turn, try_steal, run_idle, block, without, has_threads, exit, may_not_fork, fork, tick, unless_offline, set_policy, take_offline, bring_online}
use Rattle.cs_types.specs.Queueing.{dequeue, moved}
use Rattle.cs_types.specs.Steal.{source_of, stolen, set_place}
use Rattle.cs_types.specs.Hotplug.{back}
use Rattle.cs_types.specs.Touches.{is_selected, is_adopted, pick_of, scheduler_of, selection_of, is_selection, is_taken_by, LedgerEntry, Ledger, ledger_entry, task_number, pick_number, own_number, is_fresh}
use Rattle.cs_types.specs.History.{Moment, step_at, next}
use Rattle.cs_laws.proofs.Siblings.{length-alike, is_online-alike, kept-run_idle, kept-without}
use Rattle.cs_laws.proofs.Selections.{selected_keeps_law}
use Rattle.cs_types.proofs.Lists.{get_or-set_alike}
use Rattle.cs_laws.proofs.Places.{with_sibling_either, mapped_at}
use Rattle.cs_laws.proofs.Homes.{sibling_of-advanced, sibling_of-without}
use Rattle.cs_laws.proofs.Numbers.{task_number-cons, pick_number-cons, own_number-cons, pick_number-le, own_number-le, selection_touches}

-- ---- what is kept

-- where something waits for a sibling, its own number is below the pick number
abbrev SiblingBehind : (ℕ → ℕ) → ℕ → ℕ → SiblingState → Type 0
SiblingBehind own pick cpu sibling = IfSome sibling.waiting (λ _. own cpu < pick)

abbrev pub AreBehind : (ℕ → ℕ) → ℕ → RoomState → Type 0
AreBehind own pick room = (cpu : ℕ) → SiblingBehind own pick cpu (sibling_of room cpu)

-- ---- changes of a room that leave what waits

behind-with_sibling : (own : ℕ → ℕ) (pick : ℕ) (room : RoomState) (cpu : ℕ) (sibling : SiblingState) → SiblingBehind own pick cpu sibling → AreBehind own pick room →
    AreBehind own pick (with_sibling room cpu sibling)
behind-with_sibling own pick room cpu sibling here there = with_sibling_either (SiblingBehind own pick) room cpu sibling here there

behind-flag : (own : ℕ → ℕ) (pick : ℕ) (room : RoomState) (cpu : ℕ) (test : Bool) → AreBehind own pick room → AreBehind own pick (flag room cpu test)
behind-flag own pick room cpu test behind = behind-with_sibling own pick room cpu _ (behind cpu) behind

-- ---- a schedule

-- After a schedule nothing waits for its sibling. Where it is no core-wide selection, nothing more waits for another.
record Leaves (own : ℕ → ℕ) (pick cpu : ℕ) (made : Scheduled) : Type 0 where
  gone : (sibling_of made.room cpu).waiting ≡ None
  others : is_selected made.pick.kind ≡ false → AreBehind own pick made.room

-- the sibling is written, and nothing waits for it
written : (room : RoomState) (cpu : ℕ) (sibling : SiblingState) → cpu < length room.siblings → sibling.waiting ≡ None → (sibling_of (with_sibling room cpu sibling) cpu).waiting ≡ None
written room cpu sibling below none = ap (λ (s : SiblingState). s.waiting) (get_or-set_same room.siblings cpu sibling absent below) ∙ none

leaves-pick_anew : (own : ℕ → ℕ) (pick : ℕ) (room : RoomState) (cpu : ℕ) → cpu < length room.siblings → is_online room cpu ≡ true → AreBehind own pick room →
    Leaves own pick cpu (pick_anew room cpu)
leaves-pick_anew own pick room cpu below up behind =
    cond_both (is_plain room cpu) (pick_plain room cpu) (select room cpu) (Leaves own pick cpu)
    (λ _. record { gone = written (without_interval room) cpu _ below refl; others = λ _. behind-with_sibling own pick (without_interval room) cpu _ tt behind })
    (λ _. record { gone = (selected_keeps_law room cpu below up).selector.nothing_waits; others = λ unselected. absurd cc })

leaves-adopt_or_pick_anew : (own : ℕ → ℕ) (pick : ℕ) (room : RoomState) (fresh : Bool) (cpu : ℕ) (waiting : Waiting) → cpu < length room.siblings → is_online room cpu ≡ true →
    AreBehind own pick room → Leaves own pick cpu (adopt_or_pick_anew room fresh cpu waiting)
leaves-adopt_or_pick_anew own pick room fresh cpu None below up behind = leaves-pick_anew own pick (charge room) cpu below up behind
leaves-adopt_or_pick_anew own pick room true cpu (Some run) below up behind =
    record { gone = written room cpu _ below refl; others = λ _. behind-with_sibling own pick room cpu _ tt behind }
leaves-adopt_or_pick_anew own pick room false cpu (Some run) below up behind = leaves-pick_anew own pick (charge room) cpu below up behind

leaves-schedule : (own : ℕ → ℕ) (pick : ℕ) (room : RoomState) (fresh : Bool) (cpu : ℕ) → cpu < length room.siblings → is_online room cpu ≡ true →
    AreBehind own pick room → Leaves own pick cpu (schedule room fresh cpu)
leaves-schedule own pick room fresh cpu below up behind =
    let made = adopt_or_pick_anew room fresh cpu (sibling_of room cpu).waiting in
    let its = leaves-adopt_or_pick_anew own pick room fresh cpu (sibling_of room cpu).waiting below up behind in
    record {
      gone = get_or-set_alike (λ (s : SiblingState). s.waiting) made.room.siblings cpu _ cpu absent refl ∙ its.gone;
      others = λ unselected. let behind = its.others unselected in behind-with_sibling own pick made.room cpu _ (behind cpu) behind;
    }

-- ---- a step

-- whether an entry of this event with this reply tells that the sibling took a pick of a core-wide selection
abbrev takes : ℕ → Event → Reply → Bool
takes cpu event reply = is_taken_by cpu (record { actor = End; event = event; reply = reply })

-- After a step nothing waits for a sibling that took a pick in it. Where it tells no core-wide selection, nothing more
-- waits for any.
record StepLeaves (own : ℕ → ℕ) (pick : ℕ) (event : Event) (made : Stepped) : Type 0 where
  taken : (cpu : ℕ) → takes cpu event made.reply ≡ true → (sibling_of made.room cpu).waiting ≡ None
  others : selection_of made.reply ≡ None → AreBehind own pick made.room

-- an event that makes no sibling schedule
unscheduled : (own : ℕ → ℕ) (pick : ℕ) (event : Event) (made : Stepped) → scheduler_of event ≡ None → AreBehind own pick made.room → StepLeaves own pick event made
unscheduled own pick event made none behind =
    record {
      taken = λ cpu takes.
          let here = (and_parts (option_map_or (λ other. other == cpu) (scheduler_of event) false) _ takes).0 in
          let bad : false ≡ true = sym (ap (λ (one : Option ℕ). option_map_or (λ other. other == cpu) one false) none) ∙ here in
          absurd cc;
      others = λ _. behind;
    }

-- one that tells no pick
unpicked : (own : ℕ → ℕ) (pick : ℕ) (event : Event) (made : Stepped) → pick_of made.reply ≡ None → AreBehind own pick made.room → StepLeaves own pick event made
unpicked own pick event made none behind =
    record {
      taken = λ cpu takes.
          let here = (and_parts (option_map_or (λ other. other == cpu) (scheduler_of event) false) _ takes).1 in
          let bad : false ≡ true = sym (ap (λ (one : Option Pick). option_map_or (λ (pick : Pick). is_selected pick.kind || is_adopted pick.kind) one false) none) ∙ here in
          absurd cc;
      others = λ _. behind;
    }

unselected : (selects : Bool) (pick : Pick) → cond selects (Some pick) None ≡ None → selects ≡ false
unselected true pick none = absurd cc
unselected false pick none = refl

-- one that tells the pick of a schedule
scheduled : (own : ℕ → ℕ) (pick : ℕ) (event : Event) (cpu : ℕ) (answer : Pick → Reply) (made : Scheduled) → scheduler_of event ≡ Some cpu →
    ((told : Pick) → pick_of (answer told) ≡ Some told) → Leaves own pick cpu made → StepLeaves own pick event (picked answer made)
scheduled own pick event cpu answer made by tells leaves =
    record {
      taken = λ other takes.
          let here = (and_parts (option_map_or (λ one. one == other) (scheduler_of event) false) _ takes).0 in
          let same : (cpu == other) ≡ true = sym (ap (λ (one : Option ℕ). option_map_or (λ n. n == other) one false) by) ∙ here in
          subst (λ n. (sibling_of made.room n).waiting ≡ None) (eqb-true cpu other same) leaves.gone;
      others = λ none.
          leaves.others (unselected (is_selected made.pick.kind) made.pick
          (sym (ap (option_and_then (λ (pick : Pick). cond (is_selected pick.kind) (Some pick) None)) (tells made.pick)) ∙ none));
    }

-- ---- the events of a sibling

leaves-try_steal : (own : ℕ → ℕ) (pick : ℕ) (room : RoomState) (cpu : ℕ) (task : Option Task) → AreBehind own pick room → StepLeaves own pick (Turn cpu) (try_steal room cpu task)
leaves-try_steal own pick room cpu None behind = unpicked own pick (Turn cpu) _ refl (behind-with_sibling own pick room cpu _ (behind cpu) behind)
leaves-try_steal own pick room cpu (Some task) behind =
    let moves = moved room cpu task in
    unpicked own pick (Turn cpu) _ refl
    (behind-flag own pick (flag (set_place moves cpu 0) cpu true) (source_of room cpu) _
    (behind-flag own pick (set_place moves cpu 0) cpu true (behind-with_sibling own pick moves cpu _ (behind cpu) behind)))

leaves-turn : (own : ℕ → ℕ) (pick : ℕ) (room : RoomState) (fresh : Bool) (cpu : ℕ) → cpu < length room.siblings → is_online room cpu ≡ true → AreBehind own pick room →
    StepLeaves own pick (Turn cpu) (turn room fresh cpu)
leaves-turn own pick room fresh cpu below up behind =
    cond_both (sibling_of room cpu).pending _ _ (StepLeaves own pick (Turn cpu))
    (λ _. scheduled own pick (Turn cpu) cpu Picked _ refl (λ _. refl) (leaves-schedule own pick room fresh cpu below up behind))
    (λ _. cond_both ((sibling_of room cpu).place == 0) _ _ (StepLeaves own pick (Turn cpu)) (λ _. unpicked own pick (Turn cpu) _ refl behind)
    (λ _. leaves-try_steal own pick room cpu (stolen room cpu) behind))

leaves-block : (own : ℕ → ℕ) (pick : ℕ) (room : RoomState) (cpu : ℕ) (task : Option Task) → cpu < length room.siblings → is_online room cpu ≡ true → AreBehind own pick room →
    StepLeaves own pick (Block cpu) (block room cpu task)
leaves-block own pick room cpu None below up behind = unpicked own pick (Block cpu) _ refl behind
leaves-block own pick room cpu (Some task) below up behind =
    let gone = run_idle (dequeue (charge room) task) cpu in
    let same = kept-run_idle (charge room) cpu task in
    scheduled own pick (Block cpu) cpu (Slept task.spec.pid) _ refl (λ _. refl)
    (leaves-schedule own pick gone false cpu (subst (λ n. cpu < n) (sym (length-alike gone room same)) below) (is_online-alike gone room same cpu ∙ up)
    (behind-with_sibling own pick (dequeue (charge room) task) cpu _ (behind cpu) behind))

leaves-exit : (own : ℕ → ℕ) (pick : ℕ) (room : RoomState) (cpu : ℕ) (task : Option Task) → cpu < length room.siblings → is_online room cpu ≡ true → AreBehind own pick room →
    StepLeaves own pick (Exit cpu) (exit room cpu task)
leaves-exit own pick room cpu None below up behind = unpicked own pick (Exit cpu) _ refl behind
leaves-exit own pick room cpu (Some task) below up behind =
    let gone = run_idle (without (charge room) task) cpu in
    let same = kept-without (charge room) cpu task in
    cond_both (has_threads room task) _ _ (StepLeaves own pick (Exit cpu)) (λ _. unpicked own pick (Exit cpu) _ refl behind)
    (λ _. scheduled own pick (Exit cpu) cpu (Ended task.spec.pid) _ refl (λ _. refl)
    (leaves-schedule own pick gone false cpu (subst (λ n. cpu < n) (sym (length-alike gone room same)) below) (is_online-alike gone room same cpu ∙ up)
    (behind-with_sibling own pick (without (charge room) task) cpu _ (behind cpu) behind)))

behind-tick : (own : ℕ → ℕ) (pick : ℕ) (room : RoomState) (cpu : ℕ) (task : Option Task) → AreBehind own pick room → AreBehind own pick (tick room cpu task).room
behind-tick own pick room cpu None behind = behind
behind-tick own pick room cpu (Some task) behind = behind-flag own pick room cpu _ behind

-- a sibling that is offline does nothing
leaves-unless_offline : (own : ℕ → ℕ) (pick : ℕ) (room : RoomState) (event : Event) (cpu : ℕ) (made : Stepped) → AreBehind own pick room →
    (is_online room cpu ≡ true → StepLeaves own pick event made) → StepLeaves own pick event (unless_offline room cpu made)
leaves-unless_offline own pick room event cpu made behind now =
    cond_both (is_online room cpu) _ _ (StepLeaves own pick event) now (λ _. unpicked own pick event _ refl behind)

-- ---- the other events

behind-wake : (own : ℕ → ℕ) (pick : ℕ) (room : RoomState) (task : Option Task) → AreBehind own pick room → AreBehind own pick (wake room task).room
behind-wake own pick room None behind = behind
behind-wake own pick room (Some task) behind =
    cond_both task.queued _ _ (λ (made : Stepped). AreBehind own pick made.room) (λ _. behind) (λ _. behind-flag own pick room _ _ behind)

behind-fork : (own : ℕ → ℕ) (pick : ℕ) (room : RoomState) (thread : Bool) (caller : Option Task) → AreBehind own pick room → AreBehind own pick (fork room thread caller).room
behind-fork own pick room thread None behind = behind
behind-fork own pick room thread (Some caller) behind =
    cond_both (may_not_fork room.task_limit room.tasks caller) _ _ (λ (made : Stepped). AreBehind own pick made.room) (λ _. behind) (λ _. behind-flag own pick room _ _ behind)

behind-set_policy : (own : ℕ → ℕ) (pick : ℕ) (room : RoomState) (policy : Policy) (task : Option Task) → AreBehind own pick room → AreBehind own pick (set_policy room policy task).room
behind-set_policy own pick room policy None behind = behind
behind-set_policy own pick room policy (Some task) behind =
    cond_both task.queued _ _ (AreBehind own pick) (λ _. behind-flag own pick (flag room _ _) _ _ (behind-flag own pick room _ _ behind)) (λ _. behind)

behind-with_answer : (own : ℕ → ℕ) (pick : ℕ) (room : RoomState) (set : Setting) (answer : Reply) → AreBehind own pick room → AreBehind own pick (with_answer room set answer)
behind-with_answer own pick room set Zero behind =
    λ cpu. mapped_at (SiblingBehind own pick cpu) (λ sibling. record sibling { pending = sibling.pending || runs_one set sibling }) room.siblings cpu tt (behind cpu)
behind-with_answer own pick room set answer behind = behind

behind-advanced : (own : ℕ → ℕ) (pick : ℕ) (room : RoomState) (delta : ℕ) → AreBehind own pick room → AreBehind own pick (advanced room delta)
behind-advanced own pick room delta behind cpu =
    sibling_of-advanced (SiblingBehind own pick cpu) room delta cpu (λ least ran. tt) (λ least ran. behind cpu)

behind-take_offline : (own : ℕ → ℕ) (pick : ℕ) (room : RoomState) (cpu : ℕ) → AreBehind own pick room → AreBehind own pick (take_offline room cpu).room
behind-take_offline own pick room cpu behind =
    cond_both (not (is_online room cpu)) _ _ (λ (made : Stepped). AreBehind own pick made.room) (λ _. behind)
    (λ _. cond_both (length (online room) == 1) _ _ (λ (made : Stepped). AreBehind own pick made.room) (λ _. behind)
    (λ _ other. sibling_of-without (SiblingBehind own pick other) room cpu other (λ _. tt) (λ _. tt) (λ _. behind other)))

behind-bring_online : (own : ℕ → ℕ) (pick : ℕ) (room : RoomState) (cpu : ℕ) → AreBehind own pick room → AreBehind own pick (bring_online room cpu).room
behind-bring_online own pick room cpu behind =
    cond_both (is_online room cpu) _ _ (λ (made : Stepped). AreBehind own pick made.room) (λ _. behind)
    (λ _. behind-with_sibling own pick room cpu (back (sibling_of room cpu)) tt behind)

-- ---- every event

leaves-step : (own : ℕ → ℕ) (pick : ℕ) (room : RoomState) (fresh : Bool) (event : Event) → IsEvent (length room.siblings) event → AreBehind own pick room →
    StepLeaves own pick event (step room fresh event)
leaves-step own pick room fresh (Turn cpu) limits behind =
    leaves-unless_offline own pick room (Turn cpu) cpu _ behind (λ up. leaves-turn own pick room fresh cpu limits up behind)
leaves-step own pick room fresh (Resched cpu) limits behind =
    leaves-unless_offline own pick room (Resched cpu) cpu _ behind
    (λ up. scheduled own pick (Resched cpu) cpu Picked _ refl (λ _. refl) (leaves-schedule own pick room fresh cpu limits up behind))
leaves-step own pick room fresh (Block cpu) limits behind =
    leaves-unless_offline own pick room (Block cpu) cpu _ behind (λ up. leaves-block own pick room cpu (running_on room cpu) limits up behind)
leaves-step own pick room fresh (Exit cpu) limits behind =
    leaves-unless_offline own pick room (Exit cpu) cpu _ behind (λ up. leaves-exit own pick room cpu (running_on room cpu) limits up behind)
leaves-step own pick room fresh (Tick cpu) limits behind =
    unscheduled own pick (Tick cpu) _ refl
    (cond_both (is_online room cpu) _ _ (λ (made : Stepped). AreBehind own pick made.room) (λ _. behind-tick own pick room cpu (running_on room cpu) behind) (λ _. behind))
leaves-step own pick room fresh (Wake pid) limits behind = unscheduled own pick (Wake pid) _ refl (behind-wake own pick room (task_of room pid) behind)
leaves-step own pick room fresh (Advance delta) limits behind = unscheduled own pick (Advance delta) _ refl (behind-advanced own pick room delta behind)
leaves-step own pick room fresh (Fork caller thread) limits behind =
    unscheduled own pick (Fork caller thread) _ refl (behind-fork own pick room thread (task_of room caller) behind)
leaves-step own pick room fresh (Prctl caller ask) limits behind =
    unscheduled own pick (Prctl caller ask) _ refl
    (behind-with_answer own pick (with_used room (makes_cookie room caller ask) (asked_by_call room caller ask)) (setting_of room caller ask) (prctl_answer room caller ask) behind)
leaves-step own pick room fresh (SetSched pid policy) limits behind =
    unscheduled own pick (SetSched pid policy) _ refl (behind-set_policy own pick room policy (task_of room pid) behind)
leaves-step own pick room fresh (Offline cpu) limits behind = unscheduled own pick (Offline cpu) _ refl (behind-take_offline own pick room cpu behind)
leaves-step own pick room fresh (Online cpu) limits behind = unscheduled own pick (Online cpu) _ refl (behind-bring_online own pick room cpu behind)
leaves-step own pick room fresh (Load index) limits behind = unscheduled own pick (Load index) _ refl behind
leaves-step own pick room fresh (Unload index) limits behind = unscheduled own pick (Unload index) _ refl behind

-- ---- one entry more

-- where something waits for a sibling at a moment, its own number is below the pick number
abbrev pub AllBehind : Moment → Type 0
AllBehind moment = AreBehind (λ cpu. own_number cpu moment.ledger) (pick_number moment.ledger) moment.room

no_selection : (selection : Option Pick) → is_some selection ≡ false → selection ≡ None
no_selection None isnt = refl
no_selection (Some pick) isnt = absurd cc

pub behind_next : (moment : Moment) (entry : Entry) → IsEvent (length moment.room.siblings) entry.event → entry.reply ≡ (step_at moment entry.event).reply →
    AllBehind moment → AllBehind (next moment entry)
behind_next moment entry limits legal behind cpu =
    elim (cases_Bool (is_taken_by cpu entry)) [
      | inl takes ↦ subst (λ waiting. IfSome waiting (λ _. Now)) (sym (leaves.taken cpu (subst (λ reply. is_taken_by cpu (record { actor = End; event = entry.event; reply = reply }) ≡ true) legal takes))) tt
      | inr other ↦ elim (cases_Bool (is_selection entry)) [
        | inl selects ↦ whatever (sibling_of made.room cpu).waiting (selected other selects)
        | inr unselected ↦
            subst (λ own. IfSome (sibling_of made.room cpu).waiting (λ _. own < pick_number later)) (sym (own other))
            (subst (λ pick. IfSome (sibling_of made.room cpu).waiting (λ _. own_number cpu ledger < pick))
            (sym (pick_number-cons note ledger ∙ cond-false (is_selection entry) (task_number later) (pick_number ledger) unselected))
            (leaves.others (ap selection_of (sym legal) ∙ no_selection (selection_of entry.reply) unselected) cpu))
      ]
    ] where
      ledger : Ledger
      ledger = moment.ledger

      note : LedgerEntry
      note = ledger_entry moment.room entry

      later : Ledger
      later = note ∷ ledger

      made : Stepped
      made = step_at moment entry.event

      leaves : StepLeaves (λ cpu. own_number cpu ledger) (pick_number ledger) entry.event made
      leaves = leaves-step (λ cpu. own_number cpu ledger) (pick_number ledger) moment.room (is_fresh ledger) entry.event limits behind

      Now : Type 0
      Now = own_number cpu later < pick_number later

      own : is_taken_by cpu entry ≡ false → own_number cpu later ≡ own_number cpu ledger
      own other = own_number-cons cpu note ledger ∙ cond-false (is_taken_by cpu entry) (pick_number later) (own_number cpu ledger) other

      selected : is_taken_by cpu entry ≡ false → is_selection entry ≡ true → Now
      selected other selects =
          let pick = pick_number-cons note ledger ∙ cond-true (is_selection entry) (task_number later) (pick_number ledger) selects in
          omega (
            arith,
            own other,
            pick,
            task_number-cons note ledger,
            selection_touches moment.room entry.event entry.reply selects,
            own_number-le cpu ledger,
            pick_number-le ledger,
          )

      whatever : (waiting : Waiting) → Now → IfSome waiting (λ _. Now)
      whatever None now = tt
      whatever (Some run) now = now
