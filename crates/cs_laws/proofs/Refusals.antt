-- Refusals: a refused event leaves the room as it was, but for the serial that a CREATE has used.
use Rattle.std.proofs.Common.{ap, List, false, ◌≡◌, ℕ, ◌+◌, Bool, true, [], ◌∷◌, ◌++◌, length, refl, sym, subst, Option, Some, None}
use Rattle.std.specs.Prelude.{◌==◌, not, filter, cond}
use Rattle.std.proofs.lemmas.Bool.{cond_both}
use Rattle.cs_types.specs.declared.task.Task.{Task}
use Rattle.cs_types.specs.declared.task.Policy.{Policy}
use Rattle.cs_types.specs.declared.event.Ask.{Ask}
use Rattle.cs_types.specs.declared.event.Event.{Event}
use Rattle.cs_types.specs.declared.event.Event.TheVariants.{Turn, Resched, Block, Exit, Tick, Wake, Advance, Fork, Prctl, SetSched, Offline, Online, Load, Unload}
use Rattle.cs_types.specs.declared.reply.Reply.{Reply}
use Rattle.cs_types.specs.declared.reply.Reply.TheVariants.{Loaded, NoGuard, Zero}
use Rattle.cs_types.specs.declared.reply.Entry.{Entry}
use Rattle.cs_types.specs.Room.{Opening, RoomState, sibling_of, running_on, is_online, online, task_of}
use Rattle.cs_types.specs.Prctl.{asked_by_call, makes_cookie, with_used, with_answer, setting_of, prctl_answer}
use Rattle.cs_types.specs.Steal.{stolen}
use Rattle.cs_types.specs.Step.{load_answer, unload_answer, Stepped, step, wake, turn, try_steal, unless_offline, block, exit, has_threads, fork, may_not_fork, tick, set_policy, take_offline, bring_online}
use Rattle.cs_types.specs.History.{History, step_at, moment_of, fold_of, reply_to}
use Rattle.cs_types.specs.Laws.{is_refused, asked_by, uses_serial, LeavesTheRoom}
use Rattle.cs_laws.proofs.Histories.{moment_of-push}
use Rattle.cs_types.specs.Guards.{guard_of, is_bench, is_active, load, unload, with_guard, asked_each}
use Rattle.cs_types.specs.declared.view.GuardPlace.TheVariants.{Active, Dropped}

-- A step whose reply refuses its event leaves the room.
abbrev pub IsRefusal : RoomState → Event → Stepped → Type 0
IsRefusal room event stepped = is_refused stepped.reply ≡ true → LeavesTheRoom room event stepped.room

-- An event that asks no guard and uses no serial may leave the room as it was.
as_it_was : (room : RoomState) (event : Event) → asked_by room event ≡ [] → uses_serial room event ≡ false → LeavesTheRoom room event room
as_it_was room event nobody none =
    record {
      same = refl;
      asked = ap (λ (asked : List ℕ). asked_each room.guards asked) (sym nobody);
      serial = ap (λ (uses : Bool). cond uses (room.next_cookie + 1) room.next_cookie) (sym none);
    }

-- ---- each event

unless_offline-refusal : (room : RoomState) (event : Event) (cpu : ℕ) (stepped : Stepped) → asked_by room event ≡ [] → uses_serial room event ≡ false → IsRefusal room event stepped → IsRefusal room event (unless_offline room cpu stepped)
unless_offline-refusal room event cpu stepped nobody none its = cond_both (is_online room cpu) _ _ (IsRefusal room event) (λ _. its) (λ _ _. as_it_was room event nobody none)

try_steal-refusal : (room : RoomState) (event : Event) (cpu : ℕ) (task : Option Task) → IsRefusal room event (try_steal room cpu task)
try_steal-refusal room event cpu None refused = absurd cc
try_steal-refusal room event cpu (Some task) refused = absurd cc

turn-refusal : (room : RoomState) (may_adopt : Bool) (cpu : ℕ) → IsRefusal room (Turn cpu) (turn room may_adopt cpu)
turn-refusal room may_adopt cpu =
    cond_both (sibling_of room cpu).pending _ _ (IsRefusal room (Turn cpu)) (λ _ refused. absurd cc)
    (λ _. cond_both ((sibling_of room cpu).place == 0) _ _ (IsRefusal room (Turn cpu)) (λ _ refused. absurd cc)
    (λ _. try_steal-refusal room (Turn cpu) cpu (stolen room cpu)))

block-refusal : (room : RoomState) (cpu : ℕ) (task : Option Task) → IsRefusal room (Block cpu) (block room cpu task)
block-refusal room cpu None refused = as_it_was room (Block cpu) refl refl
block-refusal room cpu (Some task) refused = absurd cc

exit-refusal : (room : RoomState) (cpu : ℕ) (task : Option Task) → IsRefusal room (Exit cpu) (exit room cpu task)
exit-refusal room cpu None = λ _. as_it_was room (Exit cpu) refl refl
exit-refusal room cpu (Some task) =
    cond_both (has_threads room task) _ _ (IsRefusal room (Exit cpu)) (λ _ _. as_it_was room (Exit cpu) refl refl) (λ _ refused. absurd cc)

tick-refusal : (room : RoomState) (cpu : ℕ) (task : Option Task) → IsRefusal room (Tick cpu) (tick room cpu task)
tick-refusal room cpu None refused = absurd cc
tick-refusal room cpu (Some task) refused = absurd cc

wake-refusal : (room : RoomState) (pid : ℕ) (task : Option Task) → IsRefusal room (Wake pid) (wake room task)
wake-refusal room pid None = λ _. as_it_was room (Wake pid) refl refl
wake-refusal room pid (Some task) =
    cond_both task.queued _ _ (IsRefusal room (Wake pid)) (λ _ _. as_it_was room (Wake pid) refl refl) (λ _ refused. absurd cc)

fork-refusal : (room : RoomState) (pid : ℕ) (thread : Bool) (caller : Option Task) → IsRefusal room (Fork pid thread) (fork room thread caller)
fork-refusal room pid thread None = λ _. as_it_was room (Fork pid thread) refl refl
fork-refusal room pid thread (Some caller) =
    cond_both (may_not_fork room.task_limit room.tasks caller) _ _ (IsRefusal room (Fork pid thread)) (λ _ _. as_it_was room (Fork pid thread) refl refl) (λ _ refused. absurd cc)

-- A call leaves the room but for what it has used, also where it made its cookie and is refused then.
made_leaves : (room : RoomState) (caller : ℕ) (ask : Ask) → LeavesTheRoom room (Prctl caller ask) (with_used room (makes_cookie room caller ask) (asked_by_call room caller ask))
made_leaves room caller ask = record { same = refl; asked = refl; serial = refl }

called-refusal : (room : RoomState) (caller : ℕ) (ask : Ask) (answer : Reply) →
    IsRefusal room (Prctl caller ask) (record { reply = answer; room = with_answer (with_used room (makes_cookie room caller ask) (asked_by_call room caller ask)) (setting_of room caller ask) answer })
called-refusal room caller ask Zero refused = absurd cc
called-refusal room caller ask answer refused = made_leaves room caller ask

set_policy-refusal : (room : RoomState) (pid : ℕ) (policy : Policy) (task : Option Task) → IsRefusal room (SetSched pid policy) (set_policy room policy task)
set_policy-refusal room pid policy None refused = as_it_was room (SetSched pid policy) refl refl
set_policy-refusal room pid policy (Some task) refused = absurd cc

take_offline-refusal : (room : RoomState) (cpu : ℕ) → IsRefusal room (Offline cpu) (take_offline room cpu)
take_offline-refusal room cpu =
    cond_both (not (is_online room cpu)) _ _ (IsRefusal room (Offline cpu)) (λ _ _. as_it_was room (Offline cpu) refl refl)
    (λ _. cond_both (length (online room) == 1) _ _ (IsRefusal room (Offline cpu)) (λ _ _. as_it_was room (Offline cpu) refl refl) (λ _ refused. absurd cc))

bring_online-refusal : (room : RoomState) (cpu : ℕ) → IsRefusal room (Online cpu) (bring_online room cpu)
bring_online-refusal room cpu = cond_both (is_online room cpu) _ _ (IsRefusal room (Online cpu)) (λ _ _. as_it_was room (Online cpu) refl refl) (λ _ refused. absurd cc)

load-refusal : (room : RoomState) (index : ℕ) →
    IsRefusal room (Load index) (record { reply = load_answer room.guards index; room = record room { guards = load room.guards index } })
load-refusal room index =
    elim (is_bench (guard_of room.guards index).place) as (λ b. is_refused (cond b Loaded NoGuard) ≡ true →
    LeavesTheRoom room (Load index) (record room { guards = cond b (record (with_guard room.guards index (record (guard_of room.guards index) { place = Active })) { active = room.guards.active ++ index ∷ [] }) room.guards })) [
      | true ↦ λ refused. absurd cc
      | false ↦ λ _. as_it_was room (Load index) refl refl
    ]

unload-refusal : (room : RoomState) (index : ℕ) →
    IsRefusal room (Unload index) (record { reply = unload_answer room.guards index; room = record room { guards = unload room.guards index } })
unload-refusal room index =
    elim (is_active (guard_of room.guards index).place) as (λ b. is_refused (cond b Reply.Dropped NoGuard) ≡ true →
    LeavesTheRoom room (Unload index) (record room { guards = cond b (record (with_guard room.guards index (record (guard_of room.guards index) { place = Dropped; pairs = [] })) { active = filter (λ other. not (other == index)) room.guards.active }) room.guards })) [
      | true ↦ λ refused. absurd cc
      | false ↦ λ _. as_it_was room (Unload index) refl refl
    ]

-- ---- every event

step-refusal : (room : RoomState) (may_adopt : Bool) (event : Event) → IsRefusal room event (step room may_adopt event)
step-refusal room may_adopt (Turn cpu) = unless_offline-refusal room (Turn cpu) cpu _ refl refl (turn-refusal room may_adopt cpu)
step-refusal room may_adopt (Resched cpu) = unless_offline-refusal room (Resched cpu) cpu _ refl refl (λ refused. absurd cc)
step-refusal room may_adopt (Block cpu) = unless_offline-refusal room (Block cpu) cpu _ refl refl (block-refusal room cpu (running_on room cpu))
step-refusal room may_adopt (Exit cpu) = unless_offline-refusal room (Exit cpu) cpu _ refl refl (exit-refusal room cpu (running_on room cpu))
step-refusal room may_adopt (Tick cpu) = unless_offline-refusal room (Tick cpu) cpu _ refl refl (tick-refusal room cpu (running_on room cpu))
step-refusal room may_adopt (Wake pid) = wake-refusal room pid (task_of room pid)
step-refusal room may_adopt (Advance delta) = λ refused. absurd cc
step-refusal room may_adopt (Fork caller thread) = fork-refusal room caller thread (task_of room caller)
step-refusal room may_adopt (Prctl caller ask) = called-refusal room caller ask (prctl_answer room caller ask)
step-refusal room may_adopt (SetSched pid policy) = set_policy-refusal room pid policy (task_of room pid)
step-refusal room may_adopt (Offline cpu) = take_offline-refusal room cpu
step-refusal room may_adopt (Online cpu) = bring_online-refusal room cpu
step-refusal room may_adopt (Load index) = load-refusal room index
step-refusal room may_adopt (Unload index) = unload-refusal room index

-- An entry whose reply refuses its event leaves the room.
pub refused_leaves : (opening : Opening) (history : History) (entry : Entry) → entry.reply ≡ reply_to opening history entry.event →
    is_refused entry.reply ≡ true → LeavesTheRoom (fold_of opening history) entry.event (fold_of opening (history ++ entry ∷ []))
refused_leaves opening history entry legal =
    let made = step_at (moment_of opening history) entry.event in
    let same : made ≡ record { reply = entry.reply; room = fold_of opening (history ++ entry ∷ []) } =
    sym (λ i. record { reply = legal i; room = (moment_of-push opening history entry i).room }) in
    subst (IsRefusal (fold_of opening history) entry.event) same (step-refusal (fold_of opening history) _ entry.event)
