-- Readies: what the events of a state have in common.
use Rattle.std.proofs.Common.{◌≡◌, ℕ, ◌+◌, ◌^◌, ◌<◌, Bool, false, cond, [], map, refl, subst, sym, ap, ◌∙◌, arith, length, Some, None}
use Rattle.std.specs.Prelude.{IfSome, nat_lt, not, ◌==◌, ◌&&◌}
use Rattle.std.proofs.lemmas.Bool.{lt-ltb, ne_eqb}
use Rattle.std.proofs.lemmas.List.Elements.{All-weaker}
use Rattle.cs_types.specs.declared.event.Event.TheVariants.{Turn, Resched, Online, Offline}
use Rattle.cs_types.specs.declared.reply.Pick.{Pick}
use Rattle.cs_types.specs.declared.reply.Reply.{Reply}
use Rattle.cs_types.specs.declared.reply.Reply.TheVariants.{Picked}
use Rattle.cs_types.specs.declared.task.Task.{Task}
use Rattle.cs_types.specs.Room.{RoomState, SiblingState, Waiting, sibling_of, queued_on}
use Rattle.cs_types.specs.Selection.{schedule, balance, pick_anew, adopt_or_pick_anew}
use Rattle.cs_types.specs.Accounting.{charge}
use Rattle.cs_laws.proofs.Times.{vtimes_bounded, siblings_bounded}
use Rattle.cs_laws.proofs.Accounts.{charge-again, account_of, charged_up_to}
use Rattle.core_lanes.specs.declared.queue.SiblingQueue.{Ghosts}
use Rattle.core_lanes.specs.Lanes.{HasLowTimes, lane_state}
use Rattle.core_lanes.specs.Numbers.{Numbers, touched, is_fresh_by}
use Rattle.core_pick.specs.Schedules.{own_of, may_adopt_by, MayPick, MaySchedule}
use Rattle.core_tasks.specs.declared.state.State.{State}
use Rattle.core_tasks.specs.State.{both, room_with}
use Rattle.core_tasks.specs.Steps.{numbers_after}
use Rattle.core_events.specs.Ready.{IsOnTime, IsReady}
use Rattle.cookie_steal.specs.Tries.{reply_of, steal_touches}
use Rattle.cookie_steal.specs.declared.steal.Try.{Try}
use Rattle.cookie_steal.specs.declared.steal.Try.TheVariants.{Stole}
use Rattle.cpu_hotplug.specs.Hotplugs.{leave_touches, reply_of as hotplug_reply}
use Rattle.cpu_hotplug.specs.declared.hotplug.Hotplug.{Hotplug}
use Rattle.cpu_hotplug.specs.declared.hotplug.Hotplug.TheVariants.{Done}
use Rattle.std.proofs.Math.Bool.{and-true}
use Rattle.core_tasks.proofs.States.{untouched}
use Rattle.core_pick.proofs.Cases.{is_not_adopted}

-- a state that is on time has low times
pub low_times : {Q G : Type 0} {g : Ghosts Q} (state : State Q G g) → IsOnTime state → HasLowTimes (both state)
low_times state time =
    let room = room_with [] state in
    let clock : state.clock < 2 ^ 56 = omega (arith, time.clock) in
    let siblings = siblings_bounded time.entries room (time.timely []) time.few clock in
    record {
      vtimes = All-weaker (λ (task : Task). task.vtime < 2 ^ 80) (λ (task : Task). task.vtime < 2 ^ 100) (λ task low. omega (arith, low)) state.tasks.tasks
          (vtimes_bounded time.entries room (time.timely []) time.few clock);
      leasts = All-weaker (λ (sibling : SiblingState). (sibling.least < 2 ^ 80) × (sibling.snapshot < 2 ^ 80)) (λ (sibling : SiblingState). sibling.least < 2 ^ 100)
          (λ sibling low. omega (arith, low.0)) (map lane_state state.core.lanes.items) siblings;
      snapshots = All-weaker (λ (sibling : SiblingState). (sibling.least < 2 ^ 80) × (sibling.snapshot < 2 ^ 80)) (λ (sibling : SiblingState). sibling.snapshot < 2 ^ 100)
          (λ sibling low. omega (arith, low.1)) (map lane_state state.core.lanes.items) siblings;
    }

-- a state that is ready may schedule
pub may_pick : {Q G : Type 0} {g : Ghosts Q} (state : State Q G g) (cpu : ℕ) → cpu < length state.core.lanes.items → IsReady state → MayPick state.clock cpu (both state)
may_pick state cpu below ready = record {
  cpu = below;
  agree = ready.sound.agree;
  low = low_times state ready.time;
  clock = omega (arith, ready.time.clock);
  touches = omega (arith, ready.spares.touches);
}

pub may_schedule : {Q G : Type 0} {g : Ghosts Q} (state : State Q G g) (cpu : ℕ) → cpu < length state.core.lanes.items → IsReady state → MaySchedule state.clock cpu (both state)
may_schedule state cpu below ready = record { picks = may_pick state cpu below ready; paid = ready.paid }

-- also where the queues were touched since
pub may_touch_after : {Q G : Type 0} {g : Ghosts Q} (state : State Q G g) → IsReady state → (paid now : Numbers) → paid.task ≡ state.core.task_number → now ≡ touched 1 paid →
    now.task + 1 < 2 ^ 64
may_touch_after state ready paid now same is = omega (arith, ready.spares.touches, same, ap (λ (numbers : Numbers). numbers.task) is)

-- The numbers let a sibling adopt exactly where the selection is fresh, while its own number is below the pick number.
same_test : (task pick own : ℕ) → own < pick → ((pick == task) && not (own == pick)) ≡ (nat_lt 0 pick && (pick == task))
same_test task pick own below =
    ap (λ b. (pick == task) && not b) (ne_eqb own pick (λ same. omega (arith, below, same))) ∙ and-true (pick == task)
    ∙ ap (λ b. b && (pick == task)) (sym (lt-ltb 0 pick (omega (arith, below))))

-- A schedule is the same by the three numbers as by what was touched.
pub same_schedule : (numbers : Numbers) (room : RoomState) (cpu : ℕ) → IfSome (sibling_of room cpu).waiting (λ run. own_of cpu numbers < numbers.pick) →
    schedule room (may_adopt_by cpu numbers) cpu ≡ schedule room (is_fresh_by numbers) cpu
same_schedule numbers room cpu behind = ap (balance cpu) (by_waiting (sibling_of room cpu).waiting behind) where
  by_waiting : (waiting : Waiting) → IfSome waiting (λ run. own_of cpu numbers < numbers.pick) →
      adopt_or_pick_anew room (may_adopt_by cpu numbers) cpu waiting ≡ adopt_or_pick_anew room (is_fresh_by numbers) cpu waiting
  by_waiting None below = refl
  by_waiting (Some run) below =
      ap (λ b. adopt_or_pick_anew room b cpu (Some run)) (same_test numbers.task numbers.pick (own_of cpu numbers) below)

-- a turn that is answered with a pick is counted as a reschedule is
pub turn_as_resched : (room : RoomState) (cpu : ℕ) (answer : Reply) (pick : Pick) (numbers : Numbers) → answer ≡ Picked pick →
    numbers_after room (Resched cpu) answer numbers ≡ numbers_after room (Turn cpu) answer numbers
turn_as_resched room cpu answer pick numbers is =
    subst (λ (r : Reply). numbers_after room (Resched cpu) r numbers ≡ numbers_after room (Turn cpu) r numbers) (sym is) refl

-- and one that tries to steal touches the queues twice where it stole
pub turn_touches : (room : RoomState) (cpu : ℕ) (numbers : Numbers) (made : Try) → touched (steal_touches made) numbers ≡ numbers_after room (Turn cpu) (reply_of made) numbers
turn_touches room cpu numbers (Stole pid from) = refl
turn_touches room cpu numbers made = refl

-- ---- a pick that adopts nothing

pub schedule_not_adopted : (room : RoomState) (fresh : Bool) (cpu : ℕ) → None ≡ cond fresh (sibling_of room cpu).waiting None →
    schedule room fresh cpu ≡ balance cpu (pick_anew (charge room) cpu)
schedule_not_adopted room fresh cpu none = ap (balance cpu) (is_not_adopted room fresh cpu none)

-- the pick of a sibling whose open interval was charged, and whose task is gone since
pub picked_charged : (charged gone : RoomState) (cpu : ℕ) → charged_up_to (account_of gone) ≡ gone.clock → charged ≡ gone →
    balance cpu (pick_anew charged cpu) ≡ schedule gone false cpu
picked_charged charged gone cpu now is =
    ap (λ (room : RoomState). balance cpu (pick_anew room cpu)) (is ∙ sym (charge-again gone now))
    ∙ sym (schedule_not_adopted gone false cpu refl)

-- ---- a sibling that leaves or comes back

-- where it leaves, the queues are touched twice for each task that is queued there
pub offline_touches : (room : RoomState) (cpu : ℕ) (numbers : Numbers) (made : Hotplug) →
    touched (leave_touches made (length (queued_on room cpu))) numbers ≡ numbers_after room (Offline cpu) (hotplug_reply made) numbers
offline_touches room cpu numbers Done = refl
offline_touches room cpu numbers made = refl

-- and where it comes back they are not
pub online_touches : (room : RoomState) (cpu : ℕ) (numbers : Numbers) (made : Hotplug) → numbers ≡ numbers_after room (Online cpu) (hotplug_reply made) numbers
online_touches room cpu numbers Done = untouched numbers
online_touches room cpu numbers made = untouched numbers
