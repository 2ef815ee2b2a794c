use Rattle.std.proofs.Common.{◌≡◌, ◌+◌, ◌*◌, ◌-◌, ◌<◌, ◌≤◌, ◌++◌, ◌∷◌, [], ◌∙◌, ap, sym, subst, refl, length, arith, Option, ℕ}
use Rattle.std.proofs.lemmas.Nat.{mul-le}
use Rattle.std.proofs.lemmas.List.{length-append}
use Rattle.cs_types.specs.Room.{Opening}
use Rattle.cs_types.specs.declared.event.Actor.TheVariants.{End}
use Rattle.cs_types.specs.declared.event.Event.TheVariants.{Resched}
use Rattle.cs_types.specs.declared.reply.Entry.{Entry}
use Rattle.cs_types.specs.History.{History, history_of, moment_of, fold_of, reply_to}
use Rattle.cs_types.specs.Drain.{next_to_schedule, IsDrained}
use Rattle.cs_laws.proofs.Histories.{IsLegal-history_of}
use Rattle.core_events.specs.Machine.{Machine}
use Rattle.core_events.specs.Inside.{opening_of, machine_of, IsFold}
use Rattle.core_tasks.specs.Drain.{next_by}
use Rattle.task_table.specs.Table.{Table}
use Rattle.core_lanes.specs.declared.queue.SiblingQueue.{Ghosts}
use Rattle.core_lanes.specs.Lanes.{Beside, room_of}
use Rattle.core_lanes.specs.Numbers.{is_fresh_by}
use Rattle.core_tasks.specs.State.{beside_of, state_numbers}
use Rattle.core_events.specs.declared.room.CoreRoom.TheInside.{Inside}
use Rattle.core_events.proofs.Machines.{folds_of, next_of}
use Rattle.core_events.proofs.Playable.{playable_of, events_of}
use Rattle.core_events.proofs.Ends.{IsAhead, next_below, ahead_first, ahead_after, none_left, all_made, nobody_pending_at_end, one_cookie_at_end}
use Rattle.core_events.proofs.room.CoreRoomRoom.drain.Goals as goal

-- who schedules next is who the model says, after the history so far
next_is : {Q G : Type 0} {g : Ghosts Q} (a : Inside Q G g) (invariant : IsFold a) (m : Machine) (opening : Opening) (found : Option ℕ) → machine_of a ≡ m → m.opening ≡ opening →
    ((beside : Beside) (table : Table) → found ≡ next_by (room_of beside (a.state.core, table)) (is_fresh_by (state_numbers a.state))) →
    found ≡ next_to_schedule (moment_of opening (history_of opening m.steps))
next_is a invariant m opening found view_is same is =
    is (beside_of (fold_of (opening_of a) a.entries.items).intervals a.state) a.state.tasks ∙ next_of (opening_of a) a.state a.entries.items (folds_of a invariant)
    ∙ ap (λ h. next_to_schedule (moment_of (opening_of a) h)) invariant.history
    ∙ ap (λ (other : Machine). next_to_schedule (moment_of other.opening (history_of other.opening other.steps))) view_is
    ∙ ap (λ s. next_to_schedule (moment_of s (history_of s m.steps))) same

pub returns-in_default-clause-entries : goal.returns-in_default-clause-entries
returns-in_default-clause-entries g c =
    let opening = c.args.self.now.opening in
    let inner = c.self-in-loop-entries in
    let next = next_is inner.inside inner.invariant c.loop-entries.self opening c.next_to_schedule.result inner.view_is c.loop-entries.invariant.opening c.next_to_schedule.ensures in
    let past = history_of opening c.args.self.now.steps in
    subst (λ (s : Opening). IsDrained opening past (history_of s c.loop-entries.self.steps)) (sym c.loop-entries.invariant.opening)
    (none_left opening past (history_of opening c.loop-entries.self.steps) _ c.loop-entries.invariant.ahead (sym c.in_default.is ∙ next))

pub returns-in_default-clause-nobody_pending : goal.returns-in_default-clause-nobody_pending
returns-in_default-clause-nobody_pending g c = nobody_pending_at_end c.loop-entries.invariant.opening (returns-in_default-clause-entries g c)

pub returns-in_default-clause-one_cookie : goal.returns-in_default-clause-one_cookie
returns-in_default-clause-one_cookie g c =
    let m = c.args.self.now in
    one_cookie_at_end c.loop-entries.invariant.opening (returns-in_default-clause-entries g c)
    (playable_of c.self.inside c.self.invariant m c.self.view_is) (events_of c.self.inside c.self.invariant m c.self.view_is) (IsLegal-history_of m.opening m.steps)

pub apply-requires-clause-event : goal.apply-requires-clause-event
apply-requires-clause-event g c =
    let opening = c.args.self.now.opening in
    let inner = c.self-in-loop-entries in
    let next = next_is inner.inside inner.invariant c.loop-entries.self opening c.next_to_schedule.result inner.view_is c.loop-entries.invariant.opening c.next_to_schedule.ensures in
    subst (λ (s : Opening). c.in-Some.cpu < s.scenario.siblings) (sym c.loop-entries.invariant.opening)
    (next_below opening (history_of opening c.loop-entries.self.steps) c.in-Some.cpu (sym c.in-Some.is ∙ next))

pub loop-entries-init : goal.loop-entries-init
loop-entries-init g c =
    let opening = c.args.self.now.opening in
    let past = history_of opening c.args.self.now.steps in
    let count : c.from-siblings.result ≡ opening.scenario.siblings = c.from-siblings.ensures ∙ c.self.invariant.count ∙ ap (λ (m : Machine). m.opening.scenario.siblings) c.self.view_is in
    record {
      opening = refl;
      spare = omega arith;
      made = omega arith;
      ahead = subst (IsAhead opening past past) (ap (λ n. n * n) (sym count) ∙ omega arith) (ahead_first opening past);
    }

-- the entry that was made is the model's, and with it what is left to make
pub loop-entries-preserved : goal.loop-entries-preserved
loop-entries-preserved g c =
    let opening = c.args.self.now.opening in
    let before = c.loop-entries.self in
    let after = c.apply.new.self in
    let first = history_of opening c.args.self.now.steps in
    let past = history_of opening before.steps in
    let most = c.from-siblings.result * c.from-siblings.result in
    let entry : Entry = record { actor = End; event = Resched c.in-Some.cpu; reply = c.apply.result } in
    let inner = c.self-in-loop-entries in
    let next = next_is inner.inside inner.invariant before opening c.next_to_schedule.result inner.view_is c.loop-entries.invariant.opening c.next_to_schedule.ensures in
    let same : after.opening ≡ opening = c.apply.ensures.opening ∙ c.loop-entries.invariant.opening in
    let reply : c.apply.result ≡ reply_to opening past (Resched c.in-Some.cpu) =
    c.apply.ensures.reply ∙ ap (λ s. reply_to s (history_of s before.steps) (Resched c.in-Some.cpu)) c.loop-entries.invariant.opening in
    let more : history_of opening after.steps ≡ past ++ entry ∷ [] =
    ap (λ s. history_of s after.steps) (sym same) ∙ c.apply.ensures.entry ∙ ap (λ s. history_of s before.steps ++ entry ∷ []) c.loop-entries.invariant.opening in
    record {
      opening = same;
      spare = omega (arith, c.apply.ensures.spare, c.loop-entries.invariant.spare);
      made = omega (arith, ap length more, length-append past (entry ∷ []), c.loop-entries.invariant.made);
      ahead = subst (λ (h : History). IsAhead opening first h (most - (c.loop-entries.entries + 1))) (sym more)
          (subst (IsAhead opening first (past ++ entry ∷ [])) (omega (arith, c.loop-entries-test.true))
          (ahead_after opening first past (most - c.loop-entries.entries) c.in-Some.cpu entry c.loop-entries.invariant.ahead
          (sym c.in-Some.is ∙ next) refl refl reply));
    }

pub returns-clause-entries : goal.returns-clause-entries
returns-clause-entries g c =
    let opening = c.args.self.now.opening in
    let past = history_of opening c.args.self.now.steps in
    let now = history_of opening c.loop-entries.self.steps in
    let most = c.from-siblings.result * c.from-siblings.result in
    let none : most - c.loop-entries.entries ≡ 0 = omega (arith, c.loop-entries-test.false) in
    subst (λ (s : Opening). IsDrained opening past (history_of s c.loop-entries.self.steps)) (sym c.loop-entries.invariant.opening)
    (all_made opening past now (subst (IsAhead opening past now) none c.loop-entries.invariant.ahead))

pub returns-clause-nobody_pending : goal.returns-clause-nobody_pending
returns-clause-nobody_pending g c = nobody_pending_at_end c.loop-entries.invariant.opening (returns-clause-entries g c)

pub returns-clause-one_cookie : goal.returns-clause-one_cookie
returns-clause-one_cookie g c =
    let m = c.args.self.now in
    one_cookie_at_end c.loop-entries.invariant.opening (returns-clause-entries g c)
    (playable_of c.self.inside c.self.invariant m c.self.view_is) (events_of c.self.inside c.self.invariant m c.self.view_is) (IsLegal-history_of m.opening m.steps)

pub overflow_mul-most : goal.overflow_mul-most
overflow_mul-most g c =
    let n = c.from-siblings.result in
    let few : n ≤ 16 = omega (arith, c.from-siblings.ensures, c.self.invariant.count, c.self.invariant.playable.siblings.1) in
    omega (arith, mul-le n n 16 16 few few)

-- the square of the siblings, as the code has it
square : {Q G : Type 0} {g : Ghosts Q} (a : Inside Q G g) (m : Machine) (n : ℕ) → machine_of a ≡ m → n ≡ a.scenario.value.siblings → n * n ≡ m.opening.scenario.siblings * m.opening.scenario.siblings
square a m n view_is is = ap (λ k. k * k) (is ∙ ap (λ (m : Machine). m.opening.scenario.siblings) view_is)

pub apply-requires-clause-spare : goal.apply-requires-clause-spare
apply-requires-clause-spare g c =
    let most = square c.self.inside c.args.self.now c.from-siblings.result c.self.view_is (c.from-siblings.ensures ∙ c.self.invariant.count) in
    omega (arith, most, c.loop-entries-test.true, c.loop-entries.invariant.spare, c.requires.spare)

pub returns-in_default-clause-count : goal.returns-in_default-clause-count
returns-in_default-clause-count g c =
    ap (λ (s : Opening). length (history_of s c.loop-entries.self.steps)) c.loop-entries.invariant.opening ∙ c.loop-entries.invariant.made

pub returns-in_default-clause-few : goal.returns-in_default-clause-few
returns-in_default-clause-few g c =
    let most = square c.self.inside c.args.self.now c.from-siblings.result c.self.view_is (c.from-siblings.ensures ∙ c.self.invariant.count) in
    omega (arith, most, c.loop-entries-test.true)

pub returns-in_default-clause-spare : goal.returns-in_default-clause-spare
returns-in_default-clause-spare g c = c.loop-entries.invariant.spare

pub returns-clause-count : goal.returns-clause-count
returns-clause-count g c =
    let all : c.loop-entries.entries ≡ c.from-siblings.result * c.from-siblings.result = omega (arith, c.loop-entries-test.false, c.loop-entries.auto.entries-end) in
    ap (λ (s : Opening). length (history_of s c.loop-entries.self.steps)) c.loop-entries.invariant.opening ∙ c.loop-entries.invariant.made
    ∙ ap (λ n. length (history_of c.args.self.now.opening c.args.self.now.steps) + n) all

pub returns-clause-few : goal.returns-clause-few
returns-clause-few g c = omega (arith, square c.self.inside c.args.self.now c.from-siblings.result c.self.view_is (c.from-siblings.ensures ∙ c.self.invariant.count))

pub returns-clause-spare : goal.returns-clause-spare
returns-clause-spare g c = omega (arith, c.loop-entries-test.false, c.loop-entries.auto.entries-end, c.loop-entries.invariant.spare)
