-- States: what changes of the core and its table, and of what is beside them, are of the state.
use Rattle.std.proofs.Common.{◌≡◌, ◌≢◌, ℕ, ◌+◌, List, [], ◌∷◌, map, refl, subst, sym, ap, ◌∙◌, arith}
use Rattle.std.specs.Prelude.{All, sum_by}
use Rattle.std.proofs.lemmas.List.Elements.{All-weaker, All-map}
use Rattle.std.proofs.lemmas.List.{get_or-map, length-map}
use Rattle.std.proofs.lemmas.List.Sums.{sum_by-cons}
use Rattle.cs_types.specs.declared.event.Event.{Event}
use Rattle.cs_types.specs.declared.reply.Reply.{Reply}
use Rattle.cs_types.specs.declared.task.Task.{Task}
use Rattle.cs_types.specs.Room.{RoomState, Interval}
use Rattle.cs_types.specs.Accounting.{charge}
use Rattle.cs_types.specs.Step.{Stepped, step}
use Rattle.cookie_refs.specs.Refs.{Refs, references, AgreeBut}
use Rattle.task_table.specs.Table.{Table}
use Rattle.core_lanes.specs.declared.queue.SiblingQueue.{Ghosts}
use Rattle.core_lanes.specs.declared.lanes.Core.{Core}
use Rattle.core_lanes.specs.Numbers.{booked, is_fresh_by, Numbers, touched}
use Rattle.core_lanes.specs.Changes.{Kept, identity_of, IsBooked}
use Rattle.core_tasks.specs.declared.state.State.{State}
use Rattle.core_tasks.specs.State.{both, beside_of, room_with, state_numbers, IsGiven, IsGone, StaysBut}
use Rattle.core_tasks.specs.Steps.{numbers_after, MakesStep, Makes}
use Rattle.core_lanes.specs.Changes as core

-- ---- what stays

-- what stays through two changes stays through both
pub both_stay : {Q G : Type 0} {g : Ghosts Q} {held : ℕ} {old mid new : State Q G g} → StaysBut held old mid → StaysBut held mid new → StaysBut held old new
both_stay first second = record {
  sound = λ sound. second.sound (first.sound sound);
  siblings = second.siblings ∙ first.siblings;
  ends = second.ends ∙ first.ends;
}

-- and where nothing changes
pub same_stays : {Q G : Type 0} {g : Ghosts Q} {held : ℕ} {state : State Q G g} → StaysBut held state state
same_stays = record { sound = λ sound. sound; siblings = refl; ends = refl }

-- what is said of the pids of tasks alone is kept with their identities
pids_kept : (P : ℕ → Type 0) (old new : List Task) → map identity_of new ≡ map identity_of old → All (λ task. P task.spec.pid) old → All (λ task. P task.spec.pid) new
pids_kept P old new same all k d below =
    let each = subst (λ (identities : List (ℕ × ℕ)). All (λ (identity : ℕ × ℕ). P identity.0) identities) (sym same) (All-map (λ (identity : ℕ × ℕ). P identity.0) identity_of old all) in
    subst (λ (identity : ℕ × ℕ). P identity.0) (get_or-map identity_of new k d (identity_of d) below)
    (each k (identity_of d) (omega (arith, below, length-map new identity_of)))

-- and so are the counts of the cookies
count_of : (cookie : ℕ) (tasks : List Task) → sum_by (λ (task : Task). references task.cookie cookie) tasks ≡ sum_by (λ (identity : ℕ × ℕ). references identity.1 cookie) (map identity_of tasks)
count_of cookie [] = refl
count_of cookie (task ∷ tasks) =
    sum_by-cons (λ (t : Task). references t.cookie cookie) task tasks
    ∙ ap (λ n. references task.cookie cookie + n) (count_of cookie tasks)
    ∙ sym (sum_by-cons (λ (identity : ℕ × ℕ). references identity.1 cookie) (identity_of task) (map identity_of tasks))

cookies_kept : (refs : Refs) (held : ℕ) (old new : List Task) → map identity_of new ≡ map identity_of old → AgreeBut refs old held → AgreeBut refs new held
cookies_kept refs held old new same agree cookie =
    agree cookie
    ∙ ap (λ n. n + references held cookie)
    (count_of cookie old ∙ ap (sum_by (λ (identity : ℕ × ℕ). references identity.1 cookie)) (sym same) ∙ sym (count_of cookie new))

-- and those that ended are gone
gone_kept : (next : ℕ) (old new : List Task) (ended : List (ℕ × ℕ)) → map identity_of new ≡ map identity_of old →
    All (IsGone next old ended) ended → All (IsGone next new ended) ended
gone_kept next old new ended same =
    All-weaker (IsGone next old ended) (IsGone next new ended)
    (λ task gone. record { given = gone.given; absent = pids_kept (λ pid. pid ≢ task.0) old new same gone.absent; alone = gone.alone }) ended

-- What a change of the core and its table keeps, the state keeps.
pub lifted : {Q G : Type 0} {g : Ghosts Q} {held : ℕ} (state : State Q G g) (new : Core Q g × Table) → core.Stays (both state) new →
    StaysBut held state (record state { core = new.0; tasks = new.1 })
lifted {Q} {g} {held} state new stays =
    let kept = stays.kept in
    let same = ap (λ (k : Kept). k.identities) kept in
    record {
      sound = λ sound. record {
        agree = stays.agree sound.agree;
        limit = ap (λ (k : Kept). k.limit) kept ∙ sound.limit;
        user_top = sound.user_top;
        pids = pids_kept (IsGiven state.next_pid) state.tasks.tasks new.1.tasks same sound.pids;
        ended = gone_kept state.next_pid state.tasks.tasks new.1.tasks state.ended.items same sound.ended;
        refs = cookies_kept state.refs held state.tasks.tasks new.1.tasks same sound.refs;
      };
      siblings = ap (λ (k : Kept). k.siblings) kept;
      ends = refl;
    }

-- ---- steps

-- the state stands for a room of which it has all but the recorded intervals
pub stands : {Q G : Type 0} {g : Ghosts Q} (intervals : List Interval) (state : State Q G g) (room : RoomState) → room_with intervals state ≡ room → room_with room.intervals state ≡ room
stands intervals state room is = subst (λ (r : RoomState). room_with r.intervals state ≡ r) is refl

-- what a step makes that charges nothing
pub record MakesUncharged {Q G : Type 0} {g : Ghosts Q} (intervals : List Interval) (old new : State Q G g) (event : Event) (answer : Reply) (made : Stepped) : Type 0 where
  pub reply : answer ≡ made.reply
  pub room : room_with intervals new ≡ made.room
  pub numbers : state_numbers new ≡ numbers_after (room_with intervals old) event answer (state_numbers old)

pub uncharged : {Q G : Type 0} {g : Ghosts Q} {intervals : List Interval} {old new : State Q G g} {event : Event} {answer : Reply} {made : Stepped} →
    MakesUncharged intervals old new event answer made → MakesStep intervals old new event answer made
uncharged {Q} {g} {intervals} {old} {new} {event} {answer} {made} is =
    record {
      reply = is.reply;
      room = stands intervals new made.room is.room;
      numbers = λ kept. is.numbers
          ∙ ap (numbers_after (room_with intervals old) event answer) (kept ∙ ap (λ (room : RoomState). booked room (state_numbers old)) is.room);
    }

-- what a step makes that charges, and then leaves the intervals as they are
pub record MakesOnceCharged {Q G : Type 0} {g : Ghosts Q} (intervals : List Interval) (old new : State Q G g) (event : Event) (answer : Reply) (made : Stepped) : Type 0 where
  pub reply : answer ≡ made.reply
  pub room : room_with (charge (room_with intervals old)).intervals new ≡ made.room
  pub numbers : IsBooked (beside_of intervals old) (both old) →
      state_numbers new ≡ numbers_after (room_with intervals old) event answer (booked (charge (room_with intervals old)) (state_numbers old))

pub once_charged : {Q G : Type 0} {g : Ghosts Q} {intervals : List Interval} {old new : State Q G g} {event : Event} {answer : Reply} {made : Stepped} →
    MakesOnceCharged intervals old new event answer made → MakesStep intervals old new event answer made
once_charged {Q} {g} {intervals} {old} {new} {event} {answer} {made} is =
    record {
      reply = is.reply;
      room = stands (charge (room_with intervals old)).intervals new made.room is.room;
      numbers = λ kept. is.numbers kept
          ∙ ap (λ (room : RoomState). numbers_after (room_with intervals old) event answer (booked room (state_numbers old))) is.room;
    }

-- An event that changes nothing, and is to change nothing, makes its step.
pub leaves_all : {Q G : Type 0} {g : Ghosts Q} (state : State Q G g) (event : Event) (answer : Reply) →
    ((intervals : List Interval) → state_numbers state ≡ numbers_after (room_with intervals state) event answer (state_numbers state)) →
    ((intervals : List Interval) → record { reply = answer; room = room_with intervals state } ≡ step (room_with intervals state) (is_fresh_by (state_numbers state)) event) →
    Makes state state event answer
leaves_all state event answer numbers made = record {
  step = λ intervals. uncharged (record {
    reply = ap (λ (m : Stepped). m.reply) (made intervals);
    room = ap (λ (m : Stepped). m.room) (made intervals);
    numbers = numbers intervals;
  });
  stays = same_stays;
}

-- nothing is touched
pub untouched : (numbers : Numbers) → numbers ≡ touched 0 numbers
untouched numbers = ap (λ n. let other : Numbers = record numbers { task = n } in other) (omega arith)
