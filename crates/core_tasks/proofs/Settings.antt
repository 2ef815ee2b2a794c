-- Settings: what the loop over a group keeps, and what a call of `prctl` comes to.
use Rattle.std.proofs.Common.{◌≡◌, ℕ, ◌+◌, ◌*◌, ◌<◌, ◌≤◌, Bool, true, false, List, [], ◌∷◌, map, length, refl, subst, sym, ap, ◌∙◌, arith, ltb, eqb, Option, Some, None}
use Rattle.std.specs.Prelude.{◌==◌, ◌&&◌, ◌||◌, find, filter, All, IfSome, IfNone}
use Rattle.std.specs.Option.{option_map_or}
use Rattle.std.proofs.lemmas.Bool.{lt-ltb}
use Rattle.std.proofs.lemmas.Bool.Decides.{nat_tests}
use Rattle.std.proofs.lemmas.List.Elements.{All-weaker}
use Rattle.cs_types.specs.declared.task.Task.{Task}
use Rattle.cs_types.specs.declared.event.Ask.{Ask}
use Rattle.cs_types.specs.declared.event.Event.TheVariants.{Prctl}
use Rattle.cs_types.specs.declared.reply.Reply.{Reply}
use Rattle.cs_types.specs.declared.reply.Reply.TheVariants.{Zero, Value, NoCaller, Refused}
use Rattle.cs_types.specs.Room.{RoomState, SiblingState, Interval}
use Rattle.cs_types.specs.Selection.{is_run}
use Rattle.cs_types.specs.Prctl.{Setting, is_set, runs_one, set_cookies, with_used, asked_by_call, with_answer, makes_cookie, setting_of, prctl_answer}
use Rattle.cs_types.specs.Touches.{cookie_touches, setting_touches}
use Rattle.cs_laws.proofs.Settings.{set_cookies-none, set_cookies-cons, setting_touches-cons}
use Rattle.cs_laws.proofs.Numbers.{touches_of_tasks-le}
use Rattle.cs_laws.proofs.Spots.{replaced_by}
use Rattle.task_table.specs.declared.group.Group.{Group}
use Rattle.task_table.specs.declared.group.Group.TheVariants.{Threads, Process}
use Rattle.task_table.specs.Group.{is_in_group, group_above}
use Rattle.task_table.specs.Table.{Table, Rises}
use Rattle.task_table.proofs.Rising.{walked_on, find_again}
use Rattle.task_table.proofs.Tables.{set_each, filter_alike}
use Rattle.prctl_core.specs.declared.decision.Decision.{Decision}
use Rattle.prctl_core.specs.declared.decision.Planned.TheVariants.{Go}
use Rattle.prctl_core.specs.Plan.{named, IsGranted, IsRefusal, SetsIn}
use Rattle.core_lanes.specs.declared.queue.SiblingQueue.{Ghosts}
use Rattle.core_lanes.specs.Queued.{IsOf}
use Rattle.core_lanes.specs.Lanes.{Beside, BareCore, room_by}
use Rattle.core_lanes.specs.Numbers.{Numbers, touched}
use Rattle.core_tasks.specs.declared.state.State.{State}
use Rattle.core_tasks.specs.State.{room_with, IsGiven, StaysBut, state_numbers}
use Rattle.core_tasks.specs.Steps.{numbers_after, MakesWith}
use Rattle.core_tasks.specs.Cookies.{setting, flagged_for, SetsCookies}
use Rattle.core_tasks.proofs.States.{uncharged, same_stays, untouched}
use Rattle.std.proofs.Math.Bool.{or-false}

-- ---- the members of a group

module _ (group : Group) (after : ℕ) (tasks : List Task) (rises : Rises tasks) where
  -- the next is the first of those that are left, and behind it come those above its pid
  pub member_next : (found : Option Task) → found ≡ find (λ task. is_in_group group task && ltb after task.spec.pid) tasks →
      IfSome found (λ task. group_above group after tasks ≡ task ∷ group_above group task.spec.pid tasks)
  member_next None is = tt
  member_next (Some task) is = walked_on (is_in_group group) after tasks rises (Some task) is

  pub member_none : (found : Option Task) → found ≡ find (λ task. is_in_group group task && ltb after task.spec.pid) tasks →
      IfNone found (group_above group after tasks ≡ [])
  member_none None is = walked_on (is_in_group group) after tasks rises None is
  member_none (Some task) is = tt

  pub member_there : (found : Option Task) → found ≡ find (λ task. is_in_group group task && ltb after task.spec.pid) tasks →
      IfSome found (IsOf tasks)
  member_there None is = tt
  member_there (Some task) is = find_again (λ task. is_in_group group task && ltb after task.spec.pid) 0 tasks task rises (sym is)

-- ---- a task that gets a cookie

run_test : (a b : ℕ) → eqb b a ≡ eqb a b
run_test a b = grind (arith, nat_tests)

flags_alike : (task : Task) (cookie : ℕ) (run : Option ℕ) → is_run run (Some task.spec.pid) ≡ option_map_or (is_set (setting (task ∷ []) cookie)) run false
flags_alike task cookie None = refl
flags_alike task cookie (Some pid) = run_test task.spec.pid pid ∙ sym (or-false (eqb task.spec.pid pid))

-- the siblings that run it become pending
flagged_alike : (task : Task) (cookie : ℕ) (siblings : List SiblingState) →
    map (flagged_for task.spec.pid) siblings
    ≡ map (λ (sibling : SiblingState). record sibling { pending = sibling.pending || runs_one (setting (task ∷ []) cookie) sibling }) siblings
flagged_alike task cookie [] = refl
flagged_alike task cookie (sibling ∷ siblings) =
    λ i. record sibling { pending = sibling.pending || flags_alike task cookie sibling.run i } ∷ flagged_alike task cookie siblings i

-- a core whose queues were touched this number of times more, where each sibling that runs the task with the pid became pending
abbrev pub flagged_core : ℕ → ℕ → BareCore → BareCore
flagged_core touches pid core =
    record core { task_number = core.task_number + touches; siblings = map (flagged_for pid) core.siblings }

-- what the code does with the table, the counts and the siblings sets the cookie in the room
pub sets_one : (beside : Beside) (limit next touches : ℕ) (old new : BareCore) (before after : Table) (task : Task) (cookie : ℕ) →
    Rises before.tasks → IsOf before.tasks task → after ≡ record before { tasks = map (replaced_by (record task { cookie = cookie })) before.tasks } →
    limit ≡ beside.cookie_limit → next ≡ beside.next_cookie → new ≡ flagged_core touches task.spec.pid old →
    room_by (record beside { cookie_limit = limit; next_cookie = next }) new after ≡ set_cookies (room_by beside old before) (setting (task ∷ []) cookie)
sets_one beside limit next touches old new before after task cookie rises there changed limits serial flag =
    let each = ap (λ (table : Table). table.tasks) changed ∙ set_each cookie before.tasks task rises there in
    let flags = flagged_alike task cookie old.siblings in
    (λ i. room_by (record beside { cookie_limit = limits i; next_cookie = serial i }) (flag i) (record before { tasks = each i; limit = (changed i).limit }))
    ∙ (λ i. record (set_cookies (room_by beside old before) (setting (task ∷ []) cookie)) { siblings = flags i })

-- so often the queues are touched for it alone
pub touches_alone : (task : Task) (cookie touches : ℕ) → touches ≡ cookie_touches cookie task → touches ≡ setting_touches (setting (task ∷ []) cookie)
touches_alone task cookie touches is = omega (arith, is, setting_touches-cons task [] cookie)

-- ---- a group whose members get a cookie, one after the other

module _ {Q G : Type 0} {g : Ghosts Q} (old now : State Q G g) (cookie : ℕ) (left all : List Task)
    (room : (intervals : List Interval) → set_cookies (room_with intervals now) (setting left cookie) ≡ set_cookies (room_with intervals old) (setting all cookie))
    (numbers : touched (setting_touches (setting left cookie)) (state_numbers now) ≡ touched (setting_touches (setting all cookie)) (state_numbers old)) where
  -- none is left
  pub group_done : left ≡ [] → StaysBut cookie old now → SetsCookies old now all cookie
  group_done none stays = record {
    room = λ intervals. sym (set_cookies-none (room_with intervals now) cookie)
        ∙ ap (λ (tasks : List Task). set_cookies (room_with intervals now) (setting tasks cookie)) (sym none) ∙ room intervals;
    numbers = untouched (state_numbers now)
        ∙ ap (λ (tasks : List Task). touched (setting_touches (setting tasks cookie)) (state_numbers now)) (sym none) ∙ numbers;
    stays = stays;
  }

  -- one more gets it
  pub group_room : (next : State Q G g) (task : Task) (rest : List Task) → left ≡ task ∷ rest → SetsCookies now next (task ∷ []) cookie →
      (intervals : List Interval) → set_cookies (room_with intervals next) (setting rest cookie) ≡ set_cookies (room_with intervals old) (setting all cookie)
  group_room next task rest is sets intervals =
      ap (λ (r : RoomState). set_cookies r (setting rest cookie)) (sets.room intervals)
      ∙ set_cookies-cons (room_with intervals now) task rest cookie
      ∙ ap (λ (tasks : List Task). set_cookies (room_with intervals now) (setting tasks cookie)) (sym is) ∙ room intervals

  pub group_numbers : (next : State Q G g) (task : Task) (rest : List Task) → left ≡ task ∷ rest → SetsCookies now next (task ∷ []) cookie →
      touched (setting_touches (setting rest cookie)) (state_numbers next) ≡ touched (setting_touches (setting all cookie)) (state_numbers old)
  group_numbers next task rest is sets =
      ap (touched (setting_touches (setting rest cookie))) sets.numbers
      ∙ twice (state_numbers now)
      ∙ ap (λ (tasks : List Task). touched (setting_touches (setting tasks cookie)) (state_numbers now)) (sym is) ∙ numbers where
        twice : (n : Numbers) → touched (setting_touches (setting rest cookie)) (touched (setting_touches (setting (task ∷ []) cookie)) n) ≡ touched (setting_touches (setting (task ∷ rest) cookie)) n
        twice n = ap (λ m. record n { task = m }) (omega (arith, setting_touches-cons task rest cookie, setting_touches-cons task [] cookie))

  -- the queues were touched at most twice for each
  pub group_touches : (state_numbers now).task ≤ (state_numbers old).task + 2 * length all
  group_touches = omega (arith, ap (λ (n : Numbers). n.task) numbers, touches_of_tasks-le cookie all)

and_above : (b : Bool) (n : ℕ) → 0 < n → (b && ltb 0 n) ≡ b
and_above true n above = lt-ltb 0 n above
and_above false n above = refl

-- ---- the tasks that a target names

named_by : (next : ℕ) (p : Task → Bool) (tasks : List Task) → All (λ task. IsGiven next task.spec.pid) tasks →
    filter (λ task. p task && ltb 0 task.spec.pid) tasks ≡ filter p tasks
named_by next p tasks given =
    filter_alike (λ task. p task && ltb 0 task.spec.pid) p tasks
    (All-weaker (λ (task : Task). IsGiven next task.spec.pid) (λ (task : Task). (p task && ltb 0 task.spec.pid) ≡ p task)
    (λ task is. and_above (p task) task.spec.pid is.0) tasks given)

pub named_threads : (next tgid : ℕ) (tasks : List Task) → All (λ task. IsGiven next task.spec.pid) tasks → group_above (Threads tgid) 0 tasks ≡ filter (λ task. task.spec.tgid == tgid) tasks
named_threads next tgid tasks given = named_by next (λ task. task.spec.tgid == tgid) tasks given

pub named_process : (next pgid : ℕ) (tasks : List Task) → All (λ task. IsGiven next task.spec.pid) tasks → group_above (Process pgid) 0 tasks ≡ filter (λ task. task.spec.pgid == pgid) tasks
named_process next pgid tasks given = named_by next (λ task. task.spec.pgid == pgid) tasks given

-- no task gets a cookie
pub sets_none : {Q G : Type 0} {g : Ghosts Q} (state : State Q G g) (cookie : ℕ) → SetsCookies state state [] cookie
sets_none state cookie =
    group_done state state cookie [] [] (λ intervals. refl) refl refl same_stays

-- the tasks of one list are those of another
pub sets_alike : {Q G : Type 0} {g : Ghosts Q} (old new : State Q G g) (tasks other : List Task) (cookie : ℕ) → tasks ≡ other → SetsCookies old new tasks cookie → SetsCookies old new other cookie
sets_alike old new tasks other cookie same sets = subst (λ (ts : List Task). SetsCookies old new ts cookie) same sets

-- ---- a call that succeeds

module _ {Q G : Type 0} {g : Ghosts Q} (intervals : List Interval) (old mid after new : State Q G g) (pid : ℕ) (ask : Ask) (decision : Decision)
    (answer : prctl_answer (room_with intervals old) pid ask ≡ decision.reply)
    (sets : SetsIn (room_with intervals old) pid ask (Go decision))
    (mid_is : room_with intervals mid ≡ with_used (room_with intervals old) (makes_cookie (room_with intervals old) pid ask) (asked_by_call (room_with intervals old) pid ask))
    (mid_numbers : state_numbers mid ≡ state_numbers old)
    (made : SetsCookies mid after (named decision.to old.tasks.tasks) decision.cookie)
    (new_is : room_with intervals new ≡ room_with intervals after)
    (new_numbers : state_numbers new ≡ state_numbers after) where
  -- the room after it, whatever it sets
  new_room : room_with intervals new
      ≡ set_cookies (with_used (room_with intervals old) (makes_cookie (room_with intervals old) pid ask) (asked_by_call (room_with intervals old) pid ask)) (setting (named decision.to old.tasks.tasks) decision.cookie)
  new_room = new_is ∙ made.room intervals ∙ ap (λ (r : RoomState). set_cookies r (setting (named decision.to old.tasks.tasks) decision.cookie)) mid_is

  all_numbers : state_numbers new ≡ touched (setting_touches (setting (named decision.to old.tasks.tasks) decision.cookie)) (state_numbers old)
  all_numbers = new_numbers ∙ made.numbers ∙ ap (touched (setting_touches (setting (named decision.to old.tasks.tasks) decision.cookie))) mid_numbers

  pub makes_call : IsGranted decision.reply decision → MakesWith intervals old new (Prctl pid ask) decision.reply
  makes_call granted = by_reply decision.reply refl granted where
    by_reply : (reply : Reply) → decision.reply ≡ reply → IsGranted reply decision → MakesWith intervals old new (Prctl pid ask) decision.reply
    by_reply Zero is granted =
        let set = sets is in
        uncharged (record {
          reply = sym answer;
          room = new_room
              ∙ ap (set_cookies (with_used (room_with intervals old) (makes_cookie (room_with intervals old) pid ask) (asked_by_call (room_with intervals old) pid ask))) set
              ∙ ap (with_answer (with_used (room_with intervals old) (makes_cookie (room_with intervals old) pid ask) (asked_by_call (room_with intervals old) pid ask)) (setting_of (room_with intervals old) pid ask)) (sym is ∙ sym answer);
          numbers = all_numbers
              ∙ ap (λ (s : Setting). touched (setting_touches s) (state_numbers old)) set
              ∙ ap (λ r. numbers_after (room_with intervals old) (Prctl pid ask) r (state_numbers old)) (sym is);
        })
    by_reply (Value cookie) is granted =
        let nobody : setting (named decision.to old.tasks.tasks) decision.cookie ≡ setting [] decision.cookie =
        ap (λ t. setting (named t old.tasks.tasks) decision.cookie) granted.0 in
        uncharged (record {
          reply = sym answer;
          room = new_room
              ∙ ap (set_cookies (with_used (room_with intervals old) (makes_cookie (room_with intervals old) pid ask) (asked_by_call (room_with intervals old) pid ask))) nobody
              ∙ set_cookies-none (with_used (room_with intervals old) (makes_cookie (room_with intervals old) pid ask) (asked_by_call (room_with intervals old) pid ask)) decision.cookie
              ∙ ap (with_answer (with_used (room_with intervals old) (makes_cookie (room_with intervals old) pid ask) (asked_by_call (room_with intervals old) pid ask)) (setting_of (room_with intervals old) pid ask)) (sym is ∙ sym answer);
          numbers = all_numbers
              ∙ ap (λ (s : Setting). touched (setting_touches s) (state_numbers old)) nobody
              ∙ ap (λ r. numbers_after (room_with intervals old) (Prctl pid ask) r (state_numbers old)) (sym is);
        })
    by_reply reply is granted = absurd granted

-- a call that is refused sets nothing
pub makes_refusal : {Q G : Type 0} {g : Ghosts Q} (intervals : List Interval) (old new : State Q G g) (pid : ℕ) (ask : Ask) (reply : Reply) → IsRefusal reply →
    prctl_answer (room_with intervals old) pid ask ≡ reply →
    room_with intervals new ≡ with_used (room_with intervals old) (makes_cookie (room_with intervals old) pid ask) (asked_by_call (room_with intervals old) pid ask) → state_numbers new ≡ state_numbers old →
    MakesWith intervals old new (Prctl pid ask) reply
makes_refusal intervals old new pid ask reply refusal answer room numbers =
    let made = with_used (room_with intervals old) (makes_cookie (room_with intervals old) pid ask) (asked_by_call (room_with intervals old) pid ask) in
    uncharged (record {
      reply = sym answer;
      room = room ∙ sets_nothing made reply refusal ∙ ap (with_answer made (setting_of (room_with intervals old) pid ask)) (sym answer);
      numbers = numbers ∙ touches_nothing reply refusal;
    }) where
      sets_nothing : (made : RoomState) (reply : Reply) → IsRefusal reply → made ≡ with_answer made (setting_of (room_with intervals old) pid ask) reply
      sets_nothing made NoCaller refusal = refl
      sets_nothing made (Refused errno) refusal = refl
      sets_nothing made reply refusal = absurd refusal

      touches_nothing : (reply : Reply) → IsRefusal reply → state_numbers old ≡ numbers_after (room_with intervals old) (Prctl pid ask) reply (state_numbers old)
      touches_nothing NoCaller refusal = untouched (state_numbers old)
      touches_nothing (Refused errno) refusal = untouched (state_numbers old)
      touches_nothing reply refusal = absurd refusal
