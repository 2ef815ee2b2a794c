-- Leaving: the tasks that a history was to end, entry by entry, and the cookies that they had then.
use Rattle.std.proofs.Common.{◌≡◌, ◌≢◌, ℕ, ◌+◌, ◌<◌, ◌≤◌, Bool, true, false, cond, ltb, List, [], ◌∷◌, ◌++◌, length, refl, sym, ap, ◌∙◌, subst, append_assoc, inl, inr, arith, Option, Some, None}
use Rattle.std.specs.Prelude.{find, reverse, unwrap_or}
use Rattle.std.specs.List.{AllByRecursion}
use Rattle.std.specs.Option.{option_map, option_map_or, option_to_list}
use Rattle.std.proofs.lemmas.Bool.{cases_Bool, cond-true, ltb-false}
use Rattle.std.proofs.lemmas.List.{append-nil, length-append, reverse-append, get_or_past}
use Rattle.cs_types.specs.declared.task.Task.{Task}
use Rattle.cs_types.specs.declared.event.Event.{Event}
use Rattle.cs_types.specs.declared.event.Event.TheVariants.{Exit}
use Rattle.cs_types.specs.declared.reply.Entry.{Entry}
use Rattle.cs_types.specs.declared.view.CpuView.{CpuView}
use Rattle.cs_types.specs.Scenario.{IsPlayable}
use Rattle.cs_types.specs.Room.{Opening, RoomState, SiblingState, has_pid, running_on, is_online, task_of, absent}
use Rattle.cs_types.specs.History.{History, Moment, beginning, next, after, moment_of, fold_of}
use Rattle.cs_types.specs.Drain.{IsEndFrom, IsDrained}
use Rattle.cs_types.specs.View.{cpu_view}
use Rattle.cs_types.proofs.Filtered.{each_found}
use Rattle.cs_laws.proofs.Histories.{moment_of-push}
use Rattle.cs_laws.proofs.Homes.{running_is_found}
use Rattle.cs_laws.proofs.Numbers.{next_cookie-fold_of}
use Rattle.run_times.specs.Doing.{cookie_run}
use Rattle.run_times.proofs.Shown.{shown_cpu}
use Rattle.task_times.specs.Living.{leaver, leavers_from, leavers_of, left_with, cookie_at}
use Rattle.task_times.proofs.Bounds.{bound-fold_of, below_running, below_found}

-- ---- more entries

pub leavers_from-append : (moment : Moment) (entries more : List Entry) →
    leavers_from moment (entries ++ more) ≡ leavers_from moment entries ++ leavers_from (after moment entries) more
leavers_from-append moment [] more = refl
leavers_from-append moment (entry ∷ entries) more =
    ap (λ (tasks : List Task). option_to_list (leaver moment.room entry.event) ++ tasks) (leavers_from-append (next moment entry) entries more)
    ∙ sym (append_assoc (option_to_list (leaver moment.room entry.event)) (leavers_from (next moment entry) entries) (leavers_from (after (next moment entry) entries) more))

-- one more entry is one more of them, or none
pub leavers_of-push : (opening : Opening) (history : History) (entry : Entry) (task : Option Task) → leaver (fold_of opening history) entry.event ≡ task →
    leavers_of opening (history ++ entry ∷ []) ≡ leavers_of opening history ++ option_to_list task
leavers_of-push opening history entry task is =
    leavers_from-append (beginning opening) history (entry ∷ [])
    ∙ ap (λ (tasks : List Task). leavers_of opening history ++ tasks)
    (append-nil (option_to_list (leaver (fold_of opening history) entry.event)) ∙ ap option_to_list is)

pub leavers_of-still : (opening : Opening) (history : History) (entry : Entry) → leaver (fold_of opening history) entry.event ≡ None →
    leavers_of opening (history ++ entry ∷ []) ≡ leavers_of opening history
leavers_of-still opening history entry is = leavers_of-push opening history entry None is ∙ append-nil (leavers_of opening history)

-- the last of them with a pid is the one more, if it has that
pub left_with-push : (leavers : List Task) (task : Task) (pid : ℕ) → left_with (leavers ++ task ∷ []) pid ≡ cond (has_pid pid task) task.cookie (left_with leavers pid)
left_with-push leavers task pid =
    ap (λ (tasks : List Task). option_map_or (λ (t : Task). t.cookie) (find (has_pid pid) tasks) 0) (reverse-append leavers (task ∷ [])) ∙ go (has_pid pid task) where
      go : (test : Bool) → option_map_or (λ (t : Task). t.cookie) (cond test (Some task) (find (has_pid pid) (reverse leavers))) 0 ≡ cond test task.cookie (left_with leavers pid)
      go true = refl
      go false = refl

-- ---- the entries of the end are to end none

none_leave : (moment : Moment) (entries : List Entry) → IsEndFrom moment entries → leavers_from moment entries ≡ []
none_leave moment [] ends = refl
none_leave moment (entry ∷ entries) ends =
    let still : leaver moment.room entry.event ≡ None = ap (λ (e : Entry). leaver moment.room e.event) ends.2 in
    ap (λ (o : Option Task). option_to_list o ++ leavers_from (next moment entry) entries) still
    ∙ none_leave (next moment entry) entries ends.3

pub leavers_of-drained : (opening : Opening) (past now : History) → IsDrained opening past now → leavers_of opening past ≡ leavers_of opening now
leavers_of-drained opening past now drained =
    sym (ap (leavers_of opening) drained.added
    ∙ leavers_from-append (beginning opening) past drained.made
    ∙ ap (λ (tasks : List Task). leavers_of opening past ++ tasks) (none_leave (moment_of opening past) drained.made drained.ends)
    ∙ append-nil (leavers_of opening past))

-- ---- what is shown of the task that an exit is to end

-- its cookie is that of what the sibling runs
leaver_cookie : (room : RoomState) (cpu : ℕ) → cookie_run room cpu ≡ option_map (λ (t : Task). t.cookie) (leaver room (Exit cpu))
leaver_cookie room cpu = go (is_online room cpu) where
  go : (test : Bool) → cond test (option_map (λ (t : Task). t.cookie) (running_on room cpu)) None ≡ option_map (λ (t : Task). t.cookie) (cond test (running_on room cpu) None)
  go true = refl
  go false = refl

-- what a sibling which is online runs
pub leaver_runs : (room : RoomState) (cpu : ℕ) (task : Task) → leaver room (Exit cpu) ≡ Some task → running_on room cpu ≡ Some task
leaver_runs room cpu task is = go (is_online room cpu) is where
  go : (test : Bool) → cond test (running_on room cpu) None ≡ Some task → running_on room cpu ≡ Some task
  go true e = e
  go false e = absurd cc

-- the task that an exit is to end, with what is shown of it
pub record IsLeaving (room : RoomState) (cpu pid cookie : ℕ) : Type 0 where
  pub task : Task
  pub leaves : leaver room (Exit cpu) ≡ Some task
  pub own_pid : task.spec.pid ≡ pid
  pub own_cookie : task.cookie ≡ cookie
  pub runs : running_on room cpu ≡ Some task

pub leaving_of : (moment : Moment) (cpu : ℕ) (view : CpuView) (cookie : ℕ) → Some view ≡ cpu_view moment cpu → Some cookie ≡ cookie_run moment.room cpu →
    IsLeaving moment.room cpu view.run cookie
leaving_of moment cpu view cookie shown is = go (leaver moment.room (Exit cpu)) refl (is ∙ leaver_cookie moment.room cpu) where
  go : (found : Option Task) → leaver moment.room (Exit cpu) ≡ found → Some cookie ≡ option_map (λ (t : Task). t.cookie) found → IsLeaving moment.room cpu view.run cookie
  go None e its = absurd cc
  go (Some task) e its =
      let runs = leaver_runs moment.room cpu task e in
      record {
        task = task;
        leaves = e;
        own_pid = sym ((shown_cpu moment cpu view shown).1 ∙ ap (λ (run : Option ℕ). unwrap_or run 0) (running_is_found moment.room cpu task runs).0);
        own_cookie = cc;
        runs = runs;
      }

-- any other event is to end none
pub no_exit : (room : RoomState) (event : Event) → ((cpu : ℕ) → event ≢ Exit cpu) → leaver room event ≡ None
no_exit room (Exit cpu) other = absurd (other cpu refl)
no_exit room event other = refl

-- where no cookie is shown none is to end
pub none_leaving : (room : RoomState) (cpu : ℕ) → None ≡ cookie_run room cpu → leaver room (Exit cpu) ≡ None
none_leaving room cpu is = go (leaver room (Exit cpu)) (is ∙ leaver_cookie room cpu) where
  go : (found : Option Task) → None ≡ option_map (λ (t : Task). t.cookie) found → found ≡ None
  go None e = refl
  go (Some task) e = absurd cc

-- nor on a sibling that is not there
pub none_leaving_there : (moment : Moment) (cpu : ℕ) → None ≡ cpu_view moment cpu → leaver moment.room (Exit cpu) ≡ None
none_leaving_there moment cpu shown =
    elim (cases_Bool (ltb cpu (length moment.room.siblings))) [
      | inl few ↦ absurd (let some = shown ∙ cond-true (ltb cpu (length moment.room.siblings)) _ None few in cc)
      | inr past ↦
          ap (λ (s : SiblingState). cond s.online (running_on moment.room cpu) None) (get_or_past moment.room.siblings cpu absent (ltb-false cpu (length moment.room.siblings) past))
    ]

-- ---- each cookie has a row

pub each_listed : (P : Task → Type 0) (found : Option Task) (tasks : List Task) → ((task : Task) → found ≡ Some task → P task) → AllByRecursion P tasks →
    AllByRecursion P (option_to_list found ++ tasks)
each_listed P None tasks its rest = rest
each_listed P (Some task) tasks its rest = (its task refl, rest)

leaver_below : (room : RoomState) (event : Event) (most : ℕ) → ((cpu : ℕ) (task : Task) → running_on room cpu ≡ Some task → task.cookie < most) → (task : Task) →
    leaver room event ≡ Some task → task.cookie < most
leaver_below room (Exit cpu) most each task is = each cpu task (leaver_runs room cpu task is)
leaver_below room event most each task is = absurd cc

leavers_below : (opening : Opening) (past rest : History) (most : ℕ) → IsPlayable opening.scenario → length past + length rest < most →
    AllByRecursion (λ (task : Task). task.cookie < most) (leavers_from (moment_of opening past) rest)
leavers_below opening past [] most playable few = tt
leavers_below opening past (entry ∷ rest) most playable few =
    let room = fold_of opening past in
    let low : opening.scenario.task_limit ≤ 256 = playable.task_limit.1 in
    let bound = bound-fold_of opening past playable in
    each_listed (λ (task : Task). task.cookie < most) (leaver room entry.event) _
    (leaver_below room entry.event most
    (λ cpu task runs. omega (arith, below_running room cpu bound task runs, next_cookie-fold_of opening past playable.few_tasks low, few)))
    (subst (λ (moment : Moment). AllByRecursion (λ (task : Task). task.cookie < most) (leavers_from moment rest)) (moment_of-push opening past entry)
    (leavers_below opening (past ++ entry ∷ []) rest most playable (omega (arith, length-append past (entry ∷ []), few))))

each_both : (P : Task → Type 0) (tasks more : List Task) → AllByRecursion P tasks → AllByRecursion P more → AllByRecursion P (tasks ++ more)
each_both P [] more each rest = rest
each_both P (task ∷ tasks) more each rest = (each.0, each_both P tasks more each.1 rest)

pub each-reverse : (P : Task → Type 0) (tasks : List Task) → AllByRecursion P tasks → AllByRecursion P (reverse tasks)
each-reverse P [] each = tt
each-reverse P (task ∷ tasks) each =
    subst (AllByRecursion P) (sym (reverse-append (task ∷ []) tasks)) (each_both P (reverse tasks) (task ∷ []) (each-reverse P tasks each.1) (each.0, tt))

left_with-below : (leavers : List Task) (pid most : ℕ) → 0 < most → AllByRecursion (λ (task : Task). task.cookie < most) leavers → left_with leavers pid < most
left_with-below leavers pid most some each = go (find (has_pid pid) (reverse leavers)) refl where
  go : (found : Option Task) → find (has_pid pid) (reverse leavers) ≡ found → option_map_or (λ (t : Task). t.cookie) found 0 < most
  go None e = some
  go (Some task) e = each_found (λ (t : Task). t.cookie < most) (has_pid pid) (reverse leavers) task e (each-reverse (λ (t : Task). t.cookie < most) leavers each)

-- The cookie for which a task counts is no greater than the number of entries.
pub cookie_at-below : (opening : Opening) (history : History) (pid most : ℕ) → IsPlayable opening.scenario → length history < most → cookie_at opening history pid < most
cookie_at-below opening history pid most playable few = go (task_of (fold_of opening history) pid) refl where
  low : opening.scenario.task_limit ≤ 256
  low = playable.task_limit.1

  go : (found : Option Task) → task_of (fold_of opening history) pid ≡ found → option_map_or (λ (t : Task). t.cookie) found (left_with (leavers_of opening history) pid) < most
  go None e = left_with-below (leavers_of opening history) pid most (omega (arith, few)) (leavers_below opening [] history most playable (omega (arith, few)))
  go (Some task) e =
      omega (arith, below_found (fold_of opening history) pid (bound-fold_of opening history playable) task e, next_cookie-fold_of opening history playable.few_tasks low, few)
