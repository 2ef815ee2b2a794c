-- Busy: what a sibling does that is online and does not run idle.
use Rattle.std.proofs.Common.{◌≡◌, ℕ, Bool, true, false, cond, refl, sym, ap, ◌∙◌, Option, Some, None}
use Rattle.std.specs.Prelude.{◌&&◌, is_some, IfSome, Contains}
use Rattle.std.specs.Option.{option_map, option_map_or, option_and_then}
use Rattle.std.proofs.lemmas.Bool.{and_parts}
use Rattle.std.proofs.lemmas.List.Elements.{All-contains, All-map, All-from_recursion}
use Rattle.cs_types.specs.declared.task.Task.{Task}
use Rattle.cs_types.specs.Room.{RoomState, task_of, queued_on, sibling_of, is_online}
use Rattle.cs_types.specs.Laws.{pids_on}
use Rattle.cs_types.proofs.Foremost.{each_weaker}
use Rattle.cs_laws.proofs.Homes.{IsQueuedOn, each_queued}
use Rattle.cs_laws.proofs.Rising.{AreRising}
use Rattle.run_times.specs.declared.doing.Doing.TheVariants.{Offline, Runs}
use Rattle.run_times.specs.declared.by.By.{By}
use Rattle.run_times.specs.declared.by.By.TheVariants.{Cookie}
use Rattle.run_times.specs.Doing.{is_busy, key_of, key_run, cookie_run, cookie_at, idling, doing_of}

-- what a sibling runs is queued on it, as the law of a machine says it
abbrev pub IsQueued : RoomState → ℕ → Type 0
IsQueued room cpu = IfSome (sibling_of room cpu).run (Contains (pids_on room cpu))

-- a pid that is queued has a living task
lives : (room : RoomState) (cpu pid : ℕ) → AreRising room → Contains (pids_on room cpu) pid → task_of room pid ≡ None → ⊥
lives room cpu pid rises on gone =
    All-contains (λ (k : ℕ). task_of room k ≡ None → ⊥) (pids_on room cpu) pid
    (All-map (λ (k : ℕ). task_of room k ≡ None → ⊥) (λ (task : Task). task.spec.pid) (queued_on room cpu)
    (All-from_recursion (λ (task : Task). task_of room task.spec.pid ≡ None → ⊥) (queued_on room cpu)
    (each_weaker (IsQueuedOn room cpu) (λ (task : Task). task_of room task.spec.pid ≡ None → ⊥) (queued_on room cpu)
    (λ task is none. let wrong : Some task ≡ None = sym is.found ∙ none in absurd cc) (each_queued room cpu rises))))
    on gone

the_cookie : (cookie : ℕ) (task : Option Task) → Some cookie ≡ option_map (λ t. t.cookie) task → cookie ≡ option_map_or (λ t. t.cookie) task 0
the_cookie cookie None is = absurd cc
the_cookie cookie (Some task) is = cc

-- an online sibling with the cookie of a living task runs that
pub runs_task : (room : RoomState) (cpu cookie : ℕ) → is_online room cpu ≡ true → Some cookie ≡ cookie_run room cpu → Runs cookie ≡ doing_of room cpu
runs_task room cpu cookie = go (is_online room cpu) (sibling_of room cpu).run where
  go : (online : Bool) (run : Option ℕ) → online ≡ true → Some cookie ≡ cond online (option_map (λ t. t.cookie) (option_and_then (task_of room) run)) None →
      Runs cookie ≡ cond online (option_map_or (λ pid. Runs (cookie_at room pid)) run (idling room cpu)) Offline
  go false run up is = absurd cc
  go true None up is = absurd cc
  go true (Some pid) up is = ap Runs (the_cookie cookie (task_of room pid) is)

-- an online sibling without a living task runs idle
pub runs_idle : (by : By) (room : RoomState) (cpu : ℕ) → AreRising room → IsQueued room cpu → is_online room cpu ≡ true → None ≡ key_run by room cpu → (sibling_of room cpu).run ≡ None
runs_idle by room cpu rises = go (is_online room cpu) (sibling_of room cpu).run where
  gone : (task : Option Task) → None ≡ option_map (key_of by) task → task ≡ None
  gone None is = refl
  gone (Some task) is = absurd cc

  go : (online : Bool) (run : Option ℕ) → IfSome run (Contains (pids_on room cpu)) → online ≡ true →
      None ≡ cond online (option_map (key_of by) (option_and_then (task_of room) run)) None → run ≡ None
  go false run queued up is = absurd cc
  go true None queued up is = refl
  go true (Some pid) queued up is = absurd (lives room cpu pid rises queued (gone (task_of room pid) is))

-- what it does then
pub does_idle : (room : RoomState) (cpu : ℕ) → AreRising room → IsQueued room cpu → is_online room cpu ≡ true → None ≡ cookie_run room cpu → idling room cpu ≡ doing_of room cpu
does_idle room cpu rises queued up none =
    sym ((λ i. cond (up i) (option_map_or (λ pid. Runs (cookie_at room pid)) (runs_idle Cookie room cpu rises queued up none i) (idling room cpu)) Offline))

-- one that is busy runs a living task
pub busy_key : (by : By) (room : RoomState) (cpu : ℕ) → AreRising room → IsQueued room cpu → is_busy room cpu ≡ true → (key : ℕ) × (key_run by room cpu ≡ Some key)
busy_key by room cpu rises queued busy = go (key_run by room cpu) refl where
  up : is_online room cpu ≡ true
  up = (and_parts (is_online room cpu) (is_some (sibling_of room cpu).run) busy).0

  go : (found : Option ℕ) → key_run by room cpu ≡ found → (key : ℕ) × (key_run by room cpu ≡ Some key)
  go (Some key) is = (key, is)
  go None is =
      let idle = runs_idle by room cpu rises queued up (sym is) in
      absurd (let wrong : false ≡ true = sym (ap is_some idle) ∙ (and_parts (is_online room cpu) (is_some (sibling_of room cpu).run) busy).1 in cc)

-- one that runs one is busy
pub busy_by : (by : By) (room : RoomState) (cpu key : ℕ) → key_run by room cpu ≡ Some key → is_busy room cpu ≡ true
busy_by by room cpu key = go (is_online room cpu) (sibling_of room cpu).run where
  go : (online : Bool) (run : Option ℕ) → cond online (option_map (key_of by) (option_and_then (task_of room) run)) None ≡ Some key → (online && is_some run) ≡ true
  go false run is = absurd cc
  go true None is = absurd cc
  go true (Some pid) is = refl
