-- Settings: a setting of several tasks is one of the first, and then of the others.
use Rattle.std.proofs.Common.{◌≡◌, ℕ, ◌+◌, Bool, true, false, cond, List, [], ◌∷◌, map, refl, ap, ◌∙◌, Option, Some, None}
use Rattle.std.specs.Prelude.{◌||◌}
use Rattle.std.specs.Option.{option_map_or}
use Rattle.std.proofs.lemmas.List.Sums.{sum_by-cons}
use Rattle.cs_types.specs.declared.task.Task.{Task}
use Rattle.cs_types.specs.Room.{RoomState, SiblingState, has_pid}
use Rattle.cs_types.specs.Prctl.{Setting, is_set, runs_one, set_cookies}
use Rattle.cs_types.specs.Touches.{cookie_touches, setting_touches}

-- ---- tasks

-- a task whose cookie is set where the test says so
abbrev set_where : Bool → ℕ → Task → Task
set_where test cookie task = cond test (record task { cookie = cookie }) task

set_twice : (a b : Bool) (cookie : ℕ) (task : Task) → set_where b cookie (set_where a cookie task) ≡ set_where (a || b) cookie task
set_twice true true cookie task = refl
set_twice true false cookie task = refl
set_twice false b cookie task = refl

-- one that is set keeps its pid
pid_kept : (test : Bool) (cookie : ℕ) (task : Task) → (set_where test cookie task).spec.pid ≡ task.spec.pid
pid_kept true cookie task = refl
pid_kept false cookie task = refl

or_false : (b : Bool) → (b || false) ≡ b
or_false true = refl
or_false false = refl

or_or : (a b c : Bool) → ((a || b) || c) ≡ (a || (b || c))
or_or true b c = refl
or_or false b c = refl

tasks-cons : (first : Task) (rest : List Task) (cookie : ℕ) (tasks : List Task) →
    map (λ (task : Task). set_where (is_set (record { tasks = rest; cookie = cookie }) task.spec.pid) cookie task)
    (map (λ (task : Task). set_where (is_set (record { tasks = first ∷ []; cookie = cookie }) task.spec.pid) cookie task) tasks)
    ≡ map (λ (task : Task). set_where (is_set (record { tasks = first ∷ rest; cookie = cookie }) task.spec.pid) cookie task) tasks
tasks-cons first rest cookie [] = refl
tasks-cons first rest cookie (task ∷ tasks) =
    let a = has_pid task.spec.pid first in
    let later = λ (pid : ℕ). is_set (record { tasks = rest; cookie = cookie }) pid in
    let one : set_where (later (set_where (a || false) cookie task).spec.pid) cookie (set_where (a || false) cookie task)
    ≡ set_where (a || later task.spec.pid) cookie task =
    ap (λ b. set_where (later b) cookie (set_where (a || false) cookie task)) (pid_kept (a || false) cookie task)
    ∙ ap (λ b. set_where (later task.spec.pid) cookie (set_where b cookie task)) (or_false a)
    ∙ set_twice a (later task.spec.pid) cookie task in
    cc (one, tasks-cons first rest cookie tasks)

tasks-none : (cookie : ℕ) (tasks : List Task) →
    map (λ (task : Task). set_where (is_set (record { tasks = []; cookie = cookie }) task.spec.pid) cookie task) tasks ≡ tasks
tasks-none cookie [] = refl
tasks-none cookie (task ∷ tasks) = ap (λ (ts : List Task). task ∷ ts) (tasks-none cookie tasks)

-- ---- siblings

abbrev flag_where : Setting → SiblingState → SiblingState
flag_where set sibling = record sibling { pending = sibling.pending || runs_one set sibling }

runs-cons : (first : Task) (rest : List Task) (cookie : ℕ) (run : Option ℕ) →
    (option_map_or (is_set (record { tasks = first ∷ []; cookie = cookie })) run false || option_map_or (is_set (record { tasks = rest; cookie = cookie })) run false)
    ≡ option_map_or (is_set (record { tasks = first ∷ rest; cookie = cookie })) run false
runs-cons first rest cookie None = refl
runs-cons first rest cookie (Some pid) =
    ap (λ b. b || is_set (record { tasks = rest; cookie = cookie }) pid) (or_false (has_pid pid first))

runs-none : (cookie : ℕ) (run : Option ℕ) → option_map_or (is_set (record { tasks = []; cookie = cookie })) run false ≡ false
runs-none cookie None = refl
runs-none cookie (Some pid) = refl

siblings-cons : (first : Task) (rest : List Task) (cookie : ℕ) (siblings : List SiblingState) →
    map (flag_where (record { tasks = rest; cookie = cookie })) (map (flag_where (record { tasks = first ∷ []; cookie = cookie })) siblings)
    ≡ map (flag_where (record { tasks = first ∷ rest; cookie = cookie })) siblings
siblings-cons first rest cookie [] = refl
siblings-cons first rest cookie (sibling ∷ siblings) =
    let one = or_or sibling.pending _ _ ∙ ap (λ b. sibling.pending || b) (runs-cons first rest cookie sibling.run) in
    let same : flag_where (record { tasks = rest; cookie = cookie }) (flag_where (record { tasks = first ∷ []; cookie = cookie }) sibling)
    ≡ flag_where (record { tasks = first ∷ rest; cookie = cookie }) sibling = ap (λ b. record sibling { pending = b }) one in
    cc (same, siblings-cons first rest cookie siblings)

siblings-none : (cookie : ℕ) (siblings : List SiblingState) → map (flag_where (record { tasks = []; cookie = cookie })) siblings ≡ siblings
siblings-none cookie [] = refl
siblings-none cookie (sibling ∷ siblings) =
    let same : flag_where (record { tasks = []; cookie = cookie }) sibling ≡ sibling =
    ap (λ b. record sibling { pending = sibling.pending || b }) (runs-none cookie sibling.run)
    ∙ ap (λ b. record sibling { pending = b }) (or_false sibling.pending) in
    cc (same, siblings-none cookie siblings)

-- ---- rooms

-- A setting of no tasks changes nothing.
pub set_cookies-none : (room : RoomState) (cookie : ℕ) → set_cookies room (record { tasks = []; cookie = cookie }) ≡ room
set_cookies-none room cookie =
    λ i. record room { tasks = tasks-none cookie room.tasks i; siblings = siblings-none cookie room.siblings i }

-- One of several is one of the first, and then of the others.
pub set_cookies-cons : (room : RoomState) (first : Task) (rest : List Task) (cookie : ℕ) →
    set_cookies (set_cookies room (record { tasks = first ∷ []; cookie = cookie })) (record { tasks = rest; cookie = cookie })
    ≡ set_cookies room (record { tasks = first ∷ rest; cookie = cookie })
set_cookies-cons room first rest cookie =
    λ i. record room { tasks = tasks-cons first rest cookie room.tasks i; siblings = siblings-cons first rest cookie room.siblings i }

-- and so are its touches
pub setting_touches-cons : (first : Task) (rest : List Task) (cookie : ℕ) →
    setting_touches (record { tasks = first ∷ rest; cookie = cookie })
    ≡ cookie_touches cookie first + setting_touches (record { tasks = rest; cookie = cookie })
setting_touches-cons first rest cookie = sum_by-cons (cookie_touches cookie) first rest
