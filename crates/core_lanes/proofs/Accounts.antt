-- Accounts: whom the machine charges is whom the model charges.
use Rattle.std.proofs.Common.{◌≡◌, ℕ, Bool, true, false, cond, List, [], ◌∷◌, length, inl, inr, refl, sym, ap, ◌∙◌, subst, Option, Some, None}
use Rattle.std.specs.Prelude.{◌==◌, ◌&&◌, ◌||◌, filter, find, map, is_some}
use Rattle.std.specs.List.{list_any, filter_map, cons_option, range_with_len}
use Rattle.std.specs.Option.{option_map, option_map_or, option_and_then}
use Rattle.std.proofs.lemmas.Bool.{cases_eq, eq-eqb, ne_eqb, eqb-true}
use Rattle.cs_types.proofs.Foremost.{find_passes}
use Rattle.cs_types.specs.declared.task.Task.{Task}
use Rattle.cs_types.specs.Room.{RoomState, Interval, absent, has_pid, is_online, sibling_of, to_run}
use Rattle.cs_types.specs.Accounting.{charged_on, charged, up_to_now, open_interval}
use Rattle.core_lanes.proofs.Lists.{places}
use Rattle.core_lanes.specs.Account.{charged_for}

-- ---- sibling by sibling

-- what is made of those that a filter keeps
filter_map-filter : {X Y : Type 0} (f : X → Option Y) (p : X → Bool) (xs : List X) → filter_map f (filter p xs) ≡ filter_map (λ x. cond (p x) (f x) None) xs
filter_map-filter f p [] = refl
filter_map-filter {X} {Y} f p (x ∷ xs) = by_test (p x) ∙ ap (cons_option (cond (p x) (f x) None)) (filter_map-filter f p xs) where
  by_test : (b : Bool) → filter_map f (cond b (x ∷ filter p xs) (filter p xs)) ≡ cons_option (cond b (f x) None) (filter_map f (filter p xs))
  by_test true = refl
  by_test false = refl

-- and of what a function makes of each
pub filter_map-map : {X Y Z : Type 0} (f : Y → Option Z) (g : X → Y) (xs : List X) → filter_map f (map g xs) ≡ filter_map (λ x. f (g x)) xs
filter_map-map f g [] = refl
filter_map-map f g (x ∷ xs) = ap (cons_option (f (g x))) (filter_map-map f g xs)

-- whether a pid is one of these
abbrev is_among : ℕ → List ℕ → Bool
is_among pid pids = list_any (λ one. one == pid) pids

-- the pid of the task with this pid, if there is one
abbrev pid_there : List Task → Option ℕ → Option ℕ
pid_there tasks run = option_map (λ (task : Task). task.spec.pid) (option_and_then (λ pid. find (has_pid pid) tasks) run)

module _ (tasks : List Task) (pid : ℕ) where
  -- whether a task has the pid
  abbrev alive : Bool
  alive = is_some (find (has_pid pid) tasks)

  -- the pid is that of a task that is to run if it is to run, and a task has it
  one_alive : (run : ℕ) (found : Option Task) (more : List ℕ) → find (has_pid run) tasks ≡ found →
      is_among pid (cons_option (option_map (λ (task : Task). task.spec.pid) found) more) ≡ (((run == pid) && alive) || is_among pid more)
  one_alive run None more is = elim (cases_eq run pid) [
    | inl same ↦ rw (eq-eqb run pid same, subst (λ n. find (has_pid n) tasks ≡ None) same is) refl
    | inr apart ↦ rw (ne_eqb run pid apart) refl
  ]
  one_alive run (Some task) more is =
      let own : task.spec.pid ≡ run = eqb-true task.spec.pid run (find_passes (has_pid run) tasks task is) in
      elim (cases_eq run pid) [
        | inl same ↦ rw (own, eq-eqb run pid same, subst (λ n. find (has_pid n) tasks ≡ Some task) same is) refl
        | inr apart ↦ rw (own, ne_eqb run pid apart) refl
      ]

  either_alive : (a b c : Bool) → ((a && c) || (b && c)) ≡ ((a || b) && c)
  either_alive true true true = refl
  either_alive true true false = refl
  either_alive true false true = refl
  either_alive true false false = refl
  either_alive false b c = refl

  one_more : (run : Option ℕ) (tasks_so_far pids_so_far : List ℕ) → is_among pid tasks_so_far ≡ (is_among pid pids_so_far && alive) →
      is_among pid (cons_option (pid_there tasks run) tasks_so_far) ≡ (is_among pid (cons_option run pids_so_far) && alive)
  one_more None some pids is = is
  one_more (Some run) some pids is =
      one_alive run (find (has_pid run) tasks) some refl ∙ ap (λ b. ((run == pid) && alive) || b) is ∙ either_alive (run == pid) (is_among pid pids) alive

  each_alive : {X : Type 0} (runs : X → Option ℕ) (xs : List X) →
      is_among pid (filter_map (λ x. pid_there tasks (runs x)) xs) ≡ (is_among pid (filter_map runs xs) && alive)
  each_alive runs [] = refl
  each_alive runs (x ∷ xs) = one_more (runs x) (filter_map (λ y. pid_there tasks (runs y)) xs) (filter_map runs xs) (each_alive runs xs)

-- a task is charged if its pid is charged for a sibling
pub charged_among : (room : RoomState) (pid : ℕ) →
    list_any (λ one. one == pid) (charged room) ≡ (list_any (λ one. one == pid) (filter_map charged_for room.siblings) && is_some (find (has_pid pid) room.tasks))
unfolding charged
charged_among room pid =
    let numbers = range_with_len 0 (length room.siblings) in
    ap (is_among pid) (filter_map-filter (charged_on room) (is_online room) numbers ∙ (λ i. filter_map (λ cpu. if_online (is_online room cpu) (to_run (sibling_of room cpu)) i) numbers))
    ∙ each_alive room.tasks pid (λ cpu. charged_for (sibling_of room cpu)) numbers
    ∙ ap (λ pids. is_among pid pids && is_some (find (has_pid pid) room.tasks))
    (sym (filter_map-map charged_for (sibling_of room) numbers) ∙ ap (filter_map charged_for) (places room.siblings absent)) where
      if_online : (b : Bool) (run : Option ℕ) → cond b (pid_there room.tasks run) None ≡ pid_there room.tasks (cond b run None)
      if_online true run = refl
      if_online false run = refl

both_alive : (charged pids alive : Bool) → charged ≡ (pids && alive) → (pids && alive) ≡ (charged && alive)
both_alive charged true true is = ap (λ b. b && true) (sym is)
both_alive charged true false is = ap (λ b. b && false) (sym is)
both_alive charged false alive is = ap (λ b. b && alive) (sym is)

-- and so it is there
pub charged_alive : (room : RoomState) (pid : ℕ) →
    (list_any (λ one. one == pid) (charged room) && is_some (find (has_pid pid) room.tasks)) ≡ list_any (λ one. one == pid) (charged room)
charged_alive room pid =
    let is = charged_among room pid in
    sym (both_alive _ _ (is_some (find (has_pid pid) room.tasks)) is) ∙ sym is

-- ---- the interval

-- whom the open interval charges
pub charged_in : (room : RoomState) (interval : Interval) → open_interval room ≡ Some interval → interval.charged ≡ charged room
charged_in room interval is = go room.started is where
  by_test : (start : ℕ) (same : Bool) →
      cond same None (Some (record { from = start; to = room.clock; count = room.forced; occupation = room.occupation; charged = charged room })) ≡ Some interval → interval.charged ≡ charged room
  by_test start true is = absurd cc
  by_test start false is = sym (ap (λ (one : Option Interval). option_map_or (λ (i : Interval). i.charged) one []) is)

  go : (started : Option ℕ) → up_to_now room started ≡ Some interval → interval.charged ≡ charged room
  go None is = absurd cc
  go (Some start) is = by_test start (room.clock == start) is
