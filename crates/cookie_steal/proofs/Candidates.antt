-- Candidates: the tasks that a thief looks through, of which no two tie.
use Rattle.std.proofs.Common.{◌≡◌, ◌≤◌, ℕ, Bool, true, false, ltb, List, length, sym, ap, ◌∙◌, Some, arith}
use Rattle.std.specs.Prelude.{◌&&◌, ◌||◌, ◌==◌, not, find, Contains, IfSome}
use Rattle.std.proofs.lemmas.List.Elements.{All-weaker, All-contains_itself}
use Rattle.std.proofs.lemmas.Bool.{and_parts, eqb-true}
use Rattle.std.proofs.lemmas.Bool.Decides.{nat_tests}
use Rattle.std.proofs.lemmas.List.Sums.{length-filter, count_by-le-length}
use Rattle.cs_types.specs.declared.task.Task.{Task}
use Rattle.cs_types.specs.Room.{has_pid}
use Rattle.cs_types.specs.Order.{goes_before, first_of, is_higher_here}
use Rattle.cs_types.proofs.Filtered.{Contains-filter_parts}
use Rattle.task_table.specs.Table.{Rises}
use Rattle.core_lanes.specs.Queued.{queued_among, with_cookie, AreStamped, IsOf}
use Rattle.core_lanes.proofs.Lists.{All-find}
use Rattle.core_lanes.proofs.Queues.{is_of}

-- the tasks queued on the source with the cookie
abbrev pub candidates : ℕ → ℕ → List Task → List Task
candidates cookie source tasks = with_cookie cookie (queued_among tasks source)

-- they are no more than the tasks
pub few_candidates : (cookie source : ℕ) (tasks : List Task) → length (candidates cookie source tasks) ≤ length tasks
few_candidates cookie source tasks =
    let is_there = λ (task : Task). task.queued && (task.home == source) in
    let has_it = λ (task : Task). task.cookie == cookie in
    let queued = queued_among tasks source in
    omega (arith, length-filter is_there tasks, count_by-le-length is_there tasks, length-filter has_it queued, count_by-le-length has_it queued)

-- a candidate is a task of the list, queued, and with the cookie
pub candidate_parts : (cookie source : ℕ) (tasks : List Task) (task : Task) → Contains (candidates cookie source tasks) task →
    Contains tasks task × (task.queued ≡ true) × (task.cookie ≡ cookie)
candidate_parts cookie source tasks task there =
    let one = Contains-filter_parts (λ (t : Task). t.cookie == cookie) (queued_among tasks source) task there in
    let two = Contains-filter_parts (λ (t : Task). t.queued && (t.home == source)) tasks task one.0 in
    (two.0, (and_parts task.queued (task.home == source) two.1).0, eqb-true task.cookie cookie one.1)

-- the first of them is found by its pid
pub first_there : (cookie source : ℕ) (tasks : List Task) → Rises tasks → IfSome (first_of (candidates cookie source tasks)) (IsOf tasks)
first_there cookie source tasks rises =
    let all = candidates cookie source tasks in
    All-find (IsOf tasks) _ all
    (All-weaker (Contains all) (IsOf tasks) (λ task there. is_of tasks task rises (candidate_parts cookie source tasks task there).0) all (All-contains_itself all))

-- two that tie have one stamp
tie : (above below : Bool) (s t : ℕ) → (above || (not below && ltb s t)) ≡ false → (below || (not above && ltb t s)) ≡ false → s ≡ t
tie above below s t one two = grind (arith, nat_tests)

pub no_two_tie : (next cookie source : ℕ) (tasks : List Task) → Rises tasks → AreStamped next tasks → (x y : Task) →
    Contains (candidates cookie source tasks) x → Contains (candidates cookie source tasks) y → goes_before x y ≡ false → goes_before y x ≡ false → x ≡ y
no_two_tie next cookie source tasks rises stamped x y in_x in_y one two =
    let at_x = candidate_parts cookie source tasks x in_x in
    let at_y = candidate_parts cookie source tasks y in_y in
    let of_x : find (has_pid x.spec.pid) tasks ≡ Some x = is_of tasks x rises at_x.0 in
    let of_y : find (has_pid y.spec.pid) tasks ≡ Some y = is_of tasks y rises at_y.0 in
    let stamp = tie (is_higher_here x y) (is_higher_here y x) x.stamp y.stamp one two in
    let pid : x.spec.pid ≡ y.spec.pid = stamped.distinct y of_y at_y.1 x of_x at_x.1 stamp in
    let same : Some x ≡ Some y = sym of_x ∙ ap (λ n. find (has_pid n) tasks) pid ∙ of_y in
    cc
