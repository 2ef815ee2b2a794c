-- Firsts: the first of some tasks by their seats, once one more is among them, or one has another cookie.
use Rattle.std.proofs.Common.{◌≡◌, ◌≢◌, ℕ, Bool, true, false, cond, not, List, [], ◌∷◌, ◌++◌, map, Option, None, Some, inl, inr, refl, sym, ap, ◌∙◌, subst}
use Rattle.std.specs.Prelude.{◌==◌, find, All, IfSome}
use Rattle.std.specs.List.{AllByRecursion}
use Rattle.std.specs.Option.{option_map}
use Rattle.std.specs.Cmp.{IsStrictWeakOrder}
use Rattle.std.specs.Ordering.{ordering_reverse, is_lt}
use Rattle.std.specs.declared.cmp.Ordering.{Ordering}
use Rattle.std.specs.declared.cmp.Ordering.TheVariants.{Less, Equal, Greater}
use Rattle.std.proofs.lemmas.Bool.{cases_Bool, cond-true, cond-false, eq-eqb, ne_eqb, both_ways}
use Rattle.std.proofs.lemmas.List.Elements.{All-filter, All-map, All-weaker}
use Rattle.std.proofs.lemmas.List.Sorted.{ranks_by}
use Rattle.cs_types.specs.declared.queue.Queued.{Queued}
use Rattle.cs_types.specs.declared.task.Task.{Task}
use Rattle.cs_types.specs.Order.{goes_before, first_of}
use Rattle.cs_types.specs.Queue.{Seat, Seats, seat_cmp, seat_of, queued_of, top_of}
use Rattle.cs_types.specs.Room.{has_pid}
use Rattle.cs_types.proofs.Queues.{seat_total, seat_cmp-IsAntisymmetric, precedes, top_of-from_entries, foremost-cons, foremost-map, foremost_alike, goes_before-seats}
use Rattle.task_table.specs.Table.{Rises}
use Rattle.cs_laws.proofs.Spots.{find-replaced}
use Rattle.core_lanes.specs.Queued.{queued_among, queued_at, others, given_vtime, IsOf}
use Rattle.core_lanes.proofs.Queues.{is_on}
use Rattle.core_lanes.proofs.Replaced.{is_of as is_of_after, rises-replaced}
use Rattle.tree_queue.specs.Held.{AreApart, is_before, earlier, first_among, is_of, given_cookie, seated, IsIn, IsInBut}
use Rattle.cookie_queue.proofs.Asked.{IsLow}
use Rattle.cookie_queue.proofs.Found.{found_has}
use Rattle.tree_queue.proofs.Splits.{IsParted, each_is_of}

-- ---- the order

pub is_before_is_order : IsStrictWeakOrder is_before
is_before_is_order = ranks_by seat_total seat_of

-- of two tasks that are apart one stands before the other
turned : (r : Ordering) → (r ≡ Equal → ⊥) → is_lt (ordering_reverse r) ≡ not (is_lt r)
turned Less differ = refl
turned Equal differ = absurd (differ refl)
turned Greater differ = refl

one_before : (a b : Queued) → AreApart a b → is_before b a ≡ not (is_before a b)
one_before a b apart =
    ap is_lt (seat_total.antisymm (seat_of b) (seat_of a))
    ∙ turned (seat_cmp (seat_of a) (seat_of b)) (λ tie. apart.1 (ap (λ (seat : Seat). seat.1.1) (seat_cmp-IsAntisymmetric (seat_of a) (seat_of b) tie)))

-- ---- one more task

-- the earlier of two is the same in either order, and so is that of two and a third
swapped-two : (a b : Queued) → AreApart a b → earlier a (Some b) ≡ earlier b (Some a)
swapped-two a b apart = by_test (is_before b a) (is_before a b) (one_before a b apart) where
  by_test : (back front : Bool) → back ≡ not front → cond back b a ≡ cond front a b
  by_test true true is = absurd cc
  by_test true false is = refl
  by_test false true is = refl
  by_test false false is = absurd cc

-- what is not before one, and is before another, tells that the one is before the other
between : (a b c : Queued) → is_before c a ≡ true → is_before c b ≡ false → is_before b a ≡ true
between a b c past later = elim (cases_Bool (is_before b a)) [
  | inl is ↦ is
  | inr is_not ↦ absurd (both_ways (is_before c a) (is_before_is_order.chain c b a later is_not) past)
]

swapped : (a b : Queued) (rest : Option Queued) → AreApart a b → earlier a (Some (earlier b rest)) ≡ earlier b (Some (earlier a rest))
swapped a b None apart = swapped-two a b apart
swapped a b (Some c) apart =
    elim (cases_Bool (is_before c a)) [
      | inl past_a ↦ elim (cases_Bool (is_before c b)) [
        | inl past_b ↦
            ap (λ x. earlier a (Some x)) (cond-true _ c b past_b) ∙ cond-true _ c a past_a
            ∙ sym (ap (λ x. earlier b (Some x)) (cond-true _ c a past_a) ∙ cond-true _ c b past_b)
        | inr not_b ↦
            ap (λ x. earlier a (Some x)) (cond-false _ c b not_b) ∙ cond-true _ b a (between a b c past_a not_b)
            ∙ sym (ap (λ x. earlier b (Some x)) (cond-true _ c a past_a) ∙ cond-false _ c b not_b)
      ]
      | inr not_a ↦ elim (cases_Bool (is_before c b)) [
        | inl past_b ↦
            ap (λ x. earlier a (Some x)) (cond-true _ c b past_b) ∙ cond-false _ c a not_a
            ∙ sym (ap (λ x. earlier b (Some x)) (cond-false _ c a not_a) ∙ cond-true _ a b (between b a c past_b not_a))
        | inr not_b ↦
            ap (λ x. earlier a (Some x)) (cond-false _ c b not_b)
            ∙ swapped-two a b apart
            ∙ sym (ap (λ x. earlier b (Some x)) (cond-false _ c a not_a))
      ]
    ]

first-amid : (before after : List Queued) (task : Queued) → AllByRecursion (AreApart task) (before ++ after) →
    first_among (before ++ task ∷ after) ≡ Some (earlier task (first_among (before ++ after)))
first-amid [] after task apart = foremost-cons is_before is_before_is_order task after
first-amid (first ∷ before) after task apart =
    foremost-cons is_before is_before_is_order first (before ++ task ∷ after)
    ∙ ap (λ (rest : Option Queued). Some (earlier first rest)) (first-amid before after task apart.1)
    ∙ ap Some (sym (swapped task first (first_among (before ++ after)) apart.0))
    ∙ ap (λ (rest : Option Queued). Some (earlier task rest)) (sym (foremost-cons is_before is_before_is_order first (before ++ after)))

-- the first of some tasks is the earlier of one of them and the first of the others
pub first-split : {task : Queued} {all rest : List Queued} → IsParted task all rest → first_among all ≡ Some (earlier task (first_among rest))
first-split {task} parted =
    ap first_among parted.split.whole
    ∙ first-amid parted.split.before parted.split.after task (subst (AllByRecursion (AreApart task)) parted.split.left parted.apart)
    ∙ ap (λ (tasks : List Queued). Some (earlier task (first_among tasks))) (sym parted.split.left)

-- So where the first is another task, it is the first without this one too.
pub first_stays : (task : Queued) {kept rest : Option Queued} → kept ≡ Some (earlier task rest) → is_of task.pid kept ≡ false → kept ≡ rest
first_stays task {rest = rest} is other = is ∙ go rest (ap (is_of task.pid) (sym is) ∙ other) where
  go : (rest : Option Queued) → ((earlier task rest).pid == task.pid) ≡ false → Some (earlier task rest) ≡ rest
  go None differs = absurd (both_ways (task.pid == task.pid) differs (eq-eqb task.pid task.pid refl))
  go (Some one) differs =
      elim (cases_Bool (is_before one task)) [
        | inl past ↦ ap Some (cond-true _ one task past)
        | inr not_past ↦
            absurd (both_ways (task.pid == task.pid) (ap (λ (t : Queued). t.pid == task.pid) (sym (cond-false _ one task not_past)) ∙ differs) (eq-eqb task.pid task.pid refl))
      ]

-- ---- another cookie

-- a cookie makes no difference to which is the first
pub first_given : (task : Queued) (cookie : ℕ) (rest : Option Queued) → IfSome rest (AreApart task) →
    option_map (given_cookie task.pid cookie) (Some (earlier task rest)) ≡ Some (earlier (record task { cookie = cookie }) rest)
first_given task cookie None apart = ap Some (cond-true _ (record task { cookie = cookie }) task (eq-eqb task.pid task.pid refl))
first_given task cookie (Some one) apart =
    let now : Queued = record task { cookie = cookie } in
    elim (cases_Bool (is_before one task)) [
      | inl past ↦
          ap (λ t. Some (given_cookie task.pid cookie t)) (cond-true _ one task past)
          ∙ ap Some (cond-false _ (record one { cookie = cookie }) one (ne_eqb one.pid task.pid (λ same. apart.0 (sym same))))
          ∙ ap Some (sym (cond-true _ one now past))
      | inr not_past ↦
          ap (λ t. Some (given_cookie task.pid cookie t)) (cond-false _ one task not_past)
          ∙ ap Some (cond-true _ now task (eq-eqb task.pid task.pid refl))
          ∙ ap Some (sym (cond-false _ one now not_past))
    ]

-- the first of some tasks is apart from one from which each is
pub first_apart : (task : Queued) (tasks : List Queued) → AllByRecursion (AreApart task) tasks → IfSome (first_among tasks) (AreApart task)
first_apart task tasks apart = found_has (AreApart task) _ tasks apart

-- ---- the first in the trees, and in the table

-- the pid at the least seat is that of the first
pub top-first : (tasks : List Queued) → top_of (seated tasks) ≡ option_map (λ (task : Queued). task.pid) (first_among tasks)
top-first tasks =
    top_of-from_entries seat_total (map (λ (t : Queued). (seat_of t, t.pid)) tasks)
    ∙ ap (option_map (λ (entry : Seat × ℕ). entry.1)) (foremost-map (precedes seat_total) (λ (t : Queued). (seat_of t, t.pid)) tasks)
    ∙ pids (first_among tasks) where
      pids : (first : Option Queued) → option_map (λ (entry : Seat × ℕ). entry.1) (option_map (λ (t : Queued). (seat_of t, t.pid)) first)
          ≡ option_map (λ (task : Queued). task.pid) first
      pids None = refl
      pids (Some task) = refl

-- so that is what the trees tell
pub told_first : (seats : Seats) (first : Option ℕ) (tasks : List Queued) → first ≡ top_of seats → seats ≡ seated tasks →
    first ≡ option_map (λ (task : Queued). task.pid) (first_among tasks)
told_first seats first tasks is same = is ∙ ap top_of same ∙ top-first tasks

-- what has this pid is what the table has by it
pub found_first_by : (tasks : List Task) (pid : ℕ) (first : Option Queued) → IfSome first (IsIn tasks) → Some pid ≡ option_map (λ (task : Queued). task.pid) first →
    option_map queued_of (find (has_pid pid) tasks) ≡ first
found_first_by tasks pid None there is = absurd cc
found_first_by tasks pid (Some task) there is =
    let same : pid ≡ task.pid = cc in ap (λ n. option_map queued_of (find (has_pid n) tasks)) same ∙ there

-- the table has each task of a queue
pub each_queued : (tasks : List Task) (cpu : ℕ) → Rises tasks → All (IsIn tasks) (queued_at tasks cpu)
each_queued tasks cpu rises =
    All-map (IsIn tasks) queued_of (queued_among tasks cpu)
    (All-weaker (IsOf tasks) (λ (task : Task). IsIn tasks (queued_of task)) (λ task there. ap (option_map queued_of) there) (queued_among tasks cpu)
    (All-filter (is_on cpu) (IsOf tasks) tasks (each_is_of tasks rises)))

-- and so each of the others
pub each_in : (tasks : List Task) (cpu pid : ℕ) → Rises tasks → All (IsIn tasks) (others pid (queued_at tasks cpu))
each_in tasks cpu pid rises = All-filter (λ (task : Queued). not (task.pid == pid)) (IsIn tasks) (queued_at tasks cpu) (each_queued tasks cpu rises)

-- and where one has another virtual time, each but this
pub each_in_but : (old : Task) (vtime : ℕ) (tasks : List Task) (cpu : ℕ) → Rises tasks → IsOf tasks old →
    All (IsInBut tasks (queued_of (record old { vtime = vtime }))) (queued_at (given_vtime old vtime tasks) cpu)
each_in_but old vtime tasks cpu rises there =
    All-map (IsInBut tasks (queued_of task)) queued_of (queued_among after cpu)
    (All-weaker (IsOf after) (λ (t : Task). IsInBut tasks (queued_of task) (queued_of t)) known (queued_among after cpu)
    (All-filter (is_on cpu) (IsOf after) after (each_is_of after (rises-replaced task tasks rises)))) where
      task : Task
      task = record old { vtime = vtime }

      after : List Task
      after = given_vtime old vtime tasks

      known : (t : Task) → IsOf after t → IsInBut tasks (queued_of task) (queued_of t)
      known t now = (
        λ same.
            let both : Some t ≡ Some task = sym now ∙ ap (λ pid. find (has_pid pid) after) same ∙ is_of_after task old tasks there in
            let is : t ≡ task = cc in
            ap queued_of is,
        λ differs.
            ap (option_map queued_of)
            (sym (find-replaced task old tasks there t.spec.pid ∙ cond-false _ (Some task) (find (has_pid t.spec.pid) tasks) (ne_eqb t.spec.pid task.spec.pid differs)) ∙ now),
      )

-- so the one that has this pid is this, or what the table has by it
pub first_known : (tasks : List Task) (task : Queued) (pid : ℕ) (first : Option Queued) → IfSome first (IsInBut tasks task) →
    Some pid ≡ option_map (λ (task : Queued). task.pid) first → pid ≡ task.pid → Some task ≡ first
first_known tasks task pid None known is same = absurd cc
first_known tasks task pid (Some first) known is same = let at : pid ≡ first.pid = cc in ap Some (sym (known.0 (sym at ∙ same)))

pub first_in : (tasks : List Task) (task : Queued) (pid : ℕ) (first : Option Queued) → IfSome first (IsInBut tasks task) →
    Some pid ≡ option_map (λ (task : Queued). task.pid) first → pid ≢ task.pid → IfSome first (IsIn tasks)
first_in tasks task pid None known is differs = tt
first_in tasks task pid (Some first) known is differs = let at : pid ≡ first.pid = cc in known.1 (λ same. differs (at ∙ same))

-- the first of the tasks of a sibling goes before each
pub first_at-first_of : (tasks : List Task) → AllByRecursion IsLow tasks → first_among (map queued_of tasks) ≡ option_map queued_of (first_of tasks)
first_at-first_of tasks low =
    foremost-map is_before queued_of tasks
    ∙ ap (option_map queued_of) (foremost_alike IsLow (λ a b. is_before (queued_of a) (queued_of b)) goes_before goes_before-seats tasks low)
