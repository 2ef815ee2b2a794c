-- Held: what a run queue holds once a task is put in or taken out.
use Rattle.std.proofs.Common.{◌≡◌, ℕ, ◌+◌, true, false, not, List, [], ◌∷◌, map, length, Option, None, Some, inl, inr, refl, sym, ap, ◌∙◌, subst, arith}
use Rattle.std.specs.Prelude.{◌==◌, filter, IsTrue, IfSome, is_some}
use Rattle.std.specs.List.{AllByRecursion}
use Rattle.std.specs.FinMap as fin
use Rattle.std.specs.FinMap.{get-insert}
use Rattle.std.specs.Cmp.{tied_itself}
use Rattle.std.specs.Ordering.{is_eq}
use Rattle.std.proofs.lemmas.Bool.{cases_Bool, cond-true, cond-false}
use Rattle.std.specs.List.Sorted.{IsPermutation}
use Rattle.std.proofs.lemmas.List.{nil_from_length}
use Rattle.std.proofs.lemmas.List.Sorted.{IsPermutation-refl, IsPermutation-trans, IsPermutation-cons}
use Rattle.cs_types.specs.declared.queue.Queued.{Queued}
use Rattle.cs_types.specs.Queue.{RunQueued, Seat, Seats, Spot, Spots, seat_cmp, spot_cmp, seat_of, spot_of}
use Rattle.cs_types.proofs.Queues.{seat_total, seat_cmp-IsAntisymmetric, spot_total, spot_cmp-IsAntisymmetric}
use Rattle.order_tree.proofs.Entries.{IsPermutation-put}
use Rattle.run_queue.specs.Run.{without, including}
use Rattle.run_queue.proofs.Ties.{has-insert, had-insert, longer-insert}
use Rattle.cookie_queue.specs.Spotted.{has_cookie, spotted}
use Rattle.tree_queue.specs.Held.{AreApart, AreDistinct, Holds, seated}
use Rattle.tree_queue.proofs.Made.{free_at, made-put, made-take}
use Rattle.tree_queue.proofs.Splits.{IsParted, length-split, distinct_in, distinct_out, parted-pass, split-fail}
use Rattle.std.proofs.ByRecursion.{all_kept_by}

-- a seat and a spot have the stamp of their task
pub seat_stamp : (a b : Queued) → seat_of a ≡ seat_of b → a.stamp ≡ b.stamp
seat_stamp a b same = ap (λ (seat : Seat). seat.1.1) same

pub spot_stamp : (a b : Queued) → spot_of a ≡ spot_of b → a.stamp ≡ b.stamp
spot_stamp a b same = ap (λ (spot : Spot). spot.1.1.1) same

-- what is left while a task is out
abbrev pub without_one : RunQueued → Queued → RunQueued
without_one run task = record { tasks = fin.remove run.tasks (seat_of task); cookies = without task run.cookies; spare = run.spare + 1 }

module _ {task : Queued} {all rest : List Queued} (parted : IsParted task all rest) where
  pub free_seat : fin.get (seated rest) (seat_of task) ≡ None
  free_seat = free_at seat_total seat_cmp-IsAntisymmetric seat_of seat_stamp task rest parted.apart

  seated-put : seated all ≡ fin.insert (seated rest) (seat_of task) task.pid
  seated-put = made-put seat_total seat_cmp-IsAntisymmetric seat_of seat_stamp parted

  seated-take : fin.remove (seated all) (seat_of task) ≡ seated rest
  seated-take = made-take seat_total seat_cmp-IsAntisymmetric seat_of seat_stamp parted

  spotted-put : has_cookie task ≡ true → spotted all ≡ fin.insert (spotted rest) (spot_of task) task.pid
  spotted-put some = made-put spot_total spot_cmp-IsAntisymmetric spot_of spot_stamp (parted-pass has_cookie parted some)

  -- where it has no cookie
  spotted-none : has_cookie task ≡ false → spotted all ≡ spotted rest
  spotted-none none = ap (λ (ts : List Queued). fin.from_entries {R = spot_cmp} (map (λ (t : Queued). (spot_of t, t.pid)) ts)) (split-fail has_cookie parted.split none)

  spotted-including : including task (spotted rest) ≡ spotted all
  spotted-including =
      elim (cases_Bool (task.cookie == 0)) [
        | inl none ↦ cond-true _ (spotted rest) _ none ∙ sym (spotted-none (ap not none))
        | inr some ↦ cond-false _ (spotted rest) _ some ∙ sym (spotted-put (ap not some))
      ]

  spotted-without : without task (spotted all) ≡ spotted rest
  spotted-without =
      elim (cases_Bool (task.cookie == 0)) [
        | inl none ↦ cond-true _ (spotted all) _ none ∙ spotted-none (ap not none)
        | inr some ↦
            cond-false _ (spotted all) _ some
            ∙ made-take spot_total spot_cmp-IsAntisymmetric spot_of spot_stamp (parted-pass has_cookie parted (ap not some))
      ]

  -- no other is at its seat, whatever the cookie
  nothing : (cookie : ℕ) → fin.get (spotted rest) (cookie, seat_of task) ≡ None
  nothing cookie =
      let other : Queued = record task { cookie = cookie } in
      free_at spot_total spot_cmp-IsAntisymmetric spot_of spot_stamp other (filter has_cookie rest) (all_kept_by has_cookie (AreApart other) rest parted.apart)

  pub own_seat : IsTrue (fin.contains_key (seated all) (seat_of task))
  own_seat =
      subst (λ (m : Seats). IsTrue (fin.contains_key m (seat_of task))) (sym seated-put) (has-insert seat_total seat_cmp-IsAntisymmetric (seated rest) (seat_of task) task.pid)

  pub own_spot : IfSome (fin.get (spotted all) (spot_of task)) (λ pid. pid ≡ task.pid)
  own_spot =
      elim (cases_Bool (has_cookie task)) [
        | inl some ↦
            let found : fin.get (spotted all) (spot_of task) ≡ Some task.pid =
            ap (λ (m : Spots). fin.get m (spot_of task)) (spotted-put some)
            ∙ get-insert spot_total (spotted rest) (spot_of task) task.pid (spot_of task)
            ∙ cond-true _ (Some task.pid) _ (ap is_eq (tied_itself spot_total (spot_of task))) in
            subst (λ (o : Option ℕ). IfSome o (λ pid. pid ≡ task.pid)) (sym found) refl
        | inr none ↦
            let found = ap (λ (m : Spots). fin.get m (spot_of task)) (spotted-none none) ∙ nothing task.cookie in
            subst (λ (o : Option ℕ). IfSome o (λ pid. pid ≡ task.pid)) (sym found) tt
      ]

  pub own_entry : has_cookie task ≡ true → IsTrue (fin.contains_key (spotted all) (spot_of task))
  own_entry some =
      subst (λ (m : Spots). IsTrue (fin.contains_key m (spot_of task))) (sym (spotted-put some))
      (has-insert spot_total spot_cmp-IsAntisymmetric (spotted rest) (spot_of task) task.pid)

  pub own_cookie : (cookie : ℕ) → IsTrue (fin.contains_key (spotted all) (cookie, seat_of task)) → cookie ≡ task.cookie
  own_cookie cookie there =
      elim (cases_Bool (has_cookie task)) [
        | inl some ↦
            elim (had-insert spot_total spot_cmp-IsAntisymmetric (spotted rest) (spot_of task) task.pid (cookie, seat_of task)
            (subst (λ (m : Spots). IsTrue (fin.contains_key m (cookie, seat_of task))) (spotted-put some) there)) [
              | inl same ↦ ap (λ (spot : Spot). spot.0) same
              | inr other ↦ absurd (bad other)
            ]
        | inr none ↦ absurd (bad (subst (λ (m : Spots). IsTrue (fin.contains_key m (cookie, seat_of task))) (spotted-none none) there))
      ] where
        bad : IsTrue (fin.contains_key (spotted rest) (cookie, seat_of task)) → ⊥
        bad is = let both : true ≡ false = sym is ∙ ap is_some (nothing cookie) in absurd cc

  -- The task is put in.
  pub Holds-put : {old new : RunQueued} {most : ℕ} {queued : Queued} → queued ≡ task → Holds old most rest → new.tasks ≡ fin.insert old.tasks (seat_of queued) queued.pid →
      new.cookies ≡ including queued old.cookies → new.spare + 1 ≡ old.spare → Holds new most all
  Holds-put same held tasks cookies spare =
      let split = parted.split in
      record {
        seats = tasks ∙ (λ i. fin.insert (held.seats i) (seat_of (same i)) (same i).pid) ∙ sym seated-put;
        spots = cookies ∙ (λ i. including (same i) (held.spots i)) ∙ spotted-including;
        distinct = subst AreDistinct (sym split.whole)
            (distinct_in split.before split.after task (subst (AllByRecursion (AreApart task)) split.left parted.apart) (subst AreDistinct split.left held.distinct));
        room = omega (arith, length-split split, held.room, spare);
      }

  -- It is taken out.
  pub Holds-take : {old new : RunQueued} {most : ℕ} {queued : Queued} → queued ≡ task → Holds old most all → new.tasks ≡ fin.remove old.tasks (seat_of queued) →
      new.cookies ≡ without queued old.cookies → new.spare ≡ old.spare + 1 → Holds new most rest
  Holds-take same held tasks cookies spare =
      let split = parted.split in
      record {
        seats = tasks ∙ (λ i. fin.remove (held.seats i) (seat_of (same i))) ∙ seated-take;
        spots = cookies ∙ (λ i. without (same i) (held.spots i)) ∙ spotted-without;
        distinct = subst AreDistinct (sym split.left) (distinct_out split.before split.after task (subst AreDistinct split.whole held.distinct)).1;
        room = omega (arith, length-split split, held.room, spare);
      }

  pub Holds-without : {old : RunQueued} {most : ℕ} {queued : Queued} → queued ≡ task → Holds old most all → Holds (without_one old queued) most rest
  Holds-without same held = Holds-take same held refl refl refl

  -- It stays.
  pub seats_stay : {old : RunQueued} {most : ℕ} {queued : Queued} → queued ≡ task → Holds old most all →
      old.tasks ≡ fin.insert (fin.remove old.tasks (seat_of queued)) (seat_of queued) queued.pid
  seats_stay same held =
      held.seats ∙ seated-put ∙ ap (λ (m : Seats). fin.insert m (seat_of task) task.pid) (sym seated-take)
      ∙ (λ i. fin.insert (fin.remove (sym held.seats i) (seat_of (sym same i))) (seat_of (sym same i)) (sym same i).pid)

-- it has as many tasks as these
pub len-seated : (tasks : List Queued) → AreDistinct tasks → fin.len (seated tasks) ≡ length tasks
len-seated [] distinct = fin.len-empty seat_cmp ℕ
len-seated (task ∷ tasks) distinct =
    let longer = longer-insert seat_total seat_cmp-IsAntisymmetric (seated tasks) (seat_of task) task.pid
    (free_at seat_total seat_cmp-IsAntisymmetric seat_of seat_stamp task tasks distinct.0) in
    let rest = len-seated tasks distinct.1 in
    omega arith

-- and has them in another order
pub entries-seated : (tasks : List Queued) → AreDistinct tasks → IsPermutation (map (λ (t : Queued). (seat_of t, t.pid)) tasks) (fin.entries (seated tasks))
entries-seated [] distinct =
    let none : fin.entries (seated []) ≡ [] = nil_from_length _ (sym (fin.len-entries (seated [])) ∙ fin.len-empty seat_cmp ℕ) in
    subst (IsPermutation []) (sym none) (IsPermutation-refl [])
entries-seated (task ∷ tasks) distinct =
    let entry : Seat × ℕ = (seat_of task, task.pid) in
    let others = map (λ (t : Queued). (seat_of t, t.pid)) tasks in
    let free = free_at seat_total seat_cmp-IsAntisymmetric seat_of seat_stamp task tasks distinct.0 in
    subst (IsPermutation (entry ∷ others)) (sym (fin.entries-insert seat_total (seated tasks) (seat_of task) task.pid))
    (IsPermutation-trans (entry ∷ others) (entry ∷ fin.entries (seated tasks)) (fin.put seat_cmp (seat_of task) task.pid (fin.entries (seated tasks)))
    (IsPermutation-cons entry others (fin.entries (seated tasks)) (entries-seated tasks distinct.1))
    (IsPermutation-put seat_cmp entry (fin.entries (seated tasks)) (sym (fin.get-entries (seated tasks) (seat_of task)) ∙ free)))
