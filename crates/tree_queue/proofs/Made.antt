-- Made: a map that is made of some tasks, once one of them is put in or taken out.
use Rattle.std.proofs.Common.{◌≡◌, ℕ, Bool, true, false, cond, List, [], ◌∷◌, ◌++◌, map, None, Some, inl, inr, refl, sym, ap, ◌∙◌, subst}
use Rattle.std.specs.List.{AllByRecursion}
use Rattle.std.specs.Cmp.{IsTotalOrder}
use Rattle.std.specs.Ordering.{eq_by_cmp}
use Rattle.std.specs.declared.cmp.Ordering.{Ordering}
use Rattle.std.specs.FinMap as fin
use Rattle.std.specs.FinMap.{FinMap, IsAntisymmetric, find, get, from_entries, get-from_entries, get-insert, get-remove, same_map}
use Rattle.std.proofs.lemmas.Bool.{cases_Bool, cond-true, cond-false}
use Rattle.cs_types.specs.declared.queue.Queued.{Queued}
use Rattle.order_tree.proofs.Entries.{equal_by}
use Rattle.tree_queue.specs.Held.{AreApart}
use Rattle.tree_queue.proofs.Splits.{IsParted}

-- two choices of which at most one is made
swapped : {A : Type 0} (p q : Bool) (x y z : A) → (p ≡ true → q ≡ true → ⊥) → cond p x (cond q y z) ≡ cond q y (cond p x z)
swapped true true x y z never = absurd (never refl refl)
swapped true false x y z never = refl
swapped false q x y z never = refl

module _ {K : Type 0} {R : K → K → Ordering} (o : IsTotalOrder R) (only : IsAntisymmetric R) (key : Queued → K)
    (stamps : (a b : Queued) → key a ≡ key b → a.stamp ≡ b.stamp) where
  -- a task at its key
  abbrev pub entry : Queued → K × ℕ
  entry task = (key task, task.pid)

  -- the map of some tasks
  abbrev pub made : List Queued → FinMap R ℕ
  made tasks = from_entries {R = R} (map entry tasks)

  -- keys that tie are those of one stamp
  one_stamp : (a b : Queued) → eq_by_cmp R (key a) (key b) ≡ true → a.stamp ≡ b.stamp
  one_stamp a b tie = stamps a b (only (key a) (key b) (equal_by _ tie))

  -- no task is at the key of one that is apart from all
  none_at : (task : Queued) (tasks : List Queued) → AllByRecursion (AreApart task) tasks → find R (key task) (map entry tasks) ≡ None
  none_at task [] apart = refl
  none_at task (other ∷ tasks) apart =
      elim (cases_Bool (eq_by_cmp R (key task) (key other))) [
        | inl tie ↦ absurd (apart.0.1 (one_stamp task other tie))
        | inr differs ↦ cond-false _ (Some other.pid) (find R (key task) (map entry tasks)) differs ∙ none_at task tasks apart.1
      ]

  pub free_at : (task : Queued) (tasks : List Queued) → AllByRecursion (AreApart task) tasks → get (made tasks) (key task) ≡ None
  free_at task tasks apart = get-from_entries o (map entry tasks) (key task) ∙ none_at task tasks apart

  module _ (task : Queued) (after : List Queued) where
    -- what is found with the task among the others
    find_amid : (before : List Queued) → AllByRecursion (AreApart task) (before ++ after) → (query : K) →
        find R query (map entry (before ++ task ∷ after)) ≡ cond (eq_by_cmp R query (key task)) (Some task.pid) (find R query (map entry (before ++ after)))
    find_amid [] apart query = refl
    find_amid (first ∷ before) apart query =
        ap (cond (eq_by_cmp R query (key first)) (Some first.pid)) (find_amid before apart.1 query)
        ∙ swapped (eq_by_cmp R query (key first)) (eq_by_cmp R query (key task)) (Some first.pid) (Some task.pid) (find R query (map entry (before ++ after)))
        (λ here there. apart.0.1 (stamps task first (sym (only query (key task) (equal_by _ there)) ∙ only query (key first) (equal_by _ here))))

  module _ {task : Queued} {all rest : List Queued} (parted : IsParted task all rest) where
    -- it is put in
    pub made-put : made all ≡ fin.insert (made rest) (key task) task.pid
    made-put =
        let split = parted.split in
        same_map o only _ _ (λ query.
        get-from_entries o (map entry all) query
        ∙ ap (λ (ts : List Queued). find R query (map entry ts)) split.whole
        ∙ find_amid task split.after split.before (subst (AllByRecursion (AreApart task)) split.left parted.apart) query
        ∙ ap (λ (ts : List Queued). cond (eq_by_cmp R query (key task)) (Some task.pid) (find R query (map entry ts))) (sym split.left)
        ∙ ap (cond (eq_by_cmp R query (key task)) (Some task.pid)) (sym (get-from_entries o (map entry rest) query))
        ∙ sym (get-insert o (made rest) (key task) task.pid query))

    -- and taken out
    pub made-take : fin.remove (made all) (key task) ≡ made rest
    made-take =
        ap (λ (m : FinMap R ℕ). fin.remove m (key task)) made-put
        ∙ same_map o only _ _ (λ query.
        get-remove o (fin.insert (made rest) (key task) task.pid) (key task) query
        ∙ ap (cond (eq_by_cmp R query (key task)) None) (get-insert o (made rest) (key task) task.pid query)
        ∙ gone query) where
          gone : (query : K) → cond (eq_by_cmp R query (key task)) None (cond (eq_by_cmp R query (key task)) (Some task.pid) (get (made rest) query)) ≡ get (made rest) query
          gone query =
              elim (cases_Bool (eq_by_cmp R query (key task))) [
                | inl tie ↦ cond-true _ None _ tie ∙ sym (ap (get (made rest)) (only query (key task) (equal_by _ tie)) ∙ free_at task rest parted.apart)
                | inr differs ↦ cond-false _ None _ differs ∙ cond-false _ (Some task.pid) (get (made rest) query) differs
              ]
