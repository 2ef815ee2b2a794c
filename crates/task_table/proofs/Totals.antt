-- What tasks were charged, and what an edit of the entries makes of it.
use Rattle.std.proofs.Common.{◌≡◌, ℕ, zero, suc, ◌+◌, ◌<◌, Bool, true, false, cond, List, [], ◌∷◌, length, get_or, set, None, inl, inr, refl, sym, ap, ◌∙◌, arith}
use Rattle.std.specs.Prelude.{◌==◌, find, insert, remove, sum_by}
use Rattle.std.proofs.lemmas.Bool.{eq-eqb, ne_eqb, cond-true, cond-false, cases_eq}
use Rattle.std.proofs.lemmas.List.Sums.{sum_by-cons, sum_by-insert, sum_by-remove, sum_by-set}
use Rattle.cs_types.specs.declared.task.Task.{Task}
use Rattle.cs_types.specs.Room.{has_pid}
use Rattle.task_table.specs.declared.entry.Entry.{Entry}
use Rattle.task_table.specs.Table.{total_among}
use Rattle.task_table.specs.Positions.{IsIndexOf, IsAt}
use Rattle.task_table.specs.Inside.{totals_of}
use Rattle.task_table.proofs.Rising.{none_gap, find_none}

-- what an entry's task was charged, where it has the pid
abbrev charged_as : ℕ → Entry → ℕ
charged_as pid entry = cond (entry.pid == pid) entry.forced 0

-- a total is a sum over the entries
sum_of : (pid : ℕ) (entries : List Entry) → total_among (totals_of entries) pid ≡ sum_by (charged_as pid) entries
sum_of pid [] = refl
sum_of pid (entry ∷ entries) =
    sum_by-cons (λ (total : ℕ × ℕ). cond (total.0 == pid) total.1 0) (entry.pid, entry.forced) (totals_of entries)
    ∙ ap (λ n. charged_as pid entry + n) (sum_of pid entries)
    ∙ sym (sum_by-cons (charged_as pid) entry entries)

head_of : (pid : ℕ) (entry : Entry) (entries : List Entry) → total_among (totals_of (entry ∷ entries)) pid ≡ charged_as pid entry + total_among (totals_of entries) pid
head_of pid entry entries = sum_by-cons (λ (total : ℕ × ℕ). cond (total.0 == pid) total.1 0) (entry.pid, entry.forced) (totals_of entries)

-- a task that is not there has no total
pub total-none : (pid : ℕ) (entries : List Entry) (tasks : List Task) → IsIndexOf entries tasks → find (has_pid pid) tasks ≡ None →
    total_among (totals_of entries) pid ≡ 0
total-none pid [] tasks index none = refl
total-none pid (entry ∷ entries) [] index none = absurd cc
total-none pid (entry ∷ entries) (task ∷ tasks) index none =
    let same : entry.pid ≡ task.spec.pid = cc in
    let later : IsIndexOf entries tasks = cc in
    elim (cases_eq task.spec.pid pid) [
      | inl here ↦ let some = sym (cond-true (has_pid pid task) _ (find (has_pid pid) tasks) (eq-eqb task.spec.pid pid here)) ∙ none in absurd cc
      | inr apart ↦
          let other = ne_eqb task.spec.pid pid apart in
          let rest : total_among (totals_of entries) pid ≡ 0 =
          total-none pid entries tasks later (sym (cond-false (has_pid pid task) _ (find (has_pid pid) tasks) other) ∙ none) in
          let head : charged_as pid entry ≡ 0 = ap (λ n. cond (n == pid) entry.forced 0) same ∙ cond-false _ entry.forced 0 other in
          omega (arith, head_of pid entry entries, head, rest)
    ]

-- one that is has that of the entry at its position
pub total-at : (pid position : ℕ) (entries : List Entry) (tasks : List Task) (d : Entry) → IsIndexOf entries tasks → IsAt pid position tasks →
    ((get_or entries position d).pid ≡ pid) × (total_among (totals_of entries) pid ≡ (get_or entries position d).forced)
total-at pid position entries [] d index at = absurd at
total-at pid position [] (task ∷ tasks) d index at = absurd cc
total-at pid zero (entry ∷ entries) (task ∷ tasks) d index at =
    let same : entry.pid ≡ task.spec.pid = cc in
    let later : IsIndexOf entries tasks = cc in
    let own : entry.pid ≡ pid = same ∙ at.0 in
    let rest : total_among (totals_of entries) pid ≡ 0 = total-none pid entries tasks later (find_none pid tasks (none_gap pid 0 tasks at.1)) in
    let head : charged_as pid entry ≡ entry.forced = cond-true _ entry.forced 0 (eq-eqb entry.pid pid own) in
    (own, omega (arith, head_of pid entry entries, head, rest))
total-at pid (suc position) (entry ∷ entries) (task ∷ tasks) d index at =
    let same : entry.pid ≡ task.spec.pid = cc in
    let later : IsIndexOf entries tasks = cc in
    let more = total-at pid position entries tasks d later at.1 in
    let head : charged_as pid entry ≡ 0 = cond-false _ entry.forced 0 (ne_eqb entry.pid pid (λ is. omega (arith, same, is, at.0))) in
    (more.0, omega (arith, head_of pid entry entries, head, more.1))

-- an entry that was charged nothing changes no total
pub total-insert : (pid position : ℕ) (entries : List Entry) (entry : Entry) → entry.forced ≡ 0 →
    total_among (totals_of (insert entries position entry)) pid ≡ total_among (totals_of entries) pid
total-insert pid position entries entry none =
    let nothing : charged_as pid entry ≡ 0 = ap (λ n. cond (entry.pid == pid) n 0) none ∙ by_test (entry.pid == pid) in
    omega (arith, sum_of pid (insert entries position entry), sum_by-insert (charged_as pid) entries position entry, nothing, sum_of pid entries) where
      by_test : (b : Bool) → ◌≡◌ {A = ℕ} (cond b 0 0) 0
      by_test true = refl
      by_test false = refl

-- where an entry goes, no other task's total changes
pub total-remove : (pid other position : ℕ) (entries : List Entry) (d : Entry) → position < length entries → (get_or entries position d).pid ≡ pid → (other == pid) ≡ false →
    total_among (totals_of (remove entries position)) other ≡ total_among (totals_of entries) other
total-remove pid other position entries d within own apart =
    let entry = get_or entries position d in
    let nothing : charged_as other entry ≡ 0 = cond-false _ entry.forced 0 (ne_eqb entry.pid other (λ same. let bad = eq-eqb other pid (sym same ∙ own) in absurd cc)) in
    omega (arith, sum_of other (remove entries position), sum_by-remove (charged_as other) entries position d within, nothing, sum_of other entries)

-- a share more in an entry is a share more in its task's total
pub total-set : (pid other position share : ℕ) (entries : List Entry) (entry d : Entry) → position < length entries → entry.pid ≡ pid → (get_or entries position d).pid ≡ pid →
    entry.forced ≡ (get_or entries position d).forced + share →
    total_among (totals_of (set entries position entry)) other ≡ total_among (totals_of entries) other + cond (other == pid) share 0
total-set pid other position share entries entry d within own was more =
    let old = get_or entries position d in
    elim (cases_eq other pid) [
      | inl same ↦
          let now : charged_as other entry ≡ entry.forced = cond-true _ entry.forced 0 (eq-eqb entry.pid other (own ∙ sym same)) in
          let before : charged_as other old ≡ old.forced = cond-true _ old.forced 0 (eq-eqb old.pid other (was ∙ sym same)) in
          let charged : cond (other == pid) share 0 ≡ share = cond-true _ share 0 (eq-eqb other pid same) in
          omega (arith, sum_of other (set entries position entry), sum_by-set (charged_as other) entries position entry d within, now, before, more, charged, sum_of other entries)
      | inr apart ↦
          let now : charged_as other entry ≡ 0 = cond-false _ entry.forced 0 (ne_eqb entry.pid other (λ same. apart (sym same ∙ own))) in
          let before : charged_as other old ≡ 0 = cond-false _ old.forced 0 (ne_eqb old.pid other (λ same. apart (sym same ∙ was))) in
          let charged : cond (other == pid) share 0 ≡ 0 = cond-false _ share 0 (ne_eqb other pid apart) in
          omega (arith, sum_of other (set entries position entry), sum_by-set (charged_as other) entries position entry d within, now, before, charged, sum_of other entries)
    ]
