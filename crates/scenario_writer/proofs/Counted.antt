-- Counted: users are counted from the front of the tasks, and each is numbered by those before.
use Rattle.std.proofs.Common.{◌≡◌, ℕ, suc, ◌+◌, ◌<◌, ◌≤◌, Bool, true, false, cond, eqb, List, [], ◌∷◌, ◌++◌, length, get_or, take, drop, map, refl, sym, ap, ◌∙◌, arith, inl, inr, take_all, subst}
use Rattle.std.specs.Prelude.{◌||◌, not}
use Rattle.std.specs.List.{list_any}
use Rattle.std.proofs.lemmas.Bool.{cases_lt, eq-eqb, both_ways, not-false, cond-true, cond-false}
use Rattle.std.proofs.lemmas.List.{append-nil, map-append, length_push, take_more, take-append-drop, get_or-take}
use Rattle.std.proofs.lemmas.List.Folds.{list_any_at, list_any-append}
use Rattle.std.proofs.lemmas.List.Sums.{prefix_len-le-length, prefix_len_stops}
use Rattle.std.proofs.Math.Seq.{drop-cons}
use Rattle.cs_types.specs.declared.task.Creds.{Creds}
use Rattle.cs_types.specs.declared.task.TaskSpec.{TaskSpec}
use Rattle.cs_types.specs.Scenario.{is_user, different, users_of}
use Rattle.scenario_text.specs.Words.{user_words}
use Rattle.scenario_text.specs.Text.{users_words, number_of, users_in}
use Rattle.scenario_text.specs.Reading.{nobody, user_at}
use Rattle.scenario_text.proofs.Named.{length-users_words, users_words-at}
use Rattle.scenario_text.proofs.Users.{is_user_refl, is_user_same, any_different, different-push, first_users, names_next}

abbrev pub creds_of : List TaskSpec → List Creds
creds_of tasks = map (λ task. task.creds) tasks

pub any_creds : (creds : Creds) (tasks : List TaskSpec) → list_any (is_user creds) (creds_of tasks) ≡ list_any (λ task. is_user creds task.creds) tasks
any_creds creds [] = refl
any_creds creds (task ∷ tasks) = ap (λ (b : Bool). is_user creds task.creds || b) (any_creds creds tasks)

-- one user more, if no task before has the credentials
count_push : (tasks : List TaskSpec) (task : TaskSpec) → length (users_of (tasks ++ task ∷ [])) ≡ cond (list_any (is_user task.creds) (creds_of tasks)) (length (users_of tasks)) (length (users_of tasks) + 1)
count_push tasks task =
    ap (λ (cs : List Creds). length (different cs)) (map-append (λ (t : TaskSpec). t.creds) tasks (task ∷ []))
    ∙ ap length (different-push (creds_of tasks) task.creds)
    ∙ by_test (list_any (is_user task.creds) (creds_of tasks)) where
      by_test : (found : Bool) → length (users_of tasks ++ cond found [] (task.creds ∷ [])) ≡ cond found (length (users_of tasks)) (length (users_of tasks) + 1)
      by_test true = ap length (append-nil (users_of tasks))
      by_test false = length_push (users_of tasks) task.creds

-- the users that have a line in version 2
pub users_are : (version : ℕ) (tasks : List TaskSpec) → version ≡ 2 → users_in version tasks ≡ users_of tasks
users_are version tasks two = cond-true (eqb version 2) _ _ (eq-eqb version 2 two)

-- among so many first tasks
pub counted : List TaskSpec → ℕ → ℕ
counted tasks k = length (users_of (take k tasks))

module _ (tasks : List TaskSpec) (k : ℕ) (d : TaskSpec) (below : k < length tasks) where
  abbrev here : TaskSpec
  here = get_or tasks k d

  count_more : counted tasks (k + 1) ≡ cond (list_any (is_user here.creds) (creds_of (take k tasks))) (counted tasks k) (counted tasks k + 1)
  unfolding counted
  count_more = ap (λ (ts : List TaskSpec). length (users_of ts)) (take_more tasks k d below) ∙ count_push (take k tasks) here

  pub count_new : list_any (is_user here.creds) (creds_of (take k tasks)) ≡ false → counted tasks (k + 1) ≡ counted tasks k + 1
  count_new new = count_more ∙ cond-false _ _ _ new

  pub count_old : list_any (is_user here.creds) (creds_of (take k tasks)) ≡ true → counted tasks (k + 1) ≡ counted tasks k
  count_old old = count_more ∙ cond-true _ _ _ old

  -- credentials that neither this task nor one before has
  pub new_more : (creds : Creds) → is_user creds here.creds ≡ false → list_any (is_user creds) (creds_of (take k tasks)) ≡ false → list_any (is_user creds) (creds_of (take (k + 1) tasks)) ≡ false
  new_more creds differs new =
      ap (λ (ts : List TaskSpec). list_any (is_user creds) (creds_of ts)) (take_more tasks k d below)
      ∙ ap (list_any (is_user creds)) (map-append (λ (t : TaskSpec). t.creds) (take k tasks) (here ∷ []))
      ∙ list_any-append (is_user creds) (creds_of (take k tasks)) (here.creds ∷ [])
      ∙ rw (new, differs) refl

  cut : tasks ≡ take k tasks ++ here ∷ drop (suc k) tasks
  cut = sym (take-append-drop k tasks) ∙ ap (λ (ts : List TaskSpec). take k tasks ++ ts) (drop-cons tasks k d below)

  -- a task whose credentials no task before has is of the next user
  number_here : list_any (is_user here.creds) (creds_of (take k tasks)) ≡ false → number_of (users_of tasks) here.creds ≡ counted tasks k
  unfolding counted
  number_here new =
      let next = names_next tasks (take k tasks) (drop (suc k) tasks) here cut in
      let n = number_of (users_of tasks) here.creds in
      let first = users_of (take k tasks) in
      elim (cases_lt n (length first)) [
        | inl before ↦
            let same : here.creds ≡ user_at first n =
            next.there
            ∙ sym (get_or-take (length first) (users_of tasks) n nobody before)
            ∙ ap (λ (us : List Creds). user_at us n) (sym (first_users tasks (take k tasks) (drop (suc k) tasks) here cut)) in
            let found : list_any (is_user here.creds) first ≡ true = list_any_at (is_user here.creds) first n nobody before (ap (is_user here.creds) (sym same) ∙ is_user_refl here.creds) in
            absurd (both_ways (list_any (is_user here.creds) first) (any_different here.creds (creds_of (take k tasks)) ∙ new) found)
        | inr after ↦ let low = next.next in omega arith
      ]

  -- the same of credentials that this task has first
  pub number_found : (creds : Creds) → is_user creds here.creds ≡ true → list_any (is_user creds) (creds_of (take k tasks)) ≡ false → number_of (users_of tasks) creds ≡ counted tasks k
  number_found creds same new =
      let is : creds ≡ here.creds = is_user_same creds here.creds same in
      ap (number_of (users_of tasks)) is ∙ number_here (ap (λ (c : Creds). list_any (is_user c) (creds_of (take k tasks))) (sym is) ∙ new)

  -- and who that user is
  user_here : list_any (is_user here.creds) (creds_of (take k tasks)) ≡ false → (counted tasks k < length (users_of tasks)) × (user_at (users_of tasks) (counted tasks k) ≡ here.creds)
  user_here new =
      let next = names_next tasks (take k tasks) (drop (suc k) tasks) here cut in
      let inside = next.inside in
      let number = number_here new in
      (omega arith, ap (user_at (users_of tasks)) (sym number) ∙ sym next.there)

  -- whose line is the next one
  pub line_here : (version n : ℕ) → version ≡ 2 → n ≡ counted tasks k → list_any (is_user here.creds) (creds_of (take k tasks)) ≡ false →
      (n < length (users_words (users_in version tasks))) × (get_or (users_words (users_in version tasks)) n [] ≡ user_words n here.creds)
  line_here version n two is new =
      let user = user_here new in
      let inside : n < length (users_of tasks) = omega (arith, user.0) in
      subst (λ (us : List Creds). (n < length (users_words us)) × (get_or (users_words us) n [] ≡ user_words n here.creds)) (sym (users_are version tasks two))
      (omega (arith, length-users_words (users_of tasks)), users_words-at (users_of tasks) n [] inside ∙ ap (user_words n) (ap (user_at (users_of tasks)) is ∙ user.1))

-- among no tasks there is none, and among all tasks there are all
pub counted_none : (tasks : List TaskSpec) → counted tasks 0 ≡ 0
unfolding counted different
counted_none tasks = refl

pub counted_all : (tasks : List TaskSpec) (k : ℕ) → length tasks ≤ k → counted tasks k ≡ length (users_of tasks)
unfolding counted
counted_all tasks k past = ap (λ (ts : List TaskSpec). length (users_of ts)) (take_all k tasks past)

-- after the last task no line is left
pub lines_end : (version : ℕ) (tasks : List TaskSpec) (n k : ℕ) → version ≡ 2 → n ≡ counted tasks k → length tasks ≤ k → length (users_words (users_in version tasks)) ≤ n
lines_end version tasks n k two is past =
    subst (λ (us : List Creds). length (users_words us) ≤ n) (sym (users_are version tasks two)) (omega (arith, length-users_words (users_of tasks), counted_all tasks k past))

-- credentials that no task has come after all users
pub number_past : (tasks : List TaskSpec) (creds : Creds) → list_any (is_user creds) (creds_of tasks) ≡ false → number_of (users_of tasks) creds ≡ length (users_of tasks)
number_past tasks creds new =
    let users = users_of tasks in
    let n = number_of users creds in
    elim (cases_lt n (length users)) [
      | inl before ↦
          let same : is_user creds (user_at users n) ≡ true = not-false _ (prefix_len_stops (λ other. not (is_user creds other)) users nobody before) in
          absurd (both_ways (list_any (is_user creds) users) (any_different creds (creds_of tasks) ∙ new) (list_any_at (is_user creds) users n nobody before same))
      | inr after ↦ omega (arith, prefix_len-le-length (λ other. not (is_user creds other)) users)
    ]
