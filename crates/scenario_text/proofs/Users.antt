-- Users: the different credentials of tasks, in the order of first use, and what one task more makes of them.
use Rattle.std.proofs.Common.{◌≡◌, ℕ, suc, ◌+◌, ◌<◌, ◌≤◌, Bool, true, false, cond, eqb, ltb, List, [], ◌∷◌, ◌++◌, length, length-take-le, get_or, get_or-take, take, map, refl, sym, ap, subst, ◌∙◌, arith, append_assoc, inl, inr}
use Rattle.std.specs.Prelude.{◌&&◌, ◌||◌, not, filter, All}
use Rattle.std.specs.List.{list_any, AllByRecursion}
use Rattle.std.proofs.lemmas.Bool.{cond_both, cases_Bool, cases_lt, both_ways, false_from_ne_true, eq-eqb, ne_eqb, eqb-true, and_parts, not-false, lt-ltb, le-ltb}
use Rattle.std.proofs.lemmas.List.{map-append, append-nil, take_more, take_at, get_or_at, get_or_append_left, get_or_default, get_or-map, length-map, length-append}
use Rattle.std.proofs.lemmas.List.Folds.{list_any_at, list_any_none, Any-from_list_any}
use Rattle.std.proofs.lemmas.List.Sums.{length-filter, count_by-le-length, prefix_len_is, prefix_len_passes, prefix_len_stops}
use Rattle.std.proofs.lemmas.List.Quantifiers.{all_pairs_push}
use Rattle.std.proofs.lemmas.Map.Views.{any-filter_same}
use Rattle.cs_types.specs.declared.task.Creds.{Creds}
use Rattle.cs_types.specs.declared.task.TaskSpec.{TaskSpec}
use Rattle.cs_types.specs.Scenario.{is_flag, is_user, different, users_of}
use Rattle.scenario_text.specs.Text.{number_of, users_in}
use Rattle.scenario_text.specs.Reading.{AreApart, nobody, user_at}
use Rattle.scenario_text.proofs.Followers.{any_fails}

-- ---- whether two credentials are the same

flag_refl : (b : Bool) → is_flag b b ≡ true
flag_refl true = refl
flag_refl false = refl

flag_same : (a b : Bool) → is_flag a b ≡ true → a ≡ b
flag_same true b e = sym e
flag_same false true e = absurd cc
flag_same false false e = refl

pub is_user_refl : (a : Creds) → is_user a a ≡ true
unfolding is_user
is_user_refl a =
    rw (
      eq-eqb a.ruid a.ruid refl,
      eq-eqb a.euid a.euid refl,
      eq-eqb a.suid a.suid refl,
      eq-eqb a.rgid a.rgid refl,
      eq-eqb a.egid a.egid refl,
      eq-eqb a.sgid a.sgid refl,
      flag_refl a.cap,
      flag_refl a.mm,
      flag_refl a.dumpable,
    ) refl

record AllNine (a b c d e f g h i : Bool) : Type 0 where
  one : a ≡ true
  two : b ≡ true
  three : c ≡ true
  four : d ≡ true
  five : e ≡ true
  six : f ≡ true
  seven : g ≡ true
  eight : h ≡ true
  nine : i ≡ true

all_nine : (a b c d e f g h i : Bool) → (a && b && c && d && e && f && g && h && i) ≡ true → AllNine a b c d e f g h i
all_nine a b c d e f g h i is =
    let p = and_parts _ i is in
    let q = and_parts _ h p.0 in
    let r = and_parts _ g q.0 in
    let s = and_parts _ f r.0 in
    let t = and_parts _ e s.0 in
    let u = and_parts _ d t.0 in
    let v = and_parts _ c u.0 in
    let w = and_parts a b v.0 in
    record { one = w.0; two = w.1; three = v.1; four = u.1; five = t.1; six = s.1; seven = r.1; eight = q.1; nine = p.1 }

pub is_user_same : (a b : Creds) → is_user a b ≡ true → a ≡ b
unfolding is_user
is_user_same a b is =
    let all = all_nine _ _ _ _ _ _ _ _ _ is in
    let ruid = eqb-true _ _ all.one in
    let euid = eqb-true _ _ all.two in
    let suid = eqb-true _ _ all.three in
    let rgid = eqb-true _ _ all.four in
    let egid = eqb-true _ _ all.five in
    let sgid = eqb-true _ _ all.six in
    let cap = flag_same _ _ all.seven in
    let mm = flag_same _ _ all.eight in
    let dumpable = flag_same _ _ all.nine in
    λ i. record {
      ruid = ruid i;
      euid = euid i;
      suid = suid i;
      rgid = rgid i;
      egid = egid i;
      sgid = sgid i;
      cap = cap i;
      mm = mm i;
      dumpable = dumpable i;
    }

pub is_user_sym : (a b : Creds) → is_user a b ≡ false → is_user b a ≡ false
is_user_sym a b differs =
    false_from_ne_true (is_user b a) (λ is. both_ways (is_user a b) differs (ap (λ c. is_user a c) (is_user_same b a is) ∙ is_user_refl a))

-- ---- the different ones

-- a filter for all that differ from one keeps another, if that is there
any-filter : (creds user : Creds) (users : List Creds) →
    list_any (is_user creds) (filter (λ other. not (is_user other user)) users) ≡ (not (is_user creds user) && list_any (is_user creds) users)
any-filter creds user users =
    any-filter_same (is_user creds) (λ other. not (is_user other user)) (not (is_user creds user))
    (λ other is. ap (λ c. not (is_user c user)) (sym (is_user_same creds other is))) users

or_not : (a b : Bool) → (a || (not a && b)) ≡ (a || b)
or_not true b = refl
or_not false b = refl

-- as many are found among the different ones
pub any_different : (creds : Creds) (users : List Creds) → list_any (is_user creds) (different users) ≡ list_any (is_user creds) users
unfolding different
any_different creds [] = refl
any_different creds (user ∷ users) =
    ap (λ b. is_user creds user || b) (any-filter creds user (different users))
    ∙ or_not (is_user creds user) (list_any (is_user creds) (different users))
    ∙ ap (λ b. is_user creds user || b) (any_different creds users)

filter-append : {X : Type 0} (test : X → Bool) (xs ys : List X) → filter test (xs ++ ys) ≡ filter test xs ++ filter test ys
filter-append test [] ys = refl
filter-append {X = X} test (x ∷ xs) ys =
    elim (cases_Bool (test x)) [
      | inl is ↦ rw is (ap (λ (zs : List X). x ∷ zs) (filter-append test xs ys))
      | inr fails ↦ rw fails (filter-append test xs ys)
    ]

-- what a filter for all that differ from one makes of another that is new, or none
last_filtered : (creds user : Creds) (same found : Bool) → is_user creds user ≡ same →
    filter (λ other. not (is_user other user)) (cond found [] (creds ∷ [])) ≡ cond (same || found) [] (creds ∷ [])
last_filtered creds user true true is = refl
last_filtered creds user false true is = refl
last_filtered creds user true false is = rw is refl
last_filtered creds user false false is = rw is refl

-- one more stands last, if none before is the same
pub different-push : (users : List Creds) (creds : Creds) → different (users ++ creds ∷ []) ≡ different users ++ cond (list_any (is_user creds) users) [] (creds ∷ [])
unfolding different
different-push [] creds = refl
different-push (user ∷ users) creds =
    let test : Creds → Bool = λ other. not (is_user other user) in
    let rest = filter-append test (different users) (cond (list_any (is_user creds) users) [] (creds ∷ [])) in
    let last = last_filtered creds user (is_user creds user) (list_any (is_user creds) users) refl in
    ap (λ (cs : List Creds). user ∷ filter test cs) (different-push users creds)
    ∙ ap (λ (cs : List Creds). user ∷ cs) (rest ∙ ap (λ (cs : List Creds). filter test (different users) ++ cs) last)

-- what each keeps, the different ones keep
filter_kept : (P : Creds → Type 0) (test : Creds → Bool) (users : List Creds) → AllByRecursion P users → AllByRecursion P (filter test users)
filter_kept P test [] are = tt
filter_kept P test (user ∷ users) are = cond_both (test user) (user ∷ filter test users) (filter test users) (AllByRecursion P) (λ _. (are.0, filter_kept P test users are.1)) (λ _. filter_kept P test users are.1)

pub different_kept : (P : Creds → Type 0) (users : List Creds) → AllByRecursion P users → AllByRecursion P (different users)
unfolding different
different_kept P [] are = tt
different_kept P (user ∷ users) are = (are.0, filter_kept P (λ other. not (is_user other user)) (different users) (different_kept P users are.1))

-- and they are no more
length-different : (users : List Creds) → length (different users) ≤ length users
unfolding different
length-different [] = omega arith
length-different (user ∷ users) = omega (arith, length-filter (λ other. not (is_user other user)) (different users), count_by-le-length (λ other. not (is_user other user)) (different users), length-different users)

pub users_few : (version : ℕ) (tasks : List TaskSpec) → length (users_in version tasks) ≤ length tasks
users_few version tasks =
    cond_both (eqb version 2) (users_of tasks) [] (λ (us : List Creds). length us ≤ length tasks)
    (λ _. omega (arith, length-different (map (λ task. task.creds) tasks), length-map tasks (λ (t : TaskSpec). t.creds))) (λ _. omega arith)

-- ---- the users that tasks name

module _ (users : List Creds) (apart : AreApart users) where
  -- the number of a user
  pub number_of_user : (n : ℕ) → n < length users → number_of users (user_at users n) ≡ n
  number_of_user n below =
      let creds = user_at users n in
      prefix_len_is (λ other. not (is_user creds other)) users n nobody (omega arith)
      (λ k before. ap not (is_user_sym (user_at users k) creds (apart k n nobody before below)))
      (λ inside. ap not (is_user_refl creds))

  -- whether one of the first k users is the n-th
  pub any_first : (k n : ℕ) → k ≤ length users → n < length users → list_any (is_user (user_at users n)) (take k users) ≡ ltb n k
  any_first k n few below = elim (cases_lt n k) [
    | inl before ↦
        list_any_at (is_user (user_at users n)) (take k users) n nobody (omega (arith, length-take-le k users few))
        (ap (is_user (user_at users n)) (get_or-take k users n nobody before) ∙ is_user_refl (user_at users n))
        ∙ sym (lt-ltb n k before)
    | inr after ↦
        list_any_none (is_user (user_at users n)) (take k users) (λ j d inside.
        let first : j < k = omega (arith, length-take-le k users few) in
        ap (is_user (user_at users n)) (get_or-take k users j d first ∙ get_or_default users j d nobody (omega arith))
        ∙ is_user_sym (user_at users j) (user_at users n) (apart j n nobody (omega arith) below))
        ∙ sym (le-ltb n k after)
  ]

  -- the users that are named by one task more, of the n-th user
  pub named_more : (k n : ℕ) (tasks : List TaskSpec) (task : TaskSpec) → k ≤ length users → users_of tasks ≡ take k users → n < length users → n ≤ k → task.creds ≡ user_at users n →
      users_of (tasks ++ task ∷ []) ≡ take (cond (eqb n k) (k + 1) k) users
  named_more k n tasks task few are below next has =
      let found : list_any (is_user task.creds) (map (λ t. t.creds) tasks) ≡ ltb n k =
      sym (any_different task.creds (map (λ t. t.creds) tasks))
      ∙ ap (list_any (is_user task.creds)) are
      ∙ ap (λ c. list_any (is_user c) (take k users)) has
      ∙ any_first k n few below in
      let pushed : users_of (tasks ++ task ∷ []) ≡ take k users ++ cond (ltb n k) [] (task.creds ∷ []) =
      ap different (map-append (λ (t : TaskSpec). t.creds) tasks (task ∷ []))
      ∙ different-push (map (λ t. t.creds) tasks) task.creds
      ∙ ap (λ (cs : List Creds). cs ++ cond (list_any (is_user task.creds) (map (λ t. t.creds) tasks)) [] (task.creds ∷ [])) are
      ∙ ap (λ b. take k users ++ cond b [] (task.creds ∷ [])) found in
      elim (cases_lt n k) [
        | inl before ↦
            pushed
            ∙ ap (λ b. take k users ++ cond b [] (task.creds ∷ [])) (lt-ltb n k before)
            ∙ append-nil (take k users)
            ∙ ap (λ b. take (cond b (k + 1) k) users) (sym (ne_eqb n k (λ e. omega arith)))
        | inr after ↦
            let at : n ≡ k = omega arith in
            pushed
            ∙ ap (λ b. take k users ++ cond b [] (task.creds ∷ [])) (le-ltb n k after)
            ∙ ap (λ c. take k users ++ c ∷ []) (has ∙ ap (user_at users) at)
            ∙ sym (take_more users k nobody (omega arith))
            ∙ ap (λ b. take (cond b (k + 1) k) users) (sym (eq-eqb n k at))
      ]

-- ---- the users of a scenario

-- the different ones of a list begin with those of its beginning
begins : (xs ys : List Creds) → (rest : List Creds) × (different (xs ++ ys) ≡ different xs ++ rest)
begins xs [] = ([], ap different (append-nil xs) ∙ sym (append-nil (different xs)))
begins xs (y ∷ ys) =
    let more = begins (xs ++ y ∷ []) ys in
    let last = cond (list_any (is_user y) xs) [] (y ∷ []) in (
      last ++ more.0,
      ap different (sym (append_assoc xs (y ∷ []) ys)) ∙ more.1
          ∙ ap (λ (cs : List Creds). cs ++ more.0) (different-push xs y)
          ∙ append_assoc (different xs) last more.0,
    )

-- two of the different ones are apart
pub apart_push : (users : List Creds) (creds : Creds) → AreApart users → list_any (is_user creds) users ≡ false → AreApart (users ++ creds ∷ [])
apart_push users creds apart none =
    all_pairs_push (λ a b. is_user a b ≡ false) users creds apart (λ k d lt.
    is_user_sym creds (get_or users k d) (any_fails (is_user creds) users none k d lt))

apart_more : (xs ys : List Creds) → AreApart (different xs) → AreApart (different (xs ++ ys))
apart_more xs [] apart = subst (λ cs. AreApart (different cs)) (sym (append-nil xs)) apart
apart_more xs (y ∷ ys) apart =
    subst (λ cs. AreApart (different cs)) (append_assoc xs (y ∷ []) ys) (apart_more (xs ++ y ∷ []) ys (subst AreApart (sym (different-push xs y)) (by_test (list_any (is_user y) xs) refl))) where
      by_test : (found : Bool) → list_any (is_user y) xs ≡ found → AreApart (different xs ++ cond found [] (y ∷ []))
      by_test true is = subst AreApart (sym (append-nil (different xs))) apart
      by_test false is = apart_push (different xs) y apart (any_different y xs ∙ is)

pub apart_different : (users : List Creds) → AreApart (different users)
unfolding different
apart_different users = apart_more [] users (λ i j d lt below. absurd (omega arith))

-- a user that is found among the first so many has no higher number
number_le : (users : List Creds) (creds : Creds) (j : ℕ) → j < length users → is_user creds (user_at users j) ≡ true → number_of users creds ≤ j
number_le users creds j below same =
    elim (cases_lt j (number_of users creds)) [
      | inl before ↦
          let passes : not (is_user creds (user_at users j)) ≡ true = prefix_len_passes (λ other. not (is_user creds other)) users j nobody before in
          let wrong : false ≡ true = sym (ap not same) ∙ passes in
          absurd cc
      | inr after ↦ omega arith
    ]

-- what the next task of a scenario names, beside the users that the tasks before it name
pub record NamesNext (users : List Creds) (k : ℕ) (creds : Creds) : Type 0 where
  pub inside : number_of users creds < length users
  pub next : number_of users creds ≤ k
  pub there : creds ≡ user_at users (number_of users creds)

pub there_is : (users : List Creds) (creds : Creds) → number_of users creds < length users → creds ≡ user_at users (number_of users creds)
there_is users creds inside =
    is_user_same creds _ (not-false _ (prefix_len_stops (λ other. not (is_user creds other)) users nobody inside))

module _ (all tasks more : List TaskSpec) (task : TaskSpec) (is : all ≡ tasks ++ task ∷ more) where
  abbrev given : List Creds
  given = map (λ t. t.creds) tasks

  abbrev users : List Creds
  users = users_of all

  whole : map (λ (t : TaskSpec). t.creds) all ≡ given ++ task.creds ∷ map (λ t. t.creds) more
  whole = ap (map (λ (t : TaskSpec). t.creds)) is ∙ map-append (λ (t : TaskSpec). t.creds) tasks (task ∷ more)

  -- the tasks before name the first users
  pub first_users : users_of tasks ≡ take (length (users_of tasks)) users
  first_users =
      let cut = begins given (task.creds ∷ map (λ t. t.creds) more) in
      sym (take_at (users_of tasks) cut.0 (length (users_of tasks)) refl) ∙ ap (take (length (users_of tasks))) (sym (ap different whole ∙ cut.1))

  pub names_next : NamesNext users (length (users_of tasks)) task.creds
  names_next =
      let cut = begins (given ++ task.creds ∷ []) (map (λ t. t.creds) more) in
      let all_is : users ≡ (users_of tasks ++ cond (list_any (is_user task.creds) given) [] (task.creds ∷ [])) ++ cut.0 =
      ap different (whole ∙ sym (append_assoc given (task.creds ∷ []) (map (λ t. t.creds) more))) ∙ cut.1
      ∙ ap (λ (cs : List Creds). cs ++ cut.0) (different-push given task.creds) in
      by_test (list_any (is_user task.creds) given) refl cut.0 all_is where
        found_at : (j : ℕ) → j < length users → j ≤ length (users_of tasks) → is_user task.creds (user_at users j) ≡ true → NamesNext users (length (users_of tasks)) task.creds
        found_at j below few same =
            let le = number_le users task.creds j below same in
            record { inside = omega arith; next = omega arith; there = there_is users task.creds (omega arith) }

        by_test : (found : Bool) → list_any (is_user task.creds) given ≡ found → (rest : List Creds) → users ≡ (users_of tasks ++ cond found [] (task.creds ∷ [])) ++ rest → NamesNext users (length (users_of tasks)) task.creds
        by_test true is rest e =
            let some = Any-from_list_any (is_user task.creds) (users_of tasks) (any_different task.creds given ∙ is) in
            let split : users ≡ users_of tasks ++ rest = e ∙ ap (λ (cs : List Creds). cs ++ rest) (append-nil (users_of tasks)) in
            let len : length users ≡ length (users_of tasks) + length rest = ap length split ∙ length-append (users_of tasks) rest in
            let at : user_at users some.0 ≡ get_or (users_of tasks) some.0 nobody = ap (λ (cs : List Creds). get_or cs some.0 nobody) split ∙ get_or_append_left (users_of tasks) rest nobody some.0 some.2 in
            let below = some.2 in
            let here : some.1 ≡ get_or (users_of tasks) some.0 nobody = sym some.3 ∙ get_or_default (users_of tasks) some.0 some.1 nobody some.2 in
            found_at some.0 (omega arith) (omega arith) (ap (is_user task.creds) at ∙ ap (is_user task.creds) (sym here) ∙ some.4)
        by_test false is rest e =
            let split : users ≡ users_of tasks ++ task.creds ∷ rest = e ∙ append_assoc (users_of tasks) (task.creds ∷ []) rest in
            let len : length users ≡ length (users_of tasks) + suc (length rest) = ap length split ∙ length-append (users_of tasks) (task.creds ∷ rest) in
            let at : user_at users (length (users_of tasks)) ≡ task.creds = ap (λ (cs : List Creds). get_or cs (length (users_of tasks)) nobody) split ∙ get_or_at (users_of tasks) task.creds rest nobody (length (users_of tasks)) refl in
            found_at (length (users_of tasks)) (omega arith) (omega arith) (ap (is_user task.creds) at ∙ is_user_refl task.creds)

-- each task's credentials are those of a user
pub owned : (tasks : List TaskSpec) → All (λ task. number_of (users_of tasks) task.creds < length (users_of tasks)) tasks
owned tasks k d lt =
    let creds = map (λ (t : TaskSpec). t.creds) tasks in
    let task = get_or tasks k d in
    let at : get_or creds k task.creds ≡ task.creds = get_or-map (λ (t : TaskSpec). t.creds) tasks k d task.creds lt in
    let found : list_any (is_user task.creds) (users_of tasks) ≡ true =
    any_different task.creds creds
    ∙ list_any_at (is_user task.creds) creds k task.creds (omega (arith, length-map tasks (λ (t : TaskSpec). t.creds))) (ap (is_user task.creds) at ∙ is_user_refl task.creds) in
    let some = Any-from_list_any (is_user task.creds) (users_of tasks) found in
    let inside = some.2 in
    let here : user_at (users_of tasks) some.0 ≡ some.1 = get_or_default (users_of tasks) some.0 nobody some.1 some.2 ∙ some.3 in
    let low = number_le (users_of tasks) task.creds some.0 inside (ap (is_user task.creds) here ∙ some.4) in
    omega arith
