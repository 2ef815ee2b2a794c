-- Named: what the lines of users and tasks say of each other, beside the users and the tasks themselves.
use Rattle.std.proofs.Common.{◌≡◌, ℕ, zero, suc, ◌+◌, ◌<◌, ◌≤◌, ◌^◌, Bool, true, false, eqb, ltb, List, [], ◌∷◌, length, get_or, take, map, refl, sym, ap, ◌∙◌, arith, zero-le, inl, inr}
use Rattle.std.specs.Prelude.{◌||◌, not, filter, decimal, All}
use Rattle.std.specs.List.{list_any, enumerate_from}
use Rattle.std.proofs.lemmas.Bool.{cases_Bool, cases_eq, cases_lt, false_from_ne_true, not-false, eq-eqb, ne_eqb, lt-ltb, le-ltb}
use Rattle.std.proofs.lemmas.Slice.Eq.{bytes_eq-Decides}
use Rattle.std.proofs.lemmas.List.{length-map, get_or-map}
use Rattle.std.proofs.lemmas.List.Folds.{list_any_at, list_any_none}
use Rattle.std.proofs.lemmas.List.Sums.{prefix_len-le-length, prefix_len_stops}
use Rattle.std.proofs.lemmas.List.FromFn.{length-enumerate_from, get_or-enumerate_from}
use Rattle.cs_types.specs.declared.task.Creds.{Creds}
use Rattle.cs_types.specs.declared.task.TaskSpec.{TaskSpec}
use Rattle.cs_types.specs.Scenario.{is_flag, AreCreds, is_user, users_of}
use Rattle.scenario_text.specs.Words.{Word, flag_word, user_words}
use Rattle.scenario_text.specs.Text.{users_words, number_of, task_words_in}
use Rattle.scenario_text.specs.Grammar.{is_word, value}
use Rattle.scenario_text.specs.Faults.{word_at, same_values, names, users_named}
use Rattle.scenario_text.specs.Reading.{AreApart, nobody, user_at}
use Rattle.scenario_text.proofs.Numbers.{number_again}
use Rattle.scenario_text.proofs.Users.{is_user_refl, is_user_same, any_different, number_of_user, any_first}

-- ---- words

-- two words are one as their numbers are
pub same_number : (a b : ℕ) → a < 2 ^ 64 → b < 2 ^ 64 → is_word (decimal a) (decimal b) ≡ eqb a b
same_number a b small small' =
    elim (cases_eq a b) [
      | inl same ↦ ap (λ (n : ℕ). is_word (decimal n) (decimal b)) same ∙ (bytes_eq-Decides (decimal b) (decimal b)).1 refl ∙ sym (eq-eqb a b same)
      | inr differs ↦
          let first = number_again 0 18446744073709551615 a (omega arith) (zero-le, omega arith) in
          let second = number_again 0 18446744073709551615 b (omega arith) (zero-le, omega arith) in
          false_from_ne_true _ (λ h. differs (sym first.same ∙ ap value ((bytes_eq-Decides (decimal a) (decimal b)).0 h) ∙ second.same))
          ∙ sym (ne_eqb a b differs)
    ]

same_flag : (a b : Bool) → is_word (flag_word a) (flag_word b) ≡ is_flag a b
same_flag true true = refl
same_flag true false = refl
same_flag false true = refl
same_flag false false = refl

-- two user lines have the same nine values as their users are the same
pub same_user : (n m : ℕ) (a b : Creds) → AreCreds a → AreCreds b → same_values (user_words n a) (user_words m b) ≡ is_user a b
unfolding is_user
same_user n m a b is is' =
    rw (
      same_number a.ruid b.ruid (omega (arith, is.ruid)) (omega (arith, is'.ruid)),
      same_number a.euid b.euid (omega (arith, is.euid)) (omega (arith, is'.euid)),
      same_number a.suid b.suid (omega (arith, is.suid)) (omega (arith, is'.suid)),
      same_number a.rgid b.rgid (omega (arith, is.rgid)) (omega (arith, is'.rgid)),
      same_number a.egid b.egid (omega (arith, is.egid)) (omega (arith, is'.egid)),
      same_number a.sgid b.sgid (omega (arith, is.sgid)) (omega (arith, is'.sgid)),
      same_flag a.cap b.cap,
      same_flag a.mm b.mm,
      same_flag a.dumpable b.dumpable,
    ) refl

suc_ltb : (n m : ℕ) → ltb (suc n) (suc m) ≡ ltb n m
suc_ltb n m = elim (cases_lt n m) [
  | inl below ↦ lt-ltb (suc n) (suc m) (omega arith) ∙ sym (lt-ltb n m below)
  | inr past ↦ le-ltb (suc n) (suc m) (omega arith) ∙ sym (le-ltb n m past)
]

-- ---- the lines of users

abbrev user_line_of : ℕ × Creds → List Word
user_line_of numbered = user_words numbered.0 numbered.1

pub length-users_words : (users : List Creds) → length (users_words users) ≡ length users
length-users_words users = length-map (enumerate_from 0 users) user_line_of ∙ length-enumerate_from 0 users

-- as many user lines have the values of a user as users are the same
pub any_same : (n start : ℕ) (creds : Creds) (users : List Creds) → AreCreds creds → All AreCreds users →
    list_any (same_values (user_words n creds)) (map user_line_of (enumerate_from start users)) ≡ list_any (is_user creds) users
any_same n start creds [] is are = refl
any_same n start creds (user ∷ users) is are =
    λ i. same_user n start creds user is (are 0 nobody (omega arith)) i
    || any_same n (start + 1) creds users is (λ k d below. are (suc k) d (omega arith)) i

-- a line of a user is the one of its number
pub users_words-at : (users : List Creds) (k : ℕ) (d : List Word) → k < length users → get_or (users_words users) k d ≡ user_words k (user_at users k)
users_words-at users k d below =
    get_or-map user_line_of (enumerate_from 0 users) k (0, nobody) d (omega (arith, length-enumerate_from 0 users))
    ∙ ap user_line_of (get_or-enumerate_from 0 users k (0, nobody) below ∙ ap (λ n. (n, get_or users k nobody)) (omega arith))

-- some user line has this number where there is a user of it
pub any_number : (number : ℕ) (users : List Creds) → length users ≤ 256 → number < 2 ^ 64 → list_any (λ user. is_word (decimal number) (word_at 1 user)) (users_words users) ≡ ltb number (length users)
any_number number users few small = elim (cases_lt number (length users)) [
  | inl below ↦
      list_any_at test (users_words users) number [] (omega (arith, length-users_words users))
      (ap test (users_words-at users number [] below) ∙ same_number number number small small ∙ eq-eqb number number refl)
      ∙ sym (lt-ltb number (length users) below)
  | inr past ↦
      list_any_none test (users_words users) (λ k d inside.
      let below : k < length users = omega (arith, length-users_words users) in
      ap test (users_words-at users k d below) ∙ same_number number k small (omega arith) ∙ ne_eqb number k (λ e. omega arith))
      ∙ sym (le-ltb number (length users) past)
] where
  test : List Word → Bool
  test user = is_word (decimal number) (word_at 1 user)

-- ---- the users that tasks name

module _ (users : List Creds) (apart : AreApart users) where
  -- the number of credentials is that of a user as they are that user's
  pub number_is : (creds : Creds) (n : ℕ) → n < length users → eqb (number_of users creds) n ≡ is_user (user_at users n) creds
  number_is creds n below =
      elim (cases_Bool (is_user (user_at users n) creds)) [
        | inl same ↦
            eq-eqb (number_of users creds) n (ap (number_of users) (sym (is_user_same (user_at users n) creds same)) ∙ number_of_user users apart n below) ∙ sym same
        | inr differs ↦ ne_eqb (number_of users creds) n (λ e. wrong differs e) ∙ sym differs
      ] where
        wrong : is_user (user_at users n) creds ≡ false → number_of users creds ≡ n → ⊥
        wrong differs e =
            let inside : number_of users creds < length users = omega arith in
            let found : is_user creds (user_at users (number_of users creds)) ≡ true = not-false _ (prefix_len_stops (λ other. not (is_user creds other)) users nobody inside) in
            let same : creds ≡ user_at users n = is_user_same creds (user_at users (number_of users creds)) found ∙ ap (user_at users) e in
            let yes : is_user (user_at users n) creds ≡ true = ap (is_user (user_at users n)) same ∙ is_user_refl (user_at users n) in
            let no : true ≡ false = sym yes ∙ differs in
            absurd cc

  -- some task names the n-th user
  any_named : (tasks : List TaskSpec) (n : ℕ) → n < length users → length users ≤ 256 →
      list_any (λ task. names task (user_words n (user_at users n))) (map (task_words_in 2 users) tasks) ≡ list_any (is_user (user_at users n)) (map (λ task. task.creds) tasks)
  any_named [] n below few = refl
  any_named (task ∷ tasks) n below few =
      let small : number_of users task.creds < 2 ^ 64 = omega (arith, prefix_len-le-length (λ other. not (is_user task.creds other)) users) in
      let first = same_number (number_of users task.creds) n small (omega arith) ∙ number_is task.creds n below in
      λ i. first i || any_named tasks n below few i

  module _ (tasks : List TaskSpec) (k : ℕ) (few : k ≤ length users) (short : length users ≤ 256) (are : users_of tasks ≡ take k users) where
    abbrev named_by : List Word → Bool
    named_by user = list_any (λ task. names task user) (map (task_words_in 2 users) tasks)

    -- that is so of the first k
    first_named : (n : ℕ) → n < length users → named_by (user_words n (user_at users n)) ≡ ltb n k
    first_named n below =
        any_named tasks n below short
        ∙ sym (any_different (user_at users n) (map (λ task. task.creds) tasks))
        ∙ ap (list_any (is_user (user_at users n))) are
        ∙ any_first users apart k n few below

    counted : (test : List Word → Bool) (some : List Creds) (start m : ℕ) → m ≤ length some → ((n : ℕ) → n < length some → test (user_words (start + n) (user_at some n)) ≡ ltb n m) →
        length (filter test (map user_line_of (enumerate_from start some))) ≡ m
    counted test [] start m none h = omega arith
    counted test (user ∷ some) start zero none h =
        let here : test (user_words start user) ≡ false = ap (λ n. test (user_words n user)) (omega arith) ∙ h 0 (omega arith) ∙ le-ltb 0 0 (omega arith) in
        rw here (counted test some (start + 1) 0 (omega arith) (λ n below. none_left n (h (suc n) (omega arith)))) where
          none_left : (n : ℕ) → test (user_words (start + suc n) (user_at some n)) ≡ ltb (suc n) 0 → test (user_words (start + 1 + n) (user_at some n)) ≡ ltb n 0
          none_left n e = ap (λ p. test (user_words p (user_at some n))) (omega arith) ∙ e ∙ le-ltb (suc n) 0 (omega arith) ∙ sym (le-ltb n 0 (omega arith))
    counted test (user ∷ some) start (suc m) inside h =
        let here : test (user_words start user) ≡ true = ap (λ n. test (user_words n user)) (omega arith) ∙ h 0 (omega arith) ∙ lt-ltb 0 (suc m) (omega arith) in
        rw here (ap suc (counted test some (start + 1) m (omega arith) (λ n below. moved n (h (suc n) (omega arith))))) where
          moved : (n : ℕ) → test (user_words (start + suc n) (user_at some n)) ≡ ltb (suc n) (suc m) → test (user_words (start + 1 + n) (user_at some n)) ≡ ltb n m
          moved n e = ap (λ p. test (user_words p (user_at some n))) (omega arith) ∙ e ∙ suc_ltb n m

    pub length-users_named : length (users_named (map (task_words_in 2 users) tasks) (users_words users)) ≡ k
    length-users_named = counted named_by users 0 k few (λ n below. ap (λ p. named_by (user_words p (user_at users n))) (omega arith) ∙ first_named n below)
