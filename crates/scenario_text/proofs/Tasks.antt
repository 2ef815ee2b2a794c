-- Users, tasks and teach lines: what is read from a line is spelled by its words, and what is spelled so is read.
use Rattle.std.proofs.Common.{◌≡◌, ℕ, suc, ◌+◌, ◌-◌, ◌<◌, ◌≤◌, Bool, true, false, cond, eqb, List, [], ◌∷◌, length, get_or, Ok, refl, sym, subst, ◌∙◌, arith, zero-le, inl, inr}
use Rattle.std.specs.Prelude.{decimal, codes, All}
use Rattle.std.proofs.lemmas.Bool.{both_ways, cases_lt}
use Rattle.std.proofs.lemmas.List.{get_or_past}
use Rattle.cs_types.specs.declared.task.Creds.{Creds}
use Rattle.cs_types.specs.declared.scenario.Teach.{Teach}
use Rattle.cs_types.specs.Scenario.{AreCreds, IsTask, IsTeach}
use Rattle.scenario_text.specs.declared.task.UserLine.{UserLine}
use Rattle.scenario_text.specs.declared.task.TaskLine.{TaskLine}
use Rattle.scenario_text.specs.Words.{Word, creds_words, user_words, user_task_words, task_words, teach_words}
use Rattle.scenario_text.specs.Grammar.{value, is_number, keyword, pid, sibling, policy, user, creds_form, user_form, task_form, teach_form}
use Rattle.scenario_text.specs.Reading.{Parts, parts, after, read_in, creds_value, user_value, nobody, user_at, task_value, teach_value}
use Rattle.scenario_text.proofs.Numbers.{number_is, number_again}
use Rattle.scenario_text.proofs.Fields.{word_is, flag_is, flag_again, policy_is, policy_again, any_word, righted_at}
use Rattle.scenario_text.proofs.Said.{line_is, then}

-- a sibling of a core
pub cpu_is : (siblings : ℕ) (word : Word) → 1 ≤ siblings → siblings < 256 → is_number 0 (siblings - 1) word ≡ true → (word ≡ decimal (value word)) × (value word < siblings)
cpu_is siblings word some few h =
    let n = number_is 0 (siblings - 1) word (omega arith) h in (n.0, omega (arith, n.1))

pub record SpellsCpu (siblings cpu : ℕ) : Type 0 where
  pub right : is_number 0 (siblings - 1) (decimal cpu) ≡ true
  pub same : value (decimal cpu) ≡ cpu

pub cpu_again : (siblings cpu : ℕ) → siblings < 256 → cpu < siblings → SpellsCpu siblings cpu
cpu_again siblings cpu few below =
    let again = number_again 0 (siblings - 1) cpu (omega arith) (zero-le, omega arith) in
    record { right = again.right; same = again.same }

-- ---- credentials

-- the nine words from a place on
abbrev nine : Parts → ℕ → List Word
nine words k =
    words.at (k + 0) ∷ words.at (k + 1) ∷ words.at (k + 2) ∷ words.at (k + 3) ∷ words.at (k + 4) ∷ words.at (k + 5)
    ∷ words.at (k + 6) ∷ words.at (k + 7) ∷ words.at (k + 8) ∷ []

-- where they are right, they spell what they say
creds_are : (words : Parts) (k : ℕ) → ((i : ℕ) → i < 9 → (get_or creds_form i any_word).is_right (words.at (k + i)) ≡ true) →
    (nine words k ≡ creds_words (creds_value (after k words))) × AreCreds (creds_value (after k words))
creds_are words k right =
    let w0 = number_is 0 65535 _ (omega arith) (right 0 (omega arith)) in
    let w1 = number_is 0 65535 _ (omega arith) (right 1 (omega arith)) in
    let w2 = number_is 0 65535 _ (omega arith) (right 2 (omega arith)) in
    let w3 = number_is 0 65535 _ (omega arith) (right 3 (omega arith)) in
    let w4 = number_is 0 65535 _ (omega arith) (right 4 (omega arith)) in
    let w5 = number_is 0 65535 _ (omega arith) (right 5 (omega arith)) in
    let w6 = flag_is _ (right 6 (omega arith)) in
    let w7 = flag_is _ (right 7 (omega arith)) in
    let w8 = flag_is _ (right 8 (omega arith)) in (
      then w0.0 (then w1.0 (then w2.0 (then w3.0 (then w4.0 (then w5.0 (then w6 (then w7 (then w8 (refl))))))))),
      record { ruid = w0.1.1; euid = w1.1.1; suid = w2.1.1; rgid = w3.1.1; egid = w4.1.1; sgid = w5.1.1 },
    )

-- the same of the word at a place that is written otherwise
placed : (words : Parts) (i place other : ℕ) → place ≡ other → (get_or creds_form i any_word).is_right (words.at place) ≡ true → (get_or creds_form i any_word).is_right (words.at other) ≡ true
placed words i place other same is = subst (λ (p : ℕ). (get_or creds_form i any_word).is_right (words.at p) ≡ true) same is

-- ---- users

pub user_is : (words : List Word) (user : UserLine) → read_in ((user_form, user_value) ∷ []) (parts words) ≡ Ok user →
    (words ≡ user_words user.number user.creds) × (user.number ≤ 255) × AreCreds user.creds
user_is words user e =
    let line = line_is user_form user_value words user e in
    let right = righted_at user_form (parts words) line.right in
    let w0 = word_is _ (codes "user") (right 0 (omega arith)) in
    let w1 = number_is 0 255 _ (omega arith) (right 1 (omega arith)) in
    let creds = creds_are (parts words) 2 (λ i below. placed (parts words) i (suc (suc i)) (2 + i) (omega arith) (right (suc (suc i)) (omega arith))) in
    rw (← line.says_it) (line.words_are ∙ then w0 (then w1.0 creds.0), w1.1.1, creds.1)

pub user_again : (user : UserLine) → user.number ≤ 255 → AreCreds user.creds → read_in ((user_form, user_value) ∷ []) (parts (user_words user.number user.creds)) ≡ Ok user
user_again user few is =
    let creds = user.creds in
    let number = number_again 0 255 user.number (omega arith) (zero-le, few) in
    let ruid = number_again 0 65535 creds.ruid (omega arith) (zero-le, is.ruid) in
    let euid = number_again 0 65535 creds.euid (omega arith) (zero-le, is.euid) in
    let suid = number_again 0 65535 creds.suid (omega arith) (zero-le, is.suid) in
    let rgid = number_again 0 65535 creds.rgid (omega arith) (zero-le, is.rgid) in
    let egid = number_again 0 65535 creds.egid (omega arith) (zero-le, is.egid) in
    let sgid = number_again 0 65535 creds.sgid (omega arith) (zero-le, is.sgid) in
    let cap = flag_again creds.cap in
    let mm = flag_again creds.mm in
    let dumpable = flag_again creds.dumpable in
    rw (
      number.right,
      ruid.right,
      euid.right,
      suid.right,
      rgid.right,
      egid.right,
      sgid.right,
      cap.right,
      mm.right,
      dumpable.right,
      number.same,
      ruid.same,
      euid.same,
      suid.same,
      rgid.same,
      egid.same,
      sgid.same,
      cap.same,
      mm.same,
      dumpable.same,
    ) refl

-- ---- tasks

-- the words of a task line, in a text of this version
abbrev pub task_line_words : ℕ → TaskLine → List Word
task_line_words version task = cond (eqb version 2) (user_task_words task.user task.spec) (task_words task.spec)

-- whose credentials the task of a line has, beside these users: in version 2 those of the user that it names
pub record HasOwner (version : ℕ) (users : List Creds) (task : TaskLine) : Type 0 where
  pub first : eqb version 2 ≡ false → task.user ≡ 0
  pub few : task.user ≤ 255
  pub second : eqb version 2 ≡ true → task.spec.creds ≡ user_at users task.user

-- a user has credentials, and so has one that is not there
user_kept : (users : List Creds) (n : ℕ) → All AreCreds users → AreCreds (user_at users n)
user_kept users n are =
    elim (cases_lt n (length users)) [
      | inl below ↦ are n nobody below
      | inr past ↦
          subst AreCreds (sym (get_or_past users n nobody past))
          (record { ruid = zero-le; euid = zero-le; suid = zero-le; rgid = zero-le; egid = zero-le; sgid = zero-le })
    ]

module _ (siblings : ℕ) (some : 1 ≤ siblings) (few : siblings < 256) (users : List Creds) (are : All AreCreds users) where
  -- what a task line of this version is
  abbrev Is : ℕ → List Word → TaskLine → Type 0
  Is version words task = (words ≡ task_line_words version task) × IsTask siblings task.spec × HasOwner version users task

  task_by : (version : ℕ) (second : Bool) → eqb version 2 ≡ second → (words : List Word) (task : TaskLine) →
      read_in ((keyword (codes "task") ∷ pid ∷ pid ∷ pid ∷ sibling siblings ∷ policy ∷ cond second (user ∷ []) creds_form, task_value version users) ∷ []) (parts words) ≡ Ok task → Is version words task
  task_by version true is words task e =
      let form = keyword (codes "task") ∷ pid ∷ pid ∷ pid ∷ sibling siblings ∷ policy ∷ user ∷ [] in
      let line = line_is form (task_value version users) words task e in
      let right = righted_at form (parts words) line.right in
      let w0 = word_is _ (codes "task") (right 0 (omega arith)) in
      let w1 = number_is 1 9999 _ (omega arith) (right 1 (omega arith)) in
      let w2 = number_is 1 9999 _ (omega arith) (right 2 (omega arith)) in
      let w3 = number_is 1 9999 _ (omega arith) (right 3 (omega arith)) in
      let w4 = cpu_is siblings _ some few (right 4 (omega arith)) in
      let w5 = policy_is _ (right 5 (omega arith)) in
      let w6 = number_is 0 255 _ (omega arith) (right 6 (omega arith)) in
      rw (← line.says_it) (rw is (
        line.words_are ∙ then w0 (then w1.0 (then w2.0 (then w3.0 (then w4.0 (then w5.0 (then w6.0 (refl))))))),
        record { pid = w1.1; tgid = w2.1; pgid = w3.1; cpu = w4.1; policy = w5.1; creds = user_kept users _ are },
        record { first = λ e. absurd (both_ways (eqb version 2) e is); few = w6.1.1; second = λ e. refl },
      ))
  task_by version false is words task e =
      let form = keyword (codes "task") ∷ pid ∷ pid ∷ pid ∷ sibling siblings ∷ policy ∷ creds_form in
      let line = line_is form (task_value version users) words task e in
      let right = righted_at form (parts words) line.right in
      let w0 = word_is _ (codes "task") (right 0 (omega arith)) in
      let w1 = number_is 1 9999 _ (omega arith) (right 1 (omega arith)) in
      let w2 = number_is 1 9999 _ (omega arith) (right 2 (omega arith)) in
      let w3 = number_is 1 9999 _ (omega arith) (right 3 (omega arith)) in
      let w4 = cpu_is siblings _ some few (right 4 (omega arith)) in
      let w5 = policy_is _ (right 5 (omega arith)) in
      let creds = creds_are (parts words) 6 (λ i below. placed (parts words) i (suc (suc (suc (suc (suc (suc i)))))) (6 + i) (omega arith) (right (suc (suc (suc (suc (suc (suc i)))))) (omega arith))) in
      rw (← line.says_it) (rw is (
        line.words_are ∙ then w0 (then w1.0 (then w2.0 (then w3.0 (then w4.0 (then w5.0 creds.0))))),
        record { pid = w1.1; tgid = w2.1; pgid = w3.1; cpu = w4.1; policy = w5.1; creds = creds.1 },
        record { first = λ e. refl; few = zero-le; second = λ e. absurd (both_ways (eqb version 2) is e) },
      ))

  pub task_is : (version : ℕ) (words : List Word) (task : TaskLine) → read_in ((task_form version siblings, task_value version users) ∷ []) (parts words) ≡ Ok task → Is version words task
  task_is version words task e = task_by version (eqb version 2) refl words task e

module _ (siblings : ℕ) (few : siblings < 256) (users : List Creds) (task : TaskLine) (is : IsTask siblings task.spec) where
  abbrev Again : ℕ → Type 0
  Again version = read_in ((task_form version siblings, task_value version users) ∷ []) (parts (task_line_words version task)) ≡ Ok task

  again_by : (version : ℕ) (second : Bool) → eqb version 2 ≡ second → HasOwner version users task → Again version
  again_by version true two has =
      let spec = task.spec in
      let pid = number_again 1 9999 spec.pid (omega arith) is.pid in
      let tgid = number_again 1 9999 spec.tgid (omega arith) is.tgid in
      let pgid = number_again 1 9999 spec.pgid (omega arith) is.pgid in
      let cpu = cpu_again siblings spec.cpu few is.cpu in
      let policy = policy_again spec.policy is.policy in
      let user = number_again 0 255 task.user (omega arith) (zero-le, has.few) in
      rw (
        two,
        policy.shape,
        pid.right,
        tgid.right,
        pgid.right,
        cpu.right,
        policy.right,
        user.right,
        pid.same,
        tgid.same,
        pgid.same,
        cpu.same,
        policy.same,
        user.same,
        sym (has.second two),
      ) refl
  again_by version false one has =
      let spec = task.spec in
      let creds = spec.creds in
      let pid = number_again 1 9999 spec.pid (omega arith) is.pid in
      let tgid = number_again 1 9999 spec.tgid (omega arith) is.tgid in
      let pgid = number_again 1 9999 spec.pgid (omega arith) is.pgid in
      let cpu = cpu_again siblings spec.cpu few is.cpu in
      let policy = policy_again spec.policy is.policy in
      let ruid = number_again 0 65535 creds.ruid (omega arith) (zero-le, is.creds.ruid) in
      let euid = number_again 0 65535 creds.euid (omega arith) (zero-le, is.creds.euid) in
      let suid = number_again 0 65535 creds.suid (omega arith) (zero-le, is.creds.suid) in
      let rgid = number_again 0 65535 creds.rgid (omega arith) (zero-le, is.creds.rgid) in
      let egid = number_again 0 65535 creds.egid (omega arith) (zero-le, is.creds.egid) in
      let sgid = number_again 0 65535 creds.sgid (omega arith) (zero-le, is.creds.sgid) in
      let cap = flag_again creds.cap in
      let mm = flag_again creds.mm in
      let dumpable = flag_again creds.dumpable in
      rw (
        one,
        policy.shape,
        pid.right,
        tgid.right,
        pgid.right,
        cpu.right,
        policy.right,
        ruid.right,
        euid.right,
        suid.right,
        rgid.right,
        egid.right,
        sgid.right,
        cap.right,
        mm.right,
        dumpable.right,
        pid.same,
        tgid.same,
        pgid.same,
        cpu.same,
        policy.same,
        ruid.same,
        euid.same,
        suid.same,
        rgid.same,
        egid.same,
        sgid.same,
        cap.same,
        mm.same,
        dumpable.same,
        sym (has.first one),
      ) refl

  pub task_again : (version : ℕ) → HasOwner version users task → Again version
  task_again version has = again_by version (eqb version 2) refl has

-- ---- teach lines

pub teach_is : (number : ℕ) (words : List Word) (teach : Teach) → read_in ((teach_form, teach_value number) ∷ []) (parts words) ≡ Ok teach → (words ≡ teach_words teach) × IsTeach teach × (teach.line ≡ number)
teach_is number words teach e =
    let line = line_is teach_form (teach_value number) words teach e in
    let right = righted_at teach_form (parts words) line.right in
    let w0 = word_is _ (codes "teach") (right 0 (omega arith)) in
    let w1 = number_is 0 15 _ (omega arith) (right 1 (omega arith)) in
    let w2 = number_is 0 65535 _ (omega arith) (right 2 (omega arith)) in
    let w3 = number_is 0 65535 _ (omega arith) (right 3 (omega arith)) in
    rw (← line.says_it) (line.words_are ∙ then w0 (then w1.0 (then w2.0 (then w3.0 (refl)))), record { guard = w1.1.1; from = w2.1.1; to = w3.1.1 }, refl)

pub teach_again : (teach : Teach) → IsTeach teach → read_in ((teach_form, teach_value teach.line) ∷ []) (parts (teach_words teach)) ≡ Ok teach
teach_again teach is =
    let guard = number_again 0 15 teach.guard (omega arith) (zero-le, is.guard) in
    let from = number_again 0 65535 teach.from (omega arith) (zero-le, is.from) in
    let to = number_again 0 65535 teach.to (omega arith) (zero-le, is.to) in
    rw (guard.right, guard.same, from.right, from.same, to.right, to.same) refl
