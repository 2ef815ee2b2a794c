-- Forms: what is read from a line after the head is spelled by its words, and what is spelled so is read.
use Rattle.std.proofs.Common.{◌≡◌, ℕ, ◌≤◌, ◌<◌, Bool, true, false, cond, eqb, List, [], ◌∷◌, length, Ok, Err, refl, sym, subst, arith}
use Rattle.std.specs.Borrow.{Bor}
use Rattle.std.specs.Prelude.{◌||◌, not, codes, All}
use Rattle.std.proofs.lemmas.Bool.{eqb-true, or_parts, not-false}
use Rattle.cs_types.specs.declared.task.Creds.{Creds}
use Rattle.cs_types.specs.Scenario.{AreCreds, IsTask, IsTeach, IsStep}
use Rattle.scenario_text.specs.declared.fault.BadKind.TheVariants.{Shape}
use Rattle.scenario_text.specs.declared.task.TaskLine.{TaskLine}
use Rattle.scenario_text.specs.declared.line.Place.{Place}
use Rattle.scenario_text.specs.declared.line.ScenarioLine.{ScenarioLine}
use Rattle.scenario_text.specs.declared.line.ScenarioLine.TheVariants as forms
use Rattle.scenario_text.specs.Words.{Word, user_words, user_task_words, task_words, teach_words}
use Rattle.scenario_text.specs.Text.{step_words, end_words}
use Rattle.scenario_text.specs.Grammar.{is_word, user_form, task_form, teach_form}
use Rattle.scenario_text.specs.Reading.{◌>>=◌, parts, lent, Read, read_in, user_value, task_value, teach_value, step_line, line_of}
use Rattle.scenario_text.proofs.Fields.{word_is}
use Rattle.scenario_text.proofs.Tasks.{task_line_words, HasOwner, user_is, user_again, task_is, task_again, teach_is, teach_again}
use Rattle.scenario_text.proofs.Steps.{step_is, step_again}

-- the words of a line
abbrev pub line_words : ℕ → ScenarioLine → List Word
line_words version (forms.User user) = user_words user.number user.creds
line_words version (forms.Task task) = task_line_words version task
line_words version (forms.Teach teach) = teach_words teach
line_words version (forms.Step step) = step_words step
line_words version forms.End = end_words

-- no line of a task, a teach line or a step stands before a user line
pub record IsFirst (version : ℕ) (place : Place) : Type 0 where
  pub second : eqb version 2 ≡ true
  pub no_task : place.is_after_task ≡ false
  pub no_teach : place.is_after_teach ≡ false
  pub no_step : place.is_after_step ≡ false

-- a line that may stand at this place, in a text of this version, beside these users and in a core of so many siblings
abbrev pub IsLine : ℕ → ℕ → List Creds → Place → ScenarioLine → Type 0
IsLine version siblings users place (forms.User user) = (user.number ≤ 255) × AreCreds user.creds × IsFirst version place
IsLine version siblings users place (forms.Task task) =
    IsTask siblings task.spec × HasOwner version users task × (place.is_after_teach ≡ false) × (place.is_after_step ≡ false)
IsLine version siblings users place (forms.Teach teach) = IsTeach teach × (teach.line ≡ place.number) × (place.is_after_step ≡ false)
IsLine version siblings users place (forms.Step step) = IsStep siblings step
IsLine version siblings users place forms.End = Unit {0}

-- a line of no words has no form
pub empty_line : (version siblings : ℕ) (users : List Creds) (place : Place) (words : List (Bor Word)) → length words < 1 → Err Shape ≡ line_of version siblings users place (lent words)
unfolding line_of
empty_line version siblings users place [] none = refl
empty_line version siblings users place (word ∷ words) none = absurd (omega arith)

-- what is read after another reading
bound : {A B : Type 0} (r : Read A) (f : A → B) (y : B) → (r >>= λ x. Ok (f x)) ≡ Ok y → (x : A) × (r ≡ Ok x) × (f x ≡ y)
bound (Ok x) f y e = (x, refl, cc)
bound (Err kind) f y e = absurd cc

four_parts : (a b c d : Bool) → ((a || b) || c || d) ≡ false → (a ≡ false) × (b ≡ false) × (c ≡ false) × (d ≡ false)
four_parts false false false false e = (refl, refl, refl, refl)
four_parts true b c d e = absurd cc
four_parts false true c d e = absurd cc
four_parts false false true d e = absurd cc
four_parts false false false true e = absurd cc

module _ (version siblings : ℕ) (some : 1 ≤ siblings) (few : siblings < 256) (users : List Creds) (are : All AreCreds users) (place : Place) where
  -- a line that is spelled by these words
  abbrev Says : List Word → ScenarioLine → Type 0
  Says words line = (words ≡ line_words version line) × IsLine version siblings users place line

  abbrev late_user : Bool
  late_user = not (eqb version 2) || place.is_after_task || place.is_after_teach || place.is_after_step

  user_says : (words : List Word) (line : ScenarioLine) (late : Bool) → late_user ≡ late → cond late (Err Shape) (read_in ((user_form, user_value) ∷ []) (parts words) >>= λ user. Ok (forms.User user)) ≡ Ok line → Says words line
  user_says words line true h e = absurd cc
  user_says words line false h e =
      let read = bound (read_in ((user_form, user_value) ∷ []) (parts words)) forms.User line e in
      let is = user_is words read.0 read.1 in
      let early = four_parts (not (eqb version 2)) place.is_after_task place.is_after_teach place.is_after_step h in
      rw (← read.2) (is.0, (is.1, is.2, record { second = not-false _ early.0; no_task = early.1; no_teach = early.2; no_step = early.3 }))

  task_says : (words : List Word) (line : ScenarioLine) (late : Bool) → (place.is_after_teach || place.is_after_step) ≡ late →
      cond late (Err Shape) (read_in ((task_form version siblings, task_value version users) ∷ []) (parts words) >>= λ task. Ok (forms.Task task)) ≡ Ok line → Says words line
  task_says words line true h e = absurd cc
  task_says words line false h e =
      let read = bound (read_in ((task_form version siblings, task_value version users) ∷ []) (parts words)) forms.Task line e in
      let is = task_is siblings some few users are version words read.0 read.1 in
      let early = or_parts place.is_after_teach place.is_after_step h in
      rw (← read.2) (is.0, (is.1, is.2, early.0, early.1))

  teach_says : (words : List Word) (line : ScenarioLine) (late : Bool) → place.is_after_step ≡ late → cond late (Err Shape) (read_in ((teach_form, teach_value place.number) ∷ []) (parts words) >>= λ teach. Ok (forms.Teach teach)) ≡ Ok line → Says words line
  teach_says words line true h e = absurd cc
  teach_says words line false h e =
      let read = bound (read_in ((teach_form, teach_value place.number) ∷ []) (parts words)) forms.Teach line e in
      let is = teach_is place.number words read.0 read.1 in
      rw (← read.2) (is.0, (is.1, is.2, h))

  step_says : (rest : List Word) (line : ScenarioLine) → (step_line siblings (parts (codes "step" ∷ rest)) >>= λ step. Ok (forms.Step step)) ≡ Ok line → Says (codes "step" ∷ rest) line
  step_says rest line e =
      let read = bound (step_line siblings (parts (codes "step" ∷ rest))) forms.Step line e in
      let is = step_is siblings rest read.0 some few read.1 in
      rw (← read.2) is

  end_says : (rest : List Word) (line : ScenarioLine) (alone : Bool) → eqb (length (codes "end" ∷ rest)) 1 ≡ alone → cond alone (Ok forms.End) (Err Shape) ≡ Ok line → Says (codes "end" ∷ rest) line
  end_says [] line true h e = let same : forms.End ≡ line = cc in rw (← same) (refl, tt)
  end_says (word ∷ rest) line true h e = let one = eqb-true _ _ h in absurd (omega arith)
  end_says rest line false h e = absurd cc

  -- the same of a name that is known
  known : (name word : Word) (rest : List Word) (line : ScenarioLine) → is_word name word ≡ true → line_of version siblings users place (parts (name ∷ rest)) ≡ Ok line →
      (line_of version siblings users place (parts (word ∷ rest)) ≡ Ok line → Says (word ∷ rest) line) → Says (name ∷ rest) line
  known name word rest line h e says =
      let same = word_is name word h in
      subst (λ (w : Word). Says (w ∷ rest) line) (sym same) (says (subst (λ (w : Word). line_of version siblings users place (parts (w ∷ rest)) ≡ Ok line) same e))

  named : (name : Word) (rest : List Word) (line : ScenarioLine) (is0 is1 is2 is3 is4 : Bool) → is_word name (codes "task") ≡ is0 → is_word name (codes "teach") ≡ is1 → is_word name (codes "step") ≡ is2 → is_word name (codes "user") ≡ is3 → is_word name (codes "end") ≡ is4 →
      line_of version siblings users place (parts (name ∷ rest)) ≡ Ok line → Says (name ∷ rest) line
  unfolding line_of
  named name rest line true is1 is2 is3 is4 h0 h1 h2 h3 h4 e =
      known name (codes "task") rest line h0 e (task_says (codes "task" ∷ rest) line (place.is_after_teach || place.is_after_step) refl)
  named name rest line false true is2 is3 is4 h0 h1 h2 h3 h4 e =
      known name (codes "teach") rest line h1 e (teach_says (codes "teach" ∷ rest) line place.is_after_step refl)
  named name rest line false false true is3 is4 h0 h1 h2 h3 h4 e =
      known name (codes "step") rest line h2 e (step_says rest line)
  named name rest line false false false true is4 h0 h1 h2 h3 h4 e =
      known name (codes "user") rest line h3 e (user_says (codes "user" ∷ rest) line late_user refl)
  named name rest line false false false false true h0 h1 h2 h3 h4 e =
      known name (codes "end") rest line h4 e (end_says rest line (eqb (length (codes "end" ∷ rest)) 1) refl)
  named name rest line false false false false false h0 h1 h2 h3 h4 e = let wrong = rw (h0, h1, h2, h3, h4) at e in absurd cc

  pub line_is : (words : List Word) (line : ScenarioLine) → line_of version siblings users place (parts words) ≡ Ok line → Says words line
  unfolding line_of
  line_is [] line e = absurd cc
  line_is (name ∷ rest) line e =
      named name rest line (is_word name (codes "task")) (is_word name (codes "teach")) (is_word name (codes "step")) (is_word name (codes "user")) (is_word name (codes "end")) refl refl refl refl refl e

-- ---- what is spelled so is read

module _ (version siblings : ℕ) (users : List Creds) (place : Place) (small : siblings < 256) where
  abbrev Again : ScenarioLine → Type 0
  Again line = line_of version siblings users place (parts (line_words version line)) ≡ Ok line

  -- a task line of either version has the name of one
  task_line_again : (task : TaskLine) (second : Bool) → eqb version 2 ≡ second → IsLine version siblings users place (forms.Task task) → Again (forms.Task task)
  unfolding line_of
  task_line_again task true two is =
      let again = subst (λ (b : Bool). read_in ((task_form version siblings, task_value version users) ∷ []) (parts (cond b (user_task_words task.user task.spec) (task_words task.spec))) ≡ Ok task) two
      (task_again siblings small users task is.0 version is.1) in
      subst (λ (b : Bool). line_of version siblings users place (parts (cond b (user_task_words task.user task.spec) (task_words task.spec))) ≡ Ok (forms.Task task)) (sym two)
      (rw (is.2, is.3, again) refl)
  task_line_again task false one is =
      let again = subst (λ (b : Bool). read_in ((task_form version siblings, task_value version users) ∷ []) (parts (cond b (user_task_words task.user task.spec) (task_words task.spec))) ≡ Ok task) one
      (task_again siblings small users task is.0 version is.1) in
      subst (λ (b : Bool). line_of version siblings users place (parts (cond b (user_task_words task.user task.spec) (task_words task.spec))) ≡ Ok (forms.Task task)) (sym one)
      (rw (is.2, is.3, again) refl)

  pub line_again : (line : ScenarioLine) → IsLine version siblings users place line → Again line
  unfolding line_of
  line_again (forms.User user) is =
      rw (is.2.second, is.2.no_task, is.2.no_teach, is.2.no_step, user_again user is.0 is.1) refl
  line_again (forms.Task task) is = task_line_again task (eqb version 2) refl is
  line_again (forms.Teach teach) is = rw (is.2, sym is.1, teach_again teach is.0) refl
  line_again (forms.Step step) is = rw (step_again siblings step.actor step.event small is) refl
  line_again forms.End is = refl
