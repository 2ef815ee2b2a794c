-- TaskLines: a user line or a task line, of which the last words are read first. With a word that is not right it is refused,
-- whichever word it is.
use Rattle.std.proofs.Common.{◌≡◌, ◌≢◌, ◌∙◌, ℕ, zero, suc, ◌+◌, ◌≤◌, ◌<◌, Bool, true, false, ltb, eqb, cond, inl, inr, ◌-◌, List, [], ◌∷◌, length, get_or, Ok, Err, refl, sym, ap, subst, arith}
use Rattle.std.specs.Prelude.{◌&&◌, codes, MatchResult}
use Rattle.std.proofs.lemmas.Bool.{cases_Bool, and_from, and_right, eq-eqb, ne_eqb, eqb-true, ltb-true, cond-true, cond-false}
use Rattle.std.proofs.Math.Bool.{and-false}
use Rattle.cs_types.specs.declared.task.Creds.{Creds}
use Rattle.scenario_text.specs.declared.task.UserLine.{UserLine}
use Rattle.scenario_text.specs.declared.task.TaskLine.{TaskLine}
use Rattle.scenario_text.specs.declared.fault.BadKind.{BadKind}
use Rattle.scenario_text.specs.declared.fault.BadKind.TheVariants.{Shape, Number}
use Rattle.scenario_text.specs.Grammar.{is_word, Form, number, sibling, pid, id, flag, policy, user, creds_form, user_form, owner_form, task_form}
use Rattle.scenario_text.specs.Reading.{Parts, after, Read, shaped, righted, has, read_in, creds_value, user_value, owner_value, task_value}

-- a word that is not right in its field
pub wrong_field : (form : Form) (k j place : ℕ) (words : Parts) → place ≡ k + j → j < length form → (get_or form j (number 0 0)).is_right (words.at place) ≡ false → righted k form words ≡ false
wrong_field [] k j place words at inside wrong = absurd (omega arith)
wrong_field (field ∷ fields) k zero place words at inside wrong =
    let here : k ≡ place = omega (arith, at) in
    ap (λ (b : Bool). b && righted (suc k) fields words) (ap (λ (p : ℕ). field.is_right (words.at p)) here ∙ wrong)
wrong_field (field ∷ fields) k (suc j) place words at inside wrong =
    ap (λ (b : Bool). field.is_right (words.at k) && b) (wrong_field fields (suc k) j place words (omega (arith, at)) (omega arith) wrong) ∙ and-false _

-- a pattern of so many words
pub exactly : (k n : ℕ) → k ≤ n → n < suc k → n ≡ k
exactly k n low high = omega arith

-- a word that was refused is not right in its field
pub refused : {A : Type 0} (result : Read A) (right : Bool) (said : A → Type 0) (kind : BadKind) → MatchResult result (λ x. (right ≡ true) × said x) (λ kind. (right ≡ false) × (kind ≡ Number)) → result ≡ Err kind → right ≡ false
refused (Ok x) right said kind spelled is = absurd cc
refused (Err found) right said kind spelled is = spelled.0

pub wrong_word : {A : Type 0} (form : Form) (says : Parts → A) (words : Parts) (place : ℕ) → has form words ≡ true → ltb place (length form) ≡ true → (get_or form place (number 0 0)).is_right (words.at place) ≡ false → Err Number ≡ read_in ((form, says) ∷ []) words
wrong_word form says words place shape inside wrong =
    sym (cond-true _ _ _ shape ∙ cond-false _ _ _ (wrong_field form 0 place place words (omega arith) (ltb-true place (length form) inside) wrong))

-- one of three words is not right in its field
pub wrong_of_three : {A : Type 0} (form : Form) (says : Parts → A) (words : Parts) (i j k : ℕ) (a b c : Bool) → has form words ≡ true → ltb i (length form) ≡ true → ltb j (length form) ≡ true → ltb k (length form) ≡ true →
    (get_or form i (number 0 0)).is_right (words.at i) ≡ a → (get_or form j (number 0 0)).is_right (words.at j) ≡ b → (get_or form k (number 0 0)).is_right (words.at k) ≡ c →
    a && b && c ≡ false → Err Number ≡ read_in ((form, says) ∷ []) words
wrong_of_three form says words i j k false b c shape at_i at_j at_k first second third wrong = wrong_word form says words i shape at_i first
wrong_of_three form says words i j k true false c shape at_i at_j at_k first second third wrong = wrong_word form says words j shape at_j second
wrong_of_three form says words i j k true true false shape at_i at_j at_k first second third wrong = wrong_word form says words k shape at_k third
wrong_of_three form says words i j k true true true shape at_i at_j at_k first second third wrong = absurd cc

-- a word that was taken is right in its field, and what it says
pub found : {A : Type 0} (result : Read A) (right : Bool) (said : A → Type 0) (x : A) → MatchResult result (λ x. (right ≡ true) × said x) (λ kind. (right ≡ false) × (kind ≡ Number)) → result ≡ Ok x → (right ≡ true) × said x
found result right said x spelled is = subst (λ (r : Read _). MatchResult r (λ x. (right ≡ true) × said x) (λ kind. (right ≡ false) × (kind ≡ Number))) is spelled

-- three words are right, and those after them
three_and : (a b c rest : Bool) → a && b && c ≡ true → rest ≡ true → a && (b && (c && rest)) ≡ true
three_and false b c rest e more = absurd cc
three_and true false c rest e more = absurd cc
three_and true true false rest e more = absurd cc
three_and true true true rest e more = more

-- ---- the words behind the policy

pub creds_shape : (words : Parts) → words.count ≡ 9 → has creds_form words ≡ true
creds_shape words count = and_from _ _ (eq-eqb words.count 9 count) refl

abbrev pub creds_read : Parts → Read Creds
creds_read words = read_in ((creds_form, creds_value) ∷ []) words

pub right_creds : (words : Parts) (creds : Creds) → has creds_form words ≡ true →
    id.is_right (words.at 0) && id.is_right (words.at 1) && id.is_right (words.at 2) ≡ true → id.is_right (words.at 3) && id.is_right (words.at 4) && id.is_right (words.at 5) ≡ true →
    flag.is_right (words.at 6) && flag.is_right (words.at 7) && flag.is_right (words.at 8) ≡ true → creds ≡ creds_value words → Ok creds ≡ creds_read words
right_creds words creds shape users groups flags is =
    let right : righted 0 creds_form words ≡ true =
    three_and (id.is_right (words.at 0)) (id.is_right (words.at 1)) (id.is_right (words.at 2)) _ users
    (three_and (id.is_right (words.at 3)) (id.is_right (words.at 4)) (id.is_right (words.at 5)) _ groups
    (three_and (flag.is_right (words.at 6)) (flag.is_right (words.at 7)) (flag.is_right (words.at 8)) _ flags refl)) in
    ap Ok is ∙ sym (cond-true _ _ _ shape ∙ cond-true _ _ _ right)

abbrev taken : Creds → Read Creds
taken creds = Ok creds

-- words of which these credentials are read
pub record AreCreds (words : Parts) (creds : Creds) : Type 0 where
  pub shape : has creds_form words ≡ true
  pub right : righted 0 creds_form words ≡ true
  pub said : creds ≡ creds_value words

are_creds : (words : Parts) (creds : Creds) (has_it right : Bool) → has creds_form words ≡ has_it → righted 0 creds_form words ≡ right → Ok creds ≡ cond has_it (cond right (taken (creds_value words)) (Err Number)) (Err Shape) → AreCreds words creds
are_creds words creds true true h k e = record { shape = h; right = k; said = cc }
are_creds words creds true false h k e = absurd cc
are_creds words creds false right h k e = absurd cc

pub creds_are : (words : Parts) (creds : Creds) → Ok creds ≡ creds_read words → AreCreds words creds
creds_are words creds e = are_creds words creds (has creds_form words) (righted 0 creds_form words) refl refl e

-- ---- the owner of a task

-- a pattern of no so many words
pub other_count : (n k : ℕ) → n ≢ k → eqb n k ≡ false
other_count n k differs = ne_eqb n k differs

abbrev pub owner_read : ℕ → List Creds → Parts → Read UserLine
owner_read version users words = read_in ((owner_form version, owner_value version users) ∷ []) words

abbrev with_number : Read Creds → Read UserLine
with_number (Ok creds) = Ok (record { number = 0; creds = creds })
with_number (Err kind) = Err kind

-- in version 1 the owner is read as the credentials are
pub first_owner : (version : ℕ) (users : List Creds) (words : Parts) → eqb version 2 ≡ false → owner_read version users words ≡ with_number (creds_read words)
first_owner version users words one =
    rw one (by_tests (has creds_form words) (righted 0 creds_form words)) where
      by_tests : (has_it right : Bool) →
          cond has_it (cond right (Ok (record { number = 0; creds = creds_value words })) (Err Number)) (Err Shape) ≡ with_number (cond has_it (cond right (taken (creds_value words)) (Err Number)) (Err Shape))
      by_tests true true = refl
      by_tests true false = refl
      by_tests false right = refl

abbrev owned : UserLine → Read UserLine
owned user = Ok user

-- words of which this owner is read
pub record IsOwner (version : ℕ) (users : List Creds) (words : Parts) (owner : UserLine) : Type 0 where
  pub shape : has (owner_form version) words ≡ true
  pub right : righted 0 (owner_form version) words ≡ true
  pub said : owner ≡ owner_value version users words

owner_by : (version : ℕ) (users : List Creds) (words : Parts) (owner : UserLine) (has_it right : Bool) → has (owner_form version) words ≡ has_it → righted 0 (owner_form version) words ≡ right →
    Ok owner ≡ cond has_it (cond right (owned (owner_value version users words)) (Err Number)) (Err Shape) → IsOwner version users words owner
owner_by version users words owner true true h k e = record { shape = h; right = k; said = cc }
owner_by version users words owner true false h k e = absurd cc
owner_by version users words owner false right h k e = absurd cc

pub owner_is : (version : ℕ) (users : List Creds) (words : Parts) (owner : UserLine) → Ok owner ≡ owner_read version users words → IsOwner version users words owner
owner_is version users words owner e = owner_by version users words owner (has (owner_form version) words) (righted 0 (owner_form version) words) refl refl e

-- words behind the first ones of a line, and the fields for them
module _ (front : ℕ) where
  same_count : (n k : ℕ) → front ≤ n → eqb n (front + k) ≡ eqb (n - front) k
  same_count n k some = elim (cases_Bool (eqb n (front + k))) [
    | inl is ↦ is ∙ sym (eq-eqb (n - front) k (omega (arith, eqb-true n (front + k) is)))
    | inr differs ↦
        elim (cases_Bool (eqb (n - front) k)) [
          | inl same ↦ let wrong : true ≡ false = sym (eq-eqb n (front + k) (omega (arith, eqb-true (n - front) k same))) ∙ differs in absurd cc
          | inr none ↦ differs ∙ sym none
        ]
  ]

  shaped_more : (k : ℕ) (form : Form) (words : Parts) → shaped (front + k) form words ≡ shaped k form (after front words)
  shaped_more k [] words = refl
  shaped_more k (field ∷ form) words =
      let next : suc (front + k) ≡ front + suc k = omega arith in
      ap (λ (b : Bool). field.has_shape (words.at (front + k)) && b) (ap (λ n. shaped n form words) next ∙ shaped_more (suc k) form words)

  righted_more : (k : ℕ) (form : Form) (words : Parts) → righted (front + k) form words ≡ righted k form (after front words)
  righted_more k [] words = refl
  righted_more k (field ∷ form) words =
      let next : suc (front + k) ≡ front + suc k = omega arith in
      ap (λ (b : Bool). field.is_right (words.at (front + k)) && b) (ap (λ n. righted n form words) next ∙ righted_more (suc k) form words)

-- ---- a whole user line

module _ (words : Parts) (some : 2 ≤ words.count) (name : is_word (words.at 0) (codes "user") ≡ true) where
  -- the line has its shape where nine words stand behind the number
  user_shape : has user_form words ≡ has creds_form (after 2 words)
  user_shape =
      let count : eqb words.count 11 ≡ eqb (words.count - 2) 9 = same_count 2 words.count 9 some in
      let shape : shaped 0 user_form words ≡ shaped 0 creds_form (after 2 words) = rw name refl in
      λ i. count i && shape i

  abbrev again_user : Read Creds → Read UserLine
  again_user (Ok creds) = Err Shape
  again_user (Err kind) = Err kind

  creds_by : (kind : BadKind) (has_it right : Bool) → has creds_form (after 2 words) ≡ has_it → righted 0 creds_form (after 2 words) ≡ right →
      Err kind ≡ cond has_it (cond right (taken (creds_value (after 2 words))) (Err Number)) (Err Shape) → Err kind ≡ read_in ((user_form, user_value) ∷ []) words
  creds_by kind true true h k e = absurd cc
  creds_by kind true false h k e =
      let wrong : righted 0 user_form words ≡ false = and_right (is_word (words.at 0) (codes "user")) _ (and_right (user.is_right (words.at 1)) _ (righted_more 2 0 creds_form words ∙ k)) in
      ap again_user e ∙ sym (cond-true _ _ _ (user_shape ∙ h) ∙ cond-false _ _ _ wrong)
  creds_by kind false right h k e = ap again_user e ∙ sym (cond-false _ _ _ (user_shape ∙ h))

  -- credentials that are refused
  pub creds_refused : (kind : BadKind) → Err kind ≡ creds_read (after 2 words) → Err kind ≡ read_in ((user_form, user_value) ∷ []) words
  creds_refused kind e = creds_by kind (has creds_form (after 2 words)) (righted 0 creds_form (after 2 words)) refl refl e

  -- a number that is refused
  pub number_refused : (creds : Creds) → AreCreds (after 2 words) creds → user.is_right (words.at 1) ≡ false → Err Number ≡ read_in ((user_form, user_value) ∷ []) words
  number_refused creds are wrong = wrong_word user_form user_value words 1 (user_shape ∙ are.shape) refl wrong

  pub right_user : (line : UserLine) (creds : Creds) → AreCreds (after 2 words) creds → user.is_right (words.at 1) ≡ true → line ≡ user_value words → Ok line ≡ read_in ((user_form, user_value) ∷ []) words
  right_user line creds are number is =
      let right : righted 0 user_form words ≡ true = and_from _ _ name (and_from _ _ number (righted_more 2 0 creds_form words ∙ are.right)) in
      ap Ok is ∙ sym (cond-true _ _ _ (user_shape ∙ are.shape) ∙ cond-true _ _ _ right)

-- ---- a whole task line

-- how many words an owner has
abbrev owner_length : ℕ → ℕ
owner_length version = length (owner_form version)

module _ (version siblings : ℕ) (users : List Creds) (words : Parts) (some : 6 ≤ words.count) (name : is_word (words.at 0) (codes "task") ≡ true) (policed : policy.has_shape (words.at 5) ≡ true) where
  -- the line has its shape where the words behind the policy have theirs
  pub task_shape : has (task_form version siblings) words ≡ has (owner_form version) (after 6 words)
  task_shape =
      let count : eqb words.count (length (task_form version siblings)) ≡ eqb (words.count - 6) (owner_length version) =
      ap (eqb words.count) (omega arith) ∙ same_count 6 words.count (owner_length version) some in
      let shape : shaped 0 (task_form version siblings) words ≡ shaped 0 (owner_form version) (after 6 words) = rw (name, policed) (shaped_more 6 0 (owner_form version) words) in
      λ i. count i && shape i

  abbrev again : Read UserLine → Read TaskLine
  again (Ok owner) = Err Shape
  again (Err kind) = Err kind

  are_refused : (kind : BadKind) (has_it right : Bool) → has (owner_form version) (after 6 words) ≡ has_it → righted 0 (owner_form version) (after 6 words) ≡ right →
      Err kind ≡ cond has_it (cond right (owned (owner_value version users (after 6 words))) (Err Number)) (Err Shape) → Err kind ≡ read_in ((task_form version siblings, task_value version users) ∷ []) words
  are_refused kind true true h k e = absurd cc
  are_refused kind true false h k e =
      let wrong : righted 0 (task_form version siblings) words ≡ false = and_right (is_word (words.at 0) (codes "task")) _ (and_right (pid.is_right (words.at 1)) _ (and_right (pid.is_right (words.at 2)) _ (and_right (pid.is_right (words.at 3)) _ (and_right ((sibling siblings).is_right (words.at 4)) _ (and_right (policy.is_right (words.at 5)) _ (righted_more 6 0 (owner_form version) words ∙ k)))))) in
      ap again e ∙ sym (cond-true _ _ _ (task_shape ∙ h) ∙ cond-false _ _ _ wrong)
  are_refused kind false right h k e = ap again e ∙ sym (cond-false _ _ _ (task_shape ∙ h))

  -- an owner that is refused
  pub owner_refused : (kind : BadKind) → Err kind ≡ owner_read version users (after 6 words) → Err kind ≡ read_in ((task_form version siblings, task_value version users) ∷ []) words
  owner_refused kind e = are_refused kind (has (owner_form version) (after 6 words)) (righted 0 (owner_form version) (after 6 words)) refl refl e

  pub right_task : (task : TaskLine) (owner : UserLine) → IsOwner version users (after 6 words) owner →
      pid.is_right (words.at 1) && pid.is_right (words.at 2) && pid.is_right (words.at 3) ≡ true → (sibling siblings).is_right (words.at 4) ≡ true → policy.is_right (words.at 5) ≡ true →
      task ≡ task_value version users words → Ok task ≡ read_in ((task_form version siblings, task_value version users) ∷ []) words
  right_task task owner owns pids cpu said is =
      let right : righted 0 (task_form version siblings) words ≡ true =
      and_from _ _ name (three_and (pid.is_right (words.at 1)) (pid.is_right (words.at 2)) (pid.is_right (words.at 3)) _ pids (and_from _ _ cpu (and_from _ _ said (righted_more 6 0 (owner_form version) words ∙ owns.right)))) in
      ap Ok is ∙ sym (cond-true _ _ _ (task_shape ∙ owns.shape) ∙ cond-true _ _ _ right)
