-- Faults: what is wrong with a line, by the lines before it, and which line of a text is the first bad one.
use Rattle.std.specs.Prelude.{◌≡◌, ℕ, ◌-◌, ◌<◌, ◌≤◌, Bool, true, false, ◌&&◌, ◌||◌, ◌==◌, not, nat_le, nat_lt, if◌then◌else◌, List, [], ◌∷◌, ◌++◌, length, filter, map, take, drop, codes, Option, Some, None, slice_index_or}
use Rattle.std.specs.List.{slice_split, list_any}
use Rattle.scenario_text.specs.declared.fault.BadKind.{BadKind}
use Rattle.scenario_text.specs.declared.fault.BadKind.TheVariants.{Cut, After, Shape, Number, Twice, Leader, Full, User}
use Rattle.scenario_text.specs.Words.{Word}
use Rattle.scenario_text.specs.Grammar.{is_word, value, Form, has_shape, is_right, version_forms, siblings_form, limits_form, user_form, task_form, teach_form, end_form, step_forms}

-- ---- lines, each as its words

-- what stands before, between and after the separators
unfoldable pub pieces : ℕ → List ℕ → List (List ℕ)
pieces separator bytes = slice_split (λ byte. byte == separator) bytes

-- the words of a line, which its spaces separate
unfoldable pub words_in : List ℕ → List Word
words_in line = pieces 32 line

-- the lines of a text; the last is what stands after the last line feed
unfoldable pub lines_in : List ℕ → List (List Word)
lines_in text = map words_in (pieces 10 text)

-- the word at a place of a line, from 0
abbrev pub word_at : ℕ → List Word → Word
word_at place line = slice_index_or line place []

-- whether the first word of a line is this one
abbrev pub is_named : Word → List Word → Bool
is_named name line = is_word (word_at 0 line) name

-- the lines whose first word is this one
abbrev pub named : Word → List (List Word) → List (List Word)
named name lines = filter (is_named name) lines

-- whether there is such a line
abbrev pub has_named : Word → List (List Word) → Bool
has_named name lines = list_any (is_named name) lines

-- ---- Shape: the line has none of the forms that may stand in its place

-- The forms that may come after these lines: first the three of the head, in their order; then users, in version 2,
-- before tasks, these before teach lines, and these before steps, in a core with as many siblings as the second line says.
abbrev pub forms_after : List (List Word) → List Form
forms_after [] = version_forms
forms_after (version ∷ []) = siblings_form (value (word_at 1 version)) ∷ []
forms_after (version ∷ siblings ∷ []) = limits_form ∷ []
forms_after (version ∷ siblings ∷ limits ∷ before) =
    (if not (value (word_at 1 version) == 2) || has_named (codes "task") before || has_named (codes "teach") before || has_named (codes "step") before
    then []
    else user_form ∷ [])
    ++ (if has_named (codes "teach") before || has_named (codes "step") before
    then []
    else task_form (value (word_at 1 version)) (value (word_at 1 siblings)) ∷ [])
    ++ (if has_named (codes "step") before then [] else teach_form ∷ [])
    ++ end_form ∷ step_forms (value (word_at 1 siblings))

-- no word of the line is empty, and one of the forms has its shape
abbrev pub has_form : List Form → List Word → Bool
has_form forms line = not (list_any (λ word. length word == 0) line) && list_any (λ form. has_shape form line) forms

-- ---- Number: a word is not right in the form that the line has

-- each word is right in the first form that has the line's shape
unfoldable pub is_right_in : List Form → List Word → Bool
is_right_in [] line = true
is_right_in (form ∷ forms) line = if has_shape form line then is_right form line else is_right_in forms line

-- ---- Twice, Leader, Full and User: the line does not go with those before it

-- whether the two lines have the same word at these places
abbrev pub same_word : ℕ → List Word → ℕ → List Word → Bool
same_word place line place' line' = is_word (word_at place line) (word_at place' line')

-- an earlier task line has the pid of this one
abbrev pub is_twice : List (List Word) → List Word → Bool
is_twice before line = is_named (codes "task") line && list_any (λ task. same_word 1 task 1 line) (named (codes "task") before)

-- The task leads its own thread group, or an earlier one leads it, which leads its own and has the same process group.
abbrev pub is_led : List (List Word) → List Word → Bool
is_led tasks line =
    same_word 2 line 1 line
    || list_any (λ leader. same_word 1 leader 2 line && same_word 2 leader 1 leader && same_word 3 leader 3 line) tasks

-- a task line whose thread group has no leader
abbrev pub is_unled : List (List Word) → List Word → Bool
is_unled before line = is_named (codes "task") line && not (is_led (named (codes "task") before) line)

-- the line is of this name, and as many lines of the name as there may be stand before it
abbrev pub is_past : Word → ℕ → List (List Word) → List Word → Bool
is_past name most before line = is_named name line && nat_le most (length (named name before))

-- the tasks are as many as the first number of the third line, or there are 64 teach lines or 100000 steps
abbrev pub is_full : List (List Word) → List Word → Bool
is_full before line =
    is_past (codes "task") (value (word_at 1 (slice_index_or before 2 []))) before line
    || is_past (codes "teach") 64 before line
    || is_past (codes "step") 100000 before line

-- whether two user lines have the same nine values
abbrev pub same_values : List Word → List Word → Bool
same_values user other =
    same_word 2 user 2 other && same_word 3 user 3 other && same_word 4 user 4 other
    && same_word 5 user 5 other && same_word 6 user 6 other && same_word 7 user 7 other
    && same_word 8 user 8 other && same_word 9 user 9 other && same_word 10 user 10 other

-- whether a task line of version 2 names the user of a user line
abbrev pub names : List Word → List Word → Bool
names task user = same_word 6 task 1 user

-- those of these user lines whose users some of the task lines name
abbrev pub users_named : List (List Word) → List (List Word) → List (List Word)
users_named tasks users = filter (λ user. list_any (λ task. names task user) tasks) users

-- a user line whose number is not the number of those before it, or whose nine values one of these has
abbrev pub is_other_user : List (List Word) → List Word → Bool
is_other_user users line = not (value (word_at 1 line) == length users) || list_any (same_values line) users

-- a task line that names no user, or one too early: users come in the order in which the tasks first name them
abbrev pub is_early_user : List (List Word) → List (List Word) → List Word → Bool
is_early_user tasks users line =
    not (list_any (names line) users) || nat_lt (length (users_named tasks users)) (value (word_at 6 line))

-- a line after those of the tasks, while some user is named by none of them
abbrev pub is_unnamed_user : List (List Word) → List (List Word) → Bool
is_unnamed_user tasks users = nat_lt (length (users_named tasks users)) (length users)

-- whether the text has version 2
abbrev pub has_users : List (List Word) → Bool
has_users before = value (word_at 1 (slice_index_or before 0 [])) == 2

-- the line breaks one of the rules of users, which version 2 has
abbrev pub is_wrong_user : List (List Word) → List Word → Bool
is_wrong_user before line =
    let tasks = named (codes "task") before in
    let users = named (codes "user") before in
    has_users before
    && (if is_named (codes "user") line
    then is_other_user users line
    else (if is_named (codes "task") line
    then is_early_user tasks users line
    else is_unnamed_user tasks users))

-- ---- the first bad line

-- whether the line `end` is one of these
abbrev pub has_end : List (List Word) → Bool
has_end lines = list_any (has_shape end_form) lines

-- the first kind that holds, of kinds with whether each of them does
abbrev pub first_held : List (Bool × BadKind) → Option BadKind
first_held [] = None
first_held (kind ∷ kinds) = if kind.0 then Some kind.1 else first_held kinds

-- What is wrong with a line, between those before it and those after it. A line is ended if another comes after it.
abbrev pub line_kind : List (List Word) → List Word → List (List Word) → Option BadKind
line_kind before line later =
    first_held (
    (has_end before, After)
    ∷ (length later == 0, Cut)
    ∷ (not (has_form (forms_after before) line), Shape)
    ∷ (not (is_right_in (forms_after before) line), Number)
    ∷ (is_twice before line, Twice)
    ∷ (is_unled before line, Leader)
    ∷ (is_full before line, Full)
    ∷ (is_wrong_user before line, User)
    ∷ []
    )

-- what is left of a text is nothing: no byte stands after the last line feed
abbrev pub is_nothing : List (List Word) → Bool
is_nothing (([] ∷ []) ∷ []) = true
is_nothing lines = false

-- the same for the first line of what is left; if that is nothing, the line `end` has to be before it
abbrev pub kind_of : List (List Word) → List (List Word) → Option BadKind
kind_of before [] = None
kind_of before (line ∷ later) = if has_end before && is_nothing (line ∷ later) then None else line_kind before line later

-- what is wrong with the line of this number of a text, from 1
abbrev pub kind_at : List (List Word) → ℕ → Option BadKind
kind_at lines number = kind_of (take (number - 1) lines) (drop (number - 1) lines)

-- of the line of this number the kind is the first that holds, and none holds of a line before it
pub record IsFirstBad (lines : List (List Word)) (number : ℕ) (kind : BadKind) : Type 0 where
  pub is_line : 1 ≤ number
  pub here : kind_at lines number ≡ Some kind
  pub earlier : (before : ℕ) → 1 ≤ before → before < number → kind_at lines before ≡ None
