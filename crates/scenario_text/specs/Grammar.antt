-- Grammar: the forms that a line of a scenario can have. A form is a list of fields, one for each word of the line.
use Rattle.std.specs.Prelude.{ℕ, ◌-◌, Bool, true, false, ◌&&◌, ◌||◌, ◌==◌, not, nat_le, if◌then◌else◌, List, [], ◌∷◌, ◌++◌, length, take, drop, slice_index, codes, map}
use Rattle.std.specs.Char.{is_ascii_digit}
use Rattle.std.specs.Str.{all_ascii_digits, bytes_eq}
use Rattle.std.specs.Str.Parse.{digits_value}
use Rattle.cs_types.specs.Scenario.{most_siblings}
use Rattle.scenario_text.specs.Words.{Word}

-- ---- words

-- whether the word is this keyword
abbrev pub is_word : Word → Word → Bool
is_word word keyword = bytes_eq word keyword

-- whether the word begins with this mark
abbrev pub begins : Word → Word → Bool
begins word mark = bytes_eq (take (length mark) word) mark

-- what stands after the mark
abbrev pub behind : Word → Word → Word
behind mark word = drop (length mark) word

-- whether the word begins with a digit, and with 0 only if it is `0`
abbrev pub is_canonical : Word → Bool
is_canonical word = is_ascii_digit (slice_index word 0) && ((length word == 1) || not (slice_index word 0 == 48))

-- the number that a word of digits spells
abbrev pub value : Word → ℕ
value word = digits_value 10 word

-- whether the word is the canonical decimal of a number from low to high
unfoldable pub is_number : ℕ → ℕ → Word → Bool
is_number low high word = is_canonical word && all_ascii_digits word && nat_le low (value word) && nat_le (value word) high

-- whether the word begins with `-`
abbrev pub has_minus : Word → Bool
has_minus word = slice_index word 0 == 45

-- whether the word is the canonical decimal of a number from -below to above
unfoldable pub is_signed : ℕ → ℕ → Word → Bool
is_signed below above word = if has_minus word then is_number 1 below (drop 1 word) else is_number 0 above word

-- ---- fields

-- What may stand in the place of a word: words of some shape, of which some are right.
pub record Field : Type 0 where
  pub has_shape : Word → Bool
  pub is_right : Word → Bool

-- this word alone
abbrev pub keyword : Word → Field
keyword name = record { has_shape = λ word. is_word word name; is_right = λ word. is_word word name }

-- a number from low to high; any word has its shape
abbrev pub number : ℕ → ℕ → Field
number low high = record { has_shape = λ word. true; is_right = is_number low high }

-- a number from -below to above
abbrev pub signed : ℕ → ℕ → Field
signed below above = record { has_shape = λ word. true; is_right = is_signed below above }

-- a mark, and after it what the field takes
abbrev pub marked : Word → Field → Field
marked mark field =
    record {
      has_shape = λ word. begins word mark && field.has_shape (behind mark word);
      is_right = λ word. begins word mark && field.is_right (behind mark word);
    }

-- what the first of these fields takes whose shape the word has
abbrev pub one_of : List Field → Field
one_of [] = record { has_shape = λ word. false; is_right = λ word. false }
one_of (field ∷ fields) =
    record {
      has_shape = λ word. field.has_shape word || (one_of fields).has_shape word;
      is_right = λ word. if field.has_shape word then field.is_right word else (one_of fields).is_right word;
    }

-- 1 for yes, 0 for no
abbrev pub flag : Field
flag = number 0 1

-- one of the siblings of a core with this number of them
abbrev pub sibling : ℕ → Field
sibling siblings = number 0 (siblings - 1)

-- the pid of a task line
abbrev pub pid : Field
pid = number 1 9999

-- the pid that a caller names, of a task or of none
abbrev pub named_pid : Field
named_pid = number 1 999999

-- numbers of 32 bits, without a sign and with one, and of 64 bits
abbrev pub u32 : Field
u32 = number 0 4294967295

abbrev pub i32 : Field
i32 = signed 2147483648 2147483647

abbrev pub u64 : Field
u64 = number 0 18446744073709551615

-- a user or a group
abbrev pub id : Field
id = number 0 65535

-- a guard
abbrev pub guard : Field
guard = number 0 15

-- the number of a user, the credentials that tasks of version 2 share
abbrev pub user : Field
user = number 0 255

-- what a child is
abbrev pub child : Field
child = one_of (keyword (codes "thread") ∷ keyword (codes "process") ∷ [])

-- `stop`, or a policy's name, a colon, and its number: a relative deadline in ns, a priority or a nice value
abbrev pub policy : Field
policy =
    one_of (
    keyword (codes "stop")
    ∷ marked (codes "dl:") (number 1 1000000000)
    ∷ marked (codes "fifo:") (number 1 99)
    ∷ marked (codes "rr:") (number 1 99)
    ∷ marked (codes "fair:") (signed 20 19)
    ∷ []
    )

-- ---- forms

abbrev pub Form : Type 0
Form = List Field

-- whether a line has as many words as the form has fields, each of the shape of its field
unfoldable pub has_shape : Form → List Word → Bool
has_shape [] [] = true
has_shape [] (word ∷ words) = false
has_shape (field ∷ fields) [] = false
has_shape (field ∷ fields) (word ∷ words) = field.has_shape word && has_shape fields words

-- whether each word of a line of that shape is right
unfoldable pub is_right : Form → List Word → Bool
is_right [] words = true
is_right (field ∷ fields) [] = true
is_right (field ∷ fields) (word ∷ words) = field.is_right word && is_right fields words

-- `coresched` VERSION
abbrev pub version_form : Word → Form
version_form version = keyword (codes "coresched") ∷ keyword version ∷ []

abbrev pub version_forms : List Form
version_forms = version_form (codes "1") ∷ version_form (codes "2") ∷ []

-- `siblings` COUNT, in a text of this version
abbrev pub siblings_form : ℕ → Form
siblings_form version = keyword (codes "siblings") ∷ number 1 (most_siblings version) ∷ []

-- `limits` TASKS COOKIES TOP
abbrev pub limits_form : Form
limits_form = keyword (codes "limits") ∷ number 1 256 ∷ number 1 256 ∷ number 8192 9223372036854775807 ∷ []

-- RUID EUID SUID RGID EGID SGID CAP MM DUMP
abbrev pub creds_form : Form
creds_form = id ∷ id ∷ id ∷ id ∷ id ∷ id ∷ flag ∷ flag ∷ flag ∷ []

-- `user` U and the credentials, in version 2 alone
abbrev pub user_form : Form
user_form = keyword (codes "user") ∷ user ∷ creds_form

-- whose credentials a task has: in version 1 they stand there, in version 2 the number of the user who has them
abbrev pub owner_form : ℕ → Form
owner_form version = if version == 2 then user ∷ [] else creds_form

-- `task` PID TGID PGID CPU POLICY and the owner
abbrev pub task_form : ℕ → ℕ → Form
task_form version siblings = keyword (codes "task") ∷ pid ∷ pid ∷ pid ∷ sibling siblings ∷ policy ∷ owner_form version

-- `teach` GUARD FROM TO
abbrev pub teach_form : Form
teach_form = keyword (codes "teach") ∷ guard ∷ id ∷ id ∷ []

abbrev pub end_form : Form
end_form = keyword (codes "end") ∷ []

-- what a sibling does, to itself: its name alone
abbrev pub alone : Word → Form
alone name = keyword name ∷ []

abbrev pub sibling_events : List Form
sibling_events =
    alone (codes "turn") ∷ alone (codes "resched") ∷ alone (codes "block") ∷ alone (codes "exit") ∷ alone (codes "tick") ∷ []

-- what a caller does: `wake` PID
abbrev pub wake_form : Form
wake_form = keyword (codes "wake") ∷ named_pid ∷ []

-- `advance` D
abbrev pub advance_form : Form
advance_form = keyword (codes "advance") ∷ number 1 1000000000 ∷ []

-- `fork` PID, and `thread` or `process`
abbrev pub fork_form : Form
fork_form = keyword (codes "fork") ∷ named_pid ∷ child ∷ []

-- `prctl` PID CMD TARGET SCOPE ADDR
abbrev pub prctl_form : Form
prctl_form = keyword (codes "prctl") ∷ named_pid ∷ u32 ∷ i32 ∷ u32 ∷ u64 ∷ []

-- `setsched` PID POLICY
abbrev pub setsched_form : Form
setsched_form = keyword (codes "setsched") ∷ named_pid ∷ policy ∷ []

-- `offline` I or `online` I, in a core with this number of siblings
abbrev pub cpu_form : Word → ℕ → Form
cpu_form name siblings = keyword name ∷ sibling siblings ∷ []

-- `load` GUARD or `unload` GUARD
abbrev pub guard_form : Word → Form
guard_form name = keyword name ∷ guard ∷ []

abbrev pub caller_events : ℕ → List Form
caller_events siblings =
    wake_form ∷ advance_form ∷ fork_form ∷ prctl_form ∷ setsched_form
    ∷ cpu_form (codes "offline") siblings ∷ cpu_form (codes "online") siblings
    ∷ guard_form (codes "load") ∷ guard_form (codes "unload") ∷ []

-- `step`, an actor and an event
abbrev pub step_form : Field → Form → Form
step_form actor event = keyword (codes "step") ∷ actor ∷ event

-- `s`I and a sibling's event, or `c`J and a caller's, in a core with this number of siblings
abbrev pub step_forms : ℕ → List Form
step_forms siblings =
    map (step_form (marked (codes "s") (sibling siblings))) sibling_events
    ++ map (step_form (marked (codes "c") (number 0 7))) (caller_events siblings)
