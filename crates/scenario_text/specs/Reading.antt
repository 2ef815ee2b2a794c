-- Reading: what the words of a line are read as, by the forms that the line may have.
use Rattle.std.specs.Prelude.{◌≡◌, ◌≤◌, ◌<◌, ℕ, suc, ◌+◌, ◌-◌, Bool, true, false, ◌&&◌, ◌||◌, ◌==◌, not, nat_le, nat_lt, ℤ, pos, negsuc, if◌then◌else◌, List, [], ◌∷◌, ◌++◌, length, map, take, drop, All, AllPairs, decimal, slice_index_or, None, codes, Result, Ok, Err}
use Rattle.std.specs.List.{list_any}
use Rattle.std.specs.Borrow.{Bor}
use Rattle.std.specs.Fmt.{signed_decimal}
use Rattle.cs_types.specs.declared.task.Policy.{Policy}
use Rattle.cs_types.specs.declared.task.Policy.TheVariants.{Stop, Deadline, Fifo, Rr, Fair}
use Rattle.cs_types.specs.declared.task.Creds.{Creds}
use Rattle.cs_types.specs.declared.task.TaskSpec.{TaskSpec}
use Rattle.cs_types.specs.declared.event.Actor.{Actor}
use Rattle.cs_types.specs.declared.event.Actor.TheVariants.{Sibling, Caller, End}
use Rattle.cs_types.specs.declared.event.Ask.{Ask}
use Rattle.cs_types.specs.declared.event.Event.{Event}
use Rattle.cs_types.specs.declared.event.Event.TheVariants.{Turn, Resched, Block, Exit, Tick, Wake, Advance, Fork, Prctl, SetSched, Offline, Online, Load, Unload}
use Rattle.cs_types.specs.declared.event.Step.{Step}
use Rattle.cs_types.specs.declared.scenario.Teach.{Teach}
use Rattle.cs_types.specs.declared.scenario.Scenario.{Scenario}
use Rattle.cs_types.specs.Scenario.{IsWithin, IsPolicy, IsPid, IsAsk, AreCreds, is_user, most_siblings, IsTask, AreDistinct, AreLed, IsTeach, AreNumbered, IsStep, IsValid}
use Rattle.scenario_text.specs.declared.fault.BadKind.{BadKind}
use Rattle.scenario_text.specs.declared.fault.BadKind.TheVariants.{Cut, Shape, Number, Twice, Leader, Full, User}
use Rattle.scenario_text.specs.declared.head.Head.{Head}
use Rattle.scenario_text.specs.declared.line.Place.{Place}
use Rattle.scenario_text.specs.declared.task.UserLine.{UserLine}
use Rattle.scenario_text.specs.declared.task.TaskLine.{TaskLine}
use Rattle.scenario_text.specs.declared.line.ScenarioLine.{ScenarioLine}
use Rattle.scenario_text.specs.declared.line.ScenarioLine.TheVariants as forms
use Rattle.scenario_text.specs.declared.plan.Plan.{Plan}
use Rattle.scenario_text.specs.declared.fault.ReadFault.{ReadFault}
use Rattle.scenario_text.specs.Words.{Word, policy_word, teach_words, actor_word, ask_words, event_words}
use Rattle.scenario_text.specs.Text.{line, version_words, users_words, task_words_in, users_in, step_words, end_words, scenario_lines}
use Rattle.scenario_text.specs.Faults.{kind_of}
use Rattle.scenario_text.specs.Reader.{Tells}
use Rattle.scenario_text.specs.Grammar.{is_word, begins, behind, has_minus, value, is_number, u32, i32, u64, Form, version_form, siblings_form, limits_form, user_form, task_form, teach_form, alone, wake_form, advance_form, fork_form, prctl_form, setsched_form, cpu_form, guard_form}

-- words, as a pattern sees them: how many there are, and the word at each place from 0
pub record Parts : Type 0 where
  pub count : ℕ
  pub at : ℕ → Word

abbrev pub parts : List Word → Parts
parts words = record { count = length words; at = λ k. slice_index_or words k [] }

-- the same for words that are lent
abbrev pub lent : List (Bor Word) → Parts
lent words = record { count = length words; at = λ k. (slice_index_or words k (record { ref_ptr = (0, 0); now = [] })).now }

-- the words after the first n
abbrev pub after : ℕ → Parts → Parts
after n words = record { count = words.count - n; at = λ k. words.at (n + k) }

-- ---- forms

-- the words from this place on have the shapes of the fields
abbrev pub shaped : ℕ → Form → Parts → Bool
shaped k [] words = true
shaped k (field ∷ fields) words = field.has_shape (words.at k) && shaped (suc k) fields words

-- and are right in them
abbrev pub righted : ℕ → Form → Parts → Bool
righted k [] words = true
righted k (field ∷ fields) words = field.is_right (words.at k) && righted (suc k) fields words

abbrev pub has : Form → Parts → Bool
has form words = (words.count == length form) && shaped 0 form words

abbrev pub Read : Type 0 → Type 0
Read A = Result A BadKind

-- forms, with what a line of each says
abbrev pub Readings : Type 0 → Type 0
Readings A = List (Form × (Parts → A))

-- what the first form reads whose shape the words have
abbrev pub read_in : {A : Type 0} → Readings A → Parts → Read A
read_in [] words = Err Shape
read_in (form ∷ forms) words =
    if has form.0 words then (if righted 0 form.0 words then Ok (form.1 words) else Err Number) else read_in forms words

-- ---- what words say

abbrev pub signed_value : Word → ℤ
signed_value word = if has_minus word then negsuc (value (drop 1 word) - 1) else pos (value word)

abbrev pub flag_value : Word → Bool
flag_value word = value word == 1

abbrev pub policy_value : Word → Policy
policy_value word =
    if is_word word (codes "stop")
    then Stop
    else (if begins word (codes "dl:")
    then Deadline (value (behind (codes "dl:") word))
    else (if begins word (codes "fifo:")
    then Fifo (value (behind (codes "fifo:") word))
    else (if begins word (codes "rr:") then Rr (value (behind (codes "rr:") word)) else Fair (signed_value (behind (codes "fair:") word)))))

-- what the words after a policy say
abbrev pub creds_value : Parts → Creds
creds_value words =
    record {
      ruid = value (words.at 0);
      euid = value (words.at 1);
      suid = value (words.at 2);
      rgid = value (words.at 3);
      egid = value (words.at 4);
      sgid = value (words.at 5);
      cap = flag_value (words.at 6);
      mm = flag_value (words.at 7);
      dumpable = flag_value (words.at 8);
    }

-- what the fields of a user line say
abbrev pub user_value : Parts → UserLine
user_value words = record { number = value (words.at 1); creds = creds_value (after 2 words) }

-- what stands for the credentials of a user that is not there
abbrev pub nobody : Creds
nobody = record { ruid = 0; euid = 0; suid = 0; rgid = 0; egid = 0; sgid = 0; cap = false; mm = false; dumpable = false }

-- the credentials of the user of this number
abbrev pub user_at : List Creds → ℕ → Creds
user_at users number = slice_index_or users number nobody

-- whose credentials the words after a policy name: in version 2 those of one of these users, whose number is told too
abbrev pub owner_value : ℕ → List Creds → Parts → UserLine
owner_value version users words =
    if version == 2
    then record { number = value (words.at 0); creds = user_at users (value (words.at 0)) }
    else record { number = 0; creds = creds_value words }

-- what the fields of a task line say, beside these users
abbrev pub task_value : ℕ → List Creds → Parts → TaskLine
task_value version users words =
    let owner = owner_value version users (after 6 words) in
    record {
      spec = record {
        pid = value (words.at 1);
        tgid = value (words.at 2);
        pgid = value (words.at 3);
        cpu = value (words.at 4);
        policy = policy_value (words.at 5);
        creds = owner.creds;
      };
      user = owner.number;
    }

-- what the fields of a teach line say, which is the line of this number
abbrev pub teach_value : ℕ → Parts → Teach
teach_value line words =
    record { line = line; guard = value (words.at 1); from = value (words.at 2); to = value (words.at 3) }

-- what the four words after the caller of `prctl` say
abbrev pub ask_said : Word → Word → Word → Word → Ask
ask_said cmd target scope addr = record { cmd = value cmd; pid = signed_value target; scope = value scope; addr = value addr }

abbrev pub ask_value : Parts → Ask
ask_value words = ask_said (words.at 2) (words.at 3) (words.at 4) (words.at 5)

-- whether they are right
abbrev pub is_ask : Word → Word → Word → Word → Bool
is_ask cmd target scope addr = u32.is_right cmd && i32.is_right target && u32.is_right scope && u64.is_right addr

-- the forms of events, with what each says

abbrev pub sibling_readings : Readings (ℕ → Event)
sibling_readings =
    (alone (codes "turn"), λ words. Turn)
    ∷ (alone (codes "resched"), λ words. Resched)
    ∷ (alone (codes "block"), λ words. Block)
    ∷ (alone (codes "exit"), λ words. Exit)
    ∷ (alone (codes "tick"), λ words. Tick)
    ∷ []

abbrev pub caller_readings : ℕ → Readings Event
caller_readings siblings =
    (wake_form, λ words. Wake (value (words.at 1)))
    ∷ (advance_form, λ words. Advance (value (words.at 1)))
    ∷ (fork_form, λ words. Fork (value (words.at 1)) (is_word (words.at 2) (codes "thread")))
    ∷ (prctl_form, λ words. Prctl (value (words.at 1)) (ask_value words))
    ∷ (setsched_form, λ words. SetSched (value (words.at 1)) (policy_value (words.at 2)))
    ∷ (cpu_form (codes "offline") siblings, λ words. Offline (value (words.at 1)))
    ∷ (cpu_form (codes "online") siblings, λ words. Online (value (words.at 1)))
    ∷ (guard_form (codes "load"), λ words. Load (value (words.at 1)))
    ∷ (guard_form (codes "unload"), λ words. Unload (value (words.at 1)))
    ∷ []

-- what is read, if a number beside it is right
abbrev pub joined : {A B : Type 0} → Read A → Bool → (A → B) → Read B
joined (Err kind) right f = Err kind
joined (Ok x) right f = if right then Ok (f x) else Err Number

-- the number after `s`, and the words after that
abbrev pub sibling_step : ℕ → Word → Parts → Read Step
sibling_step siblings digits event =
    joined (read_in sibling_readings event) (is_number 0 (siblings - 1) digits) (λ make. record { actor = Sibling (value digits); event = make (value digits) })

-- the number after `c`, and the words after that
abbrev pub caller_step : ℕ → Word → Parts → Read Step
caller_step siblings digits event =
    joined (read_in (caller_readings siblings) event) (is_number 0 7 digits) (λ event. record { actor = Caller (value digits); event = event })

-- ---- lines

infixl 10 ◌>>=◌
abbrev pub ◌>>=◌ : {A B : Type 0} → Read A → (A → Read B) → Read B
Ok x >>= f = f x
Err kind >>= f = Err kind

-- the texts of words that are lent
abbrev pub texts : List (Bor Word) → List Word
texts words = map (λ word. word.now) words

-- what a function returned, seen by view, is what reading gives
abbrev pub Reads : {X Y : Type 0} → (X → Y) → Read X → Read Y → Type 0
Reads view (Ok x) read = read ≡ Ok (view x)
Reads view (Err kind) read = read ≡ Err kind

-- the same, with the rest that the function left
abbrev pub Takes : {X Y A : Type 0} → (X → Y) → Read X → List A → Read (Y × List A) → Type 0
Takes view (Ok x) rest read = read ≡ Ok (view x, rest)
Takes view (Err kind) rest read = read ≡ Err kind

-- at most as many words as the longest form has, and none of them empty
abbrev pub usable : List Word → Bool
usable words = nat_le (length words) 15 && not (list_any (λ word. length word == 0) words)

abbrev pub used : List Word → Read (List Word)
used words = if usable words then Ok words else Err Shape

-- the next line, which another has to follow
abbrev pub line_at : List (List Word) → Read (List Word × List (List Word))
line_at [] = Err Cut
line_at (words ∷ []) = Err Cut
line_at (words ∷ next ∷ lines) = used words >>= λ words. Ok (words, next ∷ lines)

-- the next line, read in one of these forms
unfoldable pub line_as : {A : Type 0} → Readings A → List (List Word) → Read (A × List (List Word))
line_as readings lines = do
  taken ← line_at lines
  x ← read_in readings (parts taken.0)
  Ok (x, taken.1)

-- none of this many first lines is bad
abbrev pub AreGood : List (List Word) → ℕ → Type 0
AreGood lines count = (k : ℕ) → k < count → kind_of (take k lines) (drop k lines) ≡ None

-- ---- the head

abbrev pub version_reading : Readings ℕ
version_reading = (version_form (codes "1"), λ words. 1) ∷ (version_form (codes "2"), λ words. 2) ∷ []

abbrev pub siblings_reading : ℕ → Readings ℕ
siblings_reading version = (siblings_form version, λ words. value (words.at 1)) ∷ []

-- what the fields of the third line say, in a text of this version and a core with this number of siblings
abbrev pub head_value : ℕ → ℕ → Parts → Head
head_value version siblings words =
    record {
      version = version;
      siblings = siblings;
      task_limit = value (words.at 1);
      cookie_limit = value (words.at 2);
      user_top = value (words.at 3);
    }

abbrev pub limits_reading : ℕ → ℕ → Readings Head
limits_reading version siblings = (limits_form, head_value version siblings) ∷ []

-- the numbers of a head
pub record IsHead (head : Head) : Type 0 where
  pub version : IsWithin 1 2 head.version
  pub siblings : IsWithin 1 (most_siblings head.version) head.siblings
  pub task_limit : IsWithin 1 256 head.task_limit
  pub cookie_limit : IsWithin 1 256 head.cookie_limit
  pub user_top : IsWithin 8192 9223372036854775807 head.user_top

-- the words of the second line and of the third

abbrev pub count_words : ℕ → List Word
count_words siblings = codes "siblings" ∷ decimal siblings ∷ []

abbrev pub head_words : Head → List Word
head_words head =
    codes "limits" ∷ decimal head.task_limit ∷ decimal head.cookie_limit ∷ decimal head.user_top ∷ []

abbrev pub head_lines : Head → List (List Word)
head_lines head = version_words head.version ∷ count_words head.siblings ∷ head_words head ∷ []

-- the head of these lines, with the lines that are left; or their first bad line
abbrev pub ReadsHead : List (List Word) → Result Head ReadFault → List (List Word) → Type 0
ReadsHead lines (Ok head) rest = IsHead head × (lines ≡ head_lines head ++ rest) × AreGood lines 3 × (1 ≤ length rest)
ReadsHead lines (Err fault) rest = Tells lines fault

-- ---- the lines after the head

-- what a line at this place may be, in a text of this version, beside these users and in a core with this number of
-- siblings

abbrev pub user_line : ℕ → Place → Parts → Read ScenarioLine
user_line version place words =
    if not (version == 2) || place.is_after_task || place.is_after_teach || place.is_after_step
    then Err Shape
    else (read_in ((user_form, user_value) ∷ []) words >>= λ user. Ok (forms.User user))

abbrev pub task_line : ℕ → ℕ → List Creds → Place → Parts → Read ScenarioLine
task_line version siblings users place words =
    if place.is_after_teach || place.is_after_step
    then Err Shape
    else (read_in ((task_form version siblings, task_value version users) ∷ []) words >>= λ task. Ok (forms.Task task))

abbrev pub teach_line : Place → Parts → Read ScenarioLine
teach_line place words =
    if place.is_after_step
    then Err Shape
    else (read_in ((teach_form, teach_value place.number) ∷ []) words >>= λ teach. Ok (forms.Teach teach))

abbrev pub step_line : ℕ → Parts → Read Step
step_line siblings words =
    if nat_le 2 words.count
    then (if begins (words.at 1) (codes "s")
    then sibling_step siblings (behind (codes "s") (words.at 1)) (after 2 words)
    else (if begins (words.at 1) (codes "c")
    then caller_step siblings (behind (codes "c") (words.at 1)) (after 2 words)
    else Err Shape))
    else Err Shape

unfoldable pub line_of : ℕ → ℕ → List Creds → Place → Parts → Read ScenarioLine
line_of version siblings users place words =
    if is_word (words.at 0) (codes "step")
    then (step_line siblings words >>= λ step. Ok (forms.Step step))
    else (if is_word (words.at 0) (codes "task")
    then task_line version siblings users place words
    else (if is_word (words.at 0) (codes "teach")
    then teach_line place words
    else (if is_word (words.at 0) (codes "user")
    then user_line version place words
    else (if is_word (words.at 0) (codes "end") && words.count == 1 then Ok forms.End else Err Shape))))

-- ---- the plan: the users, the tasks, the teach lines and the steps that are read

pub record Contents : Type 0 where
  pub users : List Creds
  pub tasks : List TaskSpec
  pub teaches : List Teach
  pub steps : List Step

abbrev pub contents : Plan → Contents
contents plan = record { users = plan.users.items; tasks = plan.tasks.items; teaches = plan.teaches.items; steps = plan.steps.items }

-- the plan with one task more
abbrev pub with_task : TaskSpec → Contents → Contents
with_task task plan = record plan { tasks = plan.tasks ++ task ∷ [] }

abbrev pub nothing_planned : Contents
nothing_planned = record { users = []; tasks = []; teaches = []; steps = [] }

-- the plan has few lines of each form: as many tasks as a limit of 16 bits allows, and as many others as a scenario
pub record HasFewLines (plan : Contents) : Type 0 where
  pub users : length plan.users ≤ 256
  pub tasks : length plan.tasks ≤ 65535
  pub teaches : length plan.teaches ≤ 64
  pub steps : length plan.steps ≤ 100000

-- where the line after those of the head and of the plan stands
abbrev pub place_after : Contents → Place
place_after plan =
    record {
      number = length plan.users + length plan.tasks + length plan.teaches + length plan.steps + 4;
      is_after_task = not (length plan.tasks == 0);
      is_after_teach = not (length plan.teaches == 0);
      is_after_step = not (length plan.steps == 0);
    }

-- whether none of the tasks has the task's pid
unfoldable pub has_fresh_pid : List TaskSpec → TaskSpec → Bool
has_fresh_pid tasks task = not (list_any (λ other. other.pid == task.pid) tasks)

-- whether the task leads its own thread group, or one of the tasks leads it and has the same process group
unfoldable pub has_leader : List TaskSpec → TaskSpec → Bool
has_leader tasks task =
    (task.tgid == task.pid)
    || list_any (λ leader. (leader.pid == task.tgid) && (leader.tgid == leader.pid) && (leader.pgid == task.pgid)) tasks

-- what holds, or a fault of this kind
abbrev pub check : BadKind → Bool → Read (Unit {0})
check kind holds = if holds then Ok tt else Err kind

-- how many of the users the tasks of the plan name
abbrev pub count_named : ℕ → Contents → ℕ
count_named version plan = length (users_in version plan.tasks)

-- the plan counts these right
abbrev pub Counts : ℕ → Plan → Type 0
Counts version plan = plan.named ≡ count_named version (contents plan)

-- how many are named after a task of this user
abbrev pub named_after : ℕ → ℕ → ℕ → ℕ
named_after version user named = if (version == 2) && (user == named) then named + 1 else named

-- whether this user is the next one, with credentials that no user before has
unfoldable pub is_next_user : List Creds → UserLine → Bool
is_next_user users user = (user.number == length users) && not (list_any (is_user user.creds) users)

-- whether a task of this user may follow: it is one that is named already, or the next one
unfoldable pub may_name : ℕ → ℕ → Contents → Bool
may_name version user plan =
    not (version == 2) || (nat_lt user (length plan.users) && nat_le user (count_named version plan))

-- whether each user is named by some task
unfoldable pub are_named : ℕ → Contents → Bool
are_named version plan = nat_le (length plan.users) (count_named version plan)

-- one line more of a form of which there are so many may follow the tasks
abbrev pub count_check : ℕ → ℕ → Bool → Read (Unit {0})
count_check count most named = do
  few ← check Full (nat_lt count most)
  check User named

-- the line may follow those of the plan
unfoldable pub line_check : ℕ → ℕ → ScenarioLine → Contents → Read (Unit {0})
line_check version limit (forms.User user) plan = check User (is_next_user plan.users user)
line_check version limit (forms.Task task) plan = do
  fresh ← check Twice (has_fresh_pid plan.tasks task.spec)
  led ← check Leader (has_leader plan.tasks task.spec)
  few ← check Full (nat_lt (length plan.tasks) limit)
  check User (may_name version task.user plan)
line_check version limit (forms.Teach teach) plan = count_check (length plan.teaches) 64 (are_named version plan)
line_check version limit (forms.Step step) plan = count_check (length plan.steps) 100000 (are_named version plan)
line_check version limit forms.End plan = check User (are_named version plan)

-- the next line, which may follow those of the plan
unfoldable pub next_of : Head → Contents → List (List Word) → Read (ScenarioLine × List (List Word))
next_of head plan lines = do
  taken ← line_at lines
  line ← line_of head.version head.siblings plan.users (place_after plan) (parts taken.0)
  follows ← line_check head.version head.task_limit line plan
  Ok (line, taken.1)

-- two users have two sets of credentials
abbrev pub AreApart : List Creds → Type 0
AreApart users = AllPairs (λ a b. is_user a b ≡ false) users

-- what a plan keeps, in a text of this version and a core of this many siblings, in which this many tasks may live at
-- once
pub record IsPlan (version siblings limit : ℕ) (plan : Contents) : Type 0 where
  pub users : All AreCreds plan.users
  pub apart : AreApart plan.users
  pub few_users : length plan.users ≤ 256
  pub no_users : (version == 2) ≡ false → plan.users ≡ []
  -- The tasks name the first users, in their order.
  pub named : users_in version plan.tasks ≡ take (count_named version plan) plan.users
  pub tasks : All (IsTask siblings) plan.tasks
  pub distinct : AreDistinct plan.tasks
  pub led : AreLed plan.tasks
  pub few_tasks : length plan.tasks ≤ limit
  pub teaches : All IsTeach plan.teaches
  pub numbered : AreNumbered (length plan.users + length plan.tasks) plan.teaches
  pub few_teaches : length plan.teaches ≤ 64
  pub steps : All (IsStep siblings) plan.steps
  pub few_steps : length plan.steps ≤ 100000

-- ---- lines that are read from the front of a text

-- the text begins with the line of a step that may stand in a core of this many siblings, and the rest stands after the
-- line
pub record BeginsStep (siblings : ℕ) (text : List ℕ) (step : Step) (rest : List ℕ) : Type 0 where
  pub is : IsStep siblings step
  pub spelled : text ≡ line (step_words step) ++ rest

-- an actor of step lines, in a core of this many siblings
abbrev pub MakesSteps : ℕ → Actor → Type 0
MakesSteps siblings (Sibling i) = i < siblings
MakesSteps siblings (Caller j) = j < 8
MakesSteps siblings End = ⊥

-- the same for the word of an actor, which a space follows
pub record BeginsActor (siblings : ℕ) (text : List ℕ) (actor : Actor) (rest : List ℕ) : Type 0 where
  pub is : MakesSteps siblings actor
  pub spelled : text ≡ actor_word actor ++ 32 ∷ rest

-- and for what an actor does
pub record BeginsEvent (siblings : ℕ) (actor : Actor) (text : List ℕ) (event : Event) (rest : List ℕ) : Type 0 where
  pub is : IsStep siblings (record { actor = actor; event = event })
  pub spelled : text ≡ line (event_words event) ++ rest

-- and for what each caller may do
abbrev pub BeginsCall : ℕ → List ℕ → Event → List ℕ → Type 0
BeginsCall siblings text event rest = (j : ℕ) → j < 8 → BeginsEvent siblings (Caller j) text event rest

-- and for the arguments of a call
pub record BeginsAsk (text : List ℕ) (ask : Ask) (rest : List ℕ) : Type 0 where
  pub is : IsAsk ask
  pub spelled : text ≡ line (ask_words ask) ++ rest

-- and for a policy
pub record BeginsPolicy (text : List ℕ) (policy : Policy) (rest : List ℕ) : Type 0 where
  pub is : IsPolicy policy
  pub spelled : text ≡ line (policy_word policy ∷ []) ++ rest

-- the text begins with a number, which ends at this byte, and the rest stands after the byte
pub record BeginsNumber (low high : ℕ) (text : List ℕ) (number end : ℕ) (rest : List ℕ) : Type 0 where
  pub within : IsWithin low high number
  pub spelled : text ≡ decimal number ++ end ∷ rest

-- these steps, and the lines left, become more steps and fewer lines, since the lines of steps are taken one by one, if
-- each user is named
pub data TakesSteps (siblings : ℕ) (named : Bool) (before : List Step) (lines : List (List Word)) : List Step → List (List Word) → Type 0 where
  taken_none : TakesSteps siblings named before lines before lines
  taken_more : {steps : List Step} {left rest : List (List Word)} (step : Step) → TakesSteps siblings named before lines steps left → named ≡ true → length steps < 100000 → IsStep siblings step →
      line_at left ≡ Ok (step_words step, rest) → TakesSteps siblings named before lines (steps ++ step ∷ []) rest

-- and with the target of a call, which ends at a space
pub record BeginsTarget (text : List ℕ) (target : ℤ) (rest : List ℕ) : Type 0 where
  pub is : IsPid target
  pub spelled : text ≡ signed_decimal target ++ 32 ∷ rest

-- the words of a plan's lines
abbrev pub plan_lines : ℕ → Contents → List (List Word)
plan_lines version plan =
    users_words plan.users ++ map (task_words_in version plan.users) plan.tasks ++ map teach_words plan.teaches
    ++ map step_words plan.steps

-- what stands after the last line feed
abbrev pub nothing : List (List Word)
nothing = ([] ∷ []) ∷ []

-- the plan of the lines after a head, after which nothing stands; or the first bad line of all
abbrev pub ReadsPlan : Head → List (List Word) → Result Plan ReadFault → Type 0
ReadsPlan head lines (Ok plan) =
    IsPlan head.version head.siblings head.task_limit (contents plan) × (are_named head.version (contents plan) ≡ true)
    × (lines ≡ plan_lines head.version (contents plan) ++ end_words ∷ nothing)
ReadsPlan head lines (Err fault) = Tells (head_lines head ++ lines) fault

-- the scenario of these lines, or their first bad line
abbrev pub ReadsLines : List (List Word) → Result Scenario ReadFault → Type 0
ReadsLines lines (Ok scenario) = IsValid scenario × (lines ≡ scenario_lines scenario ++ nothing)
ReadsLines lines (Err fault) = Tells lines fault
