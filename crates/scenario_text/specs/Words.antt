-- Words: how each value is spelled in a scenario and in the output. A number is `decimal`: its digits,
-- with no sign and no leading 0. A nice value and the target of `prctl`, which may be negative, are
-- `signed_decimal`: a negative number has a `-` before the digits.
use Rattle.std.specs.Prelude.{ℕ, Bool, true, false, ◌==◌, if◌then◌else◌, List, [], ◌∷◌, ◌++◌, codes, decimal}
use Rattle.std.specs.Fmt.{signed_decimal}
use Rattle.cs_types.specs.declared.task.Policy.{Policy}
use Rattle.cs_types.specs.declared.task.Policy.TheVariants.{Stop, Deadline, Fifo, Rr, Fair}
use Rattle.cs_types.specs.declared.task.Creds.{Creds}
use Rattle.cs_types.specs.declared.task.TaskSpec.{TaskSpec}
use Rattle.cs_types.specs.declared.event.Actor.{Actor}
use Rattle.cs_types.specs.declared.event.Actor.TheVariants.{Sibling, Caller, End}
use Rattle.cs_types.specs.declared.event.Ask.{Ask}
use Rattle.cs_types.specs.declared.event.Event.{Event}
use Rattle.cs_types.specs.declared.event.Event.TheVariants.{Turn, Resched, Block, Exit, Tick, Wake, Advance, Fork, Prctl, SetSched, Offline, Online, Load, Unload}
use Rattle.cs_types.specs.declared.reply.Kind.{Kind}
use Rattle.cs_types.specs.declared.reply.Kind.TheVariants.{Selected, Adopted, Plain}
use Rattle.cs_types.specs.declared.reply.Errno.{Errno}
use Rattle.cs_types.specs.declared.reply.Errno.TheVariants.{Eperm, Esrch, Eagain, Enomem, Efault, Enodev, Einval, Ebusy}
use Rattle.cs_types.specs.declared.reply.Pick.{Pick}
use Rattle.cs_types.specs.declared.reply.Reply.{Reply}
use Rattle.cs_types.specs.declared.reply.Reply.TheVariants.{Picked, Nothing, Stole, Missed, Slept, Ended, Idle, HasThreads, Woken, Awake, NoTask, Now, Ticked, Child, Zero, Value, Set, Done, Already, Refused, NoCaller, Loaded, Dropped, NoGuard}
use Rattle.cs_types.specs.declared.reply.Reply.TheVariants as answer
use Rattle.cs_types.specs.declared.scenario.Teach.{Teach}

-- a word is its bytes
abbrev pub Word : Type 0
Word = List ℕ

-- ---- tasks

-- `stop`, `dl:RELATIVE`, `fifo:PRIORITY`, `rr:PRIORITY` or `fair:NICE`
abbrev pub policy_word : Policy → Word
policy_word Stop = codes "stop"
policy_word (Deadline relative) = codes "dl:" ++ decimal relative
policy_word (Fifo priority) = codes "fifo:" ++ decimal priority
policy_word (Rr priority) = codes "rr:" ++ decimal priority
policy_word (Fair nice) = codes "fair:" ++ signed_decimal nice

-- 1 for yes, 0 for no
abbrev pub flag_word : Bool → Word
flag_word true = codes "1"
flag_word false = codes "0"

-- RUID EUID SUID RGID EGID SGID CAP MM DUMP
abbrev pub creds_words : Creds → List Word
creds_words creds =
    decimal creds.ruid ∷ decimal creds.euid ∷ decimal creds.suid
    ∷ decimal creds.rgid ∷ decimal creds.egid ∷ decimal creds.sgid
    ∷ flag_word creds.cap ∷ flag_word creds.mm ∷ flag_word creds.dumpable ∷ []

-- `task` PID TGID PGID CPU POLICY and the credentials
abbrev pub task_words : TaskSpec → List Word
task_words task =
    codes "task" ∷ decimal task.pid ∷ decimal task.tgid ∷ decimal task.pgid ∷ decimal task.cpu
    ∷ policy_word task.policy ∷ creds_words task.creds

-- `user` U and the credentials
abbrev pub user_words : ℕ → Creds → List Word
user_words number creds = codes "user" ∷ decimal number ∷ creds_words creds

-- `task` PID TGID PGID CPU POLICY, and the number of the user
abbrev pub user_task_words : ℕ → TaskSpec → List Word
user_task_words number task =
    codes "task" ∷ decimal task.pid ∷ decimal task.tgid ∷ decimal task.pgid ∷ decimal task.cpu
    ∷ policy_word task.policy ∷ decimal number ∷ []

-- ---- what guards are taught

-- `teach` GUARD FROM TO
abbrev pub teach_words : Teach → List Word
teach_words teach = codes "teach" ∷ decimal teach.guard ∷ decimal teach.from ∷ decimal teach.to ∷ []

-- ---- steps

-- `s` and the sibling's number, `c` and the caller's, or `end`
abbrev pub actor_word : Actor → Word
actor_word (Sibling i) = codes "s" ++ decimal i
actor_word (Caller j) = codes "c" ++ decimal j
actor_word End = codes "end"

-- CMD TARGET SCOPE ADDR
abbrev pub ask_words : Ask → List Word
ask_words ask = decimal ask.cmd ∷ signed_decimal ask.pid ∷ decimal ask.scope ∷ decimal ask.addr ∷ []

-- what a child is: a thread of its parent's thread group, or a process
abbrev pub child_word : Bool → Word
child_word true = codes "thread"
child_word false = codes "process"

abbrev pub event_words : Event → List Word
event_words (Turn cpu) = codes "turn" ∷ []
event_words (Resched cpu) = codes "resched" ∷ []
event_words (Block cpu) = codes "block" ∷ []
event_words (Exit cpu) = codes "exit" ∷ []
event_words (Tick cpu) = codes "tick" ∷ []
event_words (Wake pid) = codes "wake" ∷ decimal pid ∷ []
event_words (Advance delta) = codes "advance" ∷ decimal delta ∷ []
event_words (Fork caller thread) = codes "fork" ∷ decimal caller ∷ child_word thread ∷ []
event_words (Prctl caller ask) = codes "prctl" ∷ decimal caller ∷ ask_words ask
event_words (SetSched pid policy) = codes "setsched" ∷ decimal pid ∷ policy_word policy ∷ []
event_words (Offline cpu) = codes "offline" ∷ decimal cpu ∷ []
event_words (Online cpu) = codes "online" ∷ decimal cpu ∷ []
event_words (Load index) = codes "load" ∷ decimal index ∷ []
event_words (Unload index) = codes "unload" ∷ decimal index ∷ []

-- What the actor does. A sibling schedules itself; the final drain, which has no number, names the sibling that
-- schedules.
abbrev pub deed_words : Actor → Event → List Word
deed_words End (Resched cpu) = codes "resched" ∷ decimal cpu ∷ []
deed_words actor event = event_words event

-- the actor, and what it does
abbrev pub made_words : Actor → Event → List Word
made_words actor event = actor_word actor ∷ deed_words actor event

-- ---- replies

-- the pid of what a sibling runs, `idle` for 0
abbrev pub run_word : ℕ → Word
run_word pid = if pid == 0 then codes "idle" else decimal pid

abbrev pub kind_word : Kind → Word
kind_word Selected = codes "Selected"
kind_word Adopted = codes "Adopted"
kind_word Plain = codes "Plain"

-- KIND RUN `core` COOKIE `forced` COUNT
abbrev pub pick_words : Pick → List Word
pick_words pick =
    kind_word pick.kind ∷ run_word pick.run ∷ codes "core" ∷ decimal pick.core ∷ codes "forced" ∷ decimal pick.forced ∷ []

abbrev pub errno_word : Errno → Word
errno_word Eperm = codes "EPERM"
errno_word Esrch = codes "ESRCH"
errno_word Eagain = codes "EAGAIN"
errno_word Enomem = codes "ENOMEM"
errno_word Efault = codes "EFAULT"
errno_word Enodev = codes "ENODEV"
errno_word Einval = codes "EINVAL"
errno_word Ebusy = codes "EBUSY"

-- the answer to a question, such as whether a tick asked for a reschedule
abbrev pub answer_word : Bool → Word
answer_word true = codes "yes"
answer_word false = codes "no"

abbrev pub reply_words : Reply → List Word
reply_words (Picked pick) = pick_words pick
reply_words Nothing = codes "Nothing" ∷ []
reply_words (Stole pid from) = codes "Stole" ∷ decimal pid ∷ codes "from" ∷ decimal from ∷ []
reply_words (Missed cpu) = codes "Missed" ∷ decimal cpu ∷ []
reply_words answer.Offline = codes "Offline" ∷ []
reply_words (Slept pid pick) = codes "Slept" ∷ decimal pid ∷ pick_words pick
reply_words (Ended pid pick) = codes "Ended" ∷ decimal pid ∷ pick_words pick
reply_words Idle = codes "Idle" ∷ []
reply_words HasThreads = codes "HasThreads" ∷ []
reply_words (Woken cpu) = codes "Woken" ∷ decimal cpu ∷ []
reply_words Awake = codes "Awake" ∷ []
reply_words NoTask = codes "NoTask" ∷ []
reply_words (Now clock) = codes "Now" ∷ decimal clock ∷ []
reply_words (Ticked asked) = codes "Ticked" ∷ answer_word asked ∷ []
reply_words (Child pid) = codes "Child" ∷ decimal pid ∷ []
reply_words Zero = codes "0" ∷ []
reply_words (Value cookie) = codes "0" ∷ codes "value" ∷ decimal cookie ∷ []
reply_words Set = codes "Set" ∷ []
reply_words Done = codes "Done" ∷ []
reply_words Already = codes "Already" ∷ []
reply_words (Refused errno) = errno_word errno ∷ []
reply_words NoCaller = codes "NoCaller" ∷ []
reply_words Loaded = codes "Loaded" ∷ []
reply_words Dropped = codes "Dropped" ∷ []
reply_words NoGuard = codes "NoGuard" ∷ []
