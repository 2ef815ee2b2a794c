-- Cells: what a line says of a segment, in either form.
use Rattle.std.specs.Prelude.{ℕ, ◌==◌, if◌then◌else◌, Bool, true, false, Option, Some, None, List, [], ◌∷◌, codes}
use Rattle.run_times.specs.declared.doing.Doing.{Doing}
use Rattle.run_times.specs.declared.doing.Doing.TheVariants.{Offline, Runs, Idles, ForcedIdle}
use Rattle.scenario_text.specs.Words.{Word}

-- the names of the columns of the table, which are those of the members of an object
abbrev pub columns : List Word
columns =
    codes "from" ∷ codes "to" ∷ codes "sibling" ∷ codes "state" ∷ codes "cookie" ∷ codes "pending" ∷ codes "forced" ∷ codes "pid"
    ∷ codes "group" ∷ []

-- what a sibling does, without its cookie
abbrev pub state_word : Doing → Word
state_word Offline = codes "offline"
state_word (Runs cookie) = codes "running"
state_word Idles = codes "idle"
state_word (ForcedIdle cookie) = codes "idle"

-- the cookie of the task that a sibling runs, or that of the core if it is forced idle, 0 for none; else there is none
-- to tell
abbrev pub cookie_of : Doing → Option ℕ
cookie_of Offline = None
cookie_of (Runs cookie) = Some cookie
cookie_of Idles = None
cookie_of (ForcedIdle cookie) = Some cookie

-- whether a sibling is forced idle
abbrev pub is_forced : Doing → Bool
is_forced Offline = false
is_forced (Runs cookie) = false
is_forced Idles = false
is_forced (ForcedIdle cookie) = true

-- the pid of the task that a sibling runs, if it runs one
abbrev pub pid_of : ℕ → Option ℕ
pid_of pid = if pid == 0 then None else Some pid

-- the thread group of the task that a sibling runs, by the pid of its leader, if it runs one
abbrev pub group_of : ℕ → Option ℕ
group_of group = if group == 0 then None else Some group
