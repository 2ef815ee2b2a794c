-- Summary: what is told of a run, line by line. All times are in ns.
use Rattle.std.specs.Prelude.{ℕ, List, [], ◌∷◌, ◌++◌, map, codes, decimal}
use Rattle.std.specs.List.{flat_map, enumerate_from}
use Rattle.run_times.specs.declared.by.By.{By}
use Rattle.run_times.specs.declared.by.By.TheVariants.{Cookie, Group}
use Rattle.run_times.specs.declared.side_by_side.SideBySide.{SideBySide}
use Rattle.run_times.specs.declared.siblings.SiblingTimes.{SiblingTimes}
use Rattle.run_times.specs.Sums.{Times}
use Rattle.pair_times.specs.declared.rows.PairTime.{PairTime}
use Rattle.run_summary.specs.declared.replies.ReplyCounts.{ReplyCounts}
use Rattle.run_summary.specs.Summaries.{Summary}
use Rattle.scenario_text.specs.Words.{Word}
use Rattle.scenario_text.specs.Text.{line}
use Rattle.times_report.specs.TaskLines.{task_lines}
use Rattle.times_report.specs.WaitLines.{wait_lines}

-- ---- the words of a line

-- `cpu` I `ran` T `idle` T `offline` T `pending` T: for how long the sibling ran a task, ran idle with none queued, was
-- offline, and was online with a pending reschedule
abbrev pub cpu_words : ℕ → SiblingTimes → List Word
cpu_words cpu times =
    codes "cpu" ∷ decimal cpu ∷ codes "ran" ∷ decimal times.ran ∷ codes "idle" ∷ decimal times.idled
    ∷ codes "offline" ∷ decimal times.offline ∷ codes "pending" ∷ decimal times.pending ∷ []

-- `forced` I `cookie` T `none` T: for how long the sibling was forced idle, while the core had a cookie and while it
-- had none
abbrev pub forced_words : ℕ → SiblingTimes → List Word
forced_words cpu times =
    codes "forced" ∷ decimal cpu ∷ codes "cookie" ∷ decimal times.forced_by_cookie
    ∷ codes "none" ∷ decimal times.forced_by_none ∷ []

-- For how long tasks that are told apart ran side by side, and for how long without a break. `exposed` T `longest` T is
-- by their cookies, `mixed` T `longest` T by their thread groups.
abbrev pub side_words : By → SideBySide → List Word
side_words Cookie times = codes "exposed" ∷ decimal times.all ∷ codes "longest" ∷ decimal times.longest ∷ []
side_words Group times = codes "mixed" ∷ decimal times.all ∷ codes "longest" ∷ decimal times.longest ∷ []

-- `pair` A B `exposed` T: for how long tasks with the two cookies ran side by side. `groups` A B `mixed` T: for how
-- long tasks of the two thread groups did, each by the pid of its leader
abbrev pub pair_words : By → PairTime → List Word
pair_words Cookie pair = codes "pair" ∷ decimal pair.low ∷ decimal pair.high ∷ codes "exposed" ∷ decimal pair.time ∷ []
pair_words Group pair = codes "groups" ∷ decimal pair.low ∷ decimal pair.high ∷ codes "mixed" ∷ decimal pair.time ∷ []

-- `pending` T: for how long some sibling was online with a pending reschedule
abbrev pub pending_words : Times → List Word
pending_words times = codes "pending" ∷ decimal times.pending ∷ []

-- `replies` `NoTask` N `Awake` N `Idle` N `NoCaller` N `Offline` N `errors` N: how many entries were refused, and how
abbrev pub replies_words : ReplyCounts → List Word
replies_words counts =
    codes "replies" ∷ codes "NoTask" ∷ decimal counts.no_task ∷ codes "Awake" ∷ decimal counts.awake
    ∷ codes "Idle" ∷ decimal counts.idle ∷ codes "NoCaller" ∷ decimal counts.no_caller
    ∷ codes "Offline" ∷ decimal counts.offline ∷ codes "errors" ∷ decimal counts.errors ∷ []

-- `total` T: all time
abbrev pub total_words : Times → List Word
total_words times = codes "total" ∷ decimal times.total ∷ []

-- ---- the lines

-- the two lines of a sibling, by its number and its times
abbrev pub lines_of : ℕ × SiblingTimes → List (List Word)
lines_of sibling = cpu_words sibling.0 sibling.1 ∷ forced_words sibling.0 sibling.1 ∷ []

-- the lines of the siblings, from 0 on
abbrev pub sibling_lines : List SiblingTimes → List (List Word)
sibling_lines siblings = flat_map lines_of (enumerate_from 0 siblings)

-- the lines of the pairs, by rising lower cookie or group, and then by rising higher one
abbrev pub pair_lines : By → List PairTime → List (List Word)
pair_lines by pairs = map (pair_words by) pairs

-- for how long they ran side by side, and then which
abbrev pub side_lines : By → SideBySide → List PairTime → List (List Word)
side_lines by times pairs = side_words by times ∷ pair_lines by pairs

-- the last three lines
abbrev pub end_lines : Times → ReplyCounts → List (List Word)
end_lines times replies = pending_words times ∷ replies_words replies ∷ total_words times ∷ []

-- part by part
abbrev pub summary_lines : Summary → List (List Word)
summary_lines summary =
    sibling_lines summary.times.siblings
    ++ (task_lines summary.tasks
    ++ (wait_lines summary.waits.rows
    ++ (side_lines Cookie summary.times.exposed summary.cookie_pairs.rows
    ++ (side_lines Group summary.times.mixed summary.group_pairs.rows
    ++ end_lines summary.times summary.replies))))

-- the text, each line with its line feed
abbrev pub summary_text : Summary → List ℕ
summary_text summary = flat_map line (summary_lines summary)
