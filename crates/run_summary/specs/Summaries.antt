-- Summaries: what is told of a run.
use Rattle.std.specs.Prelude.{◌≡◌, ◌≤◌, ℕ, length, min}
use Rattle.cs_types.specs.Room.{Opening}
use Rattle.cs_types.specs.History.{History}
use Rattle.run_times.specs.declared.by.By.TheVariants.{Cookie, Group}
use Rattle.run_times.specs.Sums.{Times, times_of}
use Rattle.pair_times.specs.Pairs.{Pairs, ArePairsOf}
use Rattle.task_times.specs.TaskSums.{TaskSums, sums_so_far, sums_of}
use Rattle.wait_times.specs.Rows.{Waits, waits_of}
use Rattle.run_summary.specs.declared.replies.ReplyCounts.{ReplyCounts}
use Rattle.run_summary.specs.Replies.{replies_of}

pub record Summary : Type 0 where
  -- what held, and for how long
  pub times : Times
  -- for each two cookies, how long their tasks ran side by side
  pub cookie_pairs : Pairs
  -- for each two thread groups, how long theirs did
  pub group_pairs : Pairs
  -- what each task and the tasks of each cookie did and for how long, and what they were charged
  pub tasks : TaskSums
  -- how often and for how long each task waited from a wake to its run
  pub waits : Waits
  -- how many steps were refused, and how
  pub replies : ReplyCounts

-- for how many more rows of either kind of pairs there is memory
abbrev pub spare_rows : Summary → ℕ
spare_rows summary = min summary.cookie_pairs.spare summary.group_pairs.spare

-- The pairs are those of a history, by cookies and by thread groups.
pub record ArePairs (opening : Opening) (history : History) (summary : Summary) : Type 0 where
  pub by_cookie : summary.cookie_pairs.by ≡ Cookie
  pub by_group : summary.group_pairs.by ≡ Group
  pub cookie_pairs : ArePairsOf opening history summary.cookie_pairs
  pub group_pairs : ArePairsOf opening history summary.group_pairs

-- The parts that are kept before each step are those of the history so far. The waits are kept after it, and stand
-- apart.
pub record ArePartsOf (opening : Opening) (history : History) (summary : Summary) : Type 0 where
  pub times : summary.times ≡ times_of opening history
  pub pairs : ArePairs opening history summary
  pub tasks : summary.tasks ≡ sums_so_far summary.tasks.entries opening history

-- This is the summary of a history. It has a row for each task and each cookie that there can be with this many
-- entries.
pub record IsSummaryOf (opening : Opening) (history : History) (summary : Summary) : Type 0 where
  pub times : summary.times ≡ times_of opening history
  pub pairs : ArePairs opening history summary
  pub tasks : summary.tasks ≡ sums_of summary.tasks.entries opening history
  pub waits : summary.waits ≡ waits_of summary.waits.entries opening history
  pub each : summary.waits.entries ≡ summary.tasks.entries
  pub rows : length history ≤ summary.tasks.entries
  pub replies : summary.replies ≡ replies_of history
