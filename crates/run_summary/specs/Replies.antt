-- Replies: how many entries were refused, and how.
use Rattle.std.specs.Prelude.{ℕ, ◌+◌, ◌<◌, Bool, true, false, if◌then◌else◌, length, filter}
use Rattle.cs_types.specs.declared.reply.Reply.{Reply}
use Rattle.cs_types.specs.declared.reply.Reply.TheVariants.{NoTask, Awake, Idle, NoCaller, Offline, Refused, HasThreads, Already, NoGuard}
use Rattle.cs_types.specs.History.{History}
use Rattle.run_summary.specs.declared.replies.ReplyCounts.{ReplyCounts}

abbrev pub is_no_task : Reply → Bool
is_no_task NoTask = true
is_no_task reply = false

abbrev pub is_awake : Reply → Bool
is_awake Awake = true
is_awake reply = false

abbrev pub is_idle : Reply → Bool
is_idle Idle = true
is_idle reply = false

abbrev pub is_no_caller : Reply → Bool
is_no_caller NoCaller = true
is_no_caller reply = false

abbrev pub is_offline : Reply → Bool
is_offline Offline = true
is_offline reply = false

-- any other refusal: an error number, and what has none
abbrev pub is_error : Reply → Bool
is_error (Refused error) = true
is_error HasThreads = true
is_error Already = true
is_error NoGuard = true
is_error reply = false

-- how many entries have a reply that passes a test
abbrev pub count_of : (Reply → Bool) → History → ℕ
count_of test history = length (filter (λ entry. test entry.reply) history)

-- the counts of a history
abbrev pub replies_of : History → ReplyCounts
replies_of history =
    record {
      no_task = count_of is_no_task history;
      awake = count_of is_awake history;
      idle = count_of is_idle history;
      no_caller = count_of is_no_caller history;
      offline = count_of is_offline history;
      errors = count_of is_error history;
    }

-- all of them together
abbrev pub all_refused : ReplyCounts → ℕ
all_refused counts = counts.no_task + counts.awake + counts.idle + counts.no_caller + counts.offline + counts.errors

-- the counts with one reply more
abbrev pub with_reply : Reply → ReplyCounts → ReplyCounts
with_reply reply counts =
    record {
      no_task = if is_no_task reply then counts.no_task + 1 else counts.no_task;
      awake = if is_awake reply then counts.awake + 1 else counts.awake;
      idle = if is_idle reply then counts.idle + 1 else counts.idle;
      no_caller = if is_no_caller reply then counts.no_caller + 1 else counts.no_caller;
      offline = if is_offline reply then counts.offline + 1 else counts.offline;
      errors = if is_error reply then counts.errors + 1 else counts.errors;
    }

-- each count is below a number
pub record AreBelow (most : ℕ) (counts : ReplyCounts) : Type 0 where
  pub no_task : counts.no_task < most
  pub awake : counts.awake < most
  pub idle : counts.idle < most
  pub no_caller : counts.no_caller < most
  pub offline : counts.offline < most
  pub errors : counts.errors < most
