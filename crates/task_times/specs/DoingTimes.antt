-- DoingTimes: for how long something ran, waited and slept.
use Rattle.std.specs.Prelude.{ℕ, ◌+◌, Bool, false, if◌then◌else◌, Option}
use Rattle.std.specs.Option.{option_map_or}
use Rattle.task_times.specs.declared.doing.TaskDoing.{TaskDoing}
use Rattle.task_times.specs.declared.doing.TaskDoing.TheVariants.{Runs, Waits, Sleeps}
use Rattle.task_times.specs.declared.doing_times.DoingTimes.{DoingTimes}
use Rattle.task_times.specs.Living.{runs, waits, sleeps}

-- the times of each doing, by what the time is of those that pass its test
abbrev pub doing_times : ((TaskDoing → Bool) → ℕ) → DoingTimes
doing_times time = record { ran = time runs; waited = time waits; slept = time sleeps }

-- all of them
abbrev pub all_times : DoingTimes → ℕ
all_times times = times.ran + times.waited + times.slept

-- the time of what is done
abbrev pub part : TaskDoing → DoingTimes → ℕ
part Runs times = times.ran
part Waits times = times.waited
part Sleeps times = times.slept

-- the times with this much more of what is done, if something is
abbrev pub with_time : Option TaskDoing → ℕ → DoingTimes → DoingTimes
with_time doing time times =
    record {
      ran = if option_map_or runs doing false then times.ran + time else times.ran;
      waited = if option_map_or waits doing false then times.waited + time else times.waited;
      slept = if option_map_or sleeps doing false then times.slept + time else times.slept;
    }

-- the times with so much more of each doing, by what is more of those that pass its test
abbrev pub with_each : ((TaskDoing → Bool) → ℕ) → DoingTimes → DoingTimes
with_each more times = record { ran = times.ran + more runs; waited = times.waited + more waits; slept = times.slept + more sleeps }
