-- Sums: the times of a run.
use Rattle.std.specs.Prelude.{ℕ, ◌+◌, max, ◌==◌, if◌then◌else◌, not, Bool, true, false, List, map}
use Rattle.std.specs.List.{range_with_len}
use Rattle.cs_types.specs.Room.{Opening}
use Rattle.cs_types.specs.History.{History}
use Rattle.run_times.specs.declared.doing.Doing.{Doing}
use Rattle.run_times.specs.declared.doing.Doing.TheVariants.{Offline, Runs, Idles, ForcedIdle}
use Rattle.run_times.specs.declared.siblings.SiblingTimes.{SiblingTimes}
use Rattle.run_times.specs.declared.by.By.{By}
use Rattle.run_times.specs.declared.by.By.TheVariants.{Cookie, Group}
use Rattle.run_times.specs.declared.side_by_side.SideBySide.{SideBySide}
use Rattle.run_times.specs.Doing.{doing_of, is_pending, some_pending, some_apart}
use Rattle.run_times.specs.Times.{Span, spans_of, total_time, time_in, lasting, longest}

abbrev pub is_offline : Doing → Bool
is_offline Offline = true
is_offline doing = false

abbrev pub runs : Doing → Bool
runs (Runs cookie) = true
runs doing = false

abbrev pub idles : Doing → Bool
idles Idles = true
idles doing = false

-- whether a sibling is forced idle while the core has a cookie
abbrev pub is_forced_by_cookie : Doing → Bool
is_forced_by_cookie (ForcedIdle cookie) = not (cookie == 0)
is_forced_by_cookie doing = false

-- and while the core has none
abbrev pub is_forced_by_none : Doing → Bool
is_forced_by_none (ForcedIdle cookie) = cookie == 0
is_forced_by_none doing = false

-- the times of a sibling in these spans
abbrev pub sibling_times : List Span → ℕ → SiblingTimes
sibling_times spans cpu =
    record {
      ran = time_in (λ room. runs (doing_of room cpu)) spans;
      idled = time_in (λ room. idles (doing_of room cpu)) spans;
      forced_by_cookie = time_in (λ room. is_forced_by_cookie (doing_of room cpu)) spans;
      forced_by_none = time_in (λ room. is_forced_by_none (doing_of room cpu)) spans;
      offline = time_in (λ room. is_offline (doing_of room cpu)) spans;
      pending = time_in (λ room. is_pending room cpu) spans;
    }

-- all that a sibling did
abbrev pub did : SiblingTimes → ℕ
did times = times.ran + times.idled + times.forced_by_cookie + times.forced_by_none + times.offline

-- its times with one span more, by what it does in that
abbrev pub with_span : Doing → Bool → ℕ → SiblingTimes → SiblingTimes
with_span doing pending time times =
    record {
      ran = if runs doing then times.ran + time else times.ran;
      idled = if idles doing then times.idled + time else times.idled;
      forced_by_cookie = if is_forced_by_cookie doing then times.forced_by_cookie + time else times.forced_by_cookie;
      forced_by_none = if is_forced_by_none doing then times.forced_by_none + time else times.forced_by_none;
      offline = if is_offline doing then times.offline + time else times.offline;
      pending = if pending then times.pending + time else times.pending;
    }

-- for how long tasks that are told apart ran side by side in these spans: in all, without a break at their end, and the
-- longest without a break
abbrev pub side_by_side : By → List Span → SideBySide
side_by_side by spans =
    record {
      all = time_in (some_apart by) spans;
      lasting = lasting (some_apart by) spans;
      longest = longest (some_apart by) spans;
    }

-- that with one span more, by whether they do in it
abbrev pub with_stretch : Bool → ℕ → SideBySide → SideBySide
with_stretch apart time past =
    let lasts = if apart then past.lasting + time else 0 in
    record { all = if apart then past.all + time else past.all; lasting = lasts; longest = max past.longest lasts }

-- what is told of a run
pub record Times : Type 0 where
  -- the times of each sibling, by rising number
  pub siblings : List SiblingTimes
  -- for how long tasks with distinct cookies ran side by side
  pub exposed : SideBySide
  -- for how long tasks of distinct thread groups did
  pub mixed : SideBySide
  -- the time in which some sibling was pending
  pub pending : ℕ
  -- all time
  pub total : ℕ

-- the times of a core with this number of siblings in these spans
abbrev pub times_in : ℕ → List Span → Times
times_in siblings spans =
    record {
      siblings = map (sibling_times spans) (range_with_len 0 siblings);
      exposed = side_by_side Cookie spans;
      mixed = side_by_side Group spans;
      pending = time_in some_pending spans;
      total = total_time spans;
    }

-- the times of a history
abbrev pub times_of : Opening → History → Times
times_of opening history = times_in opening.scenario.siblings (spans_of opening history)
