-- Pairs: for each two cookies, or each two thread groups, how long their tasks ran side by side. Tasks without a cookie
-- have the cookie 0.
use Rattle.std.specs.Prelude.{◌≡◌, ℕ, ◌-◌, ◌*◌, ◌/◌, ◌<◌, ◌==◌, ◌&&◌, ◌||◌, nat_lt, Bool, true, false, if◌then◌else◌, List, All, AllPairs, sum_by}
use Rattle.std.specs.List.{list_any}
use Rattle.std.specs.Option.{option_map_or}
use Rattle.cs_types.specs.declared.event.Event.{Event}
use Rattle.cs_types.specs.Room.{Opening, RoomState}
use Rattle.cs_types.specs.History.{History}
use Rattle.run_times.specs.declared.by.By.{By}
use Rattle.run_times.specs.Doing.{key_run, siblings_of}
use Rattle.run_times.specs.Times.{Span, advance_of, spans_of, time_in}
use Rattle.pair_times.specs.declared.rows.PairTime.{PairTime}

-- whether an online sibling runs a task with this cookie, or of this thread group
abbrev pub runs_key : By → RoomState → ℕ → Bool
runs_key by room key = list_any (λ cpu. option_map_or (λ own. own == key) (key_run by room cpu) false) (siblings_of room)

-- Whether tasks of these two run side by side. No sibling runs both, so if the two differ it is on two siblings.
abbrev pub run_both : By → ℕ → ℕ → RoomState → Bool
run_both by a b room = runs_key by room a && runs_key by room b

-- ---- rows

-- whether a row goes before those of a pair: by its lower one, and if that is the same by its higher one
abbrev pub goes_before : PairTime → ℕ → ℕ → Bool
goes_before row low high = nat_lt row.low low || (row.low == low && nat_lt row.high high)

-- Each row is of two that differ, the lower one first, and of some time. They stand in order, so no two are of one
-- pair.
pub record AreRows (rows : List PairTime) : Type 0 where
  pub sound : All (λ row. (row.low < row.high) × (0 < row.time)) rows
  pub rising : AllPairs (λ row next. goes_before row next.low next.high ≡ true) rows

-- the time of a pair by the rows, in ns: 0 if it has no row
abbrev pub time_of : List PairTime → ℕ → ℕ → ℕ
time_of rows a b = sum_by (λ row. if row.low == a && row.high == b then row.time else 0) rows

-- ---- the pairs of a run

-- The rows are those of these spans: the time of each pair is that in which its tasks ran side by side, and it has a
-- row if that is above 0. There are no other rows.
pub record ArePairsIn (by : By) (spans : List Span) (rows : List PairTime) : Type 0 where
  pub order : AreRows rows
  pub times : (a : ℕ) (b : ℕ) → a < b → time_of rows a b ≡ time_in (run_both by a b) spans

-- what the pairs are told apart by, the rows, and for how many more of them there is memory
pub record Pairs : Type 0 where
  pub by : By
  pub rows : List PairTime
  pub spare : ℕ

-- the pairs are those of a history
abbrev pub ArePairsOf : Opening → History → Pairs → Type 0
ArePairsOf opening history pairs = ArePairsIn pairs.by (spans_of opening history) pairs.rows

-- ---- memory

-- how many pairs this many siblings make
abbrev pub pairs_among : ℕ → ℕ
pairs_among siblings = siblings * (siblings - 1) / 2

-- how many rows an event can make at most in a core with this number of siblings: one for each pair of them at an
-- advance
abbrev pub most_rows : ℕ → Event → ℕ
most_rows siblings event = option_map_or (λ _. pairs_among siblings) (advance_of event) 0
