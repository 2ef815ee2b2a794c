-- Verdicts: which texts are printed runs of a scenario, which line of another is the first wrong one, and what is wanted
-- in its place (this project's rules).
use Rattle.std.specs.Prelude.{◌≡◌, ℕ, ◌+◌, ◌<◌, ◌≤◌, List, [], ◌∷◌, ◌++◌, length, take, codes, Option, Some, None, slice_get, slice_index_or}
use Rattle.std.specs.Option.{option_map}
use mathlib.Core.List.{IsPrefix}
use Rattle.cs_types.specs.declared.event.Step.{Step}
use Rattle.cs_types.specs.declared.scenario.Scenario.{Scenario}
use Rattle.cs_types.specs.Scenario.{script}
use Rattle.cs_types.specs.Room.{Opening}
use Rattle.cs_types.specs.History.{History, events_by, moment_of, entry_of}
use Rattle.scenario_text.specs.Words.{made_words}
use Rattle.scenario_text.specs.Text.{spaced, entry_text}
use Rattle.room_report.specs.Report.{output_text}
use Rattle.sibling_workers.specs.Race.{IsRaced}
use Rattle.trace_check.specs.declared.verdict.Verdict.{Verdict}
use Rattle.trace_check.specs.declared.verdict.Verdict.TheVariants.{Yes, No}
use Rattle.trace_check.specs.Lines.{lines_of, without_feed, told}

-- The text is a printed run: the output of a legal shuffle of all scripts, with the entries of the final drain.
pub record IsPrinted (opening : Opening) (text : List ℕ) : Type 0 where
  pub history : History
  pub raced : IsRaced opening history
  pub is : text ≡ output_text opening history

-- ---- the first wrong line

-- the lines of the output of a history
abbrev pub lines_printed : Opening → History → List (List ℕ)
lines_printed opening history = lines_of (output_text opening history)

-- The first lines of the text, as many as this, are those of the history's output. A text with fewer lines has not got
-- them, nor has one whose last line lacks its line feed.
abbrev pub BeginsAs : Opening → History → ℕ → List ℕ → Type 0
BeginsAs opening history count text = take count (lines_printed opening history) ≡ take count (lines_of text)

-- The first lines of the text, as many as this, are those of some printed run.
pub record AreRight (opening : Opening) (count : ℕ) (text : List ℕ) : Type 0 where
  pub history : History
  pub raced : IsRaced opening history
  pub same : BeginsAs opening history count text

-- The first lines of the text, as many as this, are right, and with the next one they are not. That one may be missing.
pub record IsFirstWrong (opening : Opening) (place : ℕ) (text : List ℕ) : Type 0 where
  pub right : (count : ℕ) → count ≤ place → AreRight opening count text
  pub wrong : ¬ AreRight opening (place + 1) text

-- ---- what is wanted in its place

-- the step is the next one of its actor after this history
abbrev pub IsNext : Scenario → History → Step → Type 0
IsNext scenario past step = IsPrefix (events_by step.actor past ++ step.event ∷ []) (script scenario step.actor)

-- the line names the step: it stands before the first `: `, since no step's text has one
abbrev pub Names : List ℕ → Step → Type 0
Names line step = IsPrefix (spaced (made_words step.actor step.event) ++ codes ": ") line

-- What is wanted of a line while steps are left: the entry of the step that it names, if that is the next one of its
-- actor, and else nothing.
pub record IsWantedOfStep (opening : Opening) (past : History) (line : List ℕ) (want : Option (List ℕ)) : Type 0 where
  pub entry : (step : Step) → IsNext opening.scenario past step → Names line step →
      want ≡ Some (without_feed (entry_text (entry_of (moment_of opening past) step)))
  pub nothing : ((step : Step) → IsNext opening.scenario past step → ¬ Names line step) → want ≡ None

-- What is wanted behind the first lines of the text, as many as this, which are right. While steps are left it goes by
-- the line that stands there. Once all scripts are made it is the one line that must come, and nothing past the last.
pub record IsWanted (opening : Opening) (place : ℕ) (text : List ℕ) (want : Option (List ℕ)) : Type 0 where
  pub of_step : (history : History) → IsRaced opening history → BeginsAs opening history place text →
      place < length opening.scenario.steps →
      IsWantedOfStep opening (take place history) (slice_index_or (lines_of text) place []) want
  pub of_end : (history : History) → IsRaced opening history → BeginsAs opening history place text →
      length opening.scenario.steps ≤ place →
      want ≡ option_map without_feed (slice_get (lines_printed opening history) place)

-- ---- the verdict

-- The text is no printed run: its first wrong line, counted from the number of its first line on, what is wanted there,
-- and what is told of the line that stands there.
pub record IsRefuted (opening : Opening) (first : ℕ) (text : List ℕ) (line : ℕ) (want found : Option (List ℕ)) : Type 0 where
  pub place : ℕ
  pub number : line ≡ first + place
  pub wrong : IsFirstWrong opening place text
  pub wanted : IsWanted opening place text want
  pub tells : found ≡ option_map told (slice_get (lines_of text) place)

-- what the verdict on a text is, whose first line has this number
abbrev pub IsVerdict : Opening → ℕ → List ℕ → Verdict → Type 0
IsVerdict opening first text Yes = IsPrinted opening text
IsVerdict opening first text (No line want found) = IsRefuted opening first text line want found
