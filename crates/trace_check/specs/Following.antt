-- Following: what is known while the judge makes the steps that the lines of a text name, and once it made them.
use Rattle.std.specs.Prelude.{◌≡◌, ◌≢◌, ℕ, ◌<◌, false, List, [], ◌∷◌, ◌++◌, length, map, All, Option, Some, None, IfSome, slice_index_or}
use Rattle.cs_types.specs.declared.event.Actor.{Actor}
use Rattle.cs_types.specs.declared.event.Step.{Step}
use Rattle.cs_types.specs.declared.reply.Entry.{Entry}
use mathlib.Core.List.{IsPrefix}
use Rattle.cs_types.specs.Scenario.{is_actor, script, IsStep}
use Rattle.cs_types.specs.Room.{Opening}
use Rattle.cs_types.specs.History.{History, moment_of, entry_of, history_of}
use Rattle.scenario_text.specs.Text.{entry_text}
use Rattle.scenario_text.specs.Entry.{FitsReply}
use Rattle.sibling_workers.specs.Race.{events_in}
use Rattle.trace_check.specs.declared.judging.Wrong.{Wrong}
use Rattle.trace_check.specs.Lines.{lines_of}
use Rattle.trace_check.specs.Scripts.{rank, BeginsWith, left_to}
use Rattle.trace_check.specs.Verdicts.{IsNext, Names}

-- the step of an entry
abbrev pub step_of : Entry → Step
step_of entry = record { actor = entry.actor; event = entry.event }

-- the line begins with no actor that has a step left
abbrev pub IsStuck : List Step → List ℕ → List ℕ → Type 0
IsStuck steps places line = (actor : Actor) → rank actor < 24 → BeginsWith actor line → left_to steps places actor ≡ []

-- The entry of the next step of the actor that the line begins with was made.
pub record HasStepped (opening : Opening) (steps : List Step) (places moved : List ℕ) (past now : History) (line : List ℕ) (entry : Entry) : Type 0 where
  pub known : rank entry.actor < 24
  pub begins : (actor : Actor) → rank actor < 24 → BeginsWith actor line → actor ≡ entry.actor
  pub next : left_to steps places entry.actor ≡ entry.event ∷ left_to steps moved entry.actor
  pub others : (other : Actor) → is_actor entry.actor other ≡ false → left_to steps moved other ≡ left_to steps places other
  pub is : entry ≡ entry_of (moment_of opening past) (step_of entry)
  pub history : now ≡ past ++ entry ∷ []
  pub fits : FitsReply entry.reply

-- there is an entry, and this is its line
abbrev pub HasLine : Option Entry → List ℕ → Type 0
HasLine None line = ⊥
HasLine (Some entry) line = entry_text entry ≡ line

-- Each entry of the history has the line of its place in the text, and this is left of the text.
pub record AreLines (history : History) (text rest : List ℕ) : Type 0 where
  pub lines : lines_of text ≡ map entry_text history ++ lines_of rest
  -- the numbers of its replies have 64 bits
  pub fits : All (λ entry. FitsReply entry.reply) history

-- All steps were made, each as a line names it.
pub record HasFollowed (opening : Opening) (history : History) (text rest : List ℕ) : Type 0 where
  pub made : List Step
  pub is : history ≡ history_of opening made
  pub scripts : (actor : Actor) → events_in actor made ≡ script opening.scenario actor
  pub limits : All (IsStep opening.scenario.siblings) made
  pub are : AreLines history text rest

-- The entry is that of the next step of its actor after this history, and not what the line says.
pub record IsOther (opening : Opening) (past : History) (line : List ℕ) (entry : Entry) : Type 0 where
  pub step : Step
  pub next : IsNext opening.scenario past step
  pub is : entry ≡ entry_of (moment_of opening past) step
  pub fits : FitsReply entry.reply
  pub other : entry_text entry ≢ line

-- Steps were made as long as the line in the place of each was that of its entry. This is the first that was not.
pub record IsWrongStep (opening : Opening) (text : List ℕ) (wrong : Wrong) : Type 0 where
  pub steps : List Step
  pub past : History
  pub rest : List ℕ
  pub is : past ≡ history_of opening steps
  pub scripts : (actor : Actor) → IsPrefix (events_in actor steps) (script opening.scenario actor)
  pub limits : All (IsStep opening.scenario.siblings) steps
  pub are : AreLines past text rest
  pub count : length past ≡ wrong.place
  pub left : wrong.place < length opening.scenario.steps
  pub line : wrong.line.now ≡ slice_index_or (lines_of rest) 0 []
  -- if the line begins with an actor that has a step left, the entry of that was made
  pub made : (step : Step) → IsNext opening.scenario past step → BeginsWith step.actor wrong.line.now →
      wrong.entry ≡ Some (entry_of (moment_of opening past) step)
  pub entry : IfSome wrong.entry (IsOther opening past wrong.line.now)

-- What is wanted of a line while steps are left: the line of the entry, if the line names its step, and else nothing.
pub record IsWantedLine (entry : Option Entry) (line want : List ℕ) : Type 0 where
  pub named : IfSome entry (λ made. Names line (step_of made) → want ≡ entry_text made)
  pub unnamed : IfSome entry (λ made. ¬ Names line (step_of made) → want ≡ [])
  pub none : entry ≡ None → want ≡ []
