-- Texts: the lines of a scenario, and the line of an entry. Words stand with one space between two of
-- them, and each line ends with a line feed.
use Rattle.std.specs.Prelude.{ℕ, ◌==◌, if◌then◌else◌, List, [], ◌∷◌, ◌++◌, map, codes, decimal}
use Rattle.std.specs.List.{flat_map, join_with_byte, enumerate_from, position_or_len}
use Rattle.cs_types.specs.declared.task.Creds.{Creds}
use Rattle.cs_types.specs.declared.task.TaskSpec.{TaskSpec}
use Rattle.cs_types.specs.declared.event.Step.{Step}
use Rattle.cs_types.specs.declared.reply.Entry.{Entry}
use Rattle.cs_types.specs.declared.scenario.Scenario.{Scenario}
use Rattle.cs_types.specs.Scenario.{is_user, users_of}
use Rattle.scenario_text.specs.Words.{Word, user_words, user_task_words, task_words, teach_words, made_words, reply_words}

-- words with a space between two
abbrev pub spaced : List Word → List ℕ
spaced words = join_with_byte 32 words

-- words with a space between two, and a line feed
abbrev pub line : List Word → List ℕ
line words = spaced words ++ 10 ∷ []

-- how many bytes a line can take that is put together: as many as the longest entry has, with its line feed
abbrev pub line_bytes : ℕ
line_bytes = 152

-- ---- scenarios

abbrev pub version_words : ℕ → List Word
version_words version = codes "coresched" ∷ decimal version ∷ []

abbrev pub siblings_words : Scenario → List Word
siblings_words scenario = codes "siblings" ∷ decimal scenario.siblings ∷ []

abbrev pub limits_words : Scenario → List Word
limits_words scenario =
    codes "limits" ∷ decimal scenario.task_limit ∷ decimal scenario.cookie_limit ∷ decimal scenario.user_top ∷ []

-- the lines of these users, which have their numbers from 0 on
abbrev pub users_words : List Creds → List (List Word)
users_words users = map (λ numbered. user_words numbered.0 numbered.1) (enumerate_from 0 users)

-- the number of the first of these users that has these credentials, and of none their count
abbrev pub number_of : List Creds → Creds → ℕ
number_of users creds = position_or_len (is_user creds) users

-- the line of a task in a text of this version, beside the lines of these users
abbrev pub task_words_in : ℕ → List Creds → TaskSpec → List Word
task_words_in version users task =
    if version == 2 then user_task_words (number_of users task.creds) task else task_words task

-- the users that have a line: those of the tasks in version 2, none in version 1
abbrev pub users_in : ℕ → List TaskSpec → List Creds
users_in version tasks = if version == 2 then users_of tasks else []

abbrev pub step_words : Step → List Word
step_words step = codes "step" ∷ made_words step.actor step.event

abbrev pub end_words : List Word
end_words = codes "end" ∷ []

-- the words of each line of a scenario
abbrev pub scenario_lines : Scenario → List (List Word)
scenario_lines scenario =
    let users = users_in scenario.version scenario.tasks in
    (version_words scenario.version ∷ siblings_words scenario ∷ limits_words scenario ∷ [])
    ++ users_words users ++ map (task_words_in scenario.version users) scenario.tasks
    ++ map teach_words scenario.teaches ++ map step_words scenario.steps ++ end_words ∷ []

-- the text of a scenario
abbrev pub scenario_text : Scenario → List ℕ
scenario_text scenario = flat_map line (scenario_lines scenario)

-- ---- entries

-- the step, a colon, and the reply
abbrev pub entry_text : Entry → List ℕ
entry_text entry =
    spaced (made_words entry.actor entry.event) ++ codes ": " ++ line (reply_words entry.reply)
