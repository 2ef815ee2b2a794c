-- Json: what is told of the segments of a run, as lines of JSON.
use Rattle.std.specs.Prelude.{ℕ, Bool, true, false, Option, Some, None, List, [], ◌∷◌, ◌++◌, map, codes, decimal}
use Rattle.std.specs.List.{flat_map, join_with_byte, zip}
use Rattle.run_segments.specs.declared.segments.Segment.{Segment}
use Rattle.scenario_text.specs.Words.{Word}
use Rattle.segment_text.specs.Cells.{columns, state_word, cookie_of, is_forced, pid_of, group_of}

-- a word in quotes; no word here needs escapes
abbrev pub quoted : Word → Word
quoted word = codes "\"" ++ word ++ codes "\""

-- whether something is so, in a word
abbrev pub truth_value : Bool → Word
truth_value true = codes "true"
truth_value false = codes "false"

-- a number, or `null` if there is none
abbrev pub number_or_null : Option ℕ → Word
number_or_null None = codes "null"
number_or_null (Some number) = decimal number

-- the values of a segment
abbrev pub values_of : Segment → List Word
values_of segment =
    decimal segment.from ∷ decimal segment.to ∷ decimal segment.cpu ∷ quoted (state_word segment.doing) ∷ number_or_null (cookie_of segment.doing)
    ∷ truth_value segment.pending ∷ truth_value (is_forced segment.doing) ∷ number_or_null (pid_of segment.pid)
    ∷ number_or_null (group_of segment.group) ∷ []

-- a member of an object: its name and its value
abbrev pub member : Word × Word → List ℕ
member named = quoted named.0 ++ codes ":" ++ named.1

-- an object with these values, named as the columns are: its members with a comma between two, in braces
abbrev pub object_of : List Word → List ℕ
object_of values = codes "{" ++ join_with_byte 44 (map member (zip columns values)) ++ codes "}"

-- the line of a segment
abbrev pub object_line : Segment → List ℕ
object_line segment = object_of (values_of segment) ++ 10 ∷ []

-- the text: a line for each segment
abbrev pub segments_json_text : List Segment → List ℕ
segments_json_text segments = flat_map object_line segments
