-- Table: what is told of the segments of a run, as a table.
use Rattle.std.specs.Prelude.{ℕ, Option, Some, None, List, [], ◌∷◌, ◌++◌, decimal}
use Rattle.std.specs.List.{flat_map, join_with_byte}
use Rattle.run_segments.specs.declared.segments.Segment.{Segment}
use Rattle.scenario_text.specs.Words.{Word, answer_word}
use Rattle.segment_text.specs.Cells.{columns, state_word, cookie_of, is_forced, pid_of, group_of}

-- a number, or an empty cell if there is none
abbrev pub number_cell : Option ℕ → Word
number_cell None = []
number_cell (Some number) = decimal number

-- the cells of a segment
abbrev pub cells_of : Segment → List Word
cells_of segment =
    decimal segment.from ∷ decimal segment.to ∷ decimal segment.cpu ∷ state_word segment.doing ∷ number_cell (cookie_of segment.doing)
    ∷ answer_word segment.pending ∷ answer_word (is_forced segment.doing) ∷ number_cell (pid_of segment.pid)
    ∷ number_cell (group_of segment.group) ∷ []

-- cells with a tab between two, and a line feed
abbrev pub tabbed : List Word → List ℕ
tabbed cells = join_with_byte 9 cells ++ 10 ∷ []

-- the line of a segment
abbrev pub row_text : Segment → List ℕ
row_text segment = tabbed (cells_of segment)

-- the text: the names of the columns, and a line for each segment
abbrev pub segments_text : List Segment → List ℕ
segments_text segments = tabbed columns ++ flat_map row_text segments
