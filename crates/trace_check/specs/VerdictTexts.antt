-- VerdictTexts: what is written of a verdict, as lines and as JSON (this project's rules).
use Rattle.std.specs.Prelude.{ℕ, Bool, if◌then◌else◌, List, [], ◌∷◌, ◌++◌, codes, decimal, Option, Some, None, encode_utf8_all}
use Rattle.serde_json.specs.Data.{Data, null, number, unsigned, string, object, member, no_members}
use Rattle.serde_json.specs.Written.{compact_text}
use Rattle.trace_check.specs.declared.verdict.Verdict.{Verdict}
use Rattle.trace_check.specs.declared.verdict.Verdict.TheVariants.{Yes, No}

-- ---- as lines

-- what is told of a line, `-` if there is none
abbrev pub or_dash : Option (List ℕ) → List ℕ
or_dash None = codes "-"
or_dash (Some line) = line

abbrev pub verdict_text : Verdict → List ℕ
verdict_text Yes = codes "yes" ++ 10 ∷ []
verdict_text (No line want found) =
    codes "no line " ++ decimal line ++ 10 ∷ []
    ++ codes "want " ++ or_dash want ++ 10 ∷ []
    ++ codes "found " ++ or_dash found ++ 10 ∷ []

-- ---- as JSON

-- what is told of a line, as a string of the characters whose codes its bytes are; `null` if there is none
abbrev pub string_or_null : Option (List ℕ) → Data
string_or_null None = null
string_or_null (Some line) = string (encode_utf8_all line)

-- the object of a text that is no printed run: its first wrong line, what is wanted there and what is found
abbrev pub refutation_data : ℕ → Data → Data → Data
refutation_data line want found =
    object
    (member (codes "found") found
    (member (codes "line") (number (unsigned line))
    (member (codes "verdict") (string (codes "no"))
    (member (codes "want") want
    no_members))))

abbrev pub verdict_data : Verdict → Data
verdict_data Yes = object (member (codes "verdict") (string (codes "yes")) no_members)
verdict_data (No line want found) = refutation_data line (string_or_null want) (string_or_null found)

-- one line, with no space between its parts
abbrev pub verdict_json : Verdict → List ℕ
verdict_json verdict = compact_text (verdict_data verdict) ++ 10 ∷ []

-- ---- either

-- what is written of a verdict: JSON if it is asked for, and else lines
abbrev pub verdict_output : Bool → Verdict → List ℕ
verdict_output json verdict = if json then verdict_json verdict else verdict_text verdict
