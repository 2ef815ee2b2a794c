-- Forms: which words are those of a command (this project's).
use Rattle.std.specs.Prelude.{◌==◌, ◌&&◌, Bool, true, false, not, List, [], ◌∷◌, Option, Some, None, find, option_map}
use Rattle.std.specs.List.{list_any}
use Rattle.std.specs.Option.{option_map_or}
use Rattle.std.specs.Borrow.{Bor}
use Rattle.std.specs.Str.{bytes_eq}
use Rattle.clap.specs.Walk.{Text}
use Rattle.command_words.specs.declared.forms.CommandForm.{CommandForm}
use Rattle.command_words.specs.declared.forms.Value.{Value}
use Rattle.command_words.specs.declared.forms.Value.TheVariants.{Absent, Required, Optional}

-- whether a word begins with `-` (45), so that a parser would look for an option
abbrev pub is_option : Text → Bool
is_option [] = false
is_option (byte ∷ rest) = byte == 45

-- whether these words may follow the name
abbrev pub fits : Value → List Text → Bool
fits Absent [] = true
fits Required (word ∷ []) = true
fits Optional [] = true
fits Optional (word ∷ []) = true
fits value words = false

-- the first form of this name
abbrev pub form_named : Text → List CommandForm → Option CommandForm
form_named name forms = find (λ form. bytes_eq form.name.now name) forms

-- whether the words are a command's: the name of one, and what may follow it
abbrev pub is_command : List CommandForm → List Text → Bool
is_command forms [] = false
is_command forms (name ∷ words) = option_map_or (λ form. fits form.value words) (form_named name forms) false

-- whether they are, and none of them begins with `-`
abbrev pub is_plain_command : List CommandForm → List Text → Bool
is_plain_command forms words = not (list_any is_option words) && is_command forms words

-- the words that a name and a value make
abbrev pub words_by : Text → Option Text → List Text
words_by name None = name ∷ []
words_by name (Some value) = name ∷ value ∷ []

-- the same for those that are read
abbrev pub words_of : Bor Text × Option (Bor Text) → List Text
words_of read = words_by read.0.now (option_map (λ value. value.now) read.1)
