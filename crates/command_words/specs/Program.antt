-- Program: the grammar that the parser is given, and the words of what it met. It is what the functions of this crate
-- promise one another.
use Rattle.std.specs.Prelude.{Bool, true, List, [], ◌∷◌, map, codes}
use Rattle.clap.specs.Walk.{Text, Row, Rule, first_of}
use Rattle.clap.specs.Simple.{App, Shape, new_rule, new_shape}
use Rattle.command_words.specs.declared.forms.CommandForm.{CommandForm}
use Rattle.command_words.specs.declared.forms.Value.{Value}
use Rattle.command_words.specs.declared.forms.Value.TheVariants.{Absent, Required, Optional}
use Rattle.command_words.specs.Forms.{words_by}

-- all words are the program's own, no word asks for help or for a version, and a command has to be named
abbrev pub strict : Shape → Shape
strict shape =
    record shape {
      no_binary_name = true;
      disable_help_flag = true;
      disable_help_subcommand = true;
      disable_version_flag = true;
      subcommand_required = true;
    }

-- the argument of a command, if a value may follow it
abbrev pub rules_of : Value → List Rule
rules_of Absent = []
rules_of Required = record (new_rule (codes "value")) { required = true } ∷ []
rules_of Optional = new_rule (codes "value") ∷ []

-- a command of this name, with the value that may follow it
abbrev pub command_of : Text → Value → Shape
command_of name value = record (new_shape name) { rules = rules_of value }

-- the grammar: the program, which may have no command, and its commands
abbrev pub program : Bool → Text → List CommandForm → App
program is_leaf name forms =
    record {
      top = record (strict (new_shape name)) { is_leaf = is_leaf };
      subs = map (λ form. command_of form.name.now form.value) forms;
    }

-- the words of the subcommand that was met
abbrev pub words_met : Text × List Row → List Text
words_met met = words_by met.0 (first_of (codes "value") met.1)
