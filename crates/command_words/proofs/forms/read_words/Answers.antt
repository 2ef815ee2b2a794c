use Rattle.std.proofs.Common.{◌≡◌, ◌∙◌, ◌&&◌, sym, ap, Bool, false, not, List, map}
use Rattle.std.specs.Bool.{then_some}
use Rattle.std.specs.List.{list_any}
use Rattle.std.specs.String.{string_bytes}
use Rattle.clap.specs.Walk.{Text}
use Rattle.command_words.specs.declared.forms.CommandForm.{CommandForm}
use Rattle.command_words.specs.Forms.{is_command, is_option, is_plain_command}
use Rattle.command_words.proofs.forms.read_words.Goals as goal

-- words that begin with no `-` are a command's where they are one
plain_is : (forms : List CommandForm) (words : List Text) (option : Bool) → option ≡ list_any is_option words → option ≡ false →
    then_some (is_command forms words) words ≡ then_some (is_plain_command forms words) words
plain_is forms words option is plain = ap (λ (option : Bool). then_some (not option && is_command forms words) words) (sym plain ∙ is)

pub returns-in-Ok : goal.returns-in-Ok
returns-in-Ok c = c.in-Ok.ensures ∙ plain_is c.args.forms.now (map string_bytes c.args.words.now) c.has_option.result c.has_option.ensures c.if-has_option.false

pub returns-in-Err : goal.returns-in-Err
returns-in-Err c = c.spelled.ensures ∙ plain_is c.args.forms.now (map string_bytes c.args.words.now) c.has_option.result c.has_option.ensures c.if-has_option.false
