use Rattle.std.proofs.Common.{rules, ◌≢◌, ◌∙◌}
use Rattle.std.specs.String.{string_bytes}
use Rattle.std.specs.Prelude.{map}
use Rattle.clap.specs.Walk.{is_empty}
use Rattle.clap.specs.Simple.{app_of}
use Rattle.clap.specs.Values.{kind_of}
use Rattle.clap.specs.declared.error.kind.ErrorKind.TheVariants.{OutOfMemory}
use Rattle.command_words.proofs.Parses.{said, unsaid}
use Rattle.command_words.proofs.parser.parsed.Goals as goal

pub returns-in-Ok : goal.returns-in-Ok
returns-in-Ok c =
    c.matched.ensures
    ∙ said (is_empty c.args.forms.now) c.args.program.now c.args.forms.now (app_of c.in_ok-grammar.grammar) (map string_bytes c.args.words.now) c.in_ok-grammar.ensures c.requires
    c.in-Ok.matches c.in-Ok.ensures.matches c.in-Ok.ensures.kinds

pub returns : goal.returns
returns c =
    let other : kind_of c.in-Err.error ≢ OutOfMemory = search rules in
    unsaid (is_empty c.args.forms.now) c.args.program.now c.args.forms.now (app_of c.in_ok-grammar.grammar) (map string_bytes c.args.words.now) c.in_ok-grammar.ensures c.requires
    c.in-Err.error other c.in-Err.ensures.kinds
