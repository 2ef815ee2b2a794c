use Rattle.std.proofs.Common.{◌≡◌, take}
use Rattle.clap.specs.Walk.{is_empty}
use Rattle.clap.specs.Simple.{app_of}
use Rattle.command_words.specs.Program.{program}
use Rattle.command_words.proofs.parser.grammar.Given as goal

-- the grammar has the commands so far
abbrev pub invariant-loop-form : goal.invariant-loop-form
invariant-loop-form l = app_of l.grammar ≡ program (is_empty (take l.form-index l.forms)) l.program (take l.form-index l.forms)
