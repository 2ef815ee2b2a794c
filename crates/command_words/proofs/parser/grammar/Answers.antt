use Rattle.std.proofs.Common.{◌≡◌, ◌∙◌, sym, ap, ap₂, List, [], ◌∷◌, ◌++◌, take}
use Rattle.std.proofs.lemmas.List.{map_push, take_more}
use Rattle.clap.specs.Walk.{Text, is_empty}
use Rattle.clap.specs.Simple.{App, new_shape, with_subcommand}
use Rattle.clap.proofs.SimpleLemmas.{not_empty}
use Rattle.command_words.specs.declared.forms.CommandForm.{CommandForm}
use Rattle.command_words.specs.Program.{command_of, program, strict}
use Rattle.command_words.proofs.parser.grammar.Goals as goal

-- one more command
appended : (name : Text) (forms : List CommandForm) (form : CommandForm) →
    with_subcommand (program (is_empty forms) name forms) (command_of form.name.now form.value) ≡ program (is_empty (forms ++ form ∷ [])) name (forms ++ form ∷ [])
appended name forms form =
    (λ i. record { top = record (strict (new_shape name)) { is_leaf = sym (not_empty forms form) i }; subs = sym (map_push (λ (form : CommandForm). command_of form.name.now form.value) forms form) i })

pub loop-form-preserved : goal.loop-form-preserved
loop-form-preserved c =
    let before = take c.loop-form.form-index c.args.forms.now in
    c.in_ok-grammar.ensures.shape c.in_ok-command.ensures.1 ∙ ap₂ with_subcommand c.loop-form.invariant (ap (λ (a : App). a.top) c.in_ok-command.ensures.0)
    ∙ appended c.args.program.now before _
    ∙ ap (λ (forms : List CommandForm). program (is_empty forms) c.args.program.now forms) (sym (take_more c.args.forms.now c.loop-form.form-index _ c.loop-form-test.true))
