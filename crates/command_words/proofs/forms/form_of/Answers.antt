use Rattle.std.proofs.Common.{rules, tests, ◌∙◌}
use Rattle.std.specs.Str.{bytes_eq}
use Rattle.std.proofs.lemmas.Iterator.{YieldsList-from_slice}
use Rattle.std.proofs.lemmas.Iterator.Search.{find_from_yields_List}
use Rattle.command_words.specs.declared.forms.CommandForm.{CommandForm}
use Rattle.command_words.proofs.forms.form_of.Goals as goal

pub returns : goal.returns
returns c =
    c.copied.ensures
    ∙ find_from_yields_List (λ (form : CommandForm). bytes_eq form.name.now c.args.name.now) _ _ c.find.result c.find.ensures.ran (YieldsList-from_slice c.args.forms.now cc) (λ form is q called. search (rules, tests))
