use Rattle.std.proofs.Common.{◌≡◌, ℕ, List, Err, ◌∙◌, sym, ap, subst, inl, inr}
use Rattle.std.proofs.lemmas.Result.{err_from_is_err_and}
use Rattle.scenario_text.specs.Text.{scenario_text}
use Rattle.scenario_text.specs.Faults.{lines_in, IsFirstBad}
use Rattle.scenario_input.specs.Input.{IsReadAs}
use Rattle.scenario_input.specs.Stop.{stop_of}
use Rattle.scenario_input.proofs.Inputs.{read_bytes}
use Rattle.scenario_input.proofs.input.read_and_keep.Goals as goal

-- The scenario is the one whose text was read.
pub returns-clause-reads : goal.returns-clause-reads
returns-clause-reads g c =
    let of = c.in_ok-scenario.ensures.found in
    let is : c.in_ok-kept.field-0.items ≡ scenario_text c.in_ok-scenario.scenario = sym c.deref.ensures.value ∙ of.text in
    record {
      valid = of.valid;
      read = subst (λ bytes. IsReadAs (g.S.Source.left c.args.source.now) bytes (g.S.Source.left c.read_to_end.new.source)) is c.in_ok-kept.ensures.whole;
      alone = λ other valid same. c.read.ensures.one other c.in_ok-scenario.scenario (record { valid = valid; text = of.text ∙ sym same }) of;
    }

-- A first bad line is told.
pub returns-in_err-scenario-clause-first : goal.returns-in_err-scenario-clause-first
returns-in_err-scenario-clause-first g c bytes line kind told fits bad other =
    let same = c.deref.ensures.value ∙ read_bytes _ _ bytes _ told c.in_ok-kept.ensures.whole in
    let fault = err_from_is_err_and c.from_residual-in_err-scenario.result c.from_residual-in_err-scenario.ensures.1 in
    elim (c.in_err-scenario.ensures.bad line kind (subst (λ (text : List ℕ). IsFirstBad (lines_in text) line kind) (sym same) bad)) [
      | inl is ↦ inl (fault.1 ∙ ap Err (fault.2 ∙ ap stop_of is))
      | inr is ↦ inr (fault.1 ∙ ap Err (fault.2 ∙ ap stop_of is))
    ]
