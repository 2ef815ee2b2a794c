use Rattle.std.proofs.Common.{◌≡◌, Bool, true, false, refl, arith}
use Rattle.std.specs.Prelude.{IfSome}
use Rattle.std.specs.Bool.{then_some}
use Rattle.std.proofs.lemmas.Bool.{leb-true}
use Rattle.scenario_text.proofs.UsualLines.{one_is, two_digits_before}
use Rattle.scenario_text.proofs.usual.small_before.Goals as goal

if_some : {A : Type 0} (holds : Bool) (x : A) (P : A → Type 0) → (holds ≡ true → P x) → IfSome (then_some holds x) P
if_some true x P h = h refl
if_some false x P h = tt

pub returns : goal.returns
returns c =
    let text = c.args.text.now in
    let unit = c.in_ok-unit in
    rw c.then_some.ensures
    (if_some _ _ _ (λ fits. two_digits_before c.args.most unit.unit c.args.end text _ unit.rest.now (one_is text 49 c.in-49.len_at_least (omega arith)) unit.ensures (leb-true _ _ fits)))
