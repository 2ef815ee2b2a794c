use Rattle.std.proofs.Common.{◌∙◌, ap, sym}
use Rattle.std.specs.Prelude.{◌==◌}
use Rattle.std.specs.List.{list_any}
use Rattle.core_lanes.proofs.account.charge_once.Goals as goal

pub raise-requires : goal.raise-requires
raise-requires c = record { fits = c.requires.low (ap (list_any (λ one. one == c.args.pid)) (sym c.deref.ensures.0) ∙ sym c.is_among.ensures ∙ c.if-not-is_among.true) }
