use Rattle.std.proofs.Common.{List, length, rules, refl, ap, ◌∙◌}
use Rattle.std.specs.List.{refill}
use Rattle.cs_types.proofs.list.List.items_mut.Goals as goal

pub returns : goal.returns
returns g c =
    let items = c.self.inside.items in (
      (refl, λ w. ap (λ n. refill n items.items w) items.ok.0 ∙ ap (λ (list : List g.row.T.Denot). refill (length list) list w) c.self.view_is),
      record { writes_back = tt; value = search rules },
    )
