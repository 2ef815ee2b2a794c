use Rattle.std.proofs.Common.{◌∙◌, ap, ◌&&◌, ◌==◌}
use Rattle.core_pick.specs.declared.lead.First.{First}
use Rattle.core_pick.proofs.pick.is_plain.Goals as goal

pub returns : goal.returns
returns g c beside table cpu is_first =
    let cookie = ap (λ (kept : First). kept.choice.cookie) (is_first beside) in
    let count = c.count.ensures.count in
    c.is_cookieless.ensures ∙ (λ i. (c.args.core.now.cookie == 0) && (count i == 0) && (cookie i == 0))
