use Rattle.std.proofs.Common.{◌≡◌, List, length, map, sym, ap, ◌∙◌}
use Rattle.std.specs.FinMap.{entries, entries-from_sorted, is_sorted}
use Rattle.std.proofs.lemmas.List.{length-map}
use Rattle.cs_types.proofs.Queues.{said}
use Rattle.order_tree.specs.Order.{Entry, Ordered, key_cmp}
use Rattle.order_tree.specs.Anew.{rekeyed}
use Rattle.order_tree.proofs.order.OrderTree.renew.Goals as goal

pub renew-requires : goal.renew-requires
renew-requires g c =
    let are : entries c.args.self.now.members ≡ c.self.inside.tree.entries =
    ap (λ (o : Ordered). entries o.members) (sym c.self.view_is) ∙ entries-from_sorted key_cmp c.self.inside.tree.entries (said c.self.invariant.rising) in
    record { rising = ap (λ (es : List Entry). is_sorted key_cmp (map (rekeyed (g.R.Renewal.at c.args.renewal.now)) es)) (sym are) ∙ c.requires.rising }

pub invariant_of-self : goal.invariant_of-self
invariant_of-self g c =
    let are : entries c.args.self.now.members ≡ c.self.inside.tree.entries =
    ap (λ (o : Ordered). entries o.members) (sym c.self.view_is) ∙ entries-from_sorted key_cmp c.self.inside.tree.entries (said c.self.invariant.rising) in
    let sound = c.self.invariant in
    record {
      rising = ap (is_sorted key_cmp) c.renew.ensures.entries
          ∙ ap (λ (es : List Entry). is_sorted key_cmp (map (rekeyed (g.R.Renewal.at c.args.renewal.now)) es)) (sym are) ∙ c.requires.rising;
      counted = ap length c.renew.ensures.entries ∙ length-map c.self.inside.tree.entries (rekeyed (g.R.Renewal.at c.args.renewal.now)) ∙ sound.counted;
      first = c.look_anew.ensures;
      nodes = sound.nodes;
      places = sound.places;
      few = sound.few;
    }

pub returns-clause-entries : goal.returns-clause-entries
returns-clause-entries g c =
    let are : entries c.args.self.now.members ≡ c.self.inside.tree.entries =
    ap (λ (o : Ordered). entries o.members) (sym c.self.view_is) ∙ entries-from_sorted key_cmp c.self.inside.tree.entries (said c.self.invariant.rising) in
    let rising = ap (is_sorted key_cmp) c.renew.ensures.entries
    ∙ ap (λ (es : List Entry). is_sorted key_cmp (map (rekeyed (g.R.Renewal.at c.args.renewal.now)) es)) (sym are) ∙ c.requires.rising in
    entries-from_sorted key_cmp c.renew.new.self.entries (said rising)
    ∙ c.renew.ensures.entries ∙ ap (map (rekeyed (g.R.Renewal.at c.args.renewal.now))) (sym are)
