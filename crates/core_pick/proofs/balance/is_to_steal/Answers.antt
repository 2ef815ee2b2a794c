use Rattle.std.proofs.Common.{ap, ◌∙◌, sym, ◌≡◌, true}
use Rattle.std.proofs.lemmas.Bool.{ne_eqb}
use Rattle.std.specs.Prelude.{not, ◌&&◌, ◌==◌, is_none, is_some}
use Rattle.cs_types.specs.Room.{SiblingState, sibling_of}
use Rattle.cs_types.specs.Selection.{first_on}
use Rattle.core_lanes.specs.Lanes.{room_of}
use Rattle.core_lanes.proofs.Stays.{lane_at}
use Rattle.core_pick.proofs.balance.is_to_steal.Goals.{then-count-ne0, else-count-ne0, then-is_none, else-is_none}
use Rattle.core_pick.proofs.balance.is_to_steal.Goals as goal

pub returns-then-core-ne0 : goal.returns-then-core-ne0
returns-then-core-ne0 g c beside =
    let room = room_of beside (c.args.core.now, c.args.table.now) in
    let last = is_some (first_on room c.args.cpu) in
    elim c.if-is_none.branch [
      | then-is_none w ↦ (elim c.if-count-ne0.branch [
        | then-count-ne0 v ↦
            let at = lane_at c.args.core.now.lanes.items c.args.cpu v.index.result.now c.requires.cpu v.index.ensures in
            let some : not (room.forced == 0) ≡ true = ap (λ n. not (n == 0)) (sym c.count.ensures.count) ∙ ap not (ne_eqb _ _ v.if-count-ne0.true) in
            let idles : is_none (sibling_of room c.args.cpu).run ≡ true =
            ap (λ (s : SiblingState). is_none s.run) at ∙ ap not v.is_none.ensures ∙ ap (λ b. not (not b)) (sym v.value-is ∙ w.if-is_none.true) in
            let has : not (room.core_cookie == 0) ≡ true = sym w.value-is ∙ c.if-core-ne0.true in
            c.has_queued.ensures beside ∙ sym (λ i. some i && idles i && has i && last)
        | else-count-ne0 v ↦
            let none = sym (v.value-is ∙ ap (λ n. not (n == 0)) v.if-count-ne0.false) ∙ w.if-is_none.true in absurd cc
      ])
      | else-is_none w ↦ let none = sym (w.value-is ∙ w.if-is_none.false) ∙ c.if-core-ne0.true in absurd cc
    ]
