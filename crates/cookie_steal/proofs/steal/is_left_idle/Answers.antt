use Rattle.std.proofs.Common.{arith, ap, ◌∙◌, sym, ◌≡◌, true, false, refl}
use Rattle.std.specs.Prelude.{not, ◌&&◌, ◌==◌, Option, None, Some, is_none}
use Rattle.std.specs.Option.{option_map}
use Rattle.cs_types.specs.declared.task.Task.{Task}
use Rattle.cs_types.specs.Queue.{queued_of}
use Rattle.cs_types.specs.Room.{SiblingState, sibling_of}
use Rattle.cs_types.specs.Selection.{first_on}
use Rattle.core_lanes.specs.Lanes.{room_of}
use Rattle.core_lanes.proofs.Stays.{lane_at}
use Rattle.core_lanes.proofs.Counted.{of_one}
use Rattle.cookie_steal.proofs.steal.is_left_idle.Goals.{then-is_none, else-is_none}
use Rattle.std.proofs.Math.Bool.{not-not}
use Rattle.cookie_steal.proofs.steal.is_left_idle.Goals as goal

-- a queue has none where there is none
none_queued : (first : Option Task) → is_none (option_map queued_of first) ≡ is_none first
none_queued None = refl
none_queued (Some task) = refl

pub returns-then-is_none-2-clause-idle : goal.returns-then-is_none-2-clause-idle
returns-then-is_none-2-clause-idle g c beside =
    let room = room_of beside (c.args.core.now, c.args.table.now) in
    let empty : is_none (first_on room c.args.cpu) ≡ c.is_none.result =
    sym (none_queued (first_on room c.args.cpu)) ∙ ap is_none (sym (c.first_on.ensures.first beside)) ∙ ap not c.is_none.ensures ∙ not-not c.is_none.result in
    elim c.if-is_none.branch [
      | then-is_none w ↦
          let at = lane_at c.args.core.now.lanes.items c.args.cpu w.index.result.now c.requires.cpu w.index.ensures in
          let none = empty ∙ w.if-is_none.true in
          let idles : is_none (sibling_of room c.args.cpu).run ≡ true =
          ap (λ (s : SiblingState). is_none s.run) at ∙ ap not w.is_none-then-is_none.ensures ∙ ap (λ b. not (not b)) (sym w.value-is ∙ c.if-is_none-2.true) in
          ap (λ n. not (n == 0)) c.count.ensures.count ∙ sym (λ i. none i && idles i && not (room.forced == 0))
      | else-is_none w ↦ let bad = sym (w.value-is ∙ w.if-is_none.false) ∙ c.if-is_none-2.true in absurd cc
    ]

pub returns-else-is_none-2-clause-idle : goal.returns-else-is_none-2-clause-idle
returns-else-is_none-2-clause-idle g c beside =
    let room = room_of beside (c.args.core.now, c.args.table.now) in
    let empty : is_none (first_on room c.args.cpu) ≡ c.is_none.result =
    sym (none_queued (first_on room c.args.cpu)) ∙ ap is_none (sym (c.first_on.ensures.first beside)) ∙ ap not c.is_none.ensures ∙ not-not c.is_none.result in
    elim c.if-is_none.branch [
      | then-is_none w ↦
          let at = lane_at c.args.core.now.lanes.items c.args.cpu w.index.result.now c.requires.cpu w.index.ensures in
          let none = empty ∙ w.if-is_none.true in
          let runs : is_none (sibling_of room c.args.cpu).run ≡ false =
          ap (λ (s : SiblingState). is_none s.run) at ∙ ap not w.is_none-then-is_none.ensures ∙ ap (λ b. not (not b)) (sym w.value-is ∙ c.if-is_none-2.false) in
          c.if-is_none-2.false ∙ sym (λ i. none i && runs i && not (room.forced == 0))
      | else-is_none w ↦
          let some = empty ∙ w.if-is_none.false in
          c.if-is_none-2.false ∙ sym (λ i. some i && is_none (sibling_of room c.args.cpu).run && not (room.forced == 0))
    ]

pub returns-then-is_none-2-clause-counted : goal.returns-then-is_none-2-clause-counted
returns-then-is_none-2-clause-counted g c =
    omega (arith, c.first_on.ensures.counted, of_one g.Q.SiblingQueue.most_compared g.met.Q.SiblingQueue.rises c.args.table.now.tasks c.args.cpu)

pub returns-else-is_none-2-clause-counted : goal.returns-else-is_none-2-clause-counted
returns-else-is_none-2-clause-counted g c =
    omega (arith, c.first_on.ensures.counted, of_one g.Q.SiblingQueue.most_compared g.met.Q.SiblingQueue.rises c.args.table.now.tasks c.args.cpu)
