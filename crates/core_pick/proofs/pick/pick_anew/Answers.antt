use Rattle.std.proofs.Common.{ap, ◌∙◌, sym, cond, length, arith}
use Rattle.cs_types.specs.Selection.{pick_plain, select, pick_anew}
use Rattle.core_lanes.specs.Lanes.{at, room_of}
use Rattle.core_pick.proofs.Asked.{one_of_each}
use Rattle.core_pick.proofs.Cases.{Schedules-same}
use Rattle.core_pick.proofs.pick.pick_anew.Goals as goal

pub returns-then-is_plain : goal.returns-then-is_plain
returns-then-is_plain g c = record {
  schedules =
      let now = c.args.now in
      Schedules-same now (c.args.core.now, c.args.table.now) (c.pick_plain.new.core, c.args.table.now) c.args.cpu c.pick_plain.result (λ room. pick_plain room c.args.cpu) (λ room. pick_anew room c.args.cpu)
      (λ beside. let room = room_of (at now beside) (c.args.core.now, c.args.table.now) in
      ap (λ b. cond b (pick_plain room c.args.cpu) (select room c.args.cpu)) (sym (c.is_plain.ensures (at now beside) c.args.table.now c.args.cpu c.first_at-first.ensures.answer) ∙ c.if-is_plain.true))
      (c.pick_plain.ensures now c.args.table.now c.first_at-first.ensures.answer);
  counted = λ longest longer.
      let rises = g.met.Q.SiblingQueue.rises _ _ (longer c.args.cpu c.requires.cpu) in
      omega (arith, c.first_at-first.ensures.counted, rises, one_of_each c.args.cpu (length c.args.core.now.lanes.items) (g.Q.SiblingQueue.most_compared longest) c.requires.cpu);
}

pub returns-else-is_plain : goal.returns-else-is_plain
returns-else-is_plain g c = record {
  schedules =
      let now = c.args.now in
      Schedules-same now (c.args.core.now, c.args.table.now) (c.select.new.core, c.select.new.table) c.args.cpu c.select.result (λ room. select room c.args.cpu) (λ room. pick_anew room c.args.cpu)
      (λ beside. let room = room_of (at now beside) (c.args.core.now, c.args.table.now) in
      ap (λ b. cond b (pick_plain room c.args.cpu) (select room c.args.cpu)) (sym (c.is_plain.ensures (at now beside) c.args.table.now c.args.cpu c.first_at-first.ensures.answer) ∙ c.if-is_plain.false))
      c.select.ensures.schedules;
  counted = λ longest longer.
      let rises = g.met.Q.SiblingQueue.rises _ _ (longer c.args.cpu c.requires.cpu) in
      omega (arith, c.first_at-first.ensures.counted, rises, c.select.ensures.counted longest longer);
}
