use Rattle.std.proofs.Common.{◌∙◌, sym}
use Rattle.std.specs.Prelude.{◌||◌}
use Rattle.cs_types.specs.Time.{is_overtaken, is_to_yield}
use Rattle.core_lanes.specs.Lanes.{room_of}
use Rattle.core_clock.proofs.time.asks_at_tick.Goals as goal

pub returns-then-rotates-clause-asks : goal.returns-then-rotates-clause-asks
returns-then-rotates-clause-asks g c beside =
    let room = room_of beside (c.args.core.now, c.args.table.now) in
    let behind = sym (c.requires.rotates beside) ∙ c.if-rotates.true in
    sym (λ i. behind i || is_overtaken room c.args.cpu c.args.task.now || is_to_yield room c.args.cpu c.args.task.now)

pub returns-then-is_overtaken-clause-asks : goal.returns-then-is_overtaken-clause-asks
returns-then-is_overtaken-clause-asks g c beside =
    let room = room_of beside (c.args.core.now, c.args.table.now) in
    let behind = sym (c.requires.rotates beside) ∙ c.if-rotates.false in
    let overtaken = sym (c.is_overtaken.ensures.overtaken beside) ∙ c.if-is_overtaken.true in
    c.if-is_overtaken.true ∙ sym (λ i. overtaken i || is_to_yield room c.args.cpu c.args.task.now) ∙ sym (λ i. behind i || is_overtaken room c.args.cpu c.args.task.now || is_to_yield room c.args.cpu c.args.task.now)

pub returns-else-is_overtaken-clause-asks : goal.returns-else-is_overtaken-clause-asks
returns-else-is_overtaken-clause-asks g c beside =
    let room = room_of beside (c.args.core.now, c.args.table.now) in
    let behind = sym (c.requires.rotates beside) ∙ c.if-rotates.false in
    let overtaken = sym (c.is_overtaken.ensures.overtaken beside) ∙ c.if-is_overtaken.false in
    c.is_to_yield.ensures.yields beside ∙ sym (λ i. overtaken i || is_to_yield room c.args.cpu c.args.task.now) ∙ sym (λ i. behind i || is_overtaken room c.args.cpu c.args.task.now || is_to_yield room c.args.cpu c.args.task.now)
