use Rattle.std.proofs.Common.{◌≡◌, ◌∙◌, sym, ap, arith, take}
use Rattle.std.proofs.lemmas.List.{length-take, take_all}
use Rattle.room_drill.specs.Summary.{tally_of, with_reply, total}
use Rattle.room_drill.proofs.Tallies.{tally_next, few_counted}
use Rattle.room_drill.proofs.tally.count.Goals as goal

pub add-requires : goal.add-requires
add-requires g c =
    let history = g.R.Room.history c.args.room.now in
    let before = take c.loop-place.place history in
    let counted : total c.loop-place.tally ≡ total (tally_of before) = ap total c.loop-place.invariant in
    omega (arith, counted, few_counted before, length-take c.loop-place.place history, c.length-place-end.type_inv, c.loop-place-test.true)

pub loop-place-preserved : goal.loop-place-preserved
loop-place-preserved g c =
    c.add.ensures ∙ ap (with_reply c.unwrap-entry.result.reply) c.loop-place.invariant
    ∙ sym (tally_next (g.R.Room.history c.args.room.now) c.loop-place.place c.unwrap-entry.result (sym c.entry.ensures ∙ c.unwrap-entry.ensures))

pub returns : goal.returns
returns g c =
    c.loop-place.invariant
    ∙ ap tally_of (take_all c.loop-place.place (g.R.Room.history c.args.room.now) (omega (arith, c.length-place-end.ensures.length, c.loop-place-test.false)))
