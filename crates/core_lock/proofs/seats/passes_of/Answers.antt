use Rattle.std.proofs.lemmas.Result.{IfOk-from_err}
use Rattle.std.proofs.Common.{◌^◌, ◌<◌, sym, ap, subst, arith, List}
use Rattle.cs_types.specs.declared.event.Step.{Step}
use Rattle.core_lock.specs.Lists.{AreLists, steps_in}
use Rattle.core_lock.proofs.Giving.{splits_at, given_pass, dealt_more}
use Rattle.core_lock.proofs.seats.passes_of.Goals as goal

pub split_seat-given-requires : goal.split_seat-given-requires
split_seat-given-requires g c =
    let top = c.args.top.now in
    let was = c.loop-steps.invariant in (
      was.at,
      omega (arith, sym (ap (λ t. t.words) c.requires.table.0), c.requires.table.1),
      splits_at g.R.Room.opening g.R.Room.spare g.R.Room.history top.table_id top.key.value c.loop-steps.seat.table_id c.loop-steps.seat.id c.loop-steps.seat.me c.loop-steps.passes.items c.loop-steps.steps-iterator.rest.items
          c.next.new.self.rest.items c.in-Some.steps was c.in-Some.ensures.steps.0,
    )

pub invariant_of-push : goal.invariant_of-push
invariant_of-push g c =
    let top = c.args.top.now in
    let P : List (List Step) → Type 0 = λ l. AreLists (g.R.Room.opening top.key.value.room).scenario.siblings l in
    given_pass g.R.Room.opening g.R.Room.spare top.table_id top.key.value c.loop-steps.seat.table_id c.loop-steps.seat.me c.split_seat-given.result.me c.loop-steps.passes.items c.loop-steps.steps-iterator.rest.items
    c.next.new.self.rest.items c.in-Some.steps c.loop-steps.invariant c.in-Some.ensures.steps.0 c.split_seat-given.ensures.4
    (subst P c.requires.lists c.requires.fair) (subst (λ (l : List (List Step)). steps_in l < 2 ^ 64) c.requires.lists c.requires.fits)

pub loop-steps-preserved : goal.loop-steps-preserved
loop-steps-preserved g c =
    let top = c.args.top.now in
    let seat = c.loop-steps.seat in
    let split = c.split_seat-given.ensures in
    let given = c.split_seat-given.result in
    dealt_more g.R.Room.opening g.R.Room.spare top.table_id top.key.value seat.table_id seat.me c.split_seat-given.new.seat.me given.me c.split_seat-given.new.seat.table_id c.loop-steps.passes.items
    c.push.new.self.items c.loop-steps.steps-iterator.rest.items c.next.new.self.rest.items c.in-Some.steps given.table_id c.loop-steps.invariant c.in-Some.ensures.steps.0 split.0 split.2 split.3 split.4
    c.in_ok-push.ensures.items

pub returns-in_err-push : goal.returns-in_err-push
returns-in_err-push g c = IfOk-from_err _ _ c.from_residual.ensures.0
