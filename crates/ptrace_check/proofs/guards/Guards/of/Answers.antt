use Rattle.std.proofs.Common.{◌∙◌, sym, map, arith}
use Rattle.std.proofs.lemmas.List.{length-map}
use Rattle.std.proofs.lemmas.Result.{IfOk-from_err}
use Rattle.ptrace_check.proofs.Benches.{seated, guards_in-seated, caps-seated, none_left, seated-more, taken-more, AreKept-idle}
use Rattle.ptrace_check.proofs.guards.Guards.of.Goals as goal

pub returns-clause-guards : goal.returns-clause-guards
returns-clause-guards g c =
    let rest = c.loop-guard.guard-iterator.rest in
    let all = none_left c.loop-guard.yielded rest.items c.args.list.items c.loop-guard.invariant.parts (sym rest.ok.0 ∙ c.in-None.ensures.steps.0) in
    rw (c.loop-guard.invariant.seats, all, c.in_ok-active.ensures.items, c.args.list.ok.0)
    (guards_in-seated g.G.Guard.pairs g.G.Guard.asked g.G.Guard.cap c.args.list.items c.requires.fresh)

pub returns-clause-caps : goal.returns-clause-caps
returns-clause-caps g c =
    let rest = c.loop-guard.guard-iterator.rest in
    let all = none_left c.loop-guard.yielded rest.items c.args.list.items c.loop-guard.invariant.parts (sym rest.ok.0 ∙ c.in-None.ensures.steps.0) in
    rw (c.loop-guard.invariant.seats, all)
    (caps-seated g.G.Guard.pairs g.G.Guard.asked g.G.Guard.cap c.args.list.items)

pub loop-guard-init : goal.loop-guard-init
loop-guard-init g c = record { seats = c.in_ok-seats.ensures.items; room = c.in_ok-seats.ensures.room ∙ c.len-2.ensures; parts = c.into_iter-guard-iterator.ensures.into_iter_gives.0 }

pub loop-guard-preserved : goal.loop-guard-preserved
loop-guard-preserved g c =
    record {
      seats = seated-more g.G.Guard.pairs g.G.Guard.asked g.G.Guard.cap c.loop-guard.yielded c.in-Some.guard c.loop-guard.seats.items c.of.result c.push.new.self.items
          c.loop-guard.invariant.seats c.of.ensures c.push.ensures.items;
      room = c.push.ensures.room ∙ c.loop-guard.invariant.room;
      parts = taken-more c.loop-guard.yielded c.in-Some.guard c.next.new.self.rest.items c.loop-guard.guard-iterator.rest.items c.args.list.items
          c.in-Some.ensures.steps.0 c.loop-guard.invariant.parts;
    }

pub returns-in_err-seats : goal.returns-in_err-seats
returns-in_err-seats g c = record {
  guards = IfOk-from_err c.from_residual-in_err-seats.result _ c.from_residual-in_err-seats.ensures.0;
  caps = IfOk-from_err c.from_residual-in_err-seats.result _ c.from_residual-in_err-seats.ensures.0;
}

pub returns-in_err-active : goal.returns-in_err-active
returns-in_err-active g c = record {
  guards = IfOk-from_err c.from_residual.result _ c.from_residual.ensures.0;
  caps = IfOk-from_err c.from_residual.result _ c.from_residual.ensures.0;
}

pub invariant_of-result : goal.invariant_of-result
invariant_of-result g c =
    let rest = c.loop-guard.guard-iterator.rest in
    let all = none_left c.loop-guard.yielded rest.items c.args.list.items c.loop-guard.invariant.parts (sym rest.ok.0 ∙ c.in-None.ensures.steps.0) in
    let long = length-map c.args.list.items (seated g.G.Guard.pairs g.G.Guard.asked g.G.Guard.cap) in
    rw (c.loop-guard.invariant.seats, all)
    (AreKept-idle (map (seated g.G.Guard.pairs g.G.Guard.asked g.G.Guard.cap) c.args.list.items) c.in_ok-active.active.items _ c.in_ok-active.ensures.items
    (omega (arith, long, c.in_ok-active.ensures.room, c.len.ensures, c.args.list.ok.0))
    (omega (arith, long, c.requires.fresh.few)))
