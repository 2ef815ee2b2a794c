use Rattle.std.proofs.Common.{sym, subst, refl, arith}
use Rattle.std.proofs.lemmas.Result.{IfOk-from_err}
use Rattle.task_table.specs.Inside.{tasks_at, IsKept}
use Rattle.task_table.proofs.Kept.{kept_empty}
use Rattle.task_table.proofs.table.TaskTable.with_limit.Goals as goal

pub invariant_of-result : goal.invariant_of-result
invariant_of-result c =
    let slots = c.in_ok-with_room.field-0 in
    let threads = c.in_ok-none-2.field-0.all.items in
    let processes = c.in_ok-none-3.field-0.all.items in
    let room = c.in_ok-with_room-2.field-0.room in
    subst (λ es. IsKept slots es threads processes room c.args.limit (tasks_at slots es)) (sym c.in_ok-with_room-2.ensures.items)
    (kept_empty slots threads processes room c.args.limit (rw c.in_ok-with_room.ensures.empty refl) c.in_ok-none-2.ensures c.in_ok-none-3.ensures
    (omega (arith, c.in_ok-with_room-2.ensures.room)) (omega (arith, c.in_ok-with_room.ensures.room)) (omega (arith, c.ranges.limit.fits)))

-- ---- where there is no memory

pub returns-in_err-with_room : goal.returns-in_err-with_room
returns-in_err-with_room c = record { empty = IfOk-from_err _ _ c.from_residual.ensures.0; sound = IfOk-from_err _ _ c.from_residual.ensures.0 }

pub returns-in_err-with_room-2 : goal.returns-in_err-with_room-2
returns-in_err-with_room-2 c = record { empty = IfOk-from_err _ _ c.from_residual-in_err-with_room-2.ensures.0; sound = IfOk-from_err _ _ c.from_residual-in_err-with_room-2.ensures.0 }

pub returns-in_err-none : goal.returns-in_err-none
returns-in_err-none c = record { empty = IfOk-from_err _ _ c.from_residual-in_err-none.ensures.0; sound = IfOk-from_err _ _ c.from_residual-in_err-none.ensures.0 }

pub returns-in_err-none-2 : goal.returns-in_err-none-2
returns-in_err-none-2 c = record { empty = IfOk-from_err _ _ c.from_residual-in_err-none-2.ensures.0; sound = IfOk-from_err _ _ c.from_residual-in_err-none-2.ensures.0 }

pub returns-in_err-none-3 : goal.returns-in_err-none-3
returns-in_err-none-3 c = record { empty = IfOk-from_err _ _ c.from_residual-in_err-none-3.ensures.0; sound = IfOk-from_err _ _ c.from_residual-in_err-none-3.ensures.0 }
