use Rattle.std.proofs.Common.{◌≡◌, ℕ, true, false, [], ◌∷◌, ◌++◌, List, length, map, sym, ap, ◌∙◌, arith, length-append}
use Rattle.std.proofs.lemmas.Bool.{cond-true, cond-false}
use Rattle.std.proofs.lemmas.List.{length-map, append-nil, append_assoc}
use Rattle.cs_types.specs.declared.task.Task.{Task}
use Rattle.core_lanes.specs.Queued.{queued_among, mover_of}
use Rattle.core_lanes.proofs.Queues.{is_on}
use Rattle.plain_room.proofs.walk.tell.Goals as goal

-- one more is told where it is queued there
goes : (task : Task) (rest : List Task) (cpu : ℕ) (told : List (ℕ × ℕ)) → is_on cpu task ≡ true →
    (told ++ mover_of task ∷ []) ++ map mover_of (queued_among rest cpu) ≡ told ++ map mover_of (queued_among (task ∷ rest) cpu)
goes task rest cpu told on =
    append_assoc told (mover_of task ∷ []) (map mover_of (queued_among rest cpu))
    ∙ ap (λ (tasks : List Task). told ++ map mover_of tasks) (sym (cond-true (is_on cpu task) (task ∷ queued_among rest cpu) (queued_among rest cpu) on))

-- and none where it is not
passes : (task : Task) (rest : List Task) (cpu : ℕ) (told : List (ℕ × ℕ)) → is_on cpu task ≡ false →
    told ++ map mover_of (queued_among rest cpu) ≡ told ++ map mover_of (queued_among (task ∷ rest) cpu)
passes task rest cpu told off =
    ap (λ (tasks : List Task). told ++ map mover_of tasks) (sym (cond-false (is_on cpu task) (task ∷ queued_among rest cpu) (queued_among rest cpu) off))

pub push-requires : goal.push-requires
push-requires c =
    let told = c.loop-task.movers.items in
    let task = c.in-Some.task.now in
    let rest = c.next.new.self in
    let cpu = c.args.cpu in
    let all = queued_among c.args.table.now.tasks cpu in
    let steps : c.loop-task.task-iterator ≡ task ∷ rest = c.in-Some.ensures.steps in
    let more = goes task rest cpu told (sym c.is_on.ensures ∙ c.if-is_on.true)
    ∙ ap (λ (tasks : List Task). told ++ map mover_of (queued_among tasks cpu)) (sym steps)
    ∙ c.loop-task.invariant.told in (
      omega arith,
      omega (
        arith,
        ap length more,
        length-append (told ++ mover_of task ∷ []) (map mover_of (queued_among rest cpu)),
        length-append told (mover_of task ∷ []),
        length-append c.args.movers.now.items (map mover_of all),
        length-map all mover_of,
        c.requires.places,
      ),
    )

pub loop-task-preserved : goal.loop-task-preserved
loop-task-preserved c =
    let told = c.loop-task.movers.items in
    let task = c.in-Some.task.now in
    let rest = c.next.new.self in
    let steps : c.loop-task.task-iterator ≡ task ∷ rest = c.in-Some.ensures.steps in
    record {
      told = passes task rest c.args.cpu told (sym c.is_on.ensures ∙ c.if-is_on.false)
          ∙ ap (λ (tasks : List Task). told ++ map mover_of (queued_among tasks c.args.cpu)) (sym steps)
          ∙ c.loop-task.invariant.told;
    }

pub returns : goal.returns
returns c =
    let told = c.loop-task.movers.items in
    let none : c.loop-task.task-iterator ≡ [] = c.in-None.ensures.steps.0 in
    let all = c.args.movers.now.items ++ map mover_of (queued_among c.args.table.now.tasks c.args.cpu) in
    let is : all ≡ told =
    sym c.loop-task.invariant.told
    ∙ ap (λ (tasks : List Task). told ++ map mover_of (queued_among tasks c.args.cpu)) none
    ∙ append-nil told in
    record { told = sym is }
