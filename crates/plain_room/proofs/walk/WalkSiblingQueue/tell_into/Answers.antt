use Rattle.std.proofs.Common.{◌≡◌, ℕ, List, ◌++◌, map, length, ap, ◌∙◌, subst, arith}
use Rattle.core_lanes.specs.Queued.{queued_among, mover_of, AreTold}
use Rattle.plain_room.proofs.walk.WalkSiblingQueue.tell_into.Goals as goal

pub tell-requires : goal.tell-requires
tell-requires c = record { places = omega (arith, ap length c.new-tasks.ensures, c.requires.few) }

pub returns : goal.returns
returns c =
    let told = map mover_of (queued_among c.args.table.now.tasks c.args.cpu) in
    let is : c.tell.new.movers.items ≡ told = c.tell.ensures.told ∙ ap (λ (old : List (ℕ × ℕ)). old ++ told) c.new-tasks.ensures in
    record { told = subst (λ (tasks : List (ℕ × ℕ)). AreTold tasks c.tell_by_stamp.new.movers) (c.as_mut_slice.ensures.value ∙ is) c.tell_by_stamp.ensures.told }
