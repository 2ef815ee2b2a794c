use Rattle.std.proofs.Common.{◌≡◌, map}
use Rattle.std.specs.Prelude.{filter}
use Rattle.std.specs.List.{range_with_len}
use Rattle.sibling_workers.specs.Race.{actor_at, has_step, steps_by}
use Rattle.sibling_workers.proofs.actors.lists_of.Given as goal

-- the lists of the actors so far
abbrev pub invariant-loop-place : goal.invariant-loop-place
invariant-loop-place l = l.lists.items ≡ map (steps_by l.steps) (filter (has_step l.steps) (map actor_at (range_with_len 0 l.place)))
