-- What a walk over tasks yields.
use Rattle.std.specs.Iterator.{YieldsFirstRef}
use Rattle.std.specs.Iterator.Runs.{YieldsRefsInOrder}
use Rattle.std.specs.Prelude.{List}
use Rattle.cs_types.specs.declared.task.Task.{Task}

-- whatever calls the walk, it yields the tasks that it has left, in order
abbrev pub WalksInOrder : Type 0
WalksInOrder = YieldsRefsInOrder (YieldsFirstRef {S = List Task} (λ left. left)) (λ left. left)
