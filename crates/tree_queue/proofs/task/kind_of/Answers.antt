use Rattle.std.proofs.Common.{◌∙◌, ℕ, ◌+◌, ap, sym, inl, inr}
use Rattle.cs_types.specs.declared.task.Policy.{Policy}
use Rattle.cs_types.specs.declared.task.Task.{Task}
use Rattle.cs_types.specs.Queue.{queued_of}
use Rattle.tree_queue.specs.Kinds.{kind_of}
use Rattle.tree_queue.proofs.task.kind_of.Goals as goal

-- the kind of a task with this policy
abbrev kind_by : Task → Policy → ℕ
kind_by task policy = let one : Task = record task { spec = record task.spec { policy = policy } } in kind_of (queued_of one)

pub returns-in-Fifo-clause-kind : goal.returns-in-Fifo-clause-kind
returns-in-Fifo-clause-kind c =
    let task = c.args.task.now in
    elim c.in-Fifo.is [
      | inl fifo ↦ ap (λ n. 4 + n) (c.rank.ensures.fifo task.deadline task.vtime) ∙ ap (kind_by task) (sym fifo)
      | inr rr ↦ ap (λ n. 4 + n) (c.rank.ensures.rr task.deadline task.vtime) ∙ ap (kind_by task) (sym rr)
    ]
