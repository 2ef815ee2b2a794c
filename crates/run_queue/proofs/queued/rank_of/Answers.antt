use Rattle.std.proofs.Common.{◌∙◌, ap, sym, pos}
use Rattle.cs_types.specs.declared.task.Policy.{Policy}
use Rattle.cs_types.specs.Queue.{rank_by}
use Rattle.run_queue.proofs.queued.rank_of.Goals as goal

pub returns-in-Deadline : goal.returns-in-Deadline
returns-in-Deadline c =
    let task = c.args.task.now in
    c.rank.ensures 0 task.vtime ∙ ap (λ (policy : Policy). rank_by policy task.deadline task.vtime) (sym c.in-Deadline.is)

pub returns-in-Fifo : goal.returns-in-Fifo
returns-in-Fifo c =
    let task = c.args.task.now in
    c.rank-in-Fifo.ensures.fifo task.deadline task.vtime ∙ ap (λ (policy : Policy). rank_by policy task.deadline task.vtime) (sym c.in-Fifo.is)

pub returns-in-Rr : goal.returns-in-Rr
returns-in-Rr c =
    let task = c.args.task.now in
    c.rank-in-Rr.ensures.rr task.deadline task.vtime ∙ ap (λ (policy : Policy). rank_by policy task.deadline task.vtime) (sym c.in-Rr.is)

pub returns-in-Fair : goal.returns-in-Fair
returns-in-Fair c =
    let task = c.args.task.now in
    c.rank-in-Fair.ensures (pos 0) task.deadline ∙ ap (λ (policy : Policy). rank_by policy task.deadline task.vtime) (sym c.in-Fair.is)
