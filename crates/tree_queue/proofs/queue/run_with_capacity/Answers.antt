use Rattle.std.proofs.Common.{ap, ◌∙◌, arith}
use Rattle.cs_types.specs.Queue.{RunQueued}
use Rattle.tree_queue.proofs.queue.run_with_capacity.Goals as goal

pub returns : goal.returns
returns c = record {
  seats = ap (λ (run : RunQueued). run.tasks) c.close.ensures ∙ c.reserve.ensures.tasks ∙ c.empty-run.ensures.tasks;
  spots = ap (λ (run : RunQueued). run.cookies) c.close.ensures ∙ c.reserve.ensures.cookies ∙ c.empty-run.ensures.cookies;
  distinct = tt;
  room = omega (arith, ap (λ (run : RunQueued). run.spare) c.close.ensures, c.in_default.ensures.spare, c.empty-run.ensures.spare);
}
