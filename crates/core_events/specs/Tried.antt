-- Tried: what a sibling answers when it tries to steal.
use Rattle.std.specs.Prelude.{◌≡◌, ℕ}
use Rattle.cs_types.specs.declared.reply.Reply.{Reply}
use Rattle.task_table.specs.Table.{Table}
use Rattle.core_lanes.specs.declared.queue.SiblingQueue.{Ghosts}
use Rattle.core_lanes.specs.declared.lanes.Core.{Core}
use Rattle.cookie_steal.specs.declared.steal.Try.{Try}
use Rattle.cookie_steal.specs.Tries.{TriesToSteal, reply_of}

-- the sibling made a try, and this was answered
pub record AnswersTry {Q : Type 0} {g : Ghosts Q} (old new : Core Q g × Table) (cpu : ℕ) (reply : Reply) : Type 0 where
  pub made : Try
  pub answer : reply ≡ reply_of made
  pub tries : TriesToSteal old new cpu made
