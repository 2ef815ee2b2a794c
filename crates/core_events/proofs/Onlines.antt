-- Onlines: what an event of a sibling makes where that is offline, and where it is online.
use Rattle.std.proofs.Common.{◌≡◌, ℕ, Bor, List, true, false, ap, sym, ◌∙◌, subst, Option, None, Some, unwrap_or}
use Rattle.std.specs.Prelude.{IfSome, option_copied}
use Rattle.std.proofs.lemmas.Bool.{cond-true, cond-false}
use Rattle.cs_types.specs.declared.task.Task.{Task}
use Rattle.cs_types.specs.declared.reply.Reply.TheVariants.{Offline}
use Rattle.cs_types.specs.Room.{RoomState, is_online, running_on}
use Rattle.cs_types.specs.Step.{Stepped, unless_offline}
use Rattle.core_lanes.specs.Queued.{IsOf}

-- the step of a sibling that is online is what it makes
pub when_online : (room : RoomState) (cpu : ℕ) (stepped : Stepped) → is_online room cpu ≡ true → stepped ≡ unless_offline room cpu stepped
when_online room cpu stepped online = sym (cond-true (is_online room cpu) stepped (record { reply = Offline; room = room }) online)

-- and so of one that runs this
pub when_running : (room : RoomState) (cpu : ℕ) (made : Option Task → Stepped) (task : Option Task) → task ≡ running_on room cpu → is_online room cpu ≡ true →
    made task ≡ unless_offline room cpu (made (running_on room cpu))
when_running room cpu made task is online = ap made is ∙ when_online room cpu (made (running_on room cpu)) online

-- and that of one that is offline changes nothing
pub when_offline : (room : RoomState) (cpu : ℕ) (stepped : Stepped) → is_online room cpu ≡ false → record { reply = Offline; room = room } ≡ unless_offline room cpu stepped
when_offline room cpu stepped offline = sym (cond-false (is_online room cpu) stepped (record { reply = Offline; room = room }) offline)

-- a copy of a task of the table is one of the table too
pub there_too : (found : Option (Bor Task)) (tasks : List Task) (task : Task) → IfSome found (λ one. IsOf tasks one.now) → Some task ≡ option_copied found → IsOf tasks task
there_too None tasks task there is = absurd cc
there_too (Some found) tasks task there is = subst (IsOf tasks) (sym (ap (λ one. unwrap_or one task) is)) there
