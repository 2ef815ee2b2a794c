-- The rows of the answer: what each comes to where it is the first that holds.
use Rattle.std.proofs.Common.{◌≡◌, ℕ, Bool, true, false, cond, List, [], ◌++◌, length, refl, None, Some}
use Rattle.std.specs.Prelude.{◌==◌, ◌&&◌, ◌||◌, ◌%◌, ◌-◌, not, nat_lt}
use Rattle.cs_types.specs.declared.task.Task.{Task}
use Rattle.cs_types.specs.declared.event.Ask.{Ask}
use Rattle.cs_types.specs.declared.reply.Errno.TheVariants.{Eperm, Esrch, Enomem, Efault, Enodev, Einval}
use Rattle.cs_types.specs.declared.reply.Reply.{Reply}
use Rattle.cs_types.specs.declared.reply.Reply.TheVariants.{Zero, Value, Refused, NoCaller}
use Rattle.cs_types.specs.Access.{may_access, asked_about}
use Rattle.cs_types.specs.Room.{RoomState, task_of, online}
use Rattle.cs_types.specs.Prctl.{asked_by_call, is_create, is_thread, is_invalid, target_of, live_cookies, may_access_members, asked_about_members, rows_before_making, rows_after_making}
use Rattle.prctl_core.specs.Plan.{IsAdmitted, Settles}

and_false : (b : Bool) → (b && false) ≡ false
and_false true = refl
and_false false = refl

-- the guards that a call asks about its target, and those that it asks about its members too
abbrev pub about_target : RoomState → Task → Task → List ℕ
about_target room caller target = asked_about room.guards caller.spec target.spec ++ []

abbrev pub about_all : RoomState → Ask → Task → Task → List ℕ
about_all room ask caller target =
    asked_about room.guards caller.spec target.spec
    ++ (cond (is_thread ask) [] (asked_about_members room ask.scope (Some caller) (Some target)) ++ [])

-- the same, where the guards that are asked are not named
pub as_asked : {room : RoomState} {pid : ℕ} {ask : Ask} {reply : Reply} {is_made : Bool} {asked : List ℕ} →
    Settles room pid ask reply is_made asked → Settles room pid ask reply is_made (asked_by_call room pid ask)
as_asked settles = record { answer = settles.answer; makes = settles.makes; asks = refl }

-- ---- calls that are not admitted

pub no_caller : (room : RoomState) (pid : ℕ) (ask : Ask) → task_of room pid ≡ None →
    Settles room pid ask NoCaller false []
unfolding rows_before_making rows_after_making
no_caller room pid ask by =
    record { answer = rw (by) refl; makes = rw (by) (and_false (is_create ask)); asks = rw (by) refl }

pub few_online : (room : RoomState) (pid : ℕ) (ask : Ask) (caller : Task) → task_of room pid ≡ Some caller →
    nat_lt (length (online room)) 2 ≡ true →
    Settles room pid ask (Refused Enodev) false []
unfolding rows_before_making rows_after_making
few_online room pid ask caller by few =
    record { answer = rw (by, few) refl; makes = rw (by, few) (and_false (is_create ask)); asks = rw (by, few) refl }

pub invalid : (room : RoomState) (pid : ℕ) (ask : Ask) (caller : Task) → task_of room pid ≡ Some caller →
    nat_lt (length (online room)) 2 ≡ false →
    is_invalid ask ≡ true →
    Settles room pid ask (Refused Einval) false []
unfolding rows_before_making rows_after_making
invalid room pid ask caller by enough wrong =
    record { answer = rw (by, enough, wrong) refl; makes = rw (by, enough, wrong) (and_false (is_create ask)); asks = rw (by, enough, wrong) refl }

pub no_target : (room : RoomState) (pid : ℕ) (ask : Ask) (caller : Task) → task_of room pid ≡ Some caller →
    nat_lt (length (online room)) 2 ≡ false →
    is_invalid ask ≡ false →
    target_of room pid ask ≡ None →
    Settles room pid ask (Refused Esrch) false []
unfolding rows_before_making rows_after_making
no_target room pid ask caller by enough valid to =
    record { answer = rw (to, by, enough, valid) refl; makes = rw (to, by, enough, valid) (and_false (is_create ask)); asks = rw (to, by, enough, valid) refl }

pub no_access : (room : RoomState) (pid : ℕ) (ask : Ask) (caller target : Task) → task_of room pid ≡ Some caller →
    nat_lt (length (online room)) 2 ≡ false →
    is_invalid ask ≡ false →
    target_of room pid ask ≡ Some target →
    may_access room.guards caller.spec target.spec ≡ false →
    Settles room pid ask (Refused Eperm) false (about_target room caller target)
unfolding rows_before_making rows_after_making
no_access room pid ask caller target by enough valid to access =
    record { answer = rw (to, by, enough, valid, access) refl; makes = rw (to, by, enough, valid, access) (and_false (is_create ask)); asks = rw (to, by, enough, valid, access) refl }

-- ---- calls that are admitted

pub get_misplaced : (room : RoomState) (pid : ℕ) (ask : Ask) (caller target : Task) → IsAdmitted room pid ask caller target →
    ask.cmd ≡ 0 →
    (not (is_thread ask) || not (ask.addr % 8 == 0)) ≡ true →
    Settles room pid ask (Refused Einval) false (about_target room caller target)
unfolding rows_before_making rows_after_making
get_misplaced room pid ask caller target is cmd bad =
    record { answer = rw (bad, is.target, is.caller, is.enough, is.valid, is.access, cmd) refl; makes = rw (bad, is.target, is.caller, is.enough, is.valid, is.access, cmd) refl; asks = rw (bad, is.target, is.caller, is.enough, is.valid, is.access, cmd) refl }

pub get_outside : (room : RoomState) (pid : ℕ) (ask : Ask) (caller target : Task) → IsAdmitted room pid ask caller target →
    ask.cmd ≡ 0 →
    (not (is_thread ask) || not (ask.addr % 8 == 0)) ≡ false →
    (nat_lt ask.addr 4096 || nat_lt (room.user_top - 8) ask.addr) ≡ true →
    Settles room pid ask (Refused Efault) false (about_target room caller target)
unfolding rows_before_making rows_after_making
get_outside room pid ask caller target is cmd good bad =
    record { answer = rw (good, bad, is.target, is.caller, is.enough, is.valid, is.access, cmd) refl; makes = rw (good, bad, is.target, is.caller, is.enough, is.valid, is.access, cmd) refl; asks = rw (good, bad, is.target, is.caller, is.enough, is.valid, is.access, cmd) refl }

pub got : (room : RoomState) (pid : ℕ) (ask : Ask) (caller target : Task) → IsAdmitted room pid ask caller target →
    ask.cmd ≡ 0 →
    (not (is_thread ask) || not (ask.addr % 8 == 0)) ≡ false →
    (nat_lt ask.addr 4096 || nat_lt (room.user_top - 8) ask.addr) ≡ false →
    Settles room pid ask (Value target.cookie) false (about_target room caller target)
unfolding rows_before_making rows_after_making
got room pid ask caller target is cmd good within =
    record { answer = rw (good, within, is.target, is.caller, is.enough, is.valid, is.access, cmd) refl; makes = rw (good, within, is.target, is.caller, is.enough, is.valid, is.access, cmd) refl; asks = rw (good, within, is.target, is.caller, is.enough, is.valid, is.access, cmd) refl }

pub full : (room : RoomState) (pid : ℕ) (ask : Ask) (caller target : Task) → IsAdmitted room pid ask caller target →
    ask.cmd ≡ 1 →
    (length (live_cookies room.tasks) == room.cookie_limit) ≡ true →
    Settles room pid ask (Refused Enomem) false (about_target room caller target)
unfolding rows_before_making rows_after_making
full room pid ask caller target is cmd is_full =
    record { answer = rw (is_full, is.target, is.caller, is.enough, is.valid, is.access, cmd) refl; makes = rw (is_full, is.target, is.caller, is.enough, is.valid, is.access, cmd) refl; asks = rw (is_full, is.target, is.caller, is.enough, is.valid, is.access, cmd) refl }

pub from_many : (room : RoomState) (pid : ℕ) (ask : Ask) (caller target : Task) → IsAdmitted room pid ask caller target →
    ask.cmd ≡ 3 →
    is_thread ask ≡ false →
    Settles room pid ask (Refused Einval) false (about_target room caller target)
unfolding rows_before_making rows_after_making
from_many room pid ask caller target is cmd many =
    record { answer = rw (many, is.target, is.caller, is.enough, is.valid, is.access, cmd) refl; makes = rw (many, is.target, is.caller, is.enough, is.valid, is.access, cmd) refl; asks = rw (many, is.target, is.caller, is.enough, is.valid, is.access, cmd) refl }

pub from_one : (room : RoomState) (pid : ℕ) (ask : Ask) (caller target : Task) → IsAdmitted room pid ask caller target →
    ask.cmd ≡ 3 →
    is_thread ask ≡ true →
    Settles room pid ask Zero false (about_target room caller target)
unfolding rows_before_making rows_after_making
from_one room pid ask caller target is cmd one =
    record { answer = rw (one, is.target, is.caller, is.enough, is.valid, is.access, cmd) refl; makes = rw (one, is.target, is.caller, is.enough, is.valid, is.access, cmd) refl; asks = rw (one, is.target, is.caller, is.enough, is.valid, is.access, cmd) refl }

pub create_refused : (room : RoomState) (pid : ℕ) (ask : Ask) (caller target : Task) → IsAdmitted room pid ask caller target →
    ask.cmd ≡ 1 →
    (length (live_cookies room.tasks) == room.cookie_limit) ≡ false →
    is_thread ask ≡ false →
    may_access_members room ask.scope (Some caller) (Some target) ≡ false →
    Settles room pid ask (Refused Eperm) true (about_all room ask caller target)
unfolding rows_before_making rows_after_making
create_refused room pid ask caller target is cmd room_left many denied =
    record { answer = rw (is.target, is.caller, denied, room_left, many, is.enough, is.valid, is.access, cmd) refl; makes = rw (room_left, many, is.target, is.caller, is.enough, is.valid, is.access, cmd) refl; asks = rw (is.target, is.caller, denied, room_left, many, is.enough, is.valid, is.access, cmd) refl }

pub created : (room : RoomState) (pid : ℕ) (ask : Ask) (caller target : Task) → IsAdmitted room pid ask caller target →
    ask.cmd ≡ 1 →
    (length (live_cookies room.tasks) == room.cookie_limit) ≡ false →
    (not (is_thread ask) && not (may_access_members room ask.scope (Some caller) (Some target))) ≡ false →
    Settles room pid ask Zero true (about_all room ask caller target)
unfolding rows_before_making rows_after_making
created room pid ask caller target is cmd room_left allowed =
    record { answer = rw (is.target, is.caller, allowed, room_left, is.enough, is.valid, is.access, cmd) refl; makes = rw (room_left, is.target, is.caller, is.enough, is.valid, is.access, cmd) refl; asks = rw (is.target, is.caller, allowed, room_left, is.enough, is.valid, is.access, cmd) refl }

pub share_refused : (room : RoomState) (pid : ℕ) (ask : Ask) (caller target : Task) → IsAdmitted room pid ask caller target →
    ask.cmd ≡ 2 →
    is_thread ask ≡ false →
    may_access_members room ask.scope (Some caller) (Some target) ≡ false →
    Settles room pid ask (Refused Eperm) false (about_all room ask caller target)
unfolding rows_before_making rows_after_making
share_refused room pid ask caller target is cmd many denied =
    record { answer = rw (is.target, is.caller, denied, many, is.enough, is.valid, is.access, cmd) refl; makes = rw (many, is.target, is.caller, is.enough, is.valid, is.access, cmd) refl; asks = rw (is.target, is.caller, denied, many, is.enough, is.valid, is.access, cmd) refl }

pub shared : (room : RoomState) (pid : ℕ) (ask : Ask) (caller target : Task) → IsAdmitted room pid ask caller target →
    ask.cmd ≡ 2 →
    (not (is_thread ask) && not (may_access_members room ask.scope (Some caller) (Some target))) ≡ false →
    Settles room pid ask Zero false (about_all room ask caller target)
unfolding rows_before_making rows_after_making
shared room pid ask caller target is cmd allowed =
    record { answer = rw (is.target, is.caller, allowed, is.enough, is.valid, is.access, cmd) refl; makes = rw (is.target, is.caller, is.enough, is.valid, is.access, cmd) refl; asks = rw (is.target, is.caller, allowed, is.enough, is.valid, is.access, cmd) refl }
