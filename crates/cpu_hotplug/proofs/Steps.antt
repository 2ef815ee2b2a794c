-- Steps: what a sibling that leaves or comes back makes of the room, by what is asked of the room.
use Rattle.std.proofs.Common.{◌≡◌, ℕ, Bool, cond, not, length, refl, None}
use Rattle.std.specs.Prelude.{◌==◌}
use Rattle.cs_types.specs.declared.reply.Reply.TheVariants.{Already, Refused, Done}
use Rattle.cs_types.specs.declared.reply.Errno.TheVariants.{Ebusy}
use Rattle.cs_types.specs.Room.{RoomState, is_online, online}
use Rattle.cs_types.specs.Hotplug.{move_off, set_one_away, leave, with_sibling_back}
use Rattle.cs_types.specs.Accounting.{charge, without_interval}
use Rattle.cs_types.specs.Step.{take_offline, bring_online}
use Rattle.forceidle_account.specs.Account.{Account}

-- a sibling is taken offline
pub offline_step : (room : RoomState) (cpu : ℕ) (is_there alone : Bool) → is_online room cpu ≡ is_there → (length (online room) == 1) ≡ alone →
    take_offline room cpu
    ≡ cond (not is_there) (record { reply = Already; room = room })
    (cond alone (record { reply = Refused Ebusy; room = room }) (record { reply = Done; room = leave room cpu }))
offline_step room cpu is_there alone there_is alone_is =
    λ i. cond (not (there_is i)) (record { reply = Already; room = room })
    (cond (alone_is i) (record { reply = Refused Ebusy; room = room }) (record { reply = Done; room = leave room cpu }))

-- a sibling is brought back
pub online_step : (room : RoomState) (cpu : ℕ) (is_there : Bool) → is_online room cpu ≡ is_there →
    bring_online room cpu ≡ cond is_there (record { reply = Already; room = room }) (record { reply = Done; room = with_sibling_back room cpu })
online_step room cpu is_there there_is =
    λ i. cond (there_is i) (record { reply = Already; room = room }) (record { reply = Done; room = with_sibling_back room cpu })

-- the room whose account is this one
abbrev pub with_account : RoomState → Account → RoomState
with_account room account = record room { forced = account.count; occupation = account.occupation; started = account.started }

pub without_interval_is : (room : RoomState) (account : Account) → account.count ≡ 0 → account.occupation ≡ 0 → account.started ≡ None → with_account room account ≡ without_interval room
without_interval_is room account count occupation started = λ i. record room { forced = count i; occupation = occupation i; started = started i }

-- The interval is charged and closed, the tasks move, and the sibling is away: so it leaves.
pub leave_is : (room : RoomState) (cpu : ℕ) → set_one_away (move_off (without_interval (charge room)) cpu) cpu ≡ leave room cpu
unfolding leave
leave_is room cpu = refl
