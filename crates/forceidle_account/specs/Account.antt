-- Account: what is known of the forced idle of a core between two selections, apart from its room.
use Rattle.std.specs.Prelude.{◌≡◌, ℕ, Option}
use Rattle.cs_types.specs.Room.{RoomState}

-- how many siblings are forced idle (`core_forceidle_count`), for how many a task was chosen
-- (`core_forceidle_occupation`), since when the open interval has not been charged, none if none is open
-- (`core_forceidle_start`), and how many intervals were recorded
pub record Account : Type 0 where
  pub count : ℕ
  pub occupation : ℕ
  pub started : Option ℕ
  pub intervals : ℕ

-- the account is of this room: the same interval is open, with the same counts
pub record IsAccountOf (room : RoomState) (account : Account) : Type 0 where
  pub count : room.forced ≡ account.count
  pub occupation : room.occupation ≡ account.occupation
  pub started : room.started ≡ account.started
