-- Inside: how an account is stored, and what always holds of it.
use Rattle.std.specs.Prelude.{◌<◌}
use Rattle.forceidle_account.specs.declared.force_idle.ForceIdle.TheInside.{Inside}
use Rattle.forceidle_account.specs.Account.{Account}

-- what contracts see of an account
abbrev pub account_of : Inside → Account
account_of idle = record { count = idle.count; occupation = idle.occupation; started = idle.started; intervals = idle.intervals }

-- if a sibling is forced idle, a task was chosen for another
pub record IsSound (idle : Inside) : Type 0 where
  pub occupied : 0 < idle.count → 0 < idle.occupation
