-- Found: the command that is found in words is the one that they ask for, and no other.
use Rattle.std.proofs.Common.{◌≡◌, ◌↔◌, ◌∙◌, sym, ℕ, Bool, true, false, List, Option, Some, None}
use Rattle.std.specs.Prelude.{◌≢◌, String}
use Rattle.std.specs.declared.alloc.Global.{Global}
use Rattle.command_words.specs.declared.command.Command.{Command}
use Rattle.command_words.specs.declared.command.Command.TheVariants.{Replay, Race, Upgrade, Check, Drill}
use Rattle.command_words.specs.Asks.{Asks}

-- what is found in words: the command that they ask for, or nothing
abbrev pub Finds : Option Command → List (String Global) → Type 0
Finds found words = (command : Command) → (found ≡ Some command) ↔ Asks command words

pub only : (found : Option Command) (words : List (String Global)) (mine command : Command) → Finds found words → found ≡ Some mine → Asks command words → mine ≡ command
only found words mine command finds is asks = let same : Some mine ≡ Some command = sym is ∙ (finds command).1 asks in cc

pub not_asked : (found : Option Command) (words : List (String Global)) (mine command : Command) → Finds found words → found ≡ Some mine → mine ≢ command → ¬ Asks command words
not_asked found words mine command finds is other asks = other (only found words mine command finds is asks)

pub none_asked : (found : Option Command) (words : List (String Global)) → Finds found words → found ≡ None → (command : Command) → ¬ Asks command words
none_asked found words finds is command asks = let wrong : None ≡ Some command = sym is ∙ (finds command).1 asks in cc

-- what differs by its form alone
pub no_truth : ¬ (false ≡ true)
no_truth e = cc

pub no_seed : (seed : ℕ) → ¬ (None ≡ Some seed)
no_seed seed e = cc

pub no_json : (json : Bool) → ¬ (None ≡ Some json)
no_json json e = cc

pub race_is_no_replay : Race ≢ Replay
race_is_no_replay e = cc

pub drill_is_no_replay : (seed : ℕ) → Drill seed ≢ Replay
drill_is_no_replay seed e = cc

pub replay_is_no_drill : (seed : ℕ) → Replay ≢ Drill seed
replay_is_no_drill seed e = cc

pub race_is_no_drill : (seed : ℕ) → Race ≢ Drill seed
race_is_no_drill seed e = cc

pub upgrade_is_no_replay : Upgrade ≢ Replay
upgrade_is_no_replay e = cc

pub upgrade_is_no_drill : (seed : ℕ) → Upgrade ≢ Drill seed
upgrade_is_no_drill seed e = cc

pub replay_is_no_upgrade : Replay ≢ Upgrade
replay_is_no_upgrade e = cc

pub race_is_no_upgrade : Race ≢ Upgrade
race_is_no_upgrade e = cc

pub drill_is_no_upgrade : (seed : ℕ) → Drill seed ≢ Upgrade
drill_is_no_upgrade seed e = cc

pub check_is_no_replay : (json : Bool) → Check json ≢ Replay
check_is_no_replay json e = cc

pub check_is_no_upgrade : (json : Bool) → Check json ≢ Upgrade
check_is_no_upgrade json e = cc

pub check_is_no_drill : (json : Bool) (seed : ℕ) → Check json ≢ Drill seed
check_is_no_drill json seed e = cc

pub replay_is_no_check : (json : Bool) → Replay ≢ Check json
replay_is_no_check json e = cc

pub race_is_no_check : (json : Bool) → Race ≢ Check json
race_is_no_check json e = cc

pub upgrade_is_no_check : (json : Bool) → Upgrade ≢ Check json
upgrade_is_no_check json e = cc

pub drill_is_no_check : (seed : ℕ) (json : Bool) → Drill seed ≢ Check json
drill_is_no_check seed json e = cc
