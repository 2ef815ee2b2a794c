-- Read: what is read are the words.
use Rattle.std.proofs.Common.{◌≡◌, Bool, true, false, Some}
use Rattle.std.specs.Bool.{then_some}

pub read_are : {X : Type 0} (test : Bool) (read words : X) → Some read ≡ then_some test words → read ≡ words
read_are true read words is = cc
read_are false read words is = absurd cc
