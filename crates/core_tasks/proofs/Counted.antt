-- Counted: how the comparisons add up of a group whose members get a cookie, one after the other.
use Rattle.std.proofs.Common.{◌≡◌, ℕ, suc, ◌+◌, ◌*◌, ◌≤◌, sym, ap, subst, ◌∙◌, length, arith}
use Rattle.std.proofs.Math.Nat.{suc-mul, mul-le-mul_right}
use Rattle.std.proofs.lemmas.List.{length-map}
use Rattle.cs_types.specs.Room.{RoomState}
use Rattle.cs_types.specs.Prctl.{Setting, set_cookies}

-- as many tasks live where some have a cookie
as_many : (room : RoomState) (set : Setting) → length (set_cookies room set).tasks ≡ length room.tasks
as_many room set = length-map room.tasks _

-- so as many live in two rooms that become the same
pub as_many_set : (old now : RoomState) (all left : Setting) → set_cookies now left ≡ set_cookies old all → length now.tasks ≡ length old.tasks
as_many_set old now all left same =
    sym (as_many now left) ∙ ap (λ (room : RoomState). length room.tasks) same ∙ as_many old all

-- one member more has the cookie, so one less is left
pub one_less : (start before after left rest all most : ℕ) → left ≡ suc rest → before + left * most ≤ start + all * most → after ≤ before + 1 * most →
    after + rest * most ≤ start + all * most
one_less start before after left rest all most is so_far once =
    let in_all = subst (λ n. before + n * most ≤ start + all * most) is so_far in
    omega (arith, in_all, once, suc-mul rest most)

-- a group has no more members than tasks live
pub no_more_members : (start now left all tasks most : ℕ) → now + left * most ≤ start + all * most → all ≤ tasks → now ≤ start + tasks * most
no_more_members start now left all tasks most so_far few = omega (arith, so_far, mul-le-mul_right most few)
