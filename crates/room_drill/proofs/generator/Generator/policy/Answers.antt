use Rattle.std.proofs.Common.{◌∙◌, ap, ℕ, ◌+◌, ◌*◌, pos, ◌-ℤ◌, ℤ, arith}
use Rattle.cs_types.specs.declared.task.Policy.{Policy}
use Rattle.cs_types.specs.declared.task.Policy.TheVariants.{Deadline, Fifo, Rr, Fair}
use Rattle.room_drill.specs.Draws.{draw, by_row}
use Rattle.room_drill.specs.Drill.{policy_table, drawn_policy}
use Rattle.room_drill.proofs.Drawn.{then_drawn_at, made_drawn}
use Rattle.room_drill.proofs.Nice.{nice_is}
use Rattle.room_drill.proofs.generator.Generator.policy.Goals as goal

pub returns-in-0 : goal.returns-in-0
unfolding drawn_policy
returns-in-0 c =
    then_drawn_at (by_row policy_table) 4 _ _ _ 0 _ _ c.below.ensures.drawn c.in-0.is
    (made_drawn (λ n. Fifo (1 + n)) (draw 99) _ _ _ c.below-in-0.ensures.drawn)

pub returns-in-1 : goal.returns-in-1
unfolding drawn_policy
returns-in-1 c =
    then_drawn_at (by_row policy_table) 4 _ _ _ 1 _ _ c.below.ensures.drawn c.in-1.is
    (made_drawn (λ n. Rr (1 + n)) (draw 99) _ _ _ c.below-in-1.ensures.drawn)

pub returns-in-2 : goal.returns-in-2
unfolding drawn_policy
returns-in-2 c =
    then_drawn_at (by_row policy_table) 4 _ _ _ 2 _ _ c.below.ensures.drawn c.in-2.is
    (ap (λ (n : ℕ). let drawn : Policy × ℕ = (Deadline (1000000 * (1 + n)), c.below-in-2.new.self) in drawn) c.from.ensures
    ∙ made_drawn (λ n. Deadline (1000000 * (1 + n))) (draw 50) _ _ _ c.below-in-2.ensures.drawn)

pub returns-in_default : goal.returns-in_default
unfolding drawn_policy
returns-in_default c =
    then_drawn_at (by_row policy_table) 4 _ _ _ 3 _ _ c.below.ensures.drawn (omega arith)
    (ap (λ (n : ℤ). let drawn : Policy × ℕ = (Fair n, c.below-in_default.new.self) in drawn) (nice_is c.below-in_default.result c.below-in_default.ensures.below)
    ∙ made_drawn (λ n. Fair (pos n -ℤ pos 20)) (draw 40) _ _ _ c.below-in_default.ensures.drawn)
