use Rattle.std.proofs.Common.{◌∙◌, ap, ℕ, ◌/◌, ◌%◌, ◌^◌}
use Rattle.room_drill.specs.Draws.{draw}
use Rattle.room_drill.proofs.Drawn.{draw_is, word_is}
use Rattle.room_drill.proofs.generator.Generator.below.Goals as goal

pub returns-clause-drawn : goal.returns-clause-drawn
returns-clause-drawn c =
    ap (λ (w : ℕ). let drawn : ℕ × ℕ = (w / 2 ^ 33 % c.args.limit, w) in drawn) (word_is c.self.inside.word)
    ∙ draw_is c.args.limit c.self.inside.word ∙ ap (draw c.args.limit) c.self.view_is
