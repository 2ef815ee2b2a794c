use Rattle.std.proofs.Common.{◌≤◌, length, take, drop, ap, ◌∙◌, subst, arith, length-take}
use Rattle.std.specs.Io.KnownBytes.{Appends}
use Rattle.cs_outside.proofs.Pieces.{left_moved}
use Rattle.cs_outside.proofs.gathered.Gathered.empty_to.Goals as goal

pub returns-then-self-gt0-clause-given : goal.returns-then-self-gt0-clause-given
returns-then-self-gt0-clause-given g c =
    let bytes = c.self.inside.bytes in
    let len = c.self.inside.len in
    let given = c.give-given.result in
    let within : len ≤ length bytes = omega (arith, c.self.told, c.self.invariant) in
    let few : given ≤ len = omega (arith, c.give-given.ensures.within, length-take len bytes) in (
      given,
      left_moved bytes c.copy_within.new.self given len c.copy_within.ensures.after within few ∙ ap (drop given) c.self.view_is,
      subst (λ all. Appends (g.W.Write.contents c.args.output.now) (g.W.Write.contents c.give-given.new.output) (take given all)) c.self.view_is c.give-given.ensures.given,
    )
