use Rattle.std.proofs.Common.{append_assoc, rules}
use Rattle.std.proofs.lemmas.Int.{ints, to_z-of_z}
use mir.Syntax.{w8, w32}
use mir.Val.{SFits, to_z, of_z}
use Rattle.scenario_text.proofs.writing.places.Places.policy.Goals as goal

pub returns-in-Fair-clause-text : goal.returns-in-Fair-clause-text
returns-in-Fair-clause-text c =
    let nice = c.in-Fair.nice in
    let fits : SFits w8 nice = search rules in
    let wide : SFits w32 (to_z w8 (of_z w8 nice)) = search (ints, rules) in
    rw (c.in-Fair.is, c.signed.ensures.text, c.text-at.ensures.text, to_z-of_z w32 _ wide, to_z-of_z w8 nice fits) (simp append_assoc)
