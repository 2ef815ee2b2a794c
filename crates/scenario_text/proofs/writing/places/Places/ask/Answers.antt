use Rattle.std.proofs.Common.{append_assoc, rules}
use Rattle.std.specs.Int.{w32}
use Rattle.std.proofs.lemmas.Int.{to_z-of_z}
use Rattle.scenario_text.proofs.writing.places.Places.ask.Goals as goal

pub returns-clause-text : goal.returns-clause-text
returns-clause-text c =
    rw (
      c.long.ensures.text,
      c.text-at-3.ensures.text,
      c.medium-at-2.ensures.text,
      c.text-at-2.ensures.text,
      c.signed-at.ensures.text,
      c.text-at.ensures.text,
      c.medium-at.ensures.text,
      to_z-of_z w32 c.args.ask.now.pid (search rules),
    ) (simp append_assoc)
