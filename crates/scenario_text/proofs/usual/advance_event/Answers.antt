use Rattle.std.proofs.Common.{◌++◌, refl}
use Rattle.std.specs.Prelude.{codes}
use Rattle.scenario_text.proofs.UsualLines.{behind_word}
use Rattle.scenario_text.proofs.usual.advance_event.Goals as goal

pub returns : goal.returns
returns c siblings j caller =
    let found = c.in_ok-delta.ensures in
    record {
      is = record { event = found.within; actor = caller };
      spelled = behind_word (codes "advance") (codes "advance " ++ c.args.text.now) c.args.text.now c.in_ok-delta.rest.now c.in_ok-delta.delta refl found.spelled;
    }
