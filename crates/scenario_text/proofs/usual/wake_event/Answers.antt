use Rattle.std.proofs.Common.{◌++◌, refl}
use Rattle.std.specs.Prelude.{codes}
use Rattle.scenario_text.proofs.UsualLines.{behind_word}
use Rattle.scenario_text.proofs.usual.wake_event.Goals as goal

pub returns : goal.returns
returns c siblings j caller =
    let found = c.in_ok-pid.ensures in
    record {
      is = record { event = found.within; actor = caller };
      spelled = behind_word (codes "wake") (codes "wake " ++ c.args.text.now) c.args.text.now c.in_ok-pid.rest.now c.in_ok-pid.pid refl found.spelled;
    }
