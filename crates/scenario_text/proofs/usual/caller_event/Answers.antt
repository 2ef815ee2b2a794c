use Rattle.std.proofs.Common.{arith}
use Rattle.std.specs.Prelude.{codes}
use Rattle.scenario_text.proofs.UsualLines.{behind_word}
use Rattle.scenario_text.proofs.usual.caller_event.Goals as goal

pub behind-requires : goal.behind-requires
behind-requires c = omega arith

pub behind-requires-in_default : goal.behind-requires-in_default
behind-requires-in_default c = omega arith

pub behind-requires-in_default-behind : goal.behind-requires-in_default-behind
behind-requires-in_default-behind c = omega arith

pub behind-requires-in_default-behind-2 : goal.behind-requires-in_default-behind-2
behind-requires-in_default-behind-2 c = omega arith

pub behind-requires-in_default-behind-3 : goal.behind-requires-in_default-behind-3
behind-requires-in_default-behind-3 c = omega arith

pub behind-requires-in_default-behind-4 : goal.behind-requires-in_default-behind-4
behind-requires-in_default-behind-4 c = omega arith

pub behind-requires-in_default-behind-5 : goal.behind-requires-in_default-behind-5
behind-requires-in_default-behind-5 c = omega arith

pub behind-requires-in-Some-behind-6 : goal.behind-requires-in-Some-behind-6
behind-requires-in-Some-behind-6 c = omega arith

pub overflow_sub-siblings : goal.overflow_sub-siblings
overflow_sub-siblings c = c.requires.0

pub overflow_sub-siblings-in-Some-behind-5 : goal.overflow_sub-siblings-in-Some-behind-5
overflow_sub-siblings-in-Some-behind-5 c = c.requires.0

pub small_before-requires : goal.small_before-requires
small_before-requires c = omega (arith, c.requires.1)

pub small_before-requires-in-Some-behind-5 : goal.small_before-requires-in-Some-behind-5
small_before-requires-in-Some-behind-5 c = omega (arith, c.requires.1)

pub returns-in_err-cpu : goal.returns-in_err-cpu
returns-in_err-cpu c = rw c.from_residual.ensures tt

pub returns-in_err-cpu-2 : goal.returns-in_err-cpu-2
returns-in_err-cpu-2 c = rw c.from_residual-in_err-cpu-2.ensures tt

pub returns-in_err-behind : goal.returns-in_err-behind
returns-in_err-behind c = rw c.from_residual-in_err-behind.ensures tt

pub returns-in-Some : goal.returns-in-Some
returns-in-Some c = rw c.in-Some.ensures (c.wake_event.ensures c.args.siblings)

pub returns-in-Some-behind : goal.returns-in-Some-behind
returns-in-Some-behind c = rw c.in-Some-behind.ensures (c.advance_event.ensures c.args.siblings)

pub returns-in-Some-behind-2 : goal.returns-in-Some-behind-2
returns-in-Some-behind-2 c = rw c.in-Some-behind-2.ensures (c.prctl_event.ensures c.args.siblings)

pub returns-in-Some-behind-3 : goal.returns-in-Some-behind-3
returns-in-Some-behind-3 c = rw c.in-Some-behind-3.ensures (c.fork_event.ensures c.args.siblings)

pub returns-in_ok-cpu : goal.returns-in_ok-cpu
returns-in_ok-cpu c j caller =
    let read = c.in_ok-cpu in
    record {
      is = record { event = omega (arith, c.requires.0, read.ensures.within.1); actor = caller };
      spelled = behind_word (codes "online") c.args.text.now c.in-Some-behind-4.words.now read.rest.now read.cpu c.in-Some-behind-4.ensures read.ensures.spelled;
    }

pub returns-in_ok-cpu-2 : goal.returns-in_ok-cpu-2
returns-in_ok-cpu-2 c j caller =
    let read = c.in_ok-cpu-2 in
    record {
      is = record { event = omega (arith, c.requires.0, read.ensures.within.1); actor = caller };
      spelled = behind_word (codes "offline") c.args.text.now c.in-Some-behind-5.words.now read.rest.now read.cpu c.in-Some-behind-5.ensures read.ensures.spelled;
    }

pub returns-in_ok-behind : goal.returns-in_ok-behind
returns-in_ok-behind c = rw (c.in-Some-behind-6.ensures, c.in_ok-behind.ensures) (c.setsched_event.ensures c.args.siblings)

pub returns-in_default-behind-6 : goal.returns-in_default-behind-6
returns-in_default-behind-6 c = tt
