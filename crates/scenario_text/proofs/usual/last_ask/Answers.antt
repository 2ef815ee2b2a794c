use Rattle.std.proofs.Common.{zero-le, arith}
use Rattle.scenario_text.proofs.UsualLines.{above_is, ask_is}
use Rattle.scenario_text.proofs.usual.last_ask.Goals as goal

pub returns : goal.returns
returns c =
    let cmd = c.in_ok-cmd.ensures in
    let scope = c.in_ok-scope.ensures in
    ask_is c.in_ok-cmd.cmd c.in_ok-scope.scope c.in_ok-addr.addr _ c.args.text.now c.in_ok-cmd.text.now c.in_ok-pid.text.now c.in_ok-scope.text.now c.in_ok-addr.rest.now
    (record { within = (zero-le, omega (arith, cmd.within.1)); spelled = cmd.spelled })
    (above_is c.in_ok-cmd.text.now c.in_ok-pid.text.now c.in_ok-pid.pid c.in_ok-pid.ensures)
    (record { within = (zero-le, omega (arith, scope.within.1)); spelled = scope.spelled })
    c.in_ok-addr.ensures
