use Rattle.std.proofs.Common.{◌≡◌, true, sym, ap, ◌∙◌, arith}
use Rattle.std.proofs.lemmas.Bool.{cond-true, cond-false}
use Rattle.cs_types.specs.declared.view.CoreView.{CoreView}
use Rattle.cs_types.specs.Room.{is_online}
use Rattle.cs_types.specs.History.{fold_of, moment_of}
use Rattle.cs_laws.proofs.Siblings.{length-fold_of}
use Rattle.run_times.specs.declared.doing.Doing.TheVariants.{Idles, ForcedIdle}
use Rattle.run_times.specs.Doing.{has_queued}
use Rattle.run_times.proofs.Shown.{rises_of, shown_cpu, shown_below}
use Rattle.run_times.proofs.Busy.{IsQueued, does_idle}
use Rattle.run_times.proofs.looks.doing_of.Goals as goal

pub returns-in-None-cookie_run : goal.returns-in-None-cookie_run
returns-in-None-cookie_run g c =
    let opening = g.R.Room.opening c.args.room.now in
    let history = g.R.Room.history c.args.room.now in
    let room = fold_of opening history in
    let cpu = c.args.cpu in
    let shown = c.in-Some.ensures.view in
    let below = shown_below (moment_of opening history) cpu c.in-Some.view shown in
    let queued : IsQueued room cpu =
    (g.met.R.Room.consistent c.args.room.now c.requires.playable c.requires.events cpu (omega (arith, below, length-fold_of opening history))).running_is_queued
    in
    let up : is_online room cpu ≡ true = sym (shown_cpu (moment_of opening history) cpu c.in-Some.view shown).0 ∙ c.if-view.true in
    let cookie : c.core.result.cookie ≡ room.core_cookie = ap (λ (v : CoreView). v.cookie) c.core.ensures.view in
    ap ForcedIdle cookie
    ∙ sym (cond-true (has_queued room cpu) (ForcedIdle room.core_cookie) Idles (sym c.has_queued.ensures ∙ c.if-has_queued.true))
    ∙ does_idle room cpu (rises_of opening history c.requires.playable) queued up c.in-None-cookie_run.ensures

pub returns-in-None-2 : goal.returns-in-None-2
returns-in-None-2 g c =
    let opening = g.R.Room.opening c.args.room.now in
    let history = g.R.Room.history c.args.room.now in
    let room = fold_of opening history in
    let cpu = c.args.cpu in
    let shown = c.in-Some.ensures.view in
    let below = shown_below (moment_of opening history) cpu c.in-Some.view shown in
    let queued : IsQueued room cpu =
    (g.met.R.Room.consistent c.args.room.now c.requires.playable c.requires.events cpu (omega (arith, below, length-fold_of opening history))).running_is_queued
    in
    let up : is_online room cpu ≡ true = sym (shown_cpu (moment_of opening history) cpu c.in-Some.view shown).0 ∙ c.if-view.true in
    sym (cond-false (has_queued room cpu) (ForcedIdle room.core_cookie) Idles (sym c.has_queued.ensures ∙ c.if-has_queued.false))
    ∙ does_idle room cpu (rises_of opening history c.requires.playable) queued up c.in-None-2.ensures
