use Rattle.std.proofs.Common.{◌<◌, ◌-◌, ◌+◌, length, set, get_or, ap, ◌∙◌, arith}
use Rattle.std.proofs.lemmas.List.{get_or_default, take_all}
use Rattle.task_times.specs.declared.times.TaskTimes.{TaskTimes}
use Rattle.task_times.specs.declared.doing_times.DoingTimes.{DoingTimes}
use Rattle.task_times.specs.DoingTimes.{doing_times}
use Rattle.task_times.specs.TaskSums.{charged_to, charged_more}
use Rattle.task_times.proofs.Counted.{charged_more-none, cookies_more, cookies_fit}
use Rattle.task_times.proofs.sums.charge_cookies.Goals as goal

abbrev no_time : DoingTimes
no_time = doing_times (λ does. 0)

pub charge-requires : goal.charge-requires
charge-requires c =
    let low = c.requires.rows c.loop-times.times-index (record { by_doing = no_time; charged = 0; cookie = 0 }) c.loop-times-test.true in
    omega (arith, c.loop-times.invariant.fits _ (record { by_doing = no_time; charged = 0 }) low, c.loop-times-test.true)

pub loop-times-init : goal.loop-times-init
loop-times-init c =
    record {
      rows = λ k none few. charged_more-none (get_or c.args.cookies.now k none);
      fits = λ k none few. omega (arith, c.requires.fits k none few);
    }

pub loop-times-preserved : goal.loop-times-preserved
loop-times-preserved c =
    let tasks = c.args.tasks.now in
    let rows = c.loop-times.cookies in
    let i = c.loop-times.times-index in
    let none : TaskTimes = record { by_doing = no_time; charged = 0; cookie = 0 } in
    let times = get_or tasks i none in
    let low : times.cookie < length rows = omega (arith, c.requires.rows i none c.loop-times-test.true, c.loop-times.auto.cookies) in
    record {
      rows = λ k d few.
          cookies_more c.args.cookies.now rows _ tasks i none c.loop-times-test.true low
          (λ e. ap (set rows times.cookie) (c.charge.ensures.sum ∙ ap (charged_more times.charged) (get_or_default rows times.cookie _ e low)))
          k d (c.loop-times.invariant.rows k d few);
      fits = λ k d few.
          cookies_fit rows times.cookie c.charge.new.self (length tasks - (i + 1)) _ _ low c.charge.ensures.most
          (λ j e under. omega (arith, c.loop-times.invariant.fits j e (omega (arith, under, c.loop-times.auto.cookies)), c.loop-times-test.true))
          k d (omega (arith, few, c.loop-times.auto.cookies));
    }

pub returns : goal.returns
returns c = λ cookie none few.
    c.loop-times.invariant.rows cookie none few
    ∙ ap (λ ts. charged_more (charged_to ts cookie) (get_or c.args.cookies.now cookie none)) (take_all c.loop-times.times-index c.args.tasks.now (omega (arith, c.loop-times-test.false)))
