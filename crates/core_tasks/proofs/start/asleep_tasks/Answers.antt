use Rattle.std.proofs.Common.{◌∙◌, ap, arith, rules}
use Rattle.std.proofs.lemmas.Grind.{common_steps}
use Rattle.std.proofs.lemmas.List.{take_all}
use Rattle.cs_types.specs.Room.{asleep_tasks}
use Rattle.task_table.specs.Table.{Table, total_in}
use Rattle.core_tasks.proofs.Starts.{added_ok}
use Rattle.core_tasks.proofs.start.asleep_tasks.Goals as goal

pub unwrap-requires : goal.unwrap-requires
unwrap-requires c =
    added_ok c.loop-spec.tasks c.args.specs.now c.args.limit c.loop-spec.spec-index _ c.add.result c.loop-spec.invariant.tasks c.loop-spec.invariant.limit c.add.ensures.answer
    c.requires.distinct c.loop-spec-test.true c.requires.few

pub loop-spec-init : goal.loop-spec-init
loop-spec-init c =
    let empty = c.in_ok-tasks.ensures.empty in
    record {
      sound = c.in_ok-tasks.ensures.sound;
      tasks = ap (λ (table : Table). table.tasks) empty;
      limit = ap (λ (table : Table). table.limit) empty;
      totals = λ pid. ap (λ (table : Table). total_in table pid) empty;
    }

pub loop-spec-preserved : goal.loop-spec-preserved
loop-spec-preserved c =
    record {
      sound = c.add.ensures.sound;
      tasks = grind (arith, common_steps);
      limit = search rules;
      totals = λ pid. c.add.ensures.totals pid ∙ c.loop-spec.invariant.totals pid;
    }

pub returns : goal.returns
returns c =
    let now = c.loop-spec.invariant in
    record { tasks = now.tasks ∙ ap asleep_tasks (take_all c.loop-spec.spec-index c.args.specs.now c.loop-spec-test.false); sound = now.sound; limit = now.limit; totals = now.totals }
