use Rattle.std.proofs.Common.{◌≡◌, ◌+◌, length, ◌∙◌, sym, ap, subst, arith}
use Rattle.cs_types.specs.Scenario.{user_lines, IsValid}
use Rattle.scenario_text.specs.Upgrade.{renumbered}
use Rattle.scenario_text.proofs.Users.{users_few}
use Rattle.scenario_writer.proofs.Upgrades.{length-renumbered, written_back, valid_upgraded}
use Rattle.scenario_writer.proofs.version.upgrade.Goals as goal

pub renumber-requires : goal.renumber-requires
renumber-requires c = omega (arith, c.line_after-first.ensures, ap length c.items.ensures, ap length c.items_mut.ensures.value, users_few 2 c.items.result.now, c.requires.few_tasks, c.requires.task_limit.1, c.requires.few_teaches)

pub returns-clause-upgraded : goal.returns-clause-upgraded
returns-clause-upgraded c =
    let s = c.args.scenario.now in
    let first : c.line_after-first.result ≡ user_lines 2 s.tasks + length s.tasks + 4 = c.line_after-first.ensures ∙ ap (λ ts. user_lines 2 ts + length ts + 4) c.items.ensures in
    let teaches : c.renumber.new.teaches ≡ renumbered (user_lines 2 s.tasks + length s.tasks + 4) s.teaches = c.renumber.ensures ∙ (λ i. renumbered (first i) (c.items_mut.ensures.value i)) in
    let count : length c.renumber.new.teaches ≡ length s.teaches = ap length teaches ∙ length-renumbered _ s.teaches in
    let back = written_back s.teaches c.renumber.new.teaches count ∙ teaches in
    λ i. record s { version = 2; teaches = back i }

pub returns-clause-valid : goal.returns-clause-valid
returns-clause-valid c = subst IsValid (sym (returns-clause-upgraded c)) (valid_upgraded c.args.scenario.now c.requires)
