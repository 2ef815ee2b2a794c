-- What can be written can be played.
use Rattle.std.proofs.Common.{ℕ, ◌≤◌, eqb, arith}
use Rattle.std.proofs.lemmas.Bool.{cond_both}
use Rattle.cs_types.specs.declared.scenario.Scenario.{Scenario}
use Rattle.cs_types.specs.Scenario.{most_siblings, IsValid, IsPlayable}

-- the most siblings of either version
most_few : (version : ℕ) → most_siblings version ≤ 16
most_few version = cond_both (eqb version 2) 16 8 (λ n. n ≤ 16) (λ _. omega arith) (λ _. omega arith)

pub valid_playable : (scenario : Scenario) → IsValid scenario → IsPlayable scenario
valid_playable scenario valid =
    record {
      version = valid.version;
      siblings = (valid.siblings.0, omega (arith, valid.siblings.1, most_few scenario.version));
      task_limit = valid.task_limit;
      cookie_limit = valid.cookie_limit;
      user_top = valid.user_top;
      tasks = valid.tasks;
      distinct = valid.distinct;
      led = valid.led;
      few_tasks = valid.few_tasks;
      teaches = valid.teaches;
      numbered = valid.numbered;
      few_teaches = valid.few_teaches;
      steps = valid.steps;
      few_steps = valid.few_steps;
    }
