-- Valid: the scenario of each seed is valid.
use Rattle.std.proofs.Common.{◌≡◌, ℕ, zero, suc, ◌+◌, ◌-◌, ◌<◌, ◌≤◌, ◌≢◌, List, length, refl, ap, ◌∙◌, arith, inl}
use Rattle.std.specs.Prelude.{All}
use Rattle.std.proofs.Math.Nat.{mod-lt}
use Rattle.std.proofs.lemmas.List.Kept.{AllPairs-cons}
use Rattle.std.proofs.lemmas.List.Elements.{All-nil}
use Rattle.cs_types.specs.declared.task.TaskSpec.{TaskSpec}
use Rattle.cs_types.specs.declared.event.Event.{Event}
use Rattle.cs_types.specs.declared.event.Step.{Step}
use Rattle.cs_types.specs.declared.scenario.Scenario.{Scenario}
use Rattle.cs_types.specs.Scenario.{IsWithin, IsPolicy, IsTask, AreDistinct, AreLed, IsTeach, IsStep, IsValid}
use Rattle.room_drill.specs.Draws.{draw, in_turn}
use Rattle.room_drill.specs.Drill.{drawn_policy, policy_table, drawn_task, asks, drawn_event, event_table, actor_of, drawn_step, drill_of, drill_scenario, drill_steps}
use Rattle.room_drill.proofs.Drawn.{draw_below, each_in_turn, length-in_turn, each_by_row, two_drawn}
use Rattle.room_drill.proofs.Nice.{nice}

-- ---- policies

few_of : (m word : ℕ) → (draw (suc m) word).0 < suc m
few_of m word = draw_below (suc m) word (omega arith)

pub policy_drawn : (word : ℕ) → IsPolicy (drawn_policy word).0
unfolding drawn_policy
policy_drawn word =
    each_by_row IsPolicy policy_table (draw 4 word).0 (draw 4 word).1 (
      λ word. (omega arith, omega (arith, few_of 98 word)),
      (
        λ word. (omega arith, omega (arith, few_of 98 word)),
        (
          λ word. (omega arith, omega (arith, few_of 49 word)),
          tt,
        ),
      ),
    )
    (nice (draw 40 (draw 4 word).1).0 (few_of 39 (draw 4 word).1))

-- ---- tasks

task_drawn : (pid word : ℕ) → 1 ≤ pid → pid < 25 → IsTask 4 (drawn_task pid word).0
task_drawn pid word some few =
    record {
      pid = (some, omega arith);
      tgid = (some, omega arith);
      pgid = (some, omega arith);
      cpu = mod-lt (pid - 1) (omega arith);
      policy = policy_drawn word;
      creds = record {
        ruid = omega arith;
        euid = omega arith;
        suid = omega arith;
        rgid = omega arith;
        egid = omega arith;
        sgid = omega arith;
      };
    }

distinct : (first count word : ℕ) → AreDistinct (in_turn first count drawn_task word).0
unfolding in_turn
distinct first zero word = λ i j d before few. absurd (omega arith)
distinct first (suc count) word =
    AllPairs-cons (λ (a b : TaskSpec). a.pid ≢ b.pid) (drawn_task first word).0 (in_turn (first + 1) count drawn_task (drawn_task first word).1).0
    (each_in_turn (λ (task : TaskSpec). first ≢ task.pid) drawn_task (first + 1) count (λ pid word from below. omega arith) (drawn_task first word).1)
    (distinct (first + 1) count (drawn_task first word).1)

led : (word : ℕ) → AreLed (in_turn 1 24 drawn_task word).0
led word = λ k d few.
    inl (each_in_turn (λ (task : TaskSpec). task.tgid ≡ task.pid) drawn_task 1 24 (λ pid word from below. refl) word k d few)

-- ---- steps

abbrev IsMade : Event → Type 0
IsMade event = IsStep 4 (record { actor = actor_of event; event = event })

cpu_drawn : (word : ℕ) → (draw 4 word).0 < 4
cpu_drawn word = draw_below 4 word (omega arith)

pid_drawn : (word : ℕ) → IsWithin 1 999999 (1 + (draw 24 word).0)
pid_drawn word = let few : (draw 24 word).0 < 24 = draw_below 24 word (omega arith) in (omega arith, omega arith)

asked : (cmd caller target : ℕ) → cmd < 3 → IsWithin 1 999999 caller → IsWithin 1 999999 target → IsMade (asks cmd caller target)
asked cmd caller target few from to =
    record {
      event = (from, record { cmd = omega arith; pid = let high : target ≤ 999999 = to.1 in omega arith; scope = omega arith; addr = omega arith });
      actor = omega arith;
    }

step_drawn : (word : ℕ) → IsStep 4 (drawn_step word).0
unfolding drawn_event
step_drawn word =
    each_by_row IsMade event_table (draw 20 word).0 (draw 20 word).1 (
      λ word. record { event = cpu_drawn word; actor = refl },
      (
        λ word. record { event = cpu_drawn word; actor = refl },
        (
          λ word. record { event = cpu_drawn word; actor = refl },
          (
            λ word. record { event = cpu_drawn word; actor = refl },
            (
              λ word. record { event = pid_drawn word; actor = omega arith },
              (
                λ word. record { event = (omega arith, omega (arith, few_of 4999999 word)); actor = omega arith },
                (
                  λ word. asked 1 _ _ (omega arith) (pid_drawn word) (pid_drawn (draw 24 word).1),
                  (
                    λ word. asked 2 _ _ (omega arith) (pid_drawn word) (pid_drawn (draw 24 word).1),
                    (
                      λ word. record { event = (pid_drawn word, policy_drawn (draw 24 word).1); actor = omega arith },
                      (
                        λ word. record { event = pid_drawn word; actor = omega arith },
                        (
                          λ word. record { event = cpu_drawn word; actor = refl },
                          (
                            λ word. record { event = cpu_drawn word; actor = omega arith },
                            tt,
                          ),
                        ),
                      ),
                    ),
                  ),
                ),
              ),
            ),
          ),
        ),
      ),
    )
    (record { event = cpu_drawn (draw 20 word).1; actor = omega arith })

-- ---- the scenario

drill_valid : (tasks : List TaskSpec) (steps : List Step) → All (IsTask 4) tasks → AreDistinct tasks → AreLed tasks → length tasks ≡ 24 →
    All (IsStep 4) steps → length steps ≡ 20000 → IsValid (drill_of tasks steps)
drill_valid tasks steps each apart led few all many =
    record {
      version = (omega arith, omega arith);
      siblings = (omega arith, omega arith);
      task_limit = (omega arith, omega arith);
      cookie_limit = (omega arith, omega arith);
      user_top = (omega arith, omega arith);
      tasks = each;
      distinct = apart;
      led = led;
      few_tasks = omega arith;
      teaches = All-nil IsTeach;
      numbered = refl;
      few_teaches = omega arith;
      steps = all;
      few_steps = omega arith;
    }

pub valid_scenario : (seed : ℕ) → IsValid (drill_scenario seed)
unfolding drill_scenario
valid_scenario seed =
    let drawn : List TaskSpec × ℕ = in_turn 1 24 drawn_task seed in
    drill_valid drawn.0 (in_turn 1 drill_steps (λ number. drawn_step) drawn.1).0
    (each_in_turn (IsTask 4) drawn_task 1 24 (λ pid word from below. task_drawn pid word from (omega arith)) seed)
    (distinct 1 24 seed) (led seed) (length-in_turn drawn_task 1 24 seed)
    (each_in_turn (IsStep 4) (λ number. drawn_step) 1 drill_steps (λ number word from below. step_drawn word) drawn.1)
    (length-in_turn (λ number. drawn_step) 1 drill_steps drawn.1)

-- what is drawn for it is the scenario of the seed
pub drill_drawn : (seed first mid end : ℕ) (tasks : List TaskSpec) (steps : List Step) → first ≡ seed →
    (let drawn : List TaskSpec × ℕ = (tasks, mid) in drawn) ≡ in_turn 1 24 drawn_task first →
    (let drawn : List Step × ℕ = (steps, end) in drawn) ≡ in_turn 1 drill_steps (λ number. drawn_step) mid →
    drill_of tasks steps ≡ drill_scenario seed
unfolding drill_scenario
drill_drawn seed first mid end tasks steps is tasks_are steps_are =
    ap (λ (drawn : Scenario × ℕ). drawn.0)
    (two_drawn drill_of (in_turn 1 24 drawn_task) (in_turn 1 drill_steps (λ number. drawn_step)) seed tasks mid steps end
    (tasks_are ∙ ap (in_turn 1 24 drawn_task) is) steps_are)
