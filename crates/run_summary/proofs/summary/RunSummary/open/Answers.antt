use Rattle.std.proofs.Common.{ℕ, ◌+◌, ◌*◌, [], length, sym, ap, ◌∙◌}
use Rattle.cs_types.specs.Room.{Opening}
use Rattle.run_times.specs.Sums.{times_in}
use Rattle.task_times.specs.TaskSums.{TaskSums, sums_so_far}
use Rattle.run_summary.proofs.summary.RunSummary.open.Goals as goal

pub returns-clause-parts : goal.returns-clause-parts
returns-clause-parts c = λ opening same.
    let sums = c.in_ok-open-4.ensures opening in
    record {
      times = c.in_ok-open.ensures ∙ ap (λ (n : ℕ). times_in n []) (sym same);
      pairs = record {
        by_cookie = c.in_ok-open-2.ensures.by;
        by_group = c.in_ok-open-3.ensures.by;
        cookie_pairs = c.in_ok-open-2.ensures.none opening;
        group_pairs = c.in_ok-open-3.ensures.none opening;
      };
      tasks = sums ∙ ap (λ (n : ℕ). sums_so_far n opening []) (sym (ap (λ (s : TaskSums). s.entries) sums));
    }

-- the rows are as many whatever the room begins with
pub returns-clause-entries : goal.returns-clause-entries
returns-clause-entries c =
    let nothing : Opening =
    record { scenario = record { version = 0; siblings = 0; task_limit = 0; cookie_limit = 0; user_top = 0; tasks = []; teaches = []; steps = [] }; guards = 0 } in
    ap (λ (s : TaskSums). s.entries) (c.in_ok-open-4.ensures nothing) ∙ ap (λ (n : ℕ). length c.args.steps.now + n * n) c.from-most.ensures

-- and as many of the waits
pub returns-clause-each : goal.returns-clause-each
returns-clause-each c =
    let nothing : Opening =
    record { scenario = record { version = 0; siblings = 0; task_limit = 0; cookie_limit = 0; user_top = 0; tasks = []; teaches = []; steps = [] }; guards = 0 } in
    c.in_ok-open-5.ensures.entries ∙ sym (ap (λ (s : TaskSums). s.entries) (c.in_ok-open-4.ensures nothing))
