use Rattle.std.proofs.Common.{ℕ, ◌++◌, ◌∷◌, [], sym, ap, ◌∙◌, refl}
use Rattle.cs_types.specs.declared.reply.Reply.TheVariants.{Zero}
use Rattle.cs_types.specs.declared.event.Actor.TheVariants.{Caller}
use Rattle.task_times.specs.TaskSums.{TaskSums, sums_so_far}
use Rattle.run_summary.specs.Summaries.{Summary}
use Rattle.run_summary.proofs.summary.RunSummary.before.Goals as goal

-- the rows stay as many as they were
pub returns-clause-entries : goal.returns-clause-entries
returns-clause-entries g c =
    rw (← c.self.view_is)
    (ap (λ (s : TaskSums). s.entries) (c.before-5.ensures (record { actor = Caller 0; event = c.args.event; reply = Zero }) refl))

pub returns-clause-parts : goal.returns-clause-parts
returns-clause-parts g c = λ entry same.
    let sums = c.before-5.ensures entry same in
    record {
      times = c.before-2.ensures entry same;
      pairs = record {
        by_cookie = c.before-3.ensures.by ∙ ap (λ (s : Summary). s.cookie_pairs.by) c.self.view_is ∙ c.requires.parts.pairs.by_cookie;
        by_group = c.before-4.ensures.by ∙ ap (λ (s : Summary). s.group_pairs.by) c.self.view_is ∙ c.requires.parts.pairs.by_group;
        cookie_pairs = c.before-3.ensures.pairs entry same;
        group_pairs = c.before-4.ensures.pairs entry same;
      };
      tasks = sums ∙ ap (λ (n : ℕ). sums_so_far n (g.R.Room.opening c.args.room.now) (g.R.Room.history c.args.room.now ++ entry ∷ [])) (sym (ap (λ (s : TaskSums). s.entries) sums));
    }
