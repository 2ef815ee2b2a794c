use Rattle.std.proofs.Common.{◌≡◌, ℕ, None, Some, Option, refl, ap, sym, ◌∙◌}
use Rattle.std.specs.Prelude.{option_copied}
use Rattle.std.specs.Option.{option_map}
use Rattle.cs_types.specs.declared.queue.Queued.{Queued}
use Rattle.cs_types.specs.declared.task.Task.{Task}
use Rattle.cs_types.specs.Queue.{queued_of}
use Rattle.core_pick.specs.declared.lead.First.{First}
use Rattle.sibling_priority.specs.Offers.{rank_across}
use Rattle.core_pick.specs.Choice.{first_kept}
use Rattle.core_pick.specs.Schedules.{MayKeep}
use Rattle.core_pick.proofs.Leads.{below_all}
use Rattle.core_pick.proofs.lead.first_kept.Goals as goal

-- what is kept of idle
kept_none : (snapshot : ℕ) (task : Option Task) → None ≡ option_map queued_of task → first_kept 0 None ≡ first_kept snapshot task
kept_none snapshot None is = refl
kept_none snapshot (Some task) is = absurd cc

-- and of a task, by what its queue has of it
abbrev kept_by : ℕ → Queued → First
kept_by snapshot queued = record { rank_across = rank_across snapshot queued.class queued.rank; choice = record { cookie = queued.cookie; pid = queued.pid; class = queued.class } }

kept_some : (snapshot : ℕ) (queued : Queued) (task : Option Task) → Some queued ≡ option_map queued_of task → kept_by snapshot queued ≡ first_kept snapshot task
kept_some snapshot queued None is = absurd cc
kept_some snapshot queued (Some task) is = let same : queued ≡ queued_of task = cc in ap (kept_by snapshot) same

pub rank_across-requires-clause-rank : goal.rank_across-requires-clause-rank
rank_across-requires-clause-rank c fair =
    let may : MayKeep c.args.snapshot (Some c.in-Some.queued.now) = rw c.in-Some.is at c.requires in below_all (may.vtime fair)

pub rank_across-requires-clause-snapshot : goal.rank_across-requires-clause-snapshot
rank_across-requires-clause-snapshot c fair =
    let may : MayKeep c.args.snapshot (Some c.in-Some.queued.now) = rw c.in-Some.is at c.requires in below_all may.snapshot_low

pub returns-in-None : goal.returns-in-None
returns-in-None c task is = c.idle.ensures ∙ kept_none c.args.snapshot task (ap option_copied (sym c.in-None.is) ∙ is)

pub returns-in-Some : goal.returns-in-Some
returns-in-Some c task is =
    let queued = c.in-Some.queued.now in
    (λ i. let first : First = record { rank_across = c.rank_across.ensures i; choice = c.of.ensures i } in first)
    ∙ kept_some c.args.snapshot queued task (ap option_copied (sym c.in-Some.is) ∙ is)
