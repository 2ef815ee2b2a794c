use Rattle.std.proofs.Common.{◌≡◌, ℕ, ◌<◌, ◌^◌, ◌∙◌, [], ◌∷◌, sym, subst, map, arith}
use Rattle.std.specs.Prelude.{Option, None, Some, IfSome}
use Rattle.std.specs.Option.{option_map}
use Rattle.cs_types.specs.declared.queue.Queued.{Queued}
use Rattle.cs_types.specs.declared.task.Policy.{Policy}
use Rattle.cs_types.specs.declared.task.Policy.TheVariants.{Fair}
use Rattle.cs_types.specs.declared.task.Task.{Task}
use Rattle.cs_types.specs.Room.{SiblingState}
use Rattle.cs_types.specs.Order.{fair_class, class_of}
use Rattle.cs_types.specs.Queue.{rank_by, queued_of}
use Rattle.cs_types.specs.Selection.{first_on}
use Rattle.core_lanes.specs.Lanes.{lane_state, room_of}
use Rattle.core_lanes.proofs.Stays.{some_beside, lane_at}
use Rattle.core_pick.specs.Choice.{first_kept}
use Rattle.core_pick.proofs.Choices.{All-firsts}
use Rattle.core_pick.proofs.Leads.{kept_at_home}
use Rattle.core_pick.proofs.Ranges.{low_snapshots}
use Rattle.core_pick.proofs.selection.first_at.Goals as goal

-- the rank of a fair task is its virtual time
fair_rank : (policy : Policy) (deadline vtime : ℕ) → vtime < 2 ^ 100 → class_of policy ≡ fair_class → rank_by policy deadline vtime < 2 ^ 100
fair_rank (Fair nice) deadline vtime low fair = low
fair_rank policy deadline vtime low fair = absurd (omega (arith, fair))

-- so it is low in the queue of a task whose virtual time is
low_rank : (first : Option Task) → IfSome first (λ task. task.vtime < 2 ^ 100) →
    IfSome (option_map queued_of first) (λ queued. queued.class ≡ fair_class → queued.rank < 2 ^ 100)
low_rank None low = tt
low_rank (Some task) low = fair_rank task.spec.policy task.deadline task.vtime low

pub first_kept-requires : goal.first_kept-requires
first_kept-requires g c =
    let lanes = c.args.core.now.lanes.items in
    let room = room_of some_beside (c.args.core.now, c.args.table.now) in
    let is = sym (c.as_ref.ensures.value ∙ c.first_on-first.ensures.first some_beside) in
    let own = lane_at lanes c.args.cpu c.index.result.now c.requires.at.cpu c.index.ensures in
    record {
      vtime = subst (λ (first : Option Queued). IfSome first (λ queued. queued.class ≡ fair_class → queued.rank < 2 ^ 100)) is
          (low_rank (first_on room c.args.cpu) (All-firsts (λ (task : Task). task.vtime < 2 ^ 100) room (c.args.cpu ∷ []) c.requires.low.vtimes 0 None (omega arith)));
      snapshot_low = subst (λ (sibling : SiblingState). sibling.snapshot < 2 ^ 100) own (low_snapshots (map lane_state lanes) c.requires.low.snapshots c.args.cpu);
    }

pub returns : goal.returns
returns g c = record {
  answer = λ beside.
      let lanes = c.args.core.now.lanes.items in
      let room = room_of beside (c.args.core.now, c.args.table.now) in
      let own = sym (lane_at lanes c.args.cpu c.index.result.now c.requires.at.cpu c.index.ensures) in
      c.first_kept.ensures (first_on room c.args.cpu) (c.as_ref.ensures.value ∙ c.first_on-first.ensures.first beside)
      ∙ (λ i. let sibling : SiblingState = own i in first_kept sibling.snapshot (first_on room c.args.cpu))
      ∙ kept_at_home room c.args.cpu;
  counted = c.first_on-first.ensures.counted;
}
