use Rattle.std.proofs.Common.{◌≡◌, ◌<◌, ◌∙◌, ℕ, Bool, true, refl, ap, sym, map, List, length, get_or, set, Some, arith}
use Rattle.std.specs.Prelude.{◌||◌}
use Rattle.std.proofs.lemmas.List.{map-set, length-map, get_or-map}
use Rattle.std.proofs.Math.Seq.{map-set_same}
use Rattle.cs_types.specs.Room.{SiblingState, absent}
use Rattle.cs_types.specs.Selection.{is_run}
use Rattle.core_lanes.specs.declared.lane.Lane.{Lane}
use Rattle.core_lanes.specs.Lanes.{lane_state}
use Rattle.core_lanes.specs.Changes.{ChangesLanes}
use Rattle.core_lanes.proofs.Stays.{number_of, queue_of}
use Rattle.core_tasks.specs.Cookies.{flagged_for, RunsAtMostAt}
use Rattle.core_tasks.proofs.Runners.{changed_at, flagged_nothing}
use Rattle.std.proofs.Math.Bool.{or-true, or-false}
use Rattle.core_tasks.proofs.cookies.flag_home.Goals as goal

-- where the home is pending as it is to be, so are all
module _ {Q : Type 0} (lanes : List (Lane Q)) (home pid : ℕ) (lane : Lane Q) (within : home < length lanes)
    (alone : RunsAtMostAt home pid (map lane_state lanes)) where
  flagged : (pending : Bool) → pending ≡ ((get_or lanes home lane).pending || is_run (get_or lanes home lane).run (Some pid)) →
      ChangesLanes lanes (set lanes home (record (get_or lanes home lane) { pending = pending })) (map (flagged_for pid))
  flagged pending pending_is =
      let states = map lane_state lanes in
      let now = get_or lanes home lane in
      let after : Lane Q = record now { pending = pending } in
      let is : lane_state after ≡ flagged_for pid (get_or states home absent) =
      (λ j. let state : SiblingState = record (lane_state now) { pending = pending_is j } in state)
      ∙ ap (flagged_for pid) (sym (get_or-map lane_state lanes home lane absent within)) in
      record {
        states = map-set lane_state lanes home after ∙ ap (set states home) is
            ∙ changed_at (flagged_for pid) absent states home (omega (arith, length-map lanes lane_state, within))
            (λ k differs. flagged_nothing pid (get_or states k absent) (alone k differs));
        numbers = map-set_same number_of lanes home after lane refl;
        queues = map-set_same queue_of lanes home after lane refl;
      }

pub returns-then-runs : goal.returns-then-runs
returns-then-runs g c =
    let lanes = c.args.lanes.now in
    let now = get_or lanes c.args.home c.index-lanes-home.result in
    flagged lanes c.args.home c.args.pid c.index-lanes-home.result c.requires.home c.requires.alone true
    (sym (or-true now.pending) ∙ ap (λ b. now.pending || b) (sym c.if-runs.true ∙ c.runs.ensures))

pub returns-else-runs : goal.returns-else-runs
returns-else-runs g c =
    let lanes = c.args.lanes.now in
    let now = get_or lanes c.args.home c.index-lanes-home.result in
    flagged lanes c.args.home c.args.pid c.index-lanes-home.result c.requires.home c.requires.alone now.pending
    (sym (or-false now.pending) ∙ ap (λ b. now.pending || b) (sym c.if-runs.false ∙ c.runs.ensures))

pub bounds-lanes-home : goal.bounds-lanes-home
bounds-lanes-home g c = c.requires.home
