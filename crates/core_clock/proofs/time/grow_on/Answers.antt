use Rattle.std.proofs.Common.{◌≡◌, ◌≤◌, ◌<◌, ◌+◌, ◌*◌, ◌^◌, ◌∙◌, ℕ, ℤ, pos, negsuc, w8, FitsSigned, ap, sym, subst, refl, length, arith}
use Rattle.std.specs.Prelude.{Option, ◌==◌}
use Rattle.std.specs.Option.{option_map_or}
use Rattle.std.proofs.Math.Facts.{Fits-of_lt}
use Rattle.std.proofs.lemmas.Int.{to_z-of_z}
use Rattle.cs_types.specs.declared.task.Task.{Task}
use Rattle.cs_types.specs.declared.task.Policy.{Policy}
use Rattle.cs_types.specs.Order.{class_of, fair_class}
use Rattle.cs_types.specs.Room.{RoomState, with_task}
use Rattle.cs_types.specs.Scenario.{IsNice, IsPolicy}
use Rattle.cs_types.specs.Time.{growth, grown_by}
use Rattle.cs_types.proofs.Growth.{growth-le}
use Rattle.core_lanes.specs.Lanes.{room_of, IsFit, AreHeld}
use Rattle.task_table.specs.Table.{Table}
use Rattle.core_lanes.proofs.Stays.{found_in, same_stays}
use Rattle.core_lanes.proofs.Timed.{KeepsTask, table_timed, changes_timed, changes_used}
use Rattle.core_clock.proofs.Changes.{changes_as}
use Rattle.core_clock.proofs.Clocks.{with_task-same}
use Rattle.core_clock.proofs.Growth.{grown_by-neither}
use Rattle.core_clock.proofs.time.grow_on.Goals as goal

-- the room in which what runs there, if anything does, has grown
abbrev grown_with : ℕ → RoomState → Option Task → RoomState
grown_with delta room found = option_map_or (λ task. with_task room (grown_by delta task.spec.policy task)) found room

pub returns-in_default-clause-changes : goal.returns-in_default-clause-changes
returns-in_default-clause-changes g c = record {
  room = λ beside. ap (grown_with c.args.delta (room_of beside (c.args.core.now, c.args.table.now))) (c.in_default.ensures.task beside);
  numbers = refl;
  stays = same_stays;
}

pub overflow_add-used : goal.overflow_add-used
overflow_add-used g c =
    Fits-of_lt
    (found_in (λ (task : Task). task.used + c.args.delta < 2 ^ 64) c.in-Some.task.now.spec.pid c.args.table.now.tasks c.in-Some.task.now c.requires.can.used c.in-Some.ensures.there)

-- a nice value fits 8 bits
nice_fits : (nice : ℤ) → IsNice nice → FitsSigned w8 nice
nice_fits (pos n) is = record { sfits = omega (arith, is) }
nice_fits (negsuc n) is = record { sfits = omega (arith, is) }

pub grow-requires : goal.grow-requires
grow-requires g c =
    let is : IsNice c.in-Fair.nice = subst IsPolicy c.in-Fair.is
    (found_in (IsFit (length c.args.core.now.lanes.items)) c.in-Some.task.now.spec.pid c.args.table.now.tasks c.in-Some.task.now c.requires.at.agree.tasks c.in-Some.ensures.there).policy in
    subst IsNice (sym (to_z-of_z w8 c.in-Fair.nice (nice_fits c.in-Fair.nice is))) is

pub overflow_add-vtime : goal.overflow_add-vtime
overflow_add-vtime g c =
    let low : c.grow.result ≤ 69 * c.args.delta = subst (λ n. n ≤ 69 * c.args.delta) (sym c.grow.ensures) (growth-le c.args.delta _) in
    let was = found_in (λ (task : Task). task.vtime + 69 * c.args.delta < 2 ^ 128) c.in-Some.task.now.spec.pid c.args.table.now.tasks c.in-Some.task.now c.requires.can.vtimes c.in-Some.ensures.there in
    omega (arith, was, low)

pub returns-in-Rr-clause-changes : goal.returns-in-Rr-clause-changes
returns-in-Rr-clause-changes g c =
    let task = c.in-Some.task.now in
    let delta = c.args.delta in
    changes_as (λ beside.
    let room = room_of beside (c.args.core.now, c.args.table.now) in
    ap (λ (policy : Policy). with_task room (grown_by delta policy task)) (sym c.in-Rr.is)
    ∙ ap (grown_with delta room) (c.in-Some.ensures.task beside))
    (changes_used c.args.core.now c.args.table.now c.set_used.new.self task.spec.pid (task.used + delta) task c.requires.at.agree c.in-Some.ensures.there c.set_used.ensures.given c.set_used.ensures.sound)

pub set_vtime_in_queue-requires : goal.set_vtime_in_queue-requires
set_vtime_in_queue-requires g c =
    let task = c.in-Some.task.now in
    let agree = c.requires.at.agree in
    record {
      fair = ap (λ (policy : Policy). class_of policy == fair_class) c.in-Fair.is;
      home = record {
        table = agree.table;
        there = c.in-Some.ensures.there;
        home = (found_in (IsFit (length c.args.core.now.lanes.items)) task.spec.pid c.args.table.now.tasks task agree.tasks c.in-Some.ensures.there).home;
        held = agree.held;
      };
    }

pub returns-in-Fair-clause-changes : goal.returns-in-Fair-clause-changes
returns-in-Fair-clause-changes g c =
    let task = c.in-Some.task.now in
    let delta = c.args.delta in
    let old = c.args.core.now in
    let new = c.set_vtime_in_queue.new.self in
    let before = c.args.table.now in
    let after = c.set_vtime.new.self in
    let agree = c.requires.at.agree in
    let is : IsNice c.in-Fair.nice = subst IsPolicy c.in-Fair.is (found_in (IsFit (length old.lanes.items)) task.spec.pid before.tasks task agree.tasks c.in-Some.ensures.there).policy in
    let grows : c.grow.result ≡ growth delta c.in-Fair.nice = c.grow.ensures ∙ ap (growth delta) (to_z-of_z w8 c.in-Fair.nice (nice_fits c.in-Fair.nice is)) in
    let run : Task → Task = λ other. record other { vtime = task.vtime + c.grow.result } in
    let keeps : KeepsTask task (run task) = record { spec = refl; cookie = refl; home = refl; queued = refl; stamp = refl } in
    let given = c.set_vtime.ensures.given in
    let held = subst (λ (t : Table). AreHeld (new, t)) (sym (table_timed old new before after task.spec.pid task run keeps agree c.in-Some.ensures.there given)) c.set_vtime_in_queue.ensures.queues.held in
    changes_as (λ beside.
    let room = room_of beside (old, before) in
    ap (λ (n : ℕ). with_task room (let later : Task = record task { vtime = task.vtime + n } in later)) grows
    ∙ ap (λ (policy : Policy). with_task room (grown_by delta policy task)) (sym c.in-Fair.is)
    ∙ ap (grown_with delta room) (c.in-Some.ensures.task beside))
    (changes_timed old new before after task.spec.pid task run keeps agree c.in-Some.ensures.there given c.set_vtime_in_queue.ensures.queues.bare c.set_vtime.ensures.sound held)

pub returns-in_default-policy-clause-changes : goal.returns-in_default-policy-clause-changes
returns-in_default-policy-clause-changes g c =
    let task = c.in-Some.task.now in
    let delta = c.args.delta in
    record {
      room = λ beside.
          let room = room_of beside (c.args.core.now, c.args.table.now) in
          sym (with_task-same room task c.requires.at.agree.table.rising c.in-Some.ensures.there)
          ∙ ap (with_task room) (sym (grown_by-neither delta task.spec.policy task c.in_default-policy.not-Rr c.in_default-policy.not-Fair))
          ∙ ap (grown_with delta room) (c.in-Some.ensures.task beside);
      numbers = refl;
      stays = same_stays;
    }
