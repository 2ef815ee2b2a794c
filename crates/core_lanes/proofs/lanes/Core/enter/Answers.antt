use Rattle.std.proofs.Common.{arith, ◌≤◌, ◌+◌, ◌*◌, Option, set, length-set, true, Some, Bor, ◌≡◌, ℕ, ◌<◌, [], cond, List, inl, inr, refl, sym, subst, ap, ◌∙◌, map, length}
use Rattle.std.specs.Prelude.{◌==◌, All, IsTrue, find, slice_get, option_copied}
use Rattle.bounded_list.specs.Bounded.{Bounded}
use Rattle.std.proofs.lemmas.Bool.{cases_Bool, cond-true, cond-false, eqb-true, eqb-false, ne_eqb}
use Rattle.cs_types.proofs.Foremost.{find_passes}
use Rattle.cs_laws.proofs.Spots.{replaced_by}
use Rattle.cs_types.specs.declared.queue.Queued.{Queued}
use Rattle.cs_types.specs.declared.task.Task.{Task}
use Rattle.cs_types.specs.Room.{RoomState, has_pid}
use Rattle.cs_types.specs.Queueing.{moved_to, moved}
use Rattle.task_table.specs.Table.{Table}
use Rattle.core_lanes.specs.Queued.{queued_at, others, IsOf, HasOwnStamp}
use Rattle.core_lanes.specs.declared.lane.Lane.{Lane}
use Rattle.core_lanes.specs.declared.queue.SiblingQueue.{Ghosts}
use Rattle.core_lanes.specs.declared.lanes.Core.{Core}
use Rattle.core_lanes.specs.Numbers.{numbers_by}
use Rattle.core_lanes.specs.Lanes.{room_by, room_of, queues_of, AreHeldAs, AgreeAway, IsFit, MayEnter}
use Rattle.core_lanes.specs.Changes.{Kept, kept_of, MovesBy}
use Rattle.core_lanes.proofs.Queues.{others-replaced, others-absent, off_elsewhere}
use Rattle.core_lanes.proofs.AtHome.{held_home, bare_home}
use Rattle.core_lanes.proofs.Replaced.{is_of, own_stamp}
use Rattle.core_lanes.proofs.Placed.{lone_placed}
use Rattle.core_lanes.proofs.Lists.{is_there, is_it}
use Rattle.core_lanes.proofs.Stays.{some_beside, found_in, queue_of, queue_at, stamp_next}
use Rattle.core_lanes.proofs.lanes.Core.enter.Given.{Over}
use Rattle.core_lanes.proofs.Counted.{of_one, as_many_live}
use Rattle.core_lanes.proofs.lanes.Core.enter.Goals.{After-place, After-unwrap-entered}
use Rattle.core_lanes.proofs.lanes.Core.enter.Goals as goal

-- what the queues hold while the tasks of a sibling leave it, but for the task with this pid
abbrev AreHeldAwayBut : {Q : Type 0} {g : Ghosts Q} → ℕ → ℕ → Core Q g × Table → Type 0
AreHeldAwayBut leaving pid both = AreHeldAs (λ cpu. cond (cpu == leaving) [] (others pid (queued_at both.1.tasks cpu))) both

-- the table then
abbrev with : Table → Task → Table
with before task = record before { tasks = map (replaced_by task) before.tasks }

-- what the queues hold but for the task, where they hold the others of the siblings that nobody leaves
module _ {Q : Type 0} {g : Ghosts Q} (core : Core Q g) (before : Table) (task old : Task) (there : find (has_pid task.spec.pid) before.tasks ≡ Some old)
    (away : AgreeAway old.home (core, before)) where
  others_stay : (cpu : ℕ) → (cpu ≡ old.home → ⊥) → others task.spec.pid (queued_at (map (replaced_by task) before.tasks) cpu) ≡ queued_at before.tasks cpu
  others_stay cpu other = others-replaced task before.tasks cpu ∙ others-absent task.spec.pid cpu before.tasks old away.table.rising there (off_elsewhere old cpu other)

  all_but : AreHeldAwayBut old.home task.spec.pid (core, with before task)
  all_but cpu queue at =
      let after = others task.spec.pid (queued_at (map (replaced_by task) before.tasks) cpu) in
      let same : cond (cpu == old.home) [] (queued_at before.tasks cpu) ≡ cond (cpu == old.home) [] after = elim (cases_Bool (cpu == old.home)) [
        | inl here ↦ cond-true (cpu == old.home) [] (queued_at before.tasks cpu) here ∙ sym (cond-true (cpu == old.home) [] after here)
        | inr other ↦ ap (cond (cpu == old.home) []) (sym (others_stay cpu (eqb-false cpu old.home other)))
      ] in
      subst (λ qs. g.holds queue before.limit qs) same (away.held cpu queue at)

  here_but : (queue : Q) → (task.home ≡ old.home → ⊥) → slice_get (queues_of core) task.home ≡ Some queue →
      g.holds queue before.limit (others task.spec.pid (queued_at (map (replaced_by task) before.tasks) task.home))
  here_but queue other at =
      subst (λ qs. g.holds queue before.limit qs)
      (cond-false (task.home == old.home) [] (queued_at before.tasks task.home) (ne_eqb task.home old.home other) ∙ sym (others_stay task.home other))
      (away.held task.home queue at)

-- ---- the task as the table has it

-- the task stands in the table with its stamp, and no queue has it yet
record IsPlaced {Q : Type 0} {g : Ghosts Q} (pid from to : ℕ) (then : Core Q g) (now : Table) (task : Task) : Type 0 where
  found : find (has_pid pid) now.tasks ≡ Some task
  there : IsOf now.tasks task
  own : HasOwnStamp now.tasks task
  queued : IsTrue task.queued
  home : task.home ≡ to
  within : to < length then.lanes.items
  here_but : (queue : Q) → slice_get (queues_of then) to ≡ Some queue → g.holds queue now.limit (others task.spec.pid (queued_at now.tasks to))
  away_but : AreHeldAwayBut from task.spec.pid (then, now)

module _ {Q : Type 0} {g : Ghosts Q} (core : Core Q g) (before : Table) (pid from to : ℕ) (may : MayEnter pid from to (core, before)) (then : Core Q g) (now : Table)
    (is : room_of some_beside (then, now) ≡ moved (room_of some_beside (core, before)) to may.task) (same : kept_of (then, now) ≡ kept_of (core, before)) (lanes : then.lanes ≡ core.lanes) where
  abbrev went : Task
  went = record (moved_to (room_of some_beside (core, before)) to may.task) { queued = true; stamp = core.next_stamp }

  pid_is : went.spec.pid ≡ pid
  pid_is = eqb-true may.task.spec.pid pid (find_passes (has_pid pid) before.tasks may.task may.there)

  there : find (has_pid went.spec.pid) before.tasks ≡ Some may.task
  there = subst (λ n. find (has_pid n) before.tasks ≡ Some may.task) (sym pid_is) may.there

  tasks : now.tasks ≡ map (replaced_by went) before.tasks
  tasks = ap (λ (room : RoomState). room.tasks) is

  limit : now.limit ≡ before.limit
  limit = ap (λ (kept : Kept). kept.limit) same

  there_now : IsOf now.tasks went
  there_now = subst (λ (ts : List Task). IsOf ts went) (sym tasks) (is_of went may.task before.tasks there)

  own : HasOwnStamp now.tasks went
  own = subst (λ (ts : List Task). HasOwnStamp ts went) (sym tasks)
      (own_stamp went may.task before.tasks there (stamp_next core.next_stamp before.tasks went refl may.agree.stamped).own)

  leaves : AgreeAway may.task.home (core, before)
  leaves = subst (λ n. AgreeAway n (core, before)) (sym may.home) may.agree

  at_before : (cpu : ℕ) (queue : Q) → slice_get (queues_of then) cpu ≡ Some queue → slice_get (queues_of core) cpu ≡ Some queue
  at_before cpu queue at = ap (λ (ls : Bounded (Lane Q)). slice_get (map queue_of ls.items) cpu) (sym lanes) ∙ at

  holds_now : (queue : Q) (of : List Task → List Queued) → g.holds queue before.limit (of (map (replaced_by went) before.tasks)) → g.holds queue now.limit (of now.tasks)
  holds_now queue of held =
      subst (λ n. g.holds queue n (of now.tasks)) (sym limit) (subst (λ (ts : List Task). g.holds queue before.limit (of ts)) (sym tasks) held)

  here : (queue : Q) → slice_get (queues_of then) to ≡ Some queue → g.holds queue now.limit (others went.spec.pid (queued_at now.tasks to))
  here queue at =
      holds_now queue (λ (ts : List Task). others went.spec.pid (queued_at ts to))
      (here_but core before went may.task there leaves queue (λ same. may.elsewhere (same ∙ may.home)) (at_before to queue at))

  away_but : AreHeldAwayBut from went.spec.pid (then, now)
  away_but cpu queue at =
      holds_now queue (λ (ts : List Task). cond (cpu == from) [] (others went.spec.pid (queued_at ts cpu)))
      (subst (λ n. AreHeldAwayBut n went.spec.pid (core, with before went)) may.home (all_but core before went may.task there leaves) cpu queue (at_before cpu queue at))

  is_placed : IsPlaced pid from to then now went
  is_placed = record {
    found = subst (λ n. find (has_pid n) now.tasks ≡ Some went) pid_is there_now;
    there = there_now;
    own = own;
    queued = refl;
    home = refl;
    within = subst (λ (ls : Bounded (Lane Q)). to < length ls.items) (sym lanes) may.other;
    here_but = here;
    away_but = away_but;
  }

  -- the one that was found was placed
  found_placed : (found : Option (Bor Task)) (entered : Bor Task) → option_copied found ≡ find (has_pid pid) now.tasks → found ≡ Some entered → IsPlaced pid from to then now entered.now
  found_placed found entered told some = subst (IsPlaced pid from to then now) (is_it found entered went some (told ∙ is_placed.found)) is_placed

pub place-requires : goal.place-requires
place-requires g c =
    let may = c.requires in
    let fits = found_in (IsFit (length c.args.self.now.lanes.items)) c.args.pid c.args.table.now.tasks may.task may.agree.tasks may.there in
    record {
      cpu = omega (arith, fits.home, may.home);
      other = may.other;
      stamps = may.stamp;
      touches = may.touches;
    }

-- it was placed on the other sibling
placed : (g : Over) (c : After-place g) → MovesBy (Unit {0}) c.args.pid c.args.to (c.args.self.now, c.args.table.now) (c.place.new.self, c.place.new.table)
placed g c =
    let may = c.requires in
    lone_placed c.args.self.now c.args.table.now c.args.pid c.args.from c.args.to (record {
      task = may.task;
      there = may.there;
      queued = may.queued;
      home = may.home;
      other = may.other;
      elsewhere = may.elsewhere;
      agree = record { table = may.agree.table; few_tasks = may.agree.few_tasks; tasks = may.agree.tasks; stamped = may.agree.stamped; held = tt };
      vtime = may.vtime;
      leasts = may.leasts;
      stamp = may.stamp;
      touches = may.touches;
    }) c.place.new.self c.place.new.table c.place.ensures.placed

pub unwrap-entered-requires : goal.unwrap-entered-requires
unwrap-entered-requires g c =
    let moved = placed g (goal.at.unwrap-entered-requires g c).After-place in
    let is = moved.room c.requires.task c.requires.there some_beside in
    let there = is_placed c.args.self.now c.args.table.now c.args.pid c.args.from c.args.to c.requires c.place.new.self c.place.new.table is moved.kept c.place.ensures.placed.lanes in
    is_there c.find.result _ (c.find.ensures.task ∙ there.found)

-- ---- it enters the queue

-- the one that was found, once it was placed
one : (g : Over) (c : After-unwrap-entered g) → MovesBy (Unit {0}) c.args.pid c.args.to (c.args.self.now, c.args.table.now) (c.place.new.self, c.place.new.table) →
    IsPlaced c.args.pid c.args.from c.args.to c.place.new.self c.place.new.table c.unwrap-entered.result.now
one g c moved =
    found_placed c.args.self.now c.args.table.now c.args.pid c.args.from c.args.to c.requires c.place.new.self c.place.new.table
    (moved.room c.requires.task c.requires.there some_beside) moved.kept c.place.ensures.placed.lanes c.find.result c.unwrap-entered.result c.find.ensures.task c.unwrap-entered.ensures

pub put-requires : goal.put-requires
put-requires g c =
    let at = goal.at.put-requires g c in
    let moved = placed g at.After-place in
    let entered = one g at.After-unwrap-entered moved in
    let lane = c.index_mut.result.now in
    record {
      table = moved.agree.table;
      there = entered.there;
      queued = entered.queued;
      home = entered.home;
      stamp = entered.own;
      holds = entered.here_but lane.queue (queue_at c.place.new.self.lanes.items c.args.to lane entered.within c.index_mut.ensures.value);
    }

pub returns-clause-enters : goal.returns-clause-enters
returns-clause-enters g c =
    let at = goal.at.returns-clause-enters g c in
    let moved = placed g at.After-place in
    let entered = one g at.After-unwrap-entered moved in
    let apart = moved.agree in
    let then = c.place.new.self in
    let table = c.place.new.table in
    let to = c.args.to in
    let from = c.args.from in
    let task = c.unwrap-entered.result.now in
    let pid = task.spec.pid in
    let lane = c.index_mut.result.now in
    let lanes = then.lanes.items in
    let same = bare_home then to lane c.put.new.self c.index_mut.ensures.value in
    let many = length-set lanes to (record lane { queue = c.put.new.self }) in
    record {
      room = λ t found beside. (λ i. room_by beside (same i) table) ∙ moved.room t found beside;
      numbers = (λ i. numbers_by (same i) table) ∙ moved.numbers;
      kept = (λ i. let kept : Kept = record (kept_of (then, table)) { siblings = many i } in kept) ∙ moved.kept;
      agree = record {
        table = apart.table;
        few_tasks = apart.few_tasks;
        tasks = subst (λ n. All (IsFit n) table.tasks) (sym many) apart.tasks;
        stamped = apart.stamped;
        held = subst (λ home. (cpu : ℕ) (q : _) → slice_get (map queue_of (set lanes home (record lane { queue = c.put.new.self }))) cpu ≡ Some q → g.Q.SiblingQueue.holds q table.limit (cond (cpu == from) [] (queued_at table.tasks cpu)))
            entered.home
            (held_home then table task (λ cpu. cond (cpu == from) [] (others pid (queued_at table.tasks cpu))) (λ cpu. cond (cpu == from) [] (queued_at table.tasks cpu))
            (λ cpu off. ap (cond (cpu == from) []) (others-absent task.spec.pid cpu table.tasks task apart.table.rising entered.there off)) entered.away_but lane c.put.new.self
            (subst (λ n. g.Q.SiblingQueue.holds c.put.new.self table.limit (cond (n == from) [] (queued_at table.tasks n))) (sym entered.home)
            (subst (λ qs. g.Q.SiblingQueue.holds c.put.new.self table.limit qs) (sym (cond-false (to == from) [] (queued_at table.tasks to) (ne_eqb to from c.requires.elsewhere))) c.put.ensures.holds)));
      };
    }

pub returns-clause-counted : goal.returns-clause-counted
returns-clause-counted g c =
    let many = as_many_live (c.args.self.now, c.args.table.now) (c.place.new.self, c.place.new.table) (placed g (goal.at.returns-clause-counted g c).After-place).kept in
    let put : c.put.new.comparisons ≤ c.args.comparisons.now + 1 * g.Q.SiblingQueue.most_compared (length c.place.new.table.tasks) = omega (arith, c.put.ensures.counted, of_one g.Q.SiblingQueue.most_compared g.met.Q.SiblingQueue.rises c.place.new.table.tasks c.args.to) in
    subst (λ n. c.put.new.comparisons ≤ c.args.comparisons.now + 1 * g.Q.SiblingQueue.most_compared n) many put
