use Rattle.std.proofs.Common.{ℕ, map, ◌+◌, ◌≡◌, ◌++◌, ◌∷◌, [], List, ap, ◌∙◌, refl, sym, subst, false}
use Rattle.std.specs.Prelude.{All, Some, find, not, IsSomeAnd, ◌==◌, ◌&&◌, cond, Result, Ok, Err, IsOk, OnOk}
use Rattle.std.proofs.lemmas.Bool.{cond-false}
use Rattle.std.proofs.lemmas.List.Elements.{All-filter}
use Rattle.cs_types.specs.declared.task.Task.{Task}
use Rattle.cs_types.specs.Room.{RoomState, has_pid}
use Rattle.cs_types.specs.Queueing.{dequeue}
use Rattle.cs_types.specs.Step.{has_threads}
use Rattle.task_table.specs.Table.{Table, IsSound as IsTable, total_among, total_in}
use Rattle.core_lanes.specs.declared.queue.SiblingQueue.{Ghosts}
use Rattle.core_lanes.specs.declared.lanes.Core.{Core}
use Rattle.core_lanes.specs.Queued.{IsOf}
use Rattle.core_lanes.specs.Lanes.{bare, room_by, room_of, Agree}
use Rattle.core_lanes.specs.Changes.{Becomes}
use Rattle.core_lanes.proofs.Stays.{some_beside, found_in}
use Rattle.fork_inherit.specs.declared.ending.HasThreads.{HasThreads}
use Rattle.fork_inherit.specs.Answers.{end_answer}
use Rattle.core_tasks.specs.State.{both, beside_of, room_with, IsGiven, state_numbers, IsGone}
use Rattle.core_tasks.proofs.States.{lifted, both_stay}
use Rattle.core_tasks.proofs.Lives.{any-changed, agree-but, gone-push, total-moved}
use Rattle.core_lanes.specs.Numbers.{with_ended}
use Rattle.std.proofs.lemmas.List.{map_push}
use Rattle.core_lanes.proofs.Queues.{but, but-changed}
use Rattle.core_lanes.proofs.Replaced.{is_of as is_of_after}
use Rattle.core_tasks.proofs.state.State.end.Goals as goal

module _ {Q : Type 0} {g : Ghosts Q} (old new : Core Q g × Table) (task : Task) (becomes : Becomes old new (λ room. dequeue room task)) where
  -- a dequeued task is found among the tasks
  found : IsOf old.1.tasks task → find (has_pid task.spec.pid) new.1.tasks ≡ Some (record task { queued = false })
  found there =
      ap (λ (room : RoomState). find (has_pid task.spec.pid) room.tasks) (becomes some_beside)
      ∙ is_of_after (record task { queued = false }) task old.1.tasks there

  -- and leads nobody where it led nobody
  alone : has_threads (room_of some_beside old) task ≡ false → has_threads (room_of some_beside new) (record task { queued = false }) ≡ false
  alone nobody =
      ap (λ (room : RoomState). has_threads room (record task { queued = false })) (becomes some_beside)
      ∙ ap (λ b. (task.spec.tgid == task.spec.pid) && b) (any-changed (record task { queued = false }) (λ other. other.spec.tgid == task.spec.pid) old.1.tasks)
      ∙ nobody

  -- so its end answers it, with what it was charged
  ends : (result : Result (Task × ℕ) HasThreads) → IsOf old.1.tasks task → has_threads (room_of some_beside old) task ≡ false →
      ((room : RoomState) (one : Task) → room.tasks ≡ new.1.tasks → find (has_pid task.spec.pid) new.1.tasks ≡ Some one → result ≡ end_answer room one (total_in new.1 task.spec.pid)) →
      result ≡ Ok (record task { queued = false }, total_in new.1 task.spec.pid)
  ends result there nobody answer =
      answer (room_of some_beside new) (record task { queued = false }) refl (found there)
      ∙ cond-false (has_threads (room_of some_beside new) (record task { queued = false })) (Err (record {})) (Ok (record task { queued = false }, total_in new.1 task.spec.pid)) (alone nobody)

pub put_to_sleep-requires : goal.put_to_sleep-requires
put_to_sleep-requires g c = record { agree = c.requires.sound.agree; task = c.args.task; there = c.requires.there; touches = c.requires.touches }

pub end-requires-clause-asleep : goal.end-requires-clause-asleep
end-requires-clause-asleep g c =
    subst (λ one. IsSomeAnd one (λ (task : Task). task.queued ≡ false))
    (sym (found (both c.args.self.now) (c.put_to_sleep.new.self, c.put_to_sleep.new.table) c.args.task (c.put_to_sleep.ensures.touches c.args.task c.requires.there).room c.requires.there)) refl

pub end-requires-clause-agree : goal.end-requires-clause-agree
end-requires-clause-agree g c =
    ((lifted c.args.self.now (c.put_to_sleep.new.self, c.put_to_sleep.new.table) (c.put_to_sleep.ensures.touches c.args.task c.requires.there).stays).sound c.requires.sound).refs

pub unwrap-forced-requires : goal.unwrap-forced-requires
unwrap-forced-requires g c =
    subst IsOk
    (sym (ends (both c.args.self.now) (c.put_to_sleep.new.self, c.put_to_sleep.new.table) c.args.task (c.put_to_sleep.ensures.touches c.args.task c.requires.there).room c.end.result
    c.requires.there (c.requires.alone []) c.end.ensures.answer)) refl

pub returns-clause-touches : goal.returns-clause-touches
returns-clause-touches g c =
    let old = c.args.self.now in
    let mid = c.put_to_sleep.new.self in
    let table = c.put_to_sleep.new.table in
    let task = c.args.task in
    let pid = task.spec.pid in
    let asleep : Task = record task { queued = false } in
    let gone = λ (other : Task). not (has_pid pid other) in
    let less : Table = record table { tasks = but pid table.tasks; totals = c.end.new.table.totals } in
    let there = found (both old) (mid, table) task (c.put_to_sleep.ensures.touches c.args.task c.requires.there).room c.requires.there in
    let is = ends (both old) (mid, table) task (c.put_to_sleep.ensures.touches c.args.task c.requires.there).room c.end.result c.requires.there (c.requires.alone []) c.end.ensures.answer in
    let ended : c.end.new.table ≡ less = subst (λ result. OnOk result (c.end.new.table ≡ less)) is c.end.ensures.ended in
    let totals : (other : ℕ) → total_in c.end.new.table other ≡ cond (other == pid) 0 (total_in table other) =
    subst (λ result. OnOk result ((other : ℕ) → total_in c.end.new.table other ≡ cond (other == pid) 0 (total_in table other))) is c.end.ensures.totals in
    let given : Ok c.unwrap-forced.result ≡ Ok (asleep, total_in table pid) = sym c.unwrap-forced.ensures ∙ is in
    let forced : c.unwrap-forced.result.1 ≡ total_in table pid = cc in
    let moved : (other : ℕ) → total_in c.end.new.table other + total_among c.push.new.self.items other ≡ total_in table other + total_among old.ended.items other =
    λ other. ap (λ (items : List (ℕ × ℕ)). total_in c.end.new.table other + total_among items other) c.push.ensures.items
    ∙ total-moved (total_in table) (total_in c.end.new.table) pid c.unwrap-forced.result.1 old.ended.items totals forced other in
    record {
      room = λ intervals.
          let beside = beside_of intervals old in
          (λ i. room_by (record beside { cookie_limit = c.end.ensures.limit i; ended = c.push.ensures.items i; next_cookie = c.end.ensures.next i }) (bare mid) (ended i))
          ∙ (λ i. let left : RoomState = record ((c.put_to_sleep.ensures.touches c.args.task c.requires.there).room beside i) { tasks = but pid ((c.put_to_sleep.ensures.touches c.args.task c.requires.there).room beside i).tasks; ended = map_push (λ (one : ℕ × ℕ). one.0) old.ended.items (pid, c.unwrap-forced.result.1) i } in left)
          ∙ ap (λ (tasks : List Task). let left : RoomState = record (room_with intervals old) { tasks = tasks; ended = map (λ one. one.0) old.ended.items ++ pid ∷ [] } in left) (but-changed asleep old.tasks.tasks);
      numbers =
          (λ i. record (state_numbers old) { task = mid.task_number; pick = mid.pick_number; own = (bare mid).own; intervals = mid.account.intervals; totals = λ other. moved other i })
          ∙ ap (with_ended old.ended.items) (c.put_to_sleep.ensures.touches c.args.task c.requires.there).numbers;
      stays = both_stay (lifted old (mid, table) (c.put_to_sleep.ensures.touches c.args.task c.requires.there).stays) (record {
        sound = λ sound. record {
          agree = subst (λ (t : Table). Agree (mid, t)) (sym ended) (agree-but mid table asleep c.end.new.table.totals there refl (subst IsTable ended c.end.ensures.sound) sound.agree);
          limit = ap (λ (t : Table). t.limit) ended ∙ sound.limit;
          user_top = sound.user_top;
          pids = subst (λ (t : Table). All (λ (task : Task). IsGiven old.next_pid task.spec.pid) t.tasks) (sym ended)
              (All-filter gone (λ (task : Task). IsGiven old.next_pid task.spec.pid) table.tasks sound.pids);
          ended = subst (λ items. All (IsGone old.next_pid c.end.new.table.tasks items) items) (sym c.push.ensures.items)
              (subst (λ (t : Table). All (IsGone old.next_pid t.tasks (old.ended.items ++ (pid, c.unwrap-forced.result.1) ∷ [])) (old.ended.items ++ (pid, c.unwrap-forced.result.1) ∷ [])) (sym ended)
              (gone-push old.next_pid pid c.unwrap-forced.result.1 table.tasks asleep old.ended.items there (found_in (λ (task : Task). IsGiven old.next_pid task.spec.pid) pid table.tasks asleep sound.pids there).1 sound.ended));
          refs = c.end.ensures.agree;
        };
        siblings = refl;
        ends = c.push.ensures.room;
      });
    }
