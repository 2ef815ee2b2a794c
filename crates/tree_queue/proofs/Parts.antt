-- Parts: a task of a sibling's queue, and the others there.
use Rattle.std.proofs.Common.{◌≡◌, ◌≢◌, ℕ, not, map, List, Option, sym, ap, ◌∙◌, subst}
use Rattle.std.specs.Prelude.{IfSome, IsTrue}
use Rattle.std.specs.FinMap as fin
use Rattle.std.proofs.lemmas.Bool.{ne_eqb}
use Rattle.cs_types.specs.declared.queue.Queued.{Queued}
use Rattle.cs_types.specs.declared.task.Task.{Task}
use Rattle.cs_types.specs.Queue.{RunQueued, Spots, seat_of, spot_of, queued_of}
use Rattle.cs_laws.proofs.Spots.{replaced_by}
use Rattle.core_lanes.specs.Queued.{queued_at, others, IsQueuedOn, MayBePut}
use Rattle.core_lanes.proofs.Queues.{others-replaced}
use Rattle.core_lanes.proofs.Replaced.{is_of, rises-replaced}
use Rattle.task_table.specs.Table.{Table}
use Rattle.tree_queue.specs.Held.{Keeps}
use Rattle.tree_queue.proofs.Splits.{IsSplit, IsParted, split_at, others_apart, parted_by}
use Rattle.tree_queue.proofs.Held.{own_seat, own_spot, own_entry, own_cookie}

-- the others
abbrev rest_at : Table → ℕ → Task → List Queued
rest_at table cpu task = others task.spec.pid (queued_at table.tasks cpu)

module _ {run : RunQueued} {first : Option Queued} {kinds lots : List ℕ} {cpu : ℕ} {table : Table} {task : Task} where
  -- one that is put in
  pub parted_put : MayBePut (Keeps run first kinds lots) cpu table task → IsParted (queued_of task) (queued_at table.tasks cpu) (rest_at table cpu task)
  parted_put asks = record {
    split = split_at table.tasks task cpu asks.table.rising asks.there asks.queued asks.home;
    apart = others_apart table.tasks task cpu asks.table.rising asks.stamp;
  }

  -- one that is there
  module _ (asks : IsQueuedOn (Keeps run first kinds lots) cpu table task) where
    pub parted : IsParted (queued_of task) (queued_at table.tasks cpu) (rest_at table cpu task)
    parted = parted_by (split_at table.tasks task cpu asks.table.rising asks.there asks.queued asks.home) asks.holds.trees.distinct

    -- the same once it has another cookie, or another virtual time
    pub parted_now : (cookie vtime : ℕ) →
        let now : Task = record task { cookie = cookie; vtime = vtime } in IsParted (queued_of now) (queued_at (map (replaced_by now) table.tasks) cpu) (rest_at table cpu task)
    parted_now cookie vtime =
        let now : Task = record task { cookie = cookie; vtime = vtime } in
        let tasks = map (replaced_by now) table.tasks in
        record {
          split = subst (IsSplit (queued_of now) (queued_at tasks cpu)) (others-replaced now table.tasks cpu)
              (split_at tasks now cpu (rises-replaced now table.tasks asks.table.rising) (is_of now task table.tasks asks.there) asks.queued asks.home);
          apart = parted.apart;
        }

    -- what the trees have of it
    module _ {queued : Queued} (same : queued ≡ queued_of task) where
      pub at_seat : IsTrue (fin.contains_key run.tasks (seat_of queued))
      at_seat = (λ i. fin.contains_key (asks.holds.trees.seats i) (seat_of (same i))) ∙ own_seat parted

      pub at_spot : IfSome (fin.get run.cookies (spot_of queued)) (λ pid. pid ≡ queued.pid)
      at_spot =
          subst (λ (at : Spots × Queued). IfSome (fin.get at.0 (spot_of at.1)) (λ pid. pid ≡ at.1.pid)) (λ i. (sym asks.holds.trees.spots i, sym same i)) (own_spot parted)

      pub has_spot : queued.cookie ≢ 0 → IsTrue (fin.contains_key run.cookies (spot_of queued))
      has_spot =
          subst (λ (at : Spots × Queued). at.1.cookie ≢ 0 → IsTrue (fin.contains_key at.0 (spot_of at.1))) (λ i. (sym asks.holds.trees.spots i, sym same i))
          (λ some. own_entry parted (ap not (ne_eqb task.cookie 0 some)))

      pub one_cookie : (cookie : ℕ) → IsTrue (fin.contains_key run.cookies (cookie, seat_of queued)) → cookie ≡ queued.cookie
      one_cookie =
          subst (λ (at : Spots × Queued). (cookie : ℕ) → IsTrue (fin.contains_key at.0 (cookie, seat_of at.1)) → cookie ≡ at.1.cookie)
          (λ i. (sym asks.holds.trees.spots i, sym same i)) (own_cookie parted)
