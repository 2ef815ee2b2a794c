use Rattle.std.proofs.Common.{◌≡◌, ℕ, ◌+◌, ◌-◌, ◌≤◌, List, Option, map, length, refl, sym, ap, ◌∙◌, subst, arith}
use Rattle.std.specs.Prelude.{◌==◌, Contains}
use Rattle.std.proofs.lemmas.Bool.{cond-false}
use Rattle.std.proofs.ByRecursion.{All-weaker}
use Rattle.std.specs.List.{AllByRecursion}
use Rattle.std.specs.FinMap.{entries, entries_sorted, is_sorted, same_entries_map}
use Rattle.std.proofs.lemmas.List.{length-map}
use Rattle.std.proofs.lemmas.List.Elements.{recursion_from_All, All-contains_itself}
use Rattle.cs_types.specs.declared.queue.Queued.{Queued}
use Rattle.cs_types.specs.Comparisons.{most_comparisons}
use Rattle.cs_types.specs.Order.{fair_class}
use Rattle.cs_types.specs.Queue.{Key, RunQueued, Seats, Spots, seat_cmp, spot_cmp, queued_of}
use Rattle.task_table.specs.Table.{Table}
use Rattle.cookie_queue.specs.Anew.{respotted}
use Rattle.run_queue.specs.Anew.{reseated}
use Rattle.run_queue.specs.Run.{IsTied}
use Rattle.order_tree.proofs.Entries.{true_by}
use Rattle.core_lanes.specs.Queued.{queued_among, queued_at}
use Rattle.core_lanes.specs.Moved.{MayRenew, again}
use Rattle.cookie_queue.specs.Spotted.{spotted}
use Rattle.tree_queue.specs.Held.{AreDistinct, Keeps, Holds, seated}
use Rattle.tree_queue.specs.Kinds.{kind_of, lot_of, AreCounted}
use Rattle.tree_queue.specs.Renewed.{key_in}
use Rattle.tree_queue.proofs.Firsts.{each_queued}
use Rattle.tree_queue.proofs.Moved.{distinct_again, seated_again, spotted_again, counted_again, same_kind, tied_held, Becomes, told_at}
use Rattle.cs_types.proofs.Filtered.{each_of_map}
use Rattle.tree_queue.proofs.Compared.{many_seats, many_queued}
use Rattle.tree_queue.proofs.queue.TreeQueueSiblingQueue.renew.Goals as goal

module _ {run : RunQueued} {first : Option Queued} {kinds lots : List ℕ} {limit cpu : ℕ} {table : Table} (may : MayRenew (Keeps run first kinds lots limit) cpu table) where
  abbrev was : List Queued
  was = may.moved.was

  abbrev new : Queued → Queued
  new = again may.moved.from may.moved.to may.moved.next was

  abbrev at : ℕ → Key → Key
  at = key_in table.tasks

  trees : Holds run limit was
  trees = may.moved.holds.trees

  here : AllByRecursion (λ (task : Queued). Contains was task × (task.class ≡ fair_class → may.moved.from ≤ task.rank)) was
  here = recursion_from_All _ was (λ k d below. (All-contains_itself was k d below, may.moved.ahead k d below))

  told : AllByRecursion (λ (q : Queued). at q.pid (q.rank, q.stamp) ≡ ((new q).rank, (new q).stamp)) was
  told =
      All-weaker (λ (q : Queued). Becomes at (new q)) _
      (λ q is. is q.rank q.stamp (λ other. sym (cond-false (q.class == fair_class) (may.moved.to + (q.rank - may.moved.from)) q.rank other))) was
      (each_of_map (Becomes at) new was (subst (AllByRecursion (Becomes at)) may.moved.are (told_at table.tasks cpu may.table.rising)))

  distinct : AreDistinct (map new was)
  distinct = distinct_again may.moved.from may.moved.to may.moved.next was was here trees.distinct

  seats : map (reseated at) (entries run.tasks) ≡ entries (seated (map new was))
  seats = ap (λ (m : Seats). map (reseated at) (entries m)) trees.seats ∙ sym (seated_again may.moved.from may.moved.to may.moved.next was at was here trees.distinct told)

  spots : map (respotted at) (entries run.cookies) ≡ entries (spotted (map new was))
  spots = ap (λ (m : Spots). map (respotted at) (entries m)) trees.spots ∙ sym (spotted_again may.moved.from may.moved.to may.moved.next was at was here trees.distinct told)

  seats_are : (tasks : Seats) → entries tasks ≡ map (reseated at) (entries run.tasks) → tasks ≡ seated (map new was)
  seats_are tasks is = same_entries_map tasks (seated (map new was)) (is ∙ seats)

  spots_are : (cookies : Spots) → entries cookies ≡ map (respotted at) (entries run.cookies) → cookies ≡ spotted (map new was)
  spots_are cookies is = same_entries_map cookies (spotted (map new was)) (is ∙ spots)

  many : length (queued_at table.tasks cpu) ≡ length was
  many = ap length may.moved.are ∙ length-map was new

  held : (after : RunQueued) → entries after.tasks ≡ map (reseated at) (entries run.tasks) → entries after.cookies ≡ map (respotted at) (entries run.cookies) → after.spare ≡ run.spare →
      Holds after limit (queued_at table.tasks cpu)
  held after seated_is spotted_is spare = record {
    seats = seats_are after.tasks seated_is ∙ ap seated (sym may.moved.are);
    spots = spots_are after.cookies spotted_is ∙ ap spotted (sym may.moved.are);
    distinct = subst AreDistinct (sym may.moved.are) distinct;
    room = omega (arith, trees.room, spare, many);
  }

pub renew-requires : goal.renew-requires
renew-requires g c = record {
  rising = ap (is_sorted seat_cmp) (seats c.requires) ∙ true_by _ (entries_sorted (seated (map (new c.requires) (was c.requires))));
  rising_with_cookies = ap (is_sorted spot_cmp) (spots c.requires) ∙ true_by _ (entries_sorted (spotted (map (new c.requires) (was c.requires))));
  tied = λ tasks cookies seated_is spotted_is.
      subst (λ (trees : Seats × Spots). IsTied trees.0 trees.1) (λ i. (sym (seats_are c.requires tasks seated_is) i, sym (spots_are c.requires cookies spotted_is) i))
      (tied_held _ (distinct c.requires));
}

pub returns : goal.returns
returns g c =
    let moved = c.requires.moved in
    let queued = queued_among c.args.table.now.tasks c.args._cpu in
    let holds = held c.requires c.renew.new.self c.renew.ensures.tasks c.renew.ensures.cookies c.renew.ensures.spare in
    let seats = ap most_comparisons (many_seats (trees c.requires) ∙ sym (many c.requires) ∙ length-map queued queued_of) in
    record {
      holds = record {
        trees = holds;
        first_is = c.find_first-self.ensures.first (queued_at c.args.table.now.tasks c.args._cpu) holds.seats (each_queued c.args.table.now.tasks c.args._cpu c.requires.table.rising);
        by_kind = subst (AreCounted kind_of 104 _) (sym moved.are) (counted_again moved.from moved.to moved.next moved.was kind_of (same_kind moved.from moved.to moved.next moved.was) moved.was moved.holds.by_kind);
        by_lot = subst (AreCounted lot_of 256 _) (sym moved.are) (counted_again moved.from moved.to moved.next moved.was lot_of (λ task. refl) moved.was moved.holds.by_lot);
      };
      counted = omega (arith, c.renew.ensures.counted, c.find_first-self.ensures.counted, seats, ap most_comparisons (many_queued queued holds));
    }
