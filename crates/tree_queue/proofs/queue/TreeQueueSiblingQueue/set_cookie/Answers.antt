use Rattle.std.proofs.Common.{◌≡◌, ◌+◌, length, refl, ap, sym, ◌∙◌, arith}
use Rattle.std.specs.Option.{option_map}
use Rattle.std.proofs.lemmas.List.{length-map}
use Rattle.cs_types.specs.declared.queue.Queued.{Queued}
use Rattle.cs_types.specs.Queue.{queued_of}
use Rattle.core_lanes.specs.Queued.{queued_among, given_cookie}
use Rattle.tree_queue.specs.Held.{given_cookie as given_to}
use Rattle.tree_queue.specs.Kinds.{kind_of, lot_of}
use Rattle.tree_queue.proofs.Firsts.{first-split, first_apart, first_given}
use Rattle.tree_queue.proofs.Tasks.{ranked}
use Rattle.tree_queue.proofs.Parts.{parted, parted_now, at_seat, at_spot, one_cookie}
use Rattle.tree_queue.proofs.Splits.{few_queued}
use Rattle.tree_queue.proofs.Counts.{counted-stay, counted-put, counted-take, few-put, some-take}
use Rattle.tree_queue.proofs.Held.{Holds-put, Holds-without, seats_stay}
use Rattle.tree_queue.proofs.Compared.{few_of_all}
use Rattle.tree_queue.proofs.queue.TreeQueueSiblingQueue.set_cookie.Goals as goal

pub set_cookie-requires : goal.set_cookie-requires
set_cookie-requires g c =
    let same = c.queued_of.ensures in
    record { ranked = ranked c.args.task.now same; there = at_seat c.requires same; same = at_spot c.requires same; cookie = one_cookie c.requires same }

pub overflow_sub-self : goal.overflow_sub-self
overflow_sub-self g c = some-take lot_of (parted c.requires).split c.lot_of.ensures.lot c.lot_of.ensures.few c.requires.holds.by_lot

pub overflow_add-self : goal.overflow_add-self
overflow_add-self g c =
    let task = c.args.task.now in
    let tasks = c.args._table.now.tasks in
    let after = given_cookie task c.args.cookie tasks in
    let few = few-put lot_of (parted_now c.requires c.args.cookie task.vtime).split c.lot_of-2.ensures.lot c.lot_of-2.ensures.few
    (counted-take lot_of (parted c.requires).split c.lot_of.ensures.lot c.lot_of.ensures.few c.requires.holds.by_lot) in
    let many : length after ≡ length tasks = length-map tasks _ in
    omega (arith, few, few_queued after c.args._cpu, many, c.requires.table.few, c.requires.table.limit)

pub returns : goal.returns
returns g c = record {
  holds =
      let task = c.args.task.now in
      let cookie = c.args.cookie in
      let before = parted c.requires in
      let now = parted_now c.requires cookie task.vtime in
      let holds = c.requires.holds in
      let same = c.queued_of.ensures in
      record {
        trees = Holds-put now (ap (λ (queued : Queued). record queued { cookie = cookie }) same) (Holds-without before same holds.trees)
            (c.set_cookie.ensures.tasks ∙ seats_stay before same holds.trees) c.set_cookie.ensures.cookies (ap (λ n. n + 1) c.set_cookie.ensures.spare);
        first_is = c.give_cookie.ensures
            ∙ ap (option_map (given_to task.spec.pid cookie)) (holds.first_is ∙ first-split before)
            ∙ first_given (queued_of task) cookie _ (first_apart (queued_of task) _ before.apart)
            ∙ sym (first-split now);
        by_kind = counted-stay kind_of before.split now.split refl holds.by_kind;
        by_lot = counted-put lot_of now.split c.lot_of-2.ensures.lot c.lot_of-2.ensures.few (counted-take lot_of before.split c.lot_of.ensures.lot c.lot_of.ensures.few holds.by_lot);
      };
  counted = omega (arith, c.set_cookie.ensures.counted, few_of_all (queued_among c.args._table.now.tasks c.args._cpu) c.requires.holds.trees);
}
