use Rattle.std.proofs.Common.{◌∙◌, ap, sym, set, map, refl, add-zero}
use Rattle.std.proofs.lemmas.List.{map-set}
use Rattle.cs_types.specs.declared.reply.Kind.TheVariants.{Adopted}
use Rattle.cs_types.specs.declared.reply.Pick.{Pick}
use Rattle.cs_types.specs.Room.{SiblingState}
use Rattle.cs_types.specs.Selection.{running}
use Rattle.core_lanes.specs.Lanes.{at, lane_state, room_of}
use Rattle.core_lanes.specs.Numbers.{numbers_of}
use Rattle.core_lanes.proofs.Stays.{lane_at, queues_kept, alike_stays, number_of, queue_of}
use Rattle.core_pick.proofs.pick.adopt.Goals as goal

pub returns : goal.returns
returns g c now table =
    let old = c.args.core.now in
    let cpu = c.args.cpu in
    let lanes = old.lanes.items in
    let lane = c.index_mut-lane.result.now in
    let after = record c.run.new.lane { number = old.pick_number } in
    let is = c.index_mut-lane.ensures.value in
    let was = sym (lane_at lanes cpu lane c.requires is) in
    let siblings = map-set lane_state lanes cpu after
    ∙ ap (set (map lane_state lanes) cpu) (ap lane_state c.run.ensures ∙ ap (λ (s : SiblingState). running s c.args.waiting) was) in
    record {
      pick = λ beside. λ i.
          let pick : Pick = record { kind = Adopted; run = c.unwrap_or.ensures i; core = old.cookie; forced = c.count.ensures.count i } in pick;
      room = λ beside. λ i. record (room_of (at now beside) (old, table)) { siblings = siblings i };
      numbers = λ i. record (numbers_of (old, table)) { task = sym (add-zero old.task_number) i; own = map-set number_of lanes cpu after i };
      stays = alike_stays _ _ (queues_kept lanes cpu lane after is (ap queue_of c.run.ensures)) refl refl;
    }
