use Rattle.std.proofs.Common.{◌≡◌, ◌∙◌, ap, sym, map, set, true, false, refl}
use Rattle.std.proofs.lemmas.List.{map-set}
use Rattle.cs_types.specs.Room.{RoomState, sibling_of}
use Rattle.cs_types.specs.Hotplug.{back}
use Rattle.cs_types.specs.Step.{Stepped}
use Rattle.core_lanes.specs.Lanes.{lane_state, room_of}
use Rattle.core_lanes.specs.Numbers.{Numbers, numbers_of}
use Rattle.core_lanes.proofs.Stays.{lane_at, numbers_kept, queues_kept, alike_stays, same_stays}
use Rattle.cpu_hotplug.proofs.Steps.{online_step}
use Rattle.cpu_hotplug.proofs.hotplug.online.Goals as goal

pub returns-then-is_online : goal.returns-then-is_online
returns-then-is_online g c table = record {
  reply = λ beside.
      ap (λ (made : Stepped). made.reply)
      (sym (online_step (room_of beside (c.args.core.now, table)) c.args.cpu true (sym (c.is_online.ensures beside table) ∙ c.if-is_online.true)));
  room = λ beside.
      ap (λ (made : Stepped). made.room)
      (sym (online_step (room_of beside (c.args.core.now, table)) c.args.cpu true (sym (c.is_online.ensures beside table) ∙ c.if-is_online.true)));
  numbers = refl;
  unchanged = λ not_done. refl;
  stays = same_stays;
}

pub returns : goal.returns
returns g c table =
    let core = c.args.core.now in
    let lanes = core.lanes.items in
    let lane = c.index_mut.result.now in
    let after = c.back.new.lane in
    let at = lane_at lanes c.args.cpu lane c.requires.cpu c.index_mut.ensures.value in
    record {
      reply = λ beside.
          ap (λ (made : Stepped). made.reply)
          (sym (online_step (room_of beside (core, table)) c.args.cpu false (sym (c.is_online.ensures beside table) ∙ c.if-is_online.false)));
      room = λ beside.
          let room = room_of beside (core, table) in
          let is : lane_state after ≡ back (sibling_of room c.args.cpu) = c.back.ensures.state ∙ ap back (sym at) in
          let states : map lane_state (set lanes c.args.cpu after) ≡ set room.siblings c.args.cpu (back (sibling_of room c.args.cpu)) =
          map-set lane_state lanes c.args.cpu after ∙ ap (set room.siblings c.args.cpu) is in
          (λ i. let next : RoomState = record room { siblings = states i } in next)
          ∙ ap (λ (made : Stepped). made.room) (sym (online_step room c.args.cpu false (sym (c.is_online.ensures beside table) ∙ c.if-is_online.false)));
      numbers =
          let own = numbers_kept lanes c.args.cpu lane after c.index_mut.ensures.value c.back.ensures.number in
          λ i. let next : Numbers = record (numbers_of (core, table)) { own = own i } in next;
      unchanged = λ not_done. absurd (not_done refl);
      stays = alike_stays _ _ (queues_kept lanes c.args.cpu lane after c.index_mut.ensures.value c.back.ensures.queue) refl refl;
    }
