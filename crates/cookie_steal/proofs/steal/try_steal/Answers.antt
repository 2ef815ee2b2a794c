use Rattle.std.proofs.Common.{ℕ, ap, ◌∙◌, sym, ◌≡◌, false, add-zero}
use Rattle.std.specs.Prelude.{Option, length, ◌==◌}
use Rattle.std.proofs.lemmas.Bool.{ne_eqb, cond-false}
use Rattle.cs_types.specs.declared.task.Task.{Task}
use Rattle.cs_types.specs.declared.reply.Reply.TheVariants.{Stole, Missed, Nothing}
use Rattle.cs_types.specs.Room.{RoomState, SiblingState, sibling_of}
use Rattle.cs_types.specs.Steal.{set_place, stolen}
use Rattle.cs_types.specs.Step.{Stepped, try_steal}
use Rattle.core_lanes.specs.Lanes.{room_of}
use Rattle.core_lanes.specs.Numbers.{Numbers, numbers_of}
use Rattle.core_lanes.proofs.Stays.{some_beside, lane_at}
use Rattle.cookie_steal.specs.Tries.{tried}
use Rattle.cookie_steal.proofs.Steals.{stolen_there}
use Rattle.cookie_steal.proofs.Counted.{search_and_steal, search_alone}
use Rattle.cookie_steal.proofs.steal.try_steal.Goals as goal

-- where the balance place is not 0, the sibling tries
it_tries : (room : RoomState) (cpu : ℕ) (state : SiblingState) → sibling_of room cpu ≡ state → (state.place ≡ 0 → ⊥) → try_steal room cpu (stolen room cpu) ≡ tried room cpu
it_tries room cpu state at some =
    let so : ((sibling_of room cpu).place == 0) ≡ false = ap (λ (s : SiblingState). s.place == 0) at ∙ ne_eqb state.place 0 some in
    sym (cond-false ((sibling_of room cpu).place == 0) (record { reply = Nothing; room = room }) (try_steal room cpu (stolen room cpu)) so)

pub stolen-requires : goal.stolen-requires
stolen-requires g c = record {
  at = c.requires.at;
  within = c.source_of-source.ensures.within;
  is = λ beside. c.source_of-source.ensures.source beside c.args.table.now;
}

pub steal-requires : goal.steal-requires
steal-requires g c = record {
  may = c.requires;
  source = record {
    at = c.requires.at;
    within = c.source_of-source.ensures.within;
    is = λ beside. c.source_of-source.ensures.source beside c.args.table.now;
  };
  there =
      stolen_there (room_of some_beside (c.args.core.now, c.args.table.now)) c.args.cpu c.in-Some.task c.requires.at.agree.table.rising (sym (c.in-Some.ensures.stolen some_beside));
}

pub next_place-place-requires-clause-places : goal.next_place-place-requires-clause-places
next_place-place-requires-clause-places g c = c.requires.places

pub returns-in-Some-clause-tries : goal.returns-in-Some-clause-tries
returns-in-Some-clause-tries g c =
    let at = lane_at c.args.core.now.lanes.items c.args.cpu c.index.result.now c.requires.at.cpu c.index.ensures in
    record {
      reply = λ beside.
          let room = room_of beside (c.args.core.now, c.args.table.now) in
          ap (Stole c.in-Some.task.spec.pid) (c.source_of-source.ensures.source beside c.args.table.now)
          ∙ ap (λ (found : Option Task). (try_steal room c.args.cpu found).reply) (c.in-Some.ensures.stolen beside)
          ∙ ap (λ (made : Stepped). made.reply) (it_tries room c.args.cpu _ at c.if-index-eq0.false);
      room = λ beside.
          let room = room_of beside (c.args.core.now, c.args.table.now) in
          c.steal.ensures.touches.room beside ∙ ap (λ (found : Option Task). (try_steal room c.args.cpu found).room) (c.in-Some.ensures.stolen beside)
          ∙ ap (λ (made : Stepped). made.room) (it_tries room c.args.cpu _ at c.if-index-eq0.false);
      numbers = c.steal.ensures.touches.numbers;
      unchanged = λ none. absurd cc;
      stays = c.steal.ensures.touches.stays;
    }

pub returns-in-None-clause-tries : goal.returns-in-None-clause-tries
returns-in-None-clause-tries g c =
    let at = lane_at c.args.core.now.lanes.items c.args.cpu c.index.result.now c.requires.at.cpu c.index.ensures in
    let place = c.set_place.ensures c.args.table.now in
    record {
      reply = λ beside.
          let room = room_of beside (c.args.core.now, c.args.table.now) in
          ap Missed (c.source_of-source.ensures.source beside c.args.table.now)
          ∙ ap (λ (found : Option Task). (try_steal room c.args.cpu found).reply) (c.in-None.ensures.stolen beside)
          ∙ ap (λ (made : Stepped). made.reply) (it_tries room c.args.cpu _ at c.if-index-eq0.false);
      room = λ beside.
          let room = room_of beside (c.args.core.now, c.args.table.now) in
          place.room beside ∙ ap (set_place room c.args.cpu) (c.next_place-place.ensures beside c.args.table.now)
          ∙ ap (λ (found : Option Task). (try_steal room c.args.cpu found).room) (c.in-None.ensures.stolen beside)
          ∙ ap (λ (made : Stepped). made.room) (it_tries room c.args.cpu _ at c.if-index-eq0.false);
      numbers =
          place.numbers
          ∙ ap (λ (n : ℕ). let numbers : Numbers = record (numbers_of (c.args.core.now, c.args.table.now)) { task = n } in numbers) (sym (add-zero c.args.core.now.task_number));
      unchanged = λ none. absurd cc;
      stays = place.stays;
    }

pub returns-in-Some-clause-counted : goal.returns-in-Some-clause-counted
returns-in-Some-clause-counted g c = search_and_steal _ _ _ (length c.args.table.now.tasks) _ c.in-Some.ensures.counted c.steal.ensures.counted

pub returns-in-None-clause-counted : goal.returns-in-None-clause-counted
returns-in-None-clause-counted g c = search_alone _ _ (length c.args.table.now.tasks) _ c.in-None.ensures.counted
