use Rattle.std.proofs.Common.{length, ap, subst, sym, ◌∙◌, arith, refl}
use Rattle.cs_types.specs.declared.scenario.Scenario.{Scenario}
use Rattle.cs_types.specs.Room.{RoomState}
use Rattle.core_events.specs.Inside.{IsFold}
use Rattle.core_events.proofs.room.CoreRoom.start.Goals as goal

pub invariant_of-result : goal.invariant_of-result
invariant_of-result g c =
    let entries = c.in_ok-entries.ensures in
    let state = c.in_ok-state.ensures in
    let most = c.most_entries-most.ensures in
    subst (λ (s : Scenario). IsFold (record {
      scenario = record { marker = c.of.result.marker; value = s };
      siblings = c.args.scenario.now.siblings;
      guards = c.len-count.result;
      state = c.in_ok-state.state;
      entries = c.in_ok-entries.entries;
    })) (sym c.of.ensures)
    (record {
      playable = c.requires.playable;
      events = rw entries.items (λ k d lt. absurd (omega arith));
      history = rw entries.items refl;
      fold = rw (entries.items, c.len-count.ensures.len) state.room;
      numbers = rw entries.items state.numbers;
      sound = state.sound;
      count = refl;
      siblings = state.siblings;
      slow = omega (arith, ap (λ (room : RoomState). room.clock) state.room);
      fits = omega (arith, ap length entries.items, entries.room);
      few_entries = omega (arith, entries.room, most);
      ends = state.ends ∙ most;
    })
