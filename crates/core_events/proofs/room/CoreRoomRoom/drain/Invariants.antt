use Rattle.std.proofs.Common.{◌≡◌, ◌+◌, ◌-◌, length}
use Rattle.cs_types.specs.History.{history_of}
use Rattle.core_events.proofs.Ends.{IsAhead}
use Rattle.core_events.proofs.room.CoreRoomRoom.drain.Given as goal

abbrev pub invariant-loop-entries : goal.invariant-loop-entries
invariant-loop-entries g l =
    let past = history_of l.fn.self.opening l.fn.self.steps in
    let now = history_of l.fn.self.opening l.self.steps in
    record {
      opening : l.self.opening ≡ l.fn.self.opening;
      spare : l.self.spare + l.entries ≡ l.fn.self.spare;
      made : length now ≡ length past + l.entries;
      ahead : IsAhead l.fn.self.opening past now (l.most - l.entries);
    }
