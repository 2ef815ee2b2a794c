use Rattle.core_events.proofs.room.CoreRoomRoom.apply.Given as goal

abbrev pub ghosts-counted : goal.ghosts-counted
ghosts-counted g a = record { name = a.blank.name; parts = a.blank.parts }
