use Rattle.std.proofs.Common.{◌≡◌, ◌+◌}
use Rattle.trace_check.proofs.Followed.{IsSoFar}
use Rattle.trace_check.proofs.judging.make_all.Given as goal

abbrev pub invariant-loop-place : goal.invariant-loop-place
invariant-loop-place g l =
    record {
      opening : g.R.Room.opening l.room ≡ g.R.Room.opening l.fn.room;
      spare : g.R.Room.spare l.room + l.place ≡ g.R.Room.spare l.fn.room;
      so_far : IsSoFar (g.R.Room.opening l.fn.room) (g.R.Room.opening l.fn.room).scenario.steps l.places l.place (g.R.Room.history l.room) l.text l.rest;
    }
