use Rattle.std.proofs.Common.{◌≡◌, ℕ, ◌+◌, ◌*◌, ◌≤◌, ◌++◌, map, take, drop}
use Rattle.std.specs.Prelude.{count_by}
use Rattle.std.specs.List.{range_with_len, enumerate_from}
use Rattle.cs_types.specs.Selection.{choice}
use Rattle.core_lanes.specs.Lanes.{Beside, room_of, AreNoLonger}
use Rattle.core_pick.specs.declared.choice.Choice.{Choice}
use Rattle.core_pick.specs.Choice.{choice_of, gets_none, gets_task}
use Rattle.core_pick.proofs.selection.choose.Given as goal

abbrev pub invariant-loop-cpu : goal.invariant-loop-cpu
invariant-loop-cpu g l = record {
  made : (beside : Beside) → let room = room_of beside (l.core, l.table) in
      l.choices ≡ map (λ (numbered : ℕ × Choice). choice_of (choice room l.cookie numbered.0)) (enumerate_from 0 (take l.cpu l.initial.choices)) ++ drop l.cpu l.initial.choices;
  forced : (beside : Beside) → l.counts.forced ≡ count_by (gets_none (room_of beside (l.core, l.table)) l.cookie) (range_with_len 0 l.cpu);
  occupation : (beside : Beside) → l.counts.occupation ≡ count_by (gets_task (room_of beside (l.core, l.table)) l.cookie) (range_with_len 0 l.cpu);
  asked : (longest : ℕ) → AreNoLonger longest (l.core, l.table) → l.comparisons ≤ l.fn.comparisons + l.cpu * g.Q.SiblingQueue.most_compared longest;
}
