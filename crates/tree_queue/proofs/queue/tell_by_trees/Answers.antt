use Rattle.std.proofs.Common.{◌≡◌, ℕ, List, [], ◌++◌, map, length, ap, subst, arith}
use Rattle.std.specs.FinMap.{entries, len-entries}
use Rattle.std.specs.List.Sorted.{IsPermutation}
use Rattle.std.proofs.lemmas.List.{length-map}
use Rattle.std.proofs.lemmas.List.Sorted.{length_permutation}
use Rattle.core_lanes.specs.Queued.{AreTold}
use Rattle.core_lanes.proofs.Movers.{told_alike}
use Rattle.run_queue.specs.Classes.{stamped}
use Rattle.tree_queue.proofs.queue.tell_by_trees.Goals as goal

-- what the trees tell, in a list that had none
from_none : (old all tasks : List (ℕ × ℕ)) → old ≡ [] → IsPermutation (old ++ all) tasks → IsPermutation all tasks
from_none old all tasks none same = subst (λ (old : List (ℕ × ℕ)). IsPermutation (old ++ all) tasks) none same

pub tell_by_stamp-requires : goal.tell_by_stamp-requires
tell_by_stamp-requires c =
    let all = entries c.args.run.now.tasks in
    let tasks = c.tell_into.new.movers.tasks.items in
    let same = from_none c.empty-told.result.tasks.items (map stamped all) tasks c.empty-told.ensures c.tell_into.ensures.told in
    omega (
      arith,
      c.requires.each,
      len-entries c.args.run.now.tasks,
      length-map all stamped,
      length_permutation (map stamped all) tasks same,
      ap length c.as_mut_slice.ensures.value,
    )

pub returns : goal.returns
returns c =
    let all = map stamped (entries c.args.run.now.tasks) in
    let tasks = c.tell_into.new.movers.tasks.items in
    let same = from_none c.empty-told.result.tasks.items all tasks c.empty-told.ensures c.tell_into.ensures.told in
    let told = subst (λ (tasks : List (ℕ × ℕ)). AreTold tasks c.tell_by_stamp.new.movers) c.as_mut_slice.ensures.value c.tell_by_stamp.ensures.told in
    record { told = told_alike all tasks c.tell_by_stamp.new.movers same told }
