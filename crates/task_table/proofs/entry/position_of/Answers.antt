use Rattle.std.proofs.Common.{rules}
use Rattle.std.proofs.lemmas.List.Sorted.{answers_always}
use Rattle.task_table.proofs.Rising.{searched}
use Rattle.task_table.proofs.entry.position_of.Goals as goal

-- the closure gives an entry's pid
pub returns : goal.returns
returns c = λ tasks index rises.
    let facts = c.binary_search_by_key.ensures in
    let by_key = facts.position (λ entry. entry.pid) (answers_always _ _ _ (λ f a r g called. search rules)) in
    searched c.args.entries.now tasks c.args.pid index rises _ facts.bound by_key
