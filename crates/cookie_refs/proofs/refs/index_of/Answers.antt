use Rattle.std.proofs.Common.{rules}
use Rattle.std.proofs.lemmas.List.Sorted.{answers_always}
use Rattle.cookie_refs.proofs.Counts.{searched}
use Rattle.cookie_refs.proofs.refs.index_of.Goals as goal

-- the closure gives the serial of a live cookie
pub returns : goal.returns
returns c =
    let facts = c.binary_search_by_key.ensures in
    let by_serial = facts.position (λ one. one.cookie) (answers_always _ _ _ (λ f a r g called. search rules)) in
    rw c.ok.ensures.value (searched c.args.cookies.now c.requires c.args.cookie c.binary_search_by_key.result facts.bound by_serial)
