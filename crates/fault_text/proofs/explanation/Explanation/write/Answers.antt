use Rattle.std.proofs.Common.{refl, sym, []}
use Rattle.std.proofs.lemmas.List.{append-nil}
use Rattle.cs_outside.proofs.Reached.{reached_start, reached_more, reached_prefix}
use Rattle.fault_text.proofs.explanation.Explanation.write.Goals as goal

-- A prefix of the first part is one of the whole.
pub returns-in_err-write_all-clause-prefix : goal.returns-in_err-write_all-clause-prefix
returns-in_err-write_all-clause-prefix g c =
    reached_prefix _ _ _ c.self.inside.fault c.self.inside.rest _ _ _ (reached_start _ _ _ (sym c.self.view_is)) refl c.as_bytes.ensures c.write_all.ensures.prefix

-- And so is the first part, with a prefix of the second.
pub returns-clause-prefix : goal.returns-clause-prefix
returns-clause-prefix g c =
    reached_prefix _ _ c.self.inside.rest c.self.inside.rest [] _ _ _
    (reached_more _ _ _ c.self.inside.fault c.self.inside.rest _ _ _ (reached_start _ _ _ (sym c.self.view_is)) refl c.as_bytes.ensures c.in_ok-write_all.ensures.ok)
    (sym (append-nil c.self.inside.rest)) c.as_bytes-2.ensures c.write_all-2.ensures.prefix
