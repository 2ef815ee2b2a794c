use Rattle.std.proofs.Common.{◌+◌, ◌≤◌, ◌++◌, length, take, drop, slice_range, sym, ◌∙◌, ap, arith}
use Rattle.memory_outside.proofs.Pieces.{left_in_pieces}
use Rattle.memory_outside.proofs.memory_source.MemSourceSource.read.Goals as goal

pub returns-clause-taken : goal.returns-clause-taken
returns-clause-taken c =
    let bytes = c.deref-2.result.now in
    let at = c.self.inside.given in
    let n = c.min-count.result in
    let within : n ≤ length (slice_range bytes at (length bytes)) = omega (arith, c.min.ensures, c.min-count.ensures) in
    let left = sym (ap (λ s. s.left) c.self.view_is) ∙ ap (drop at) (sym c.deref-2.ensures.value) in
    left_in_pieces bytes c.args.self.now.left c.copy_from_slice.new.self (drop n c.args.buf.now) at n left c.copy_from_slice.ensures.after within
    ∙ ap (λ all. take n (c.copy_from_slice.new.self ++ drop n c.args.buf.now) ++ drop (at + n) all) c.deref-2.ensures.value
